-- What an end that is asked plays, as a tournament shows it.
use Rattle.std.proofs.Common.{◌≡◌, ℕ, ◌+◌, ◌-◌, ◌^◌, ◌≤◌, List, subst, arith}
use Rattle.std.specs.Prelude.{if◌then◌else◌}
use Rattle.sst_entries.specs.declared.stream.Direction.{Direction}
use Rattle.sst_entries.specs.declared.stream.Direction.TheVariants.{Front, Back}
use Rattle.lsm_sorted.specs.declared.heap.lazy_tournament.brackets.Brackets.{Brackets}
use Rattle.lsm_sorted.specs.merge.Brackets.{PlaysEnd, is_played_at}
use Rattle.lsm_sorted.specs.merge.Tournament.{Contest, PlaysAtMost, PlaysFrom, first_round, height}
use Rattle.lsm_sorted.specs.merge.Tournament.{rematches, total_height}

-- over so much room
abbrev pub contest_of : {T Z : Type 0} → List T → ℕ → Brackets Z → Contest T
contest_of xs room b = record {
  items = xs;
  room = room;
  steps = b.steps;
  plays_front =
      b.front.is_played;
  plays_back = b.back.is_played;
}

module _ {T Z : Type 0} (xs ys : List T) (room room' : ℕ) (b b' : Brackets Z) where
  pub plays_from : (end : Direction) → PlaysEnd end b b'
      → PlaysFrom end (contest_of xs room b) (contest_of ys room' b')
  plays_from Front plays = plays
  plays_from Back plays = plays

  pub plays_at_most : (end : Direction) (leaves : ℕ) → leaves ≡ 2 ^ height room → b.steps ≤ b'.steps
      → b'.steps
      ≤ b.steps + total_height b.front.is_played b.back.is_played (height room)
      + (if is_played_at end b then 0 else leaves - 1)
      → PlaysAtMost (rematches (contest_of xs room b) + first_round end (contest_of xs room b))
      (contest_of xs room b) (contest_of ys room' b')
  plays_at_most Front leaves e rises bound =
      let again : ℕ = total_height b.front.is_played b.back.is_played (height room) in
      let all = subst (λ (n : ℕ). b'.steps ≤ b.steps + again
      + (if b.front.is_played then 0 else n - 1)) e bound in
      record { rises = rises; bound = omega (arith, all) }
  plays_at_most Back leaves e rises bound =
      let again : ℕ = total_height b.front.is_played b.back.is_played (height room) in
      let all = subst (λ (n : ℕ). b'.steps ≤ b.steps + again
      + (if b.back.is_played then 0 else n - 1)) e bound in
      record { rises = rises; bound = omega (arith, all) }
