use Rattle.std.proofs.Common.{◌≡◌, ◌∷◌, [], ◌++◌, ◌∙◌, ℕ, List, Bool, true, ap, map}
use Rattle.std.proofs.lemmas.List.{map-append}
use Rattle.std.specs.Prelude.{None, Option, string_bytes}
use Rattle.sst_tool.specs.files.Steps.{then_done, written_if}
use Rattle.sst_tool.specs.files.Steps.Step.{Wrote}
use Rattle.sst_tool.specs.files.Steps.{Step}
use Rattle.sst_tool.proofs.files.new_folder.add_within.Goals as goal

-- one more
one_added : {X Y : Type 0} (f : X → Y) (old mid new : List X) (x : X) (y : Y) → mid ≡ old
    → new ≡ mid ++ x ∷ [] → f x ≡ y → map f new ≡ map f old ++ y ∷ []
one_added {X} {Y} f old mid new x y same grows is =
    ap (map f) grows ∙ map-append f mid (x ∷ [])
    ∙ ap (λ (xs : List X). map f xs ++ f x ∷ []) same
    ∙ ap (λ (z : Y). map f old ++ z ∷ []) is

-- what was written, since the path was free
free_written : (old new : Option (List Step)) (free : Bool) (path text bytes : List ℕ)
    → new ≡ then_done old (written_if free path bytes None) → free ≡ true → path ≡ text
    → new ≡ then_done old (Wrote text bytes None ∷ [])
free_written old new free path text bytes wrote is same =
    wrote ∙ ap (λ (b : Bool). then_done old (written_if b path bytes None)) is
    ∙ ap (λ (p : List ℕ). then_done old (Wrote p bytes None ∷ [])) same

pub returns-clause-added : goal.returns-clause-added
returns-clause-added g c =
    one_added string_bytes c.args.written.now.items c.reserve.new.self.items c.push.new.self.items
    c.in_ok-path.path _ c.in_ok-reserve.ensures.items (rw c.unwrap.ensures at c.push.ensures.items)
    c.in_ok-path.ensures

pub returns-clause-done : goal.returns-clause-done
returns-clause-done g c =
    free_written (g.P.Place.done c.args.place.now) (g.P.Place.done c.write_new.new.self)
    c.in_ok-write_new.field-0 c.as_str.result.now _ c.args.bytes.now
    c.in_ok-write_new.ensures.written c.if-not-branch.false
    (c.as_str.ensures.value ∙ c.in_ok-path.ensures)
