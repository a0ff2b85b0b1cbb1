-- Results that are dealt up to the first error, one after another.
use Rattle.std.proofs.Common.{◌≡◌, refl, sym, ◌∙◌, ap, subst, Bool, true, false, ℕ, zero, suc}
use Rattle.std.proofs.Common.{List, [], ◌∷◌, ◌++◌, ◌-◌, ◌<◌, append_assoc, arith, reverse, take}
use Rattle.std.proofs.lemmas.List.{map-append, reverse-reverse}
use Rattle.std.specs.Prelude.{Option, None, Some, Result, Ok, Err}
use Rattle.sst_entries.specs.declared.error.Error.{Error}
use Rattle.sst_entries.specs.declared.stream.Direction.{Direction}
use Rattle.sst_entries.specs.declared.stream.Direction.TheVariants.{Front, Back}
use Rattle.sst_entries.specs.Error.{is_memory}
use Rattle.sst_entries.specs.Stream.{NoneStops, Runs, answer_stops, but_first, but_last, yield_each}
use Rattle.sst_entries.specs.Stream.{first, last, ok_results, result_stops}
use Rattle.lsm_iters.specs.block_index.Yielded.{YieldsEnding, ended_at_error}
use Rattle.sst_tool.specs.show.Read.{dumped, first_error, in_turn}

module _ {S X : Type 0} (front back : S → Option (Result X Error) → S → Type 0) where
  -- want of memory aside, a source deals results up to the first error
  pub record EndsUp (s : S) (xs : List (Result X Error)) : Type 0 where
    pub answers : (ends : List Direction) (rs : List (Option (Result X Error))) (t : S)
        → Runs front back s ends rs t → NoneStops (answer_stops is_memory) rs
        → rs ≡ ended_at_error (yield_each xs ends)

  pub ends_up : (may may_back : S → Type 0) (s : S) (xs : List (Result X Error))
      → YieldsEnding front back may may_back s xs → EndsUp s xs
  ends_up may may_back s xs d = record { answers = d.answers }

  -- the first of some answers, and those behind an entry
  abbrev head_of : (r : Option (Result X Error)) (rs ys : List (Option (Result X Error)))
      → (Option (Result X Error)) → Type 0
  head_of r rs ys h = (r ≡ h) × ((x : X) → r ≡ Some (Ok x) → rs ≡ ended_at_error ys)

  heads : (r h : Option (Result X Error)) (rs ys : List (Option (Result X Error)))
      → r ∷ rs ≡ ended_at_error (h ∷ ys) → head_of r rs ys h
  heads r None rs ys is =
      let same : r ≡ None = cc in (same, λ x entry. absurd (let other : None ≡ Some (Ok x) = sym same ∙ entry in cc))
  heads r (Some (Ok y)) rs ys is =
      let same : r ≡ Some (Ok y) = cc in (same, λ x entry. (let rest : rs ≡ ended_at_error ys = cc in rest))
  heads r (Some (Err e)) rs ys is =
      let same : r ≡ Some (Err e) = cc in
      (same, λ x entry. absurd (let other : Some (Err e) ≡ Some (Ok x) = sym same ∙ entry in cc))

  -- a call at the front gives the first, and behind an entry come the others
  pub ending_front : (s t : S) (xs : List (Result X Error)) (r : Option (Result X Error))
      → EndsUp s xs → front s r t → answer_stops is_memory r ≡ false
      → (r ≡ first xs) × ((x : X) → r ≡ Some (Ok x) → EndsUp t (but_first xs))
  ending_front s t xs r d step fine = (
    (heads r (first xs) [] [] (d.answers (Front ∷ []) (r ∷ []) t (t, step, refl) (fine, tt))).0,
    λ x entry. record {
      answers = λ ends rs u runs calm.
          (heads r (first xs) rs (yield_each (but_first xs) ends)
          (d.answers (Front ∷ ends) (r ∷ rs) u (t, step, runs) (fine, calm))).1 x entry;
    },
  )

  -- and one at the back the last
  pub ending_back : (s t : S) (xs : List (Result X Error)) (r : Option (Result X Error))
      → EndsUp s xs → back s r t → answer_stops is_memory r ≡ false
      → (r ≡ last xs) × ((x : X) → r ≡ Some (Ok x) → EndsUp t (but_last xs))
  ending_back s t xs r d step fine = (
    (heads r (last xs) [] [] (d.answers (Back ∷ []) (r ∷ []) t (t, step, refl) (fine, tt))).0,
    λ x entry. record {
      answers = λ ends rs u runs calm.
          (heads r (last xs) rs (yield_each (but_last xs) ends)
          (d.answers (Back ∷ ends) (r ∷ rs) u (t, step, runs) (fine, calm))).1 x entry;
    },
  )

  -- what one answer leaves, from either end
  record Takes (t : S) (from_end : Bool) (r : Result X Error) (xs : List (Result X Error)) : Type 0 where
    others : List (Result X Error)
    taken : in_turn from_end xs ≡ r ∷ in_turn from_end others
    yields : (x : X) → r ≡ Ok x → EndsUp t others

  takes_front : (t : S) (r : Result X Error) (xs : List (Result X Error)) → Some r ≡ first xs
      → ((x : X) → Some r ≡ Some (Ok x) → EndsUp t (but_first xs)) → Takes t false r xs
  takes_front t r [] is rest = absurd cc
  takes_front t r (y ∷ ys) is rest = record {
    others = ys;
    taken = let same : y ≡ r = cc in ap (λ (z : Result X Error). z ∷ ys) same;
    yields = λ x entry. rest x (ap Some entry);
  }

  takes_back : (t : S) (r : Result X Error) (xs turned : List (Result X Error))
      → reverse xs ≡ turned → Some r ≡ first turned
      → ((x : X) → Some r ≡ Some (Ok x) → EndsUp t (reverse (but_first turned))) → Takes t true r xs
  takes_back t r xs [] turns is rest = absurd cc
  takes_back t r xs (y ∷ ys) turns is rest = record {
    others = reverse ys;
    taken = let same : y ≡ r = cc in
        turns ∙ ap (λ (z : Result X Error). z ∷ ys) same
        ∙ ap (λ (zs : List (Result X Error)). r ∷ zs) (sym (reverse-reverse ys));
    yields = λ x entry. rest x (ap Some entry);
  }

  takes : (s t : S) (from_end : Bool) (r : Result X Error) (xs : List (Result X Error))
      → EndsUp s xs → result_stops is_memory r ≡ false
      → (from_end ≡ false → front s (Some r) t) → (from_end ≡ true → back s (Some r) t)
      → Takes t from_end r xs
  takes s t false r xs d fine front_step back_step =
      let one = ending_front s t xs (Some r) d (front_step refl) fine in
      takes_front t r xs one.0 one.1
  takes s t true r xs d fine front_step back_step =
      let one = ending_back s t xs (Some r) d (back_step refl) fine in
      takes_back t r xs (reverse xs) refl one.0 one.1

  -- a source that goes on: so many more may come, behind some that came
  pub record Comes (s : S) (from_end : Bool) (n : ℕ) (all : List (Result X Error)) : Type 0 where
    pub came : List X
    pub rest : List (Result X Error)
    pub yields : EndsUp s rest
    pub whole : ok_results came ++ dumped from_end n rest ≡ all

  pub comes_none : (s : S) (from_end : Bool) (n : ℕ) (xs : List (Result X Error)) → EndsUp s xs
      → Comes s from_end n (dumped from_end n xs)
  comes_none s from_end n xs d = record { came = []; rest = xs; yields = d; whole = refl }

  pub comes_one : (s t : S) (from_end : Bool) (k : ℕ) (r : Result X Error) (x : X)
      (all : List (Result X Error)) → 0 < k → r ≡ Ok x → Comes s from_end k all
      → (from_end ≡ false → front s (Some r) t) → (from_end ≡ true → back s (Some r) t)
      → Comes t from_end (k - 1) all
  comes_one s t from_end zero r x all some is before front_step back_step = absurd (omega (arith, some))
  comes_one s t from_end (suc n) r x all some is before front_step back_step =
      let fine : result_stops is_memory r ≡ false = ap (result_stops is_memory) is in
      let one = takes s t from_end r before.rest before.yields fine front_step back_step in
      let left : n ≡ suc n - 1 = omega arith in
      subst (λ (k : ℕ). Comes t from_end k all) left (record {
        came = before.came ++ x ∷ [];
        rest = one.others;
        yields = one.yields x is;
        whole = ap (λ (rs : List (Result X Error)). rs ++ dumped from_end n one.others)
            (map-append (λ (y : X). Ok y) before.came (x ∷ []))
            ∙ append_assoc (ok_results before.came) (Ok x ∷ []) (dumped from_end n one.others)
            ∙ ap (λ (rs : List (Result X Error)). ok_results before.came ++ rs)
            (sym (ap (λ (rs : List (Result X Error)). take (suc n) rs) one.taken
            ∙ ap (λ (y : Result X Error). y ∷ dumped from_end n one.others) is))
            ∙ before.whole;
      })

  error_behind : (came : List X) (e : Error) (rs : List (Result X Error))
      → first_error (ok_results came ++ Err e ∷ rs) ≡ Some e
  error_behind [] e rs = refl
  error_behind (x ∷ xs) e rs = error_behind xs e rs

  -- an error that comes is the first of all
  pub comes_error : (s t : S) (from_end : Bool) (k : ℕ) (r : Result X Error) (e : Error)
      (all : List (Result X Error)) → 0 < k → r ≡ Err e → is_memory e ≡ false
      → Comes s from_end k all
      → (from_end ≡ false → front s (Some r) t) → (from_end ≡ true → back s (Some r) t)
      → first_error all ≡ Some e
  comes_error s t from_end zero r e all some is other before front_step back_step =
      absurd (omega (arith, some))
  comes_error s t from_end (suc n) r e all some is other before front_step back_step =
      let fine : result_stops is_memory r ≡ false = ap (result_stops is_memory) is ∙ other in
      let one = takes s t from_end r before.rest before.yields fine front_step back_step in
      let next : dumped from_end (suc n) before.rest ≡ Err e ∷ dumped from_end n one.others
      = ap (λ (rs : List (Result X Error)). take (suc n) rs) one.taken
      ∙ ap (λ (y : Result X Error). y ∷ dumped from_end n one.others) is in
      let whole = ap (λ (rs : List (Result X Error)). ok_results before.came ++ rs) (sym next)
      ∙ before.whole in
      sym (ap first_error whole) ∙ error_behind before.came e (dumped from_end n one.others)
