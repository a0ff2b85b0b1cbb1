-- The loops of `MvccStream`, by what the source gave.
use Rattle.std.proofs.Common.{◌≡◌, refl, ◌∙◌, true, false, List, [], ◌∷◌, ◌++◌}
use Rattle.std.specs.Prelude.{Option, Some, None, Ok, Err}
use Rattle.sst_entries.specs.Entry.{Entry}
use Rattle.sst_entries.specs.declared.error.Error.{Error}
use Rattle.sst_entries.specs.declared.stream.Direction.TheVariants.{Front, Back}
use Rattle.sst_entries.specs.Key.{same_key, key_lt}
use Rattle.sst_entries.specs.Stream.{front_of, back_of}
use Rattle.lsm_sorted.specs.merge.Ends.{R}
use Rattle.lsm_sorted.specs.Newest.{front_step, back_step}
use Rattle.lsm_sorted.specs.Outlook.{Outlook, IsStep}
use Rattle.lsm_sorted.specs.Hears.{Hears}
use Rattle.lsm_sorted.proofs.MvccLemmas.{Drawn, drawn_first, drawn_more, drawn_other, drawn_error}
use Rattle.lsm_sorted.proofs.MvccLemmas.{drawn_end, front_error, front_none, Scaled, scaled_first}
use Rattle.lsm_sorted.proofs.MvccLemmas.{scaled_more, scaled_lower, scaled_error, scaled_end}
use Rattle.lsm_sorted.proofs.MvccLemmas.{back_error, back_none}
use Rattle.lsm_sorted.proofs.HearsLemmas.{hears_as, hears_more}

module _ {S : Type 0} (ask : S → Option R → S → Type 0) where
  -- what is heard at the front, and at the back
  abbrev pub AtFront : Option R → (List R → List R → Type 0) → Outlook S → Outlook S → Type 0
  AtFront r P o t = Hears ask Front r P o t

  abbrev pub AtBack : Option R → (List R → List R → Type 0) → Outlook S → Outlook S → Type 0
  AtBack r P o t = Hears ask Back r P o t

  pub hears_head : (o v : Outlook S) (head : Entry)
      → AtFront (Some (Ok head)) (IsStep front_of (Some (Ok head))) o v
      → AtFront None (Drawn head) o v
  hears_head o v head h = hears_as ask Front (Some (Ok head)) None
      (IsStep front_of (Some (Ok head))) (Drawn head) o v (λ stops fine. refl) h
      (λ xs ys k. drawn_first xs ys head k)

  pub hears_error_first : (o t : Outlook S) (e : Error)
      → AtFront (Some (Err e)) (IsStep front_of (Some (Err e))) o t
      → AtFront (Some (Err e)) (IsStep front_step (Some (Err e))) o t
  hears_error_first o t e h = hears_as ask Front (Some (Err e)) (Some (Err e))
      (IsStep front_of (Some (Err e))) (IsStep front_step (Some (Err e))) o t (λ stops fine. fine) h
      (λ xs ys k. front_error xs ys e k)

  pub hears_none : (o t : Outlook S) → AtFront None (IsStep front_of None) o t
      → AtFront None (IsStep front_step None) o t
  hears_none o t h = hears_as ask Front None None (IsStep front_of None)
      (IsStep front_step None) o t (λ stops fine. fine) h (λ xs ys k. front_none xs ys k)

  module _ (o u v : Outlook S) (head : Entry) (was : AtFront None (Drawn head) o u) where
    after : (r q : Option R) (K : List R → List R → Type 0) → AtFront q (IsStep front_of r) u v
        → ((xs ys zs : List R) → Drawn head xs ys → IsStep front_of r ys zs → K xs zs)
        → AtFront q K o v
    after r q K h all = hears_more ask Front None q (Drawn head) (IsStep front_of r) K o u v
        (λ stops. refl) was h all

    pub hears_version : (x : Entry) → AtFront (Some (Ok x)) (IsStep front_of (Some (Ok x))) u v
        → same_key x.user_key head.user_key ≡ true → AtFront None (Drawn head) o v
    hears_version x h same = hears_as ask Front (Some (Ok x)) None (Drawn head) (Drawn head) o v
        (λ stops fine. refl)
        (after (Some (Ok x)) (Some (Ok x)) (Drawn head) h
        (λ xs ys zs d k. drawn_more xs ys zs head d x k same)) (λ xs ys k. k)

    pub hears_other : (t : Outlook S) (x : Entry)
        → AtFront (Some (Ok x)) (IsStep front_of (Some (Ok x))) u v
        → same_key x.user_key head.user_key ≡ false → AtFront None (λ xs ys. ys ≡ Ok x ∷ xs) v t
        → AtFront (Some (Ok head)) (IsStep front_step (Some (Ok head))) o t
    hears_other t x h other puts =
        let K : List R → List R → Type 0 = λ xs zs. IsStep front_step (Some (Ok head)) xs
        (Ok x ∷ zs) in
        hears_as ask Front None (Some (Ok head)) (IsStep front_step (Some (Ok head)))
        (IsStep front_step (Some (Ok head))) o t (λ stops fine. refl)
        (hears_more ask Front (Some (Ok x)) None K (λ xs ys. ys ≡ Ok x ∷ xs)
        (IsStep front_step (Some (Ok head))) o v t (λ stops. refl)
        (after (Some (Ok x)) (Some (Ok x)) K h (λ xs ys zs d k. drawn_other xs ys zs head d x k
        other))
        puts (λ xs zs ws k e. (k.0, e ∙ k.1))) (λ xs ys k. k)

    pub hears_error : (e : Error) → AtFront (Some (Err e)) (IsStep front_of (Some (Err e))) u v
        → AtFront (Some (Err e)) (IsStep front_step (Some (Err e))) o v
    hears_error e h = after (Some (Err e)) (Some (Err e)) (IsStep front_step (Some (Err e))) h
        (λ xs ys zs d k. drawn_error xs ys zs head d e k)

    pub hears_last : AtFront None (IsStep front_of None) u v
        → AtFront (Some (Ok head)) (IsStep front_step (Some (Ok head))) o v
    hears_last h = hears_as ask Front None (Some (Ok head)) (IsStep front_step (Some (Ok head)))
        (IsStep front_step (Some (Ok head))) o v (λ stops fine. refl)
        (after None None (IsStep front_step (Some (Ok head))) h
        (λ xs ys zs d k. drawn_end xs ys zs head d k)) (λ xs ys k. k)

  -- ---- the back

  pub hears_tail : (o v : Outlook S) (tail : Entry)
      → AtBack (Some (Ok tail)) (IsStep back_of (Some (Ok tail))) o v
      → AtBack None (Scaled tail) o v
  hears_tail o v tail h = hears_as ask Back (Some (Ok tail)) None (IsStep back_of (Some (Ok tail)))
      (Scaled tail) o v (λ stops fine. refl) h (λ xs ys k. scaled_first xs ys tail k)

  pub hears_error_last : (o t : Outlook S) (e : Error)
      → AtBack (Some (Err e)) (IsStep back_of (Some (Err e))) o t
      → AtBack (Some (Err e)) (IsStep back_step (Some (Err e))) o t
  hears_error_last o t e h = hears_as ask Back (Some (Err e)) (Some (Err e))
      (IsStep back_of (Some (Err e))) (IsStep back_step (Some (Err e))) o t (λ stops fine. fine) h
      (λ xs ys k. back_error xs ys e k)

  pub hears_none_back : (o t : Outlook S) → AtBack None (IsStep back_of None) o t
      → AtBack None (IsStep back_step None) o t
  hears_none_back o t h = hears_as ask Back None None (IsStep back_of None)
      (IsStep back_step None) o t (λ stops fine. fine) h (λ xs ys k. back_none xs ys k)

  module _ (o u v : Outlook S) (tail : Entry) (was : AtBack None (Scaled tail) o u) where
    before : (r q : Option R) (K : List R → List R → Type 0) → AtBack q (IsStep back_of r) u v
        → ((xs ys zs : List R) → Scaled tail xs ys → IsStep back_of r ys zs → K xs zs)
        → AtBack q K o v
    before r q K h all = hears_more ask Back None q (Scaled tail) (IsStep back_of r) K o u v
        (λ stops. refl) was h all

    pub hears_newer : (x : Entry) → AtBack (Some (Ok x)) (IsStep back_of (Some (Ok x))) u v
        → key_lt x.user_key tail.user_key ≡ false → AtBack None (Scaled x) o v
    hears_newer x h over = hears_as ask Back (Some (Ok x)) None (Scaled x) (Scaled x) o v
        (λ stops fine. refl)
        (before (Some (Ok x)) (Some (Ok x)) (Scaled x) h
        (λ xs ys zs d k. scaled_more xs ys zs tail d x k over)) (λ xs ys k. k)

    pub hears_lower : (t : Outlook S) (x : Entry)
        → AtBack (Some (Ok x)) (IsStep back_of (Some (Ok x))) u v
        → key_lt x.user_key tail.user_key ≡ true → AtBack None (λ xs ys. ys ≡ xs ++ Ok x ∷ []) v t
        → AtBack (Some (Ok tail)) (IsStep back_step (Some (Ok tail))) o t
    hears_lower t x h under puts =
        let K : List R → List R → Type 0 = λ xs zs. IsStep back_step (Some (Ok tail)) xs
        (zs ++ Ok x ∷ []) in
        hears_as ask Back None (Some (Ok tail)) (IsStep back_step (Some (Ok tail)))
        (IsStep back_step (Some (Ok tail))) o t (λ stops fine. refl)
        (hears_more ask Back (Some (Ok x)) None K (λ xs ys. ys ≡ xs ++ Ok x ∷ [])
        (IsStep back_step (Some (Ok tail))) o v t (λ stops. refl)
        (before (Some (Ok x)) (Some (Ok x)) K h (λ xs ys zs d k. scaled_lower xs ys zs tail d x k
        under))
        puts (λ xs zs ws k e. (k.0, e ∙ k.1))) (λ xs ys k. k)

    pub hears_error_before : (e : Error) → AtBack (Some (Err e)) (IsStep back_of (Some (Err e))) u v
        → AtBack (Some (Err e)) (IsStep back_step (Some (Err e))) o v
    hears_error_before e h = before (Some (Err e)) (Some (Err e))
        (IsStep back_step (Some (Err e))) h (λ xs ys zs d k. scaled_error xs ys zs tail d e k)

    pub hears_first : AtBack None (IsStep back_of None) u v
        → AtBack (Some (Ok tail)) (IsStep back_step (Some (Ok tail))) o v
    hears_first h = hears_as ask Back None (Some (Ok tail)) (IsStep back_step (Some (Ok tail)))
        (IsStep back_step (Some (Ok tail))) o v (λ stops fine. refl)
        (before None None (IsStep back_step (Some (Ok tail))) h
        (λ xs ys zs d k. scaled_end xs ys zs tail d k)) (λ xs ys k. k)
