-- Both bounds are sought.
use Rattle.std.proofs.Common.{◌≡◌, ℕ, Bool, List, ap, sym, ◌∙◌}
use Rattle.std.specs.Prelude.{Option, Some, None, false, ◌-◌, ◌^◌, if◌then◌else◌}
use Rattle.lsm_iters.specs.block_index.Index.{Index}
use Rattle.lsm_iters.specs.block_index.Kinds.{IsSought, left_of}
use Rattle.lsm_iters.specs.block_index.Left.{Left}
use Rattle.lsm_iters.specs.Bounds.{edge_in, key_of, lower_edge, upper_edge}
use Rattle.lsm_iters.specs.declared.bound.Bound.{Bound}
use Rattle.lsm_iters.specs.declared.bound.Bound.TheVariants.{Included, Excluded}
use Rattle.lsm_iters.specs.declared.block_index.kinds.BlockIndexIterImpl.{BlockIndexIterImpl}
use Rattle.lsm_iters.specs.Range.{Handles, left_in, left_unless}
use Rattle.lsm_iters.specs.Steps.{LoadsNone, SeeksOnce}
use Rattle.lsm_iters.proofs.KindLaws.{kind_between}

module _ {A : Type 0} where
  pub low_is : (o : Option (Bound A)) (b : Bound A) (key : List ℕ) → o ≡ Some b → key ≡ key_of b
      → Some (key, 2 ^ 64 - 1) ≡ lower_edge (edge_in o)
  low_is o (Included k) key is same = ap (λ (x : List ℕ). Some (x, 2 ^ 64 - 1)) same ∙ ap (λ (x : Option (Bound A)). lower_edge (edge_in x)) (sym is)
  low_is o (Excluded k) key is same = ap (λ (x : List ℕ). Some (x, 2 ^ 64 - 1)) same ∙ ap (λ (x : Option (Bound A)). lower_edge (edge_in x)) (sym is)

  pub high_is : (o : Option (Bound A)) (b : Bound A) (key : List ℕ) → o ≡ Some b → key ≡ key_of b
      → Some key ≡ upper_edge (edge_in o)
  high_is o (Included k) key is same = ap (λ (x : List ℕ). Some x) same ∙ ap (λ (x : Option (Bound A)). upper_edge (edge_in x)) (sym is)
  high_is o (Excluded k) key is same = ap (λ (x : List ℕ). Some x) same ∙ ap (λ (x : Option (Bound A)). upper_edge (edge_in x)) (sym is)

  -- they are sought where nothing was loaded and no step was made
  pub seeks_once : (s t : Handles A) (low : Option (List ℕ × ℕ)) (high : Option (List ℕ))
      → s.sought ≡ false → s.ended ≡ false → t.ended ≡ false → IsSought t.iter low high
      → (left_of t.iter).index ≡ (left_of s.iter).index → SeeksOnce s t low high
  seeks_once s t low high unsought going goes sought index =
      let between = kind_between t.iter low high sought in
      let left : left_in t ≡ left_of t.iter = ap (λ (e : Bool). left_unless e (left_of t.iter)) goes in
      let before : left_in s ≡ left_of s.iter = ap (λ (e : Bool). left_unless e (left_of s.iter)) going in
      let same : (left_of t.iter).index ≡ (left_in s).index = index ∙ ap (λ (l : Left). l.index) (sym before) in
      record {
        results = ap (λ (l : Left). l.results) left ∙ between.results
            ∙ ap (λ (x : Index). x.returned low high) same
            ∙ ap (λ (b : Bool). if b then (left_in s).results else (left_in s).index.returned low high) (sym unsought);
        loads = ap (λ (l : Left). l.loads) left ∙ between.loads
            ∙ ap (λ (x : Index). x.loads low high) same
            ∙ ap (λ (b : Bool). if b then (left_in s).loads else (left_in s).index.loads low high) (sym unsought);
      }
