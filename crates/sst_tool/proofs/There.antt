-- Which paths something has, while names beside a path are tried.
use Rattle.std.proofs.Common.{◌≡◌, subst, ℕ, ◌+◌, ◌<◌, List, below_more, refl}
use Rattle.std.proofs.Common.{Bool, true, false}
use Rattle.std.specs.Prelude.{IfSome, Option, None, Some, not}
use Rattle.sst_tool.specs.files.Files.{beside_name}
use Rattle.sst_tool.specs.files.There.{SameElsewhere}

-- one that was refused for what has it, the names below it being taken
pub taken_more : (there now : List ℕ → Option Bool) (stem path : List ℕ) (i : ℕ) → now ≡ there
    → path ≡ beside_name stem i
    → ((n : ℕ) → n < i → 0 < n → IfSome (there (beside_name stem n)) (λ b. b ≡ true))
    → IfSome (now path) (λ b. b ≡ true)
    → (n : ℕ) → n < i + 1 → 0 < n → IfSome (there (beside_name stem n)) (λ b. b ≡ true)
taken_more there now stem path i same is below one =
    let P : ℕ → Type 0 = λ n. 0 < n → IfSome (there (beside_name stem n)) (λ b. b ≡ true) in
    let here : IfSome (there (beside_name stem i)) (λ b. b ≡ true) =
    subst (λ (t : List ℕ → Option Bool). IfSome (t (beside_name stem i)) (λ b. b ≡ true)) same
    (subst (λ (p : List ℕ). IfSome (now p) (λ b. b ≡ true)) is one) in
    below_more P i below (λ _. here)

-- none was made where something is
pub not_free : (there : Option Bool) (free : Bool) → free ≡ false
    → IfSome there (λ known. free ≡ not known) → IfSome there (λ b. b ≡ true)
not_free None free was returned = tt
not_free (Some true) free was returned = refl
not_free (Some false) free was returned = absurd cc

-- what is elsewhere stays, from a state that is as it was
pub same_from : {X : Type 0} (path text : List ℕ) (old mid new : List ℕ → X) → path ≡ text
    → mid ≡ old → SameElsewhere path mid new → SameElsewhere text old new
same_from {X} path text old mid new is same h =
    subst (λ (p : List ℕ). SameElsewhere p old new) is
    (subst (λ (o : List ℕ → X). SameElsewhere path o new) same h)
