-- A priority queue as a multiset: its items, in unspecified order.
use Rattle.std.specs.Prelude.{◌≡◌, false, List, All}
use Rattle.std.specs.declared.cmp.Ordering.{Ordering}
use Rattle.std.specs.Ordering.{is_gt}

-- x is not above any item
abbrev pub IsLeast : {T : Type 0} → (T → T → Ordering) → T → List T → Type 0
IsLeast cmp x xs = All (λ y. is_gt (cmp x y) ≡ false) xs

-- x is not below any item
abbrev pub IsGreatest : {T : Type 0} → (T → T → Ordering) → T → List T → Type 0
IsGreatest cmp x xs = All (λ y. is_gt (cmp y x) ≡ false) xs
