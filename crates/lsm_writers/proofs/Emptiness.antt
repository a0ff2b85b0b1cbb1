-- What a test of emptiness tells.
use Rattle.std.proofs.Common.{◌≡◌, sym, ◌∙◌, ◌==◌, Bool, true, List, [], arith}
use Rattle.std.specs.Prelude.{vec_len}
use Rattle.std.specs.declared.vec.Vec.{Vec}
use Rattle.std.proofs.lemmas.List.{nil_from_length}
use Rattle.lsm_writers.proofs.Empty.{is_zero}

pub vec_is_empty : {X Z : Type 0} (v : Vec X Z) (xs : List X) (r : Bool) → v.items ≡ xs
    → r ≡ (vec_len v == 0) → r ≡ true → xs ≡ []
vec_is_empty v xs r is e t =
    let none : vec_len v ≡ 0 = is_zero (vec_len v) r e t in
    sym is ∙ nil_from_length v.items (omega (arith, v.ok.0, none))
