use Rattle.std.proofs.Common.{◌≡◌, ℕ, List, subst}
use Rattle.sst_blocks.specs.Marks.{Holds}
use Rattle.sst_blocks.proofs.source.BlockSource.is_cached.Goals as goal

pub returns-in-Some : goal.returns-in-Some
returns-in-Some g c = λ found.
    let bytes : List ℕ = c.args.self.now in
    let of = rw c.in-Some.is at c.self.invariant.1 in
    let key : c.deref.result.now ≡ bytes = cc (c.deref.ensures, of, c.self.view_is) in
    subst (λ (b : List ℕ). Holds c.args.verified b c.args.start) key (c.has.ensures found)
