use Rattle.std.proofs.Common.{List, [], ◌∷◌, ℕ, arith, subst, sym, ◌∙◌}
use Rattle.std.proofs.lemmas.List.Elements.{All-append, All-cons}
use Rattle.std.specs.List.{All}
use Rattle.lsm_readers.specs.point.Batch.{IsLookup}
use Rattle.lsm_readers.specs.point.Table.{parts_of}
use Rattle.lsm_readers.specs.declared.batch.Lookup.{Lookup}
use Rattle.lsm_readers.proofs.batch.find_lookups.Goals as goal

pub loop-headed-preserved : goal.loop-headed-preserved
loop-headed-preserved g c =
    let inner = c.args.inner.now in
    let bytes = g.S.LoadBlocks.body c.args.source.now in
    let P = IsLookup bytes inner.global_seqno (parts_of inner) c.args.queries.now in
    let one = subst (λ (b : List ℕ). IsLookup b inner.global_seqno (parts_of inner) c.args.queries.now c.in-Some.lookup) c.loop-headed.invariant.same c.in-Some.ensures.lookup in
    let more = All-append P c.loop-headed.lookups.items (c.in-Some.lookup ∷ []) c.loop-headed.invariant.lookups (All-cons P c.in-Some.lookup [] one (λ k d less. absurd (omega (arith, less)))) in
    record {
      same = c.in-Some.ensures.body ∙ c.loop-headed.invariant.same;
      lookups = subst (λ (lookups : List Lookup). All P lookups) (sym c.in_ok-push.ensures.items) more;
    }
