use Rattle.std.proofs.Common.{◌≡◌, rules, sym, subst, List, ℕ, replicate, slice_index, take}
use Rattle.sst_blocks.specs.Marks.{Says}
use Rattle.sst_blocks.proofs.MarkLemmas.{all_more, unmarked_say}
use Rattle.sst_blocks.proofs.marks.Marks.new.Goals as goal

pub of_words-requires : goal.of_words-requires
of_words-requires g c = λ i.
    let bytes = c.args.bytes.now in
    let none : c.as_slice.result.now ≡ replicate c.min.result 0 = search rules in
    subst (λ (ws : List ℕ). Says bytes (slice_index (take c.min-part.result ws) i)) (sym none) (unmarked_say bytes c.min-part.result c.min.result i)

pub loop-at-preserved : goal.loop-at-preserved
loop-at-preserved g c = record {
  marked =
      let key : c.in_ok-table.table.shared.key ≡ c.args.bytes.now = search rules in
      let more = all_more (λ w. w.shared.key ≡ c.args.bytes.now) c.loop-at.words.items c.in_ok-table.table key c.loop-at.invariant.marked in
      rw (sym c.in_ok-push.ensures.items) at more;
}
