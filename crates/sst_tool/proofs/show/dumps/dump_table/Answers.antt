use Rattle.std.proofs.Common.{refl, sym, true}
use Rattle.sst_tool.proofs.DumpLemmas.{deals_to_error, entries_left}
use Rattle.sst_tool.proofs.show.dumps.dump_table.Goals as goal

pub returns-clause-returned : goal.returns-clause-returned
returns-clause-returned g c =
    rw (sym c.in_ok-bounds.ensures.lower, sym c.in_ok-bounds.ensures.upper)
    (c.dump_items.ensures.returned _ (deals_to_error _ _ _ _ _ _ c.in_ok-items.ensures.lends))

pub returns-clause-left : goal.returns-clause-left
returns-clause-left g c = λ es stores.
    rw (sym c.in_ok-bounds.ensures.lower, sym c.in_ok-bounds.ensures.upper)
    (entries_left c.dump_items.result c.args.options.now.reverse c.args.left _ c.args.left
    (c.dump_items.ensures.left _ (c.in_ok-items.ensures.lends_list es stores (λ _. true) refl)))

pub returns-clause-sound : goal.returns-clause-sound
returns-clause-sound g c = λ es stores.
    c.dump_items.ensures.sound _ (c.in_ok-items.ensures.lends_list es stores)

pub returns-clause-refused : goal.returns-clause-refused
returns-clause-refused g c =
    rw (sym c.in_ok-bounds.ensures.lower, sym c.in_ok-bounds.ensures.upper)
    (c.dump_items.ensures.refused _ c.in_ok-items.ensures.lends)

pub returns-clause-rest : goal.returns-clause-rest
returns-clause-rest g c =
    rw (sym c.in_ok-bounds.ensures.lower, sym c.in_ok-bounds.ensures.upper)
    (c.dump_items.ensures.left _ (deals_to_error _ _ _ _ _ _ c.in_ok-items.ensures.lends))
