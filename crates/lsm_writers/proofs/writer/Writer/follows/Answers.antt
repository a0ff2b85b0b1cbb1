use Rattle.std.proofs.Common.{◌≡◌, ◌∙◌, sym, ◌-◌, ◌^◌, true, [], rules, lt-ltb}
use Rattle.std.specs.Prelude.{None, nat_lt}
use Rattle.sst_entries.specs.declared.value_type.ValueType.TheVariants.{Value}
use Rattle.sst_entries.specs.Entry.{entry}
use Rattle.sst_entries.specs.Lending.{entry_of_ref}
use Rattle.sst_entries.specs.Strict.{is_before}
use Rattle.sst_blocks.specs.table.Chunks.{joined}
use Rattle.lsm_writers.proofs.Orders.{follows_nothing, follows_last, last_of-append}
use Rattle.lsm_writers.proofs.writer.Writer.follows.Goals as goal

pub returns-in-None : goal.returns-in-None
returns-in-None g c =
    let i = c.self.inside in
    let low : nat_lt c.args.seqno (2 ^ 64 - 1) ≡ true = lt-ltb _ _ c.if-seqno-lt18446744073709551615.true in
    let none = last_of-append None (joined i.blocks.chunks) i.chunk ∙ sym c.in-None.ensures.last in
    rw (← c.self.view_is) (follows_nothing _ _ _ none low)

pub returns-in-Some : goal.returns-in-Some
returns-in-Some g c =
    let i = c.self.inside in
    let low : nat_lt c.args.seqno (2 ^ 64 - 1) ≡ true = lt-ltb _ _ c.if-seqno-lt18446744073709551615.true in
    let x = entry_of_ref c.in-Some.last in
    let some = last_of-append None (joined i.blocks.chunks) i.chunk ∙ sym c.in-Some.ensures.last in
    let e : c.is_lt.result ≡ is_before x (entry c.args.key.now [] c.args.seqno Value) = search rules in
    e ∙ rw (← c.self.view_is) (follows_last _ _ _ x some low)
