use Rattle.std.proofs.Common.{◌≡◌, ◌∙◌, sym, ap, subst, IsTrue, List, [], ◌∷◌, ◌++◌, append_assoc, append-nil}
use Rattle.std.specs.Prelude.{Option}
use Rattle.std.specs.Option.{option_or}
use Rattle.std.proofs.lemmas.List.{nil_from_length}
use Rattle.sst_entries.specs.declared.error.Error.{Error}
use Rattle.sst_entries.specs.Entry.{Entry}
use Rattle.lsm_writers.specs.Tables.{TablesWriting, took}
use Rattle.lsm_writers.specs.Writing.{IsWritable, may_be_written}
use Rattle.lsm_writers.proofs.ListWriting.{listed_follows}
use Rattle.lsm_runs.specs.compaction.Chain.{writes_fault}
use Rattle.lsm_runs.proofs.AnyTaken.{taking_more, taking_none}
use Rattle.lsm_runs.proofs.TookList.{err_fault, took_list, took_more, took_none}
use Rattle.lsm_runs.proofs.WrittenBy.{nothing_yet}
use Rattle.lsm_runs.proofs.compaction.written_run.write_items.Goals as goal

pub loop-item-init : goal.loop-item-init
loop-item-init g c =
    let w = c.args.writer.now in
    let rest = c.into_iter-item-iterator.ensures.into_iter_gives.0 in
    let none = nothing_yet w c.requires.fresh in
    record {
      taking = taking_none w none;
      took = took_none w none;
      fault = ap (writes_fault w) (sym rest);
      listed = none;
      whole = sym rest;
    }

pub write-requires : goal.write-requires
write-requires g c =
    let before = c.loop-item.yielded in
    let e = c.in-Some.item in
    let rest = c.next.new.self.rest.items in
    let first : c.loop-item.item-iterator.rest.items ≡ e ∷ rest = c.in-Some.ensures.steps.0 in
    let whole : IsWritable (before ++ e ∷ rest) = subst IsWritable (c.loop-item.invariant.whole ∙ ap (λ (x : List Entry). before ++ x) first) c.requires.list in
    subst (λ (x : List Entry). IsTrue (may_be_written x e.user_key e.seqno)) (sym c.loop-item.invariant.listed) (listed_follows before e rest whole)

pub loop-item-preserved : goal.loop-item-preserved
loop-item-preserved g c =
    let w = c.args.writer.now in
    let before = c.loop-item.yielded in
    let e = c.in-Some.item in
    let rest = c.next.new.self.rest.items in
    let m = c.loop-item.writer in
    let n = c.write.new.self in
    let first : c.loop-item.item-iterator.rest.items ≡ e ∷ rest = c.in-Some.ensures.steps.0 in
    let whole : IsWritable (before ++ e ∷ rest) = subst IsWritable (c.loop-item.invariant.whole ∙ ap (λ (x : List Entry). before ++ x) first) c.requires.list in
    let may : IsTrue (may_be_written _ e.user_key e.seqno) = subst (λ (x : List Entry). IsTrue (may_be_written x e.user_key e.seqno)) (sym c.loop-item.invariant.listed) (listed_follows before e rest whole) in
    let o = c.in_ok-write.ensures in
    record {
      taking = taking_more w m n e c.loop-item.invariant.taking o.ok o.refused o.listed may;
      took = took_more w m n e c.loop-item.invariant.took o.ok o.listed;
      fault =
          c.loop-item.invariant.fault ∙ ap (writes_fault m) first
          ∙ ap (λ (x : Option Error). option_or x (writes_fault (took m e) rest)) o.refused ∙ ap (λ (x : TablesWriting). writes_fault x rest) (sym o.ok);
      listed = o.listed ∙ ap (λ (x : List Entry). x ++ e ∷ []) c.loop-item.invariant.listed;
      whole = c.loop-item.invariant.whole ∙ ap (λ (x : List Entry). before ++ x) first ∙ sym (append_assoc before (e ∷ []) rest);
    }

pub returns-in_err-write-clause-refused : goal.returns-in_err-write-clause-refused
returns-in_err-write-clause-refused g c =
    let e = c.in_err-write.field-0.0 in
    let item = c.in-Some.item in
    let m = c.loop-item.writer in
    let rest = c.next.new.self.rest.items in
    let first : c.loop-item.item-iterator.rest.items ≡ item ∷ rest = c.in-Some.ensures.steps.0 in
    err_fault c.from_residual.result e _ c.from_residual.ensures.1
    (λ fine. c.loop-item.invariant.fault ∙ ap (writes_fault m) first ∙ ap (λ (x : Option Error). option_or x (writes_fault (took m item) rest)) (c.in_err-write.ensures.refused fine))

pub returns-clause-took : goal.returns-clause-took
returns-clause-took g c =
    let l = c.loop-item in
    let before = l.yielded in
    let none : l.item-iterator.rest.items ≡ [] = nil_from_length l.item-iterator.rest.items (sym l.item-iterator.rest.ok.0 ∙ c.in-None.ensures.steps.0) in
    let all : c.args.items.items ≡ before = l.invariant.whole ∙ ap (λ (x : List Entry). before ++ x) none ∙ append-nil before in
    took_list c.args.writer.now l.writer c.args.items.items l.invariant.taking l.invariant.took (l.invariant.listed ∙ sym all)
