use Rattle.sst_entries.proofs.Refusals.{faults_refusal}
use Rattle.std.proofs.Common.{◌≡◌, ◌∙◌, sym, ap, subst, IsTrue, List, [], ◌∷◌, ◌++◌, append_assoc, append-nil}
use Rattle.std.proofs.lemmas.List.{nil_from_length}
use Rattle.std.specs.Prelude.{Option, None}
use Rattle.std.specs.Option.{option_or}
use Rattle.sst_entries.specs.declared.error.Error.{Error}
use Rattle.sst_entries.specs.Entry.{Entry}
use Rattle.sst_blocks.specs.table.Options.{label_of}
use Rattle.lsm_writers.specs.Writing.{IsWritable, Writing, new_writing, spills_of, written, write_fault, writing_fault, may_be_written, gained, list_fault}
use Rattle.sst_entries.specs.Error.{is_memory, Faults}
use Rattle.lsm_writers.proofs.ListWriting.{listed_follows, no_spills, written_gained, same_label, same_spills, table_by}
use Rattle.lsm_writers.proofs.list.write_list.Goals as goal

pub loop-item-init : goal.loop-item-init
loop-item-init g c =
    let w = c.in_ok-writer.writer in
    let new : w ≡ new_writing (label_of c.args.id c.args.initial_level c.args.created_at) = c.in_ok-writer.ensures.ok in
    let rest = c.into_iter-item-iterator.ensures.into_iter_gives.0 in
    record {
      label = ap (λ (x : Writing). x.label) new;
      options = ap (λ (x : Writing). x.options) new;
      spills = no_spills w (ap (λ (x : Writing). x.cut) new);
      listed = ap written new;
      fault = ap (λ (x : Writing). writing_fault x c.args.items.items) (sym new) ∙ ap (writing_fault w) (sym rest);
      whole = sym rest;
    }

pub write-requires : goal.write-requires
write-requires g c =
    let before = c.loop-item.yielded in
    let e = c.in-Some.item in
    let rest = c.next.new.self.rest.items in
    let first : c.loop-item.item-iterator.rest.items ≡ e ∷ rest = c.in-Some.ensures.steps.0 in
    let whole : IsWritable (before ++ e ∷ rest) = subst IsWritable (c.loop-item.invariant.whole ∙ ap (λ (x : List Entry). before ++ x) first) c.requires in
    subst (λ (x : List Entry). IsTrue (may_be_written x e.user_key e.seqno)) (sym c.loop-item.invariant.listed) (listed_follows before e rest whole)

pub loop-item-preserved : goal.loop-item-preserved
loop-item-preserved g c =
    let before = c.loop-item.yielded in
    let e = c.in-Some.item in
    let rest = c.next.new.self.rest.items in
    let w = c.loop-item.writer in
    let first : c.loop-item.item-iterator.rest.items ≡ e ∷ rest = c.in-Some.ensures.steps.0 in
    let more : c.write.new.self ≡ gained w e = c.in_default.ensures.ok in
    let same = same_label w e in
    let none : write_fault w e ≡ None = c.in_default.ensures.refused in
    record {
      label = ap (λ (x : Writing). x.label) more ∙ same.0 ∙ c.loop-item.invariant.label;
      options = ap (λ (x : Writing). x.options) more ∙ same.1 ∙ c.loop-item.invariant.options;
      spills = ap spills_of more ∙ same_spills w e ∙ c.loop-item.invariant.spills;
      listed = ap written more ∙ written_gained w e ∙ ap (λ (x : List Entry). x ++ e ∷ []) c.loop-item.invariant.listed;
      fault = c.loop-item.invariant.fault ∙ ap (writing_fault w) first ∙ ap (λ (x : Option Error). option_or x (writing_fault (gained w e) rest)) none ∙ ap (λ (x : Writing). writing_fault x rest) (sym more);
      whole = c.loop-item.invariant.whole ∙ ap (λ (x : List Entry). before ++ x) first ∙ sym (append_assoc before (e ∷ []) rest);
    }

pub returns-in_err-writer-clause-refused : goal.returns-in_err-writer-clause-refused
returns-in_err-writer-clause-refused g c =
    let e = c.in_err-writer.field-0.0 in
    let memory = ap is_memory c.in_err-writer.ensures.err in
    faults_refusal c.from_residual.result e (list_fault (label_of c.args.id c.args.initial_level c.args.created_at) c.args.items.items) c.from_residual.ensures.1 (λ other. absurd (cc (memory, other)))

pub returns-in-Err-clause-refused : goal.returns-in-Err-clause-refused
returns-in-Err-clause-refused g c =
    let item = c.in-Some.item in
    let w = c.loop-item.writer in
    let rest = c.next.new.self.rest.items in
    let first : c.loop-item.item-iterator.rest.items ≡ item ∷ rest = c.in-Some.ensures.steps.0 in
    λ memory. c.loop-item.invariant.fault ∙ ap (writing_fault w) first ∙ ap (λ (x : Option Error). option_or x (writing_fault (gained w item) rest)) (c.in-Err.ensures.refused memory)

pub returns-clause-refused : goal.returns-clause-refused
returns-clause-refused g c =
    let w = c.loop-item.writer in
    let none : c.loop-item.item-iterator.rest.items ≡ [] = nil_from_length c.loop-item.item-iterator.rest.items (sym c.loop-item.item-iterator.rest.ok.0 ∙ c.in-None.ensures.steps.0) in
    subst (λ (x : Option Error). Faults c.finish.result x) (sym (c.loop-item.invariant.fault ∙ ap (writing_fault w) none)) c.finish.ensures.refused

pub returns-clause-table : goal.returns-clause-table
returns-clause-table g c =
    let w = c.loop-item.writer in
    let before = c.loop-item.yielded in
    let none : c.loop-item.item-iterator.rest.items ≡ [] = nil_from_length c.loop-item.item-iterator.rest.items (sym c.loop-item.item-iterator.rest.ok.0 ∙ c.in-None.ensures.steps.0) in
    let all : c.args.items.items ≡ before = c.loop-item.invariant.whole ∙ ap (λ (x : List Entry). before ++ x) none ∙ append-nil before in
    table_by c.finish.result w c.args.items.items (label_of c.args.id c.args.initial_level c.args.created_at) (c.loop-item.invariant.listed ∙ sym all) c.loop-item.invariant.label c.loop-item.invariant.options c.loop-item.invariant.spills c.finish.ensures.table
