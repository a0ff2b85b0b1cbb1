use Rattle.std.proofs.Common.{◌∙◌, ap, refl, Bool, true, false}
use Rattle.std.specs.Prelude.{Ok}
use Rattle.std.proofs.lemmas.List.{drop_all}
use Rattle.sst_entries.specs.Entry.{Entry}
use Rattle.sst_script.specs.Runs.{has_entry, repeats, union}
use Rattle.sst_script.proofs.RefusalLemmas.{gives_refusal}
use Rattle.sst_script.proofs.RunLemmas.{memory_fails, past_item}
use Rattle.sst_script.proofs.runs.is_repeated.Goals as goal

pub loop-item-init : goal.loop-item-init
loop-item-init g c rs same = refl

pub returns-in_err-has_entry : goal.returns-in_err-has_entry
returns-in_err-has_entry g c rs same =
    let e = c.in_err-has_entry.field-0.0 in
    gives_refusal (λ b. b) c.from_residual.result e (Ok (repeats rs c.args.items.now)) c.from_residual.ensures.1
    (memory_fails e (has_entry (union rs) c.as_slice.result.now c.item.inside.key.seqno) _ (c.in_err-has_entry.ensures rs same))

pub returns-then-branch : goal.returns-then-branch
returns-then-branch g c rs same =
    ap (λ (b : Bool). Ok b)
    (past_item rs c.args.items.now c.loop-item.item-index c.item-item.result c.as_slice.result.now c.item.inside.key.seqno true
    (c.loop-item.invariant rs same) c.loop-item-test.true c.item-item.is (c.as_slice.ensures ∙ ap (λ (x : Entry). x.user_key) c.item.view_is) (ap (λ (x : Entry). x.seqno) c.item.view_is)
    (c.in_ok-has_entry.ensures rs same ∙ ap (λ (b : Bool). Ok b) c.if-branch.true))

pub loop-item-preserved : goal.loop-item-preserved
loop-item-preserved g c rs same =
    past_item rs c.args.items.now c.loop-item.item-index c.item-item.result c.as_slice.result.now c.item.inside.key.seqno false
    (c.loop-item.invariant rs same) c.loop-item-test.true c.item-item.is (c.as_slice.ensures ∙ ap (λ (x : Entry). x.user_key) c.item.view_is) (ap (λ (x : Entry). x.seqno) c.item.view_is)
    (c.in_ok-has_entry.ensures rs same ∙ ap (λ (b : Bool). Ok b) c.if-branch.false)

pub returns : goal.returns
returns g c rs same =
    ap (λ (b : Bool). Ok b)
    (c.loop-item.invariant rs same ∙ ap (repeats rs) (drop_all c.loop-item.item-index c.args.items.now c.loop-item-test.false))
