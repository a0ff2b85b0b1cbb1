-- A head in the buffers.
use Rattle.std.proofs.Common.{refl, sym, ap, subst, ◌∙◌, Bool}
use Rattle.std.specs.Prelude.{Option}
use Rattle.std.proofs.lemmas.Result.{err_from_is_err_and}
use Rattle.sst_entries.specs.Entry.{entry}
use Rattle.lsm_sorted.specs.merge.Ends.{R}
use Rattle.lsm_sorted.specs.Compacting.{head_answer}
use Rattle.lsm_sorted.specs.lending.LentCompaction.{SettlesCompacted}
use Rattle.lsm_sorted.proofs.CompactionHeads.{held_answer}
use Rattle.lsm_sorted.proofs.CompactionHeads.{lends_nothing}
use Rattle.lsm_sorted.proofs.compaction.lending.LendingCompaction.settle.Goals as goal

pub returns-in_err-lets_go-clause-settles : goal.returns-in_err-lets_go-clause-settles
returns-in_err-lets_go-clause-settles g c =
    let p = err_from_is_err_and c.from_residual.result c.from_residual.ensures.1 in
    let s = c.args.self.now in
    rw (p.1, p.2) (c.in_err-lets_go.ensures.settles (entry s.key.items s.value.items c.args.seqno c.args.kind) c.requires.waits refl refl)

pub returns-then-branch-clause-settles : goal.returns-then-branch-clause-settles
returns-then-branch-clause-settles g c =
    let s = c.args.self.now in
    let t = c.lets_go.new.self in
    let head = entry s.key.items s.value.items c.args.seqno c.args.kind in
    let after = c.in_ok-lets_go.ensures in
    subst (λ (r : Option R). SettlesCompacted g.F.LentFilter.gives g.C.LentCallback.gets g.L.Lending.advances g.L.Lending.lent s head r t)
    (ap (λ (b : Bool). head_answer s.rules b head) c.if-branch.true ∙ sym (lends_nothing g.L.Lending.lent t (after.lends ∙ c.requires.empty)))
    (after.settles head c.requires.waits refl refl)

pub returns-clause-settles : goal.returns-clause-settles
returns-clause-settles g c =
    let s = c.args.self.now in
    let t = c.lets_go.new.self in
    let head = entry s.key.items s.value.items c.args.seqno c.args.kind in
    let after = c.in_ok-lets_go.ensures in
    let answer = held_answer t.rules s.rules t.key.items t.value.items head c.in_ok-lets_go.field-0 after.rules (ap (λ v. v.items) after.key) (ap (λ v. v.items) after.value) c.if-branch.false in
    let one = subst (λ (r : Option R). SettlesCompacted g.F.LentFilter.gives g.C.LentCallback.gets g.L.Lending.advances g.L.Lending.lent s head r t) (sym answer) (after.settles head c.requires.waits refl refl) in
    record {
      answers = one.answers;
      gave = one.gave;
      returned = one.returned;
      rules = one.rules;
      does = λ z live rest more f d ends will.
          one.does z live rest more f d ends will;
    }
