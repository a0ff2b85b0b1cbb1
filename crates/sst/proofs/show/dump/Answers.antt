use denote.Ref.{Bor}
use Rattle.std.proofs.Common.{◌∙◌, ℕ, List, refl, subst, sym, true≢false}
use Rattle.std.specs.Prelude.{Option}
use Rattle.sst_tool.specs.declared.show.dumps.DumpOptions.{DumpOptions}
use Rattle.sst.specs.Showing.{AsksDump, DumpsEach, DumpsMerged, MeansKey, most_of}
use Rattle.sst.proofs.Named.{on_ok}
use Rattle.sst.proofs.show.dump.Goals as goal

pub returns-then-task : goal.returns-then-task
returns-then-task g c =
    let task = c.args.task.now in
    let content = g.P.Place.content c.args.place.now in
    let options : DumpOptions = record {
      from = c.as_deref.result;
      to = c.as_deref-2.result;
      reverse = task.reverse;
      format = c.format_of.result;
    } in
    let asked : AsksDump task options = record {
      from = subst (λ (key : Option (List ℕ)). MeansKey task.from key)
          (sym c.as_deref.ensures.value) c.in_ok-from.ensures;
      to = subst (λ (key : Option (List ℕ)). MeansKey task.to key)
          (sym c.as_deref-2.ensures.value) c.in_ok-to.ensures;
      reverse = refl;
      format = c.format_of.ensures;
    } in
    on_ok c.dump_together.result c.dump_together.ensures (λ dumps. record {
      options = options;
      asked = asked;
      each = λ alone. absurd (true≢false (sym c.if-task.true ∙ alone));
      merged = λ _. subst (λ (seqno : ℕ).
          DumpsMerged options seqno (most_of task) content task.files.items)
          c.unwrap_or-seqno.ensures
          (subst (λ (most : ℕ).
          DumpsMerged options c.unwrap_or-seqno.result most content task.files.items)
          c.unwrap_or-most.ensures
          (subst (λ (names : List (Bor (List ℕ))).
          DumpsMerged options c.unwrap_or-seqno.result c.unwrap_or-most.result content names)
          c.as_slice-names.ensures.value dumps));
    })

pub returns : goal.returns
returns g c =
    let task = c.args.task.now in
    let content = g.P.Place.content c.args.place.now in
    let options : DumpOptions = record {
      from = c.as_deref.result;
      to = c.as_deref-2.result;
      reverse = task.reverse;
      format = c.format_of.result;
    } in
    let asked : AsksDump task options = record {
      from = subst (λ (key : Option (List ℕ)). MeansKey task.from key)
          (sym c.as_deref.ensures.value) c.in_ok-from.ensures;
      to = subst (λ (key : Option (List ℕ)). MeansKey task.to key)
          (sym c.as_deref-2.ensures.value) c.in_ok-to.ensures;
      reverse = refl;
      format = c.format_of.ensures;
    } in
    on_ok c.dump_each.result c.dump_each.ensures (λ dumps. record {
      options = options;
      asked = asked;
      each = λ _. (
        dumps.0,
        subst (λ (left : ℕ). DumpsEach options content task.files.items left dumps.0)
            c.unwrap_or-most.ensures
            (subst (λ (names : List (Bor (List ℕ))).
            DumpsEach options content names c.unwrap_or-most.result dumps.0)
            c.as_slice-names.ensures.value dumps.1),
      );
      merged = λ together. absurd (true≢false (sym together ∙ c.if-task.false));
    })
