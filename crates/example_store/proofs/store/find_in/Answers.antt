use Rattle.std.proofs.Common.{◌≡◌, sym, ◌∙◌, ap, subst}
use Rattle.std.specs.Prelude.{Ok, Option}
use Rattle.std.specs.Option.{option_map, option_or}
use Rattle.lsm_tables.specs.Words.{Entry, Gives, entry_of_ref, point, union_in}
use Rattle.example_store.proofs.Stories.{point_behind}
use Rattle.example_store.proofs.store.find_in.Goals as goal

pub returns-in-Some : goal.returns-in-Some
returns-in-Some g c lists hold =
    let key = c.args.key.now in
    ap (λ (o : Option Entry). Ok o) (point_behind key c.args.seqno c.args.memtable.now (union_in lists)
    ∙ ap (λ (o : Option Entry). option_or o (point (union_in lists) key c.args.seqno)) (sym c.get.ensures ∙ ap (option_map entry_of_ref) c.in-Some.is))

pub returns : goal.returns
returns g c lists hold =
    let key = c.args.key.now in
    subst (λ (o : Option Entry). Gives (option_map entry_of_ref) c.get_runs_ref_by_age.result (Ok o))
    (sym (point_behind key c.args.seqno c.args.memtable.now (union_in lists)
    ∙ ap (λ (o : Option Entry). option_or o (point (union_in lists) key c.args.seqno)) (sym c.get.ensures ∙ ap (option_map entry_of_ref) c.in_default.is)))
    (c.get_runs_ref_by_age.ensures.list lists hold)
