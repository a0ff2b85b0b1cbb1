use Rattle.std.proofs.Common.{◌≡◌, ℕ, ◌+◌, List, Vec, take, arith, ap, subst, sym, ◌∙◌}
use Rattle.std.proofs.lemmas.List.{take_all}
use Rattle.std.specs.Prelude.{Option, Result, Ok, Err}
use Rattle.sst_entries.specs.declared.error.Error.{Error}
use Rattle.sst_entries.specs.Entry.{Entry}
use Rattle.sst_entries.specs.Error.{Gives}
use Rattle.lsm_readers.specs.point.Answer.{answer}
use Rattle.lsm_readers.specs.point.Batch.{query_result}
use Rattle.lsm_readers.specs.point.Many.{answers_to}
use Rattle.lsm_readers.specs.point.Parts.{Parts}
use Rattle.lsm_readers.specs.point.Table.{parts_of}
use Rattle.lsm_readers.proofs.ManyReads.{one_more, refused_at}
use Rattle.lsm_files.proofs.Loads.{passes_fault}
use Rattle.lsm_files.proofs.many.read_each.Goals as goal

-- a read of a key in bytes that stayed the same
asked : (b body : List ℕ) (g : ℕ) (parts : Parts) (key name : List ℕ) (bound : ℕ) (r : Result (Option Entry) Error) → b ≡ body → key ≡ name → Gives (λ (x : Option Entry). x) r (answer b g parts key bound).returned → Gives (λ (x : Option Entry). x) r (answer body g parts name bound).returned
asked b body g parts key name bound r same is gives =
    subst (λ (k : List ℕ). Gives (λ (x : Option Entry). x) r (answer body g parts k bound).returned) is
    (subst (λ (c : List ℕ). Gives (λ (x : Option Entry). x) r (answer c g parts key bound).returned) same gives)

pub loop-query-preserved : goal.loop-query-preserved
loop-query-preserved g c =
    let inner = c.args.inner.now in
    let body = g.S.LoadBlocks.body c.args.source.now in
    let f = query_result {A = g.row.S-Alloc.Denot} body inner.global_seqno (parts_of inner) in
    let q = c.query-item.result in
    let one = c.in_ok-one.one in
    record {
      same = c.point_in.ensures.body ∙ c.loop-query.invariant.same;
      found = λ known.
          let here = asked (g.S.LoadBlocks.body c.loop-query.source) body inner.global_seqno (parts_of inner) c.as_slice-key.result.now q.key q.seqno (Ok one) c.loop-query.invariant.same c.as_slice-key.ensures (c.in_ok-one.ensures.returned known) in
          subst (λ (es : List (Option Entry)). answers_to f (take (c.loop-query.query-index + 1) c.args.queries.now) ≡ Ok es) (sym c.in_ok-push.ensures.items)
          (one_more f c.args.queries.now c.loop-query.query-index q c.loop-query.found.items one (omega arith) c.query-item.is (c.loop-query.invariant.found known) here);
    }

pub returns-in_err-one : goal.returns-in_err-one
returns-in_err-one g c known =
    let inner = c.args.inner.now in
    let body = g.S.LoadBlocks.body c.args.source.now in
    let f = query_result {A = g.row.S-Alloc.Denot} body inner.global_seqno (parts_of inner) in
    let q = c.query-item.result in
    let e = c.in_err-one.field-0.0 in
    let here = asked (g.S.LoadBlocks.body c.loop-query.source) body inner.global_seqno (parts_of inner) c.as_slice-key.result.now q.key q.seqno (Err e) c.loop-query.invariant.same c.as_slice-key.ensures (c.in_err-one.ensures.returned known) in
    passes_fault (λ (v : Vec (Option Entry) g.row.S-Alloc.Denot). v.items) c.from_residual-in_err-one.result (answers_to f c.args.queries.now) e c.from_residual-in_err-one.ensures.1
    (λ memory. refused_at f c.args.queries.now c.loop-query.query-index q c.loop-query.found.items e (omega arith) c.query-item.is (c.loop-query.invariant.found known) (here memory))

pub returns : goal.returns
returns g c known =
    let inner = c.args.inner.now in
    let body = g.S.LoadBlocks.body c.args.source.now in
    let f = query_result {A = g.row.S-Alloc.Denot} body inner.global_seqno (parts_of inner) in
    ap (answers_to f) (sym (take_all c.loop-query.query-index c.args.queries.now (omega arith))) ∙ c.loop-query.invariant.found known
