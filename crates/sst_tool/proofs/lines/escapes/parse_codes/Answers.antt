use Rattle.std.proofs.Common.{sym, subst, List, ℕ, [], append-nil, refl}
use Rattle.sst_tool.specs.lines.Escapes.{AreCodes}
use Rattle.sst_tool.proofs.EscapeLemmas.{Reading, reading_goes, reading_starts, reading_stops}
use Rattle.sst_tool.proofs.EscapeLemmas.{empty_is, some_is}
use Rattle.sst_tool.proofs.lines.escapes.parse_codes.Goals as goal

pub loop-rest-init : goal.loop-rest-init
loop-rest-init g c =
    let word = c.args.word.now in
    subst (λ (v : List ℕ). Reading word v word) (sym c.new-bytes.ensures.items)
    (reading_starts word)

pub loop-rest-preserved : goal.loop-rest-preserved
loop-rest-preserved g c =
    let word = c.args.word.now in
    let behind = c.in-Some.behind.now in
    subst (λ (v : List ℕ). Reading word v behind) (sym c.in_ok-push-in-Some.ensures.items)
    (reading_goes word c.loop-rest.bytes.items c.loop-rest.rest.now behind c.in-Some.byte
    c.in-Some.ensures.some c.loop-rest.invariant)

pub returns-in-None-clause-refused : goal.returns-in-None-clause-refused
returns-in-None-clause-refused g c = λ fine. (
  c.further.ensures,
  reading_stops c.args.word.now
      c.loop-rest.bytes.items c.loop-rest.rest.now c.loop-rest.invariant
      (λ none. some_is c.loop-rest.rest.now c.is_empty.result c.is_empty.ensures c.loop-rest-test.true
      none)
      c.in-None.ensures.none,
)

pub returns-clause-bytes : goal.returns-clause-bytes
returns-clause-bytes g c =
    let word = c.args.word.now in
    let bytes = c.loop-rest.bytes.items in
    subst (λ (v : List ℕ). AreCodes word v) (append-nil bytes)
    (c.loop-rest.invariant.adds [] (empty_is c.loop-rest.rest.now c.is_empty.result
    c.is_empty.ensures c.loop-rest-test.false))
