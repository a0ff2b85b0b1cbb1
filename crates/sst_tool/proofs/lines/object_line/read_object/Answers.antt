use Rattle.std.proofs.Common.{rules}
use Rattle.json.specs.Value.{value_view}
use Rattle.sst_tool.proofs.ObjectLemmas.{SpellsNone, four_members, no_object, object_by}
use Rattle.sst_tool.proofs.WordLemmas.{passed_on}
use Rattle.sst_tool.proofs.lines.object_line.read_object.Goals as goal

pub returns-in_err-members-clause-refused : goal.returns-in_err-members-clause-refused
returns-in_err-members-clause-refused g c = λ line strict.
    passed_on (SpellsNone line) c.from_residual.result c.in_err-members.field-0.0
    c.from_residual.ensures.1 (λ fine. no_object line (value_view c.args.object.now) strict
    c.in_err-members.ensures.refused)

pub returns-in_err-seqno-clause-refused : goal.returns-in_err-seqno-clause-refused
returns-in_err-seqno-clause-refused g c = λ line strict.
    let m = c.in_ok-members.members in
    passed_on (SpellsNone line) c.from_residual-in_err-seqno.result c.in_err-seqno.field-0.0
    c.from_residual-in_err-seqno.ensures.1 (λ fine e spells. c.in_err-seqno.ensures.refused e.seqno
    (object_by line (value_view c.args.object.now) (value_view m.key.now) (value_view m.seqno.now)
    (value_view m.kind.now) (value_view m.value.now) strict c.in_ok-members.ensures.ok e spells).1)

pub returns-in_err-kind-clause-refused : goal.returns-in_err-kind-clause-refused
returns-in_err-kind-clause-refused g c = λ line strict.
    let m = c.in_ok-members.members in
    passed_on (SpellsNone line) c.from_residual-in_err-kind.result c.in_err-kind.field-0.0
    c.from_residual-in_err-kind.ensures.1 (λ fine e spells. c.in_err-kind.ensures.refused e.kind
    (object_by line (value_view c.args.object.now) (value_view m.key.now) (value_view m.seqno.now)
    (value_view m.kind.now) (value_view m.value.now) strict c.in_ok-members.ensures.ok e spells).2)

pub returns-in_err-key-clause-refused : goal.returns-in_err-key-clause-refused
returns-in_err-key-clause-refused g c = λ line strict.
    let m = c.in_ok-members.members in
    passed_on (SpellsNone line) c.from_residual-in_err-key.result c.in_err-key.field-0.0
    c.from_residual-in_err-key.ensures.1 (λ fine e spells. c.in_err-key.ensures.refused fine e.user_key
    (object_by line (value_view c.args.object.now) (value_view m.key.now) (value_view m.seqno.now)
    (value_view m.kind.now) (value_view m.value.now) strict c.in_ok-members.ensures.ok e spells).0)

pub returns-in-Err-clause-refused : goal.returns-in-Err-clause-refused
returns-in-Err-clause-refused g c = λ line strict fine e spells.
    let m = c.in_ok-members.members in
    c.in-Err.ensures.refused fine e.value
    (object_by line (value_view c.args.object.now) (value_view m.key.now) (value_view m.seqno.now)
    (value_view m.kind.now) (value_view m.value.now) strict c.in_ok-members.ensures.ok e spells).3

pub returns-in-Ok-clause-spells : goal.returns-in-Ok-clause-spells
returns-in-Ok-clause-spells g c = λ line strict.
    let m = c.in_ok-members.members in
    record {
      members = four_members line (value_view c.args.object.now) (value_view m.key.now)
          (value_view m.seqno.now) (value_view m.kind.now) (value_view m.value.now) strict
          c.in_ok-members.ensures.ok;
      key_is = search rules;
      seqno_is = search rules;
      kind_is = search rules;
      value_is = search rules;
    }
