use Rattle.std.proofs.Common.{ap, length, rules}
use Rattle.sst_tool.specs.lines.WordLine.{IsNumberWord}
use Rattle.sst_tool.proofs.WordLemmas.{SpellsNone, no_kind, passed_on, spelled_by}
use Rattle.sst_tool.proofs.lines.word_line.parse_words.Goals as goal

pub returns-in_default-clause-refused : goal.returns-in_default-clause-refused
returns-in_default-clause-refused g c = λ fine e spells.
    c.in_default.ensures.none (ap length spells.words.are)

pub returns-in_default-parse_number-clause-refused :
    goal.returns-in_default-parse_number-clause-refused
returns-in_default-parse_number-clause-refused g c = λ fine e spells.
    let w = c.in-Some.words in
    let none : IsNumberWord w.seqno.now → ⊥ = search rules in
    none (spelled_by c.args.line.now w.key.now w.seqno.now w.kind.now w.value.now
    c.in-Some.ensures.some e spells).1.number

pub returns-in_default-parse_kind-clause-refused :
    goal.returns-in_default-parse_kind-clause-refused
returns-in_default-parse_kind-clause-refused g c = λ fine e spells.
    let w = c.in-Some.words in
    no_kind w.kind.now c.parse_kind.result (search rules) c.parse_kind.ensures.all e.kind
    (spelled_by c.args.line.now w.key.now w.seqno.now w.kind.now w.value.now
    c.in-Some.ensures.some e spells).2

pub returns-in_err-key-clause-refused : goal.returns-in_err-key-clause-refused
returns-in_err-key-clause-refused g c =
    let w = c.in-Some.words in
    passed_on (SpellsNone c.args.line.now) c.from_residual.result c.in_err-key.field-0.0
    c.from_residual.ensures.1 (λ fine e spells.
    (c.in_err-key.ensures.refused fine).1 e.user_key (spelled_by c.args.line.now w.key.now w.seqno.now w.kind.now w.value.now
    c.in-Some.ensures.some e spells).0)

pub returns-in-Ok-clause-spells : goal.returns-in-Ok-clause-spells
returns-in-Ok-clause-spells g c =
    let w = c.in-Some.words in
    record {
      words = record {
        key = w.key.now;
        number = w.seqno.now;
        kind = w.kind.now;
        value = w.value.now;
        are = c.in-Some.ensures.some;
      };
      key_is = search rules;
      seqno_is = search rules;
      kind_is = search rules;
      value_is = search rules;
    }

pub returns-in-Err-clause-refused : goal.returns-in-Err-clause-refused
returns-in-Err-clause-refused g c = λ fine e spells.
    let w = c.in-Some.words in
    (c.in-Err.ensures.refused fine).1 e.value (spelled_by c.args.line.now w.key.now w.seqno.now w.kind.now w.value.now
    c.in-Some.ensures.some e spells).3
