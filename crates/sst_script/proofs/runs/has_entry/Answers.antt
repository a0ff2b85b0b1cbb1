use Rattle.std.proofs.Common.{◌≡◌, ◌+◌, rules}
use Rattle.std.specs.Prelude.{Err, Ok, map}
use Rattle.std.specs.Arc.{arc_value}
use Rattle.std.specs.Option.{option_map}
use Rattle.sst_entries.specs.Lending.{entry_of_ref}
use Rattle.sst_entries.specs.Point.{point}
use Rattle.sst_script.specs.Runs.{has_entry, union}
use Rattle.sst_script.proofs.EntryLemmas.{has_number}
use Rattle.sst_script.proofs.RefusalLemmas.{gives_refusal}
use Rattle.sst_script.proofs.RunLemmas.{memory_fails, number_gives, point_gives}
use Rattle.sst_script.proofs.runs.has_entry.Goals as goal

pub returns-in_err-found : goal.returns-in_err-found
returns-in_err-found g c rs same =
    let a = c.args in
    let e = c.in_err-found.field-0.0 in
    let bound = a.seqno + 1 in
    gives_refusal (λ b. b) c.from_residual.result e (Ok (has_entry (union rs) a.key.now a.seqno)) c.from_residual.ensures.1
    (memory_fails e (point (union rs) a.key.now bound) _ (point_gives rs (map arc_value a.runs.now) same (option_map entry_of_ref) (Err e) a.key.now bound c.in_err-found.ensures.list))

pub returns : goal.returns
returns g c rs same =
    let a = c.args in
    let found = option_map entry_of_ref c.in_ok-found.found in
    let holds : c.is_some_and.result ≡ has_number a.seqno found = search rules in
    number_gives rs a.key.now a.seqno found c.is_some_and.result (point_gives rs (map arc_value a.runs.now) same (option_map entry_of_ref) (Ok c.in_ok-found.found) a.key.now (a.seqno + 1) c.in_ok-found.ensures.list) holds
