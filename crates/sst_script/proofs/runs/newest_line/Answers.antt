use Rattle.std.specs.Prelude.{Err, Ok, map}
use Rattle.std.specs.Arc.{arc_value}
use Rattle.std.specs.Option.{option_map}
use Rattle.std.specs.Vec.{vec_items}
use Rattle.sst_entries.specs.Lending.{entry_of_ref}
use Rattle.sst_entries.specs.Point.{point}
use Rattle.sst_script.specs.Answer.{found_line}
use Rattle.sst_script.specs.Runs.{union}
use Rattle.sst_script.proofs.RefusalLemmas.{gives_refusal}
use Rattle.sst_script.proofs.RunLemmas.{found_is, memory_fails, point_gives}
use Rattle.sst_script.proofs.runs.newest_line.Goals as goal

pub returns-in_err-found : goal.returns-in_err-found
returns-in_err-found g c rs same =
    let a = c.args in
    let e = c.in_err-found.field-0.0 in
    let found = point (union rs) a.key.now a.bound in
    gives_refusal vec_items c.from_residual.result e (Ok (found_line found)) c.from_residual.ensures.1
    (memory_fails e found (found_line found) (point_gives rs (map arc_value a.runs.now) same (option_map entry_of_ref) (Err e) a.key.now a.bound c.in_err-found.ensures.list))

pub returns : goal.returns
returns g c rs same =
    let a = c.args in
    let found = option_map entry_of_ref c.in_ok-found.found in
    found_is vec_items c.line_of_found.result (point (union rs) a.key.now a.bound) found
    (point_gives rs (map arc_value a.runs.now) same (option_map entry_of_ref) (Ok c.in_ok-found.found) a.key.now a.bound c.in_ok-found.ensures.list)
    c.line_of_found.ensures
