use Rattle.std.proofs.Common.{subst, sym}
use Rattle.std.specs.Prelude.{IfOk}
use Rattle.clap.specs.Words.{Text, found_of, rows_of}
use Rattle.tool_options.specs.Tasks.{AsksFor}
use Rattle.tool_options.proofs.read.read_task.Goals as goal

pub returns-in-write : goal.returns-in-write
returns-in-write c = subst (λ (name : Text). IfOk c.read_write.result
    (λ t. AsksFor name (rows_of (found_of c.args.matches.now)) t)) (sym c.in-write.is) c.read_write.ensures

pub returns-in-dump : goal.returns-in-dump
returns-in-dump c = subst (λ (name : Text). IfOk c.read_dump.result
    (λ t. AsksFor name (rows_of (found_of c.args.matches.now)) t)) (sym c.in-dump.is) c.read_dump.ensures

pub returns-in-get : goal.returns-in-get
returns-in-get c = subst (λ (name : Text). IfOk c.read_get.result
    (λ t. AsksFor name (rows_of (found_of c.args.matches.now)) t)) (sym c.in-get.is) c.read_get.ensures

pub returns-in-verify : goal.returns-in-verify
returns-in-verify c = subst (λ (name : Text). IfOk c.read_verify.result
    (λ t. AsksFor name (rows_of (found_of c.args.matches.now)) t)) (sym c.in-verify.is) c.read_verify.ensures

pub returns-in-compact : goal.returns-in-compact
returns-in-compact c = subst (λ (name : Text). IfOk c.read_compact.result
    (λ t. AsksFor name (rows_of (found_of c.args.matches.now)) t)) (sym c.in-compact.is) c.read_compact.ensures

pub returns-in-pack : goal.returns-in-pack
returns-in-pack c = subst (λ (name : Text). IfOk c.read_pack.result
    (λ t. AsksFor name (rows_of (found_of c.args.matches.now)) t)) (sym c.in-pack.is) c.read_pack.ensures
