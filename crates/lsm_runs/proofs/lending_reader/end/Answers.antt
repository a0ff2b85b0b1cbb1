use Rattle.std.proofs.Common.{refl}
use Rattle.lsm_runs.proofs.lending_reader.end.Goals as goal

pub returns : goal.returns
returns g c = rw (c.end.ensures.kept, c.let_go.ensures, c.let_go-2.ensures) refl
