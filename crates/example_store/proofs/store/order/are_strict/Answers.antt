use Rattle.lsm_tables.specs.Words.{OutOfMemory}
use Rattle.lsm_tables.proofs.TableLaws.{all_of, scan_asked}
use Rattle.example_store.proofs.Refusing.{wanted}
use Rattle.example_store.proofs.store.order.are_strict.Goals as goal

pub come_in_order-requires : goal.come_in_order-requires
come_in_order-requires g c = all_of _ scan_asked c.in_ok-scanners.scanners.items

pub returns-in_err-scanners-clause-memory : goal.returns-in_err-scanners-clause-memory
returns-in_err-scanners-clause-memory g c lists held some =
    wanted OutOfMemory c.from_residual.result c.in_err-scanners.field-0.0 c.from_residual.ensures.1 (c.in_err-scanners.ensures.memory lists held some)

pub returns-clause-exact : goal.returns-clause-exact
returns-clause-exact g c lists held some =
    c.come_in_order.ensures.exact lists (c.in_ok-scanners.ensures.list lists held some)

pub returns-clause-memory : goal.returns-clause-memory
returns-clause-memory g c lists held some =
    c.come_in_order.ensures.memory lists (c.in_ok-scanners.ensures.list lists held some)
