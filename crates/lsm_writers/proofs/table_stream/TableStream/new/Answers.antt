use Rattle.std.proofs.Common.{refl, []}
use Rattle.lsm_writers.proofs.Streaming.{fresh_took}
use Rattle.lsm_writers.proofs.table_stream.TableStream.new.Goals as goal

pub returns-clause-starts : goal.returns-clause-starts
returns-clause-starts g c = λ stops rs fresh yields. record {
  front = [];
  rest = rs;
  whole = refl;
  took = fresh_took c.args.writer fresh (c.stays_writing.ensures fresh.2);
  yields = yields;
}

pub returns-clause-can : goal.returns-clause-can
returns-clause-can g c = λ fresh asks. (record { asks = asks; taken = fresh.0 }, refl)
