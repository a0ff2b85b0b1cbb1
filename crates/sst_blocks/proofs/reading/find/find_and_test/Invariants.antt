use Rattle.std.proofs.Common.{◌≡◌, drop, Some}
use Rattle.std.specs.Prelude.{IfSome}
use Rattle.std.specs.Option.{option_map}
use Rattle.sst_entries.specs.Point.{read_place}
use Rattle.sst_entries.specs.Strict.{is_before}
use Rattle.sst_blocks.proofs.Searches.{Search}
use Rattle.sst_blocks.proofs.reading.find.find_and_test.Given as goal

-- the first item that the read comes before is found among those that were walked over, and its
-- place
abbrev pub invariant-loop : goal.invariant-loop
invariant-loop g l =
    let f = g.R.ItemRef.format l.version in
    let returned = g.R.ItemRef.returned in
    record {
      search : Search f (λ x. is_before (read_place l.key l.seqno) (f.key x)) l.payload l.rest
          (option_map (λ x. f.key (returned x)) l.last) l.counter (option_map (λ x. returned x.1) l.found);
      place : IfSome l.found (λ x. option_map (λ y. y.0) (f.read (drop x.0 l.payload))
          ≡ Some (returned x.1));
    }
