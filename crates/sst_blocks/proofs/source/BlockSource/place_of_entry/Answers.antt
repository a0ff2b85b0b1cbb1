use Rattle.std.proofs.Common.{◌≡◌, ℕ, ◌+◌, ◌≤◌, List, length, slice_range, refl, sym, ap, subst, rules, arith, Some, None, ◌∙◌}
use Rattle.std.specs.Option.{option_map}
use Rattle.std.proofs.lemmas.Result.{err_from_is_err_and}
use Rattle.sst_blocks.specs.Sections.{body_of}
use Rattle.sst_blocks.specs.Version.{key_width}
use Rattle.std.specs.Prelude.{Ok}
use Rattle.sst_entries.specs.Entry.{Entry}
use Rattle.sst_entries.specs.Lending.{entry_of_ref}
use Rattle.sst_blocks.proofs.EntryPlaces.{lies_within, placed_is}
use Rattle.sst_entries.specs.declared.entry_ref.EntryRef.{EntryRef}
use Rattle.sst_blocks.proofs.Asked.{body_within, entries_results, entries_wrong, found_hit, found_none, found_other, shares_there, spelled_strict}
use Rattle.sst_blocks.proofs.Points.{keys_apart, keys_same}
use Rattle.sst_blocks.proofs.Room.{room_long}
use Rattle.sst_blocks.proofs.source.BlockSource.place_of_entry.Goals as goal

pub find_entry-requires-clause-long : goal.find_entry-requires-clause-long
find_entry-requires-clause-long g c =
    let s = c.args.payload.now in
    let part : slice_range c.body.result.now s.start s.end ≡ slice_range (body_of c.args.self.now) s.start s.end = ap (λ (b : List ℕ). slice_range b s.start s.end) c.body.ensures.body in
    subst (λ (p : List ℕ). 4 ≤ length p) (sym part) (room_long (13 + key_width s.header.version) _ c.requires.valid.room)

pub returns-in_err-first-clause-returned : goal.returns-in_err-first-clause-returned
returns-in_err-first-clause-returned g c =
    let s = c.args.payload.now in
    let part : slice_range c.body.result.now s.start s.end ≡ slice_range (body_of c.args.self.now) s.start s.end = ap (λ (b : List ℕ). slice_range b s.start s.end) c.body.ensures.body in
    let p = err_from_is_err_and c.from_residual.result c.from_residual.ensures.1 in
    let fault = c.in_err-first.ensures.fault in
    rw (p.1, p.2, fault.0) (sym (entries_wrong s.header.version s.header.checksum _ _ part c.requires.valid.sum c.args.key.now c.args.seqno fault.1))

pub returns-in_default-clause-returned : goal.returns-in_default-clause-returned
returns-in_default-clause-returned g c =
    let s = c.args.payload.now in
    let part : slice_range c.body.result.now s.start s.end ≡ slice_range (body_of c.args.self.now) s.start s.end = ap (λ (b : List ℕ). slice_range b s.start s.end) c.body.ensures.body in
    let none = sym c.in_ok-first.ensures.found ∙ ap (option_map (λ (x : ℕ × EntryRef). entry_of_ref x.1)) c.in_default.is in
    sym (entries_results s.header.version s.header.checksum _ _ part c.requires.valid.sum c.args.key.now c.args.seqno None c.in_ok-first.ensures.whole (found_none _ c.args.key.now c.args.seqno none))

pub returns-then-ne-clause-returned : goal.returns-then-ne-clause-returned
returns-then-ne-clause-returned g c =
    let s = c.args.payload.now in
    let part : slice_range c.body.result.now s.start s.end ≡ slice_range (body_of c.args.self.now) s.start s.end = ap (λ (b : List ℕ). slice_range b s.start s.end) c.body.ensures.body in
    let first : c.in_ok-first.first ≡ Some (c.in-Some.at, c.in-Some.entry) = search rules in
    let some = sym c.in_ok-first.ensures.found ∙ ap (option_map (λ (x : ℕ × EntryRef). entry_of_ref x.1)) first in
    let other = keys_apart c.in-Some.entry.user_key.now c.args.key.now c.ne.result c.ne.ensures c.if-ne.true in
    let strict = spelled_strict s.header.version (slice_range c.body.result.now s.start s.end) c.in_ok-first.ensures.whole in
    sym (entries_results s.header.version s.header.checksum _ _ part c.requires.valid.sum c.args.key.now c.args.seqno None c.in_ok-first.ensures.whole (found_other _ c.args.key.now c.args.seqno (entry_of_ref c.in-Some.entry) strict some other))

pub overflow_add-key_at : goal.overflow_add-key_at
overflow_add-key_at g c =
    let s = c.args.payload.now in
    let first : c.in_ok-first.first ≡ Some (c.in-Some.at, c.in-Some.entry) = search rules in
    let place = rw first at c.in_ok-first.ensures.place in
    let shares = shares_there s.header.version c.args.self.now s.start s.end c.in-Some.at _ (entry_of_ref c.in-Some.entry) c.requires.placed.headed.ordered c.requires.placed.headed.within refl (rw c.body.ensures.body at place) in
    omega (arith, shares.within, c.requires.placed.headed.within, c.body.ensures.bound, ap length c.body.ensures.body)

pub overflow_add-key_at-2 : goal.overflow_add-key_at-2
overflow_add-key_at-2 g c =
    let s = c.args.payload.now in
    let first : c.in_ok-first.first ≡ Some (c.in-Some.at, c.in-Some.entry) = search rules in
    let place = rw first at c.in_ok-first.ensures.place in
    let shares = shares_there s.header.version c.args.self.now s.start s.end c.in-Some.at _ (entry_of_ref c.in-Some.entry) c.requires.placed.headed.ordered c.requires.placed.headed.within refl (rw c.body.ensures.body at place) in
    omega (arith, shares.within, c.requires.placed.headed.within, c.body.ensures.bound, ap length c.body.ensures.body, c.head_len.ensures)

pub of-requires : goal.of-requires
of-requires g c =
    let s = c.args.payload.now in
    let first : c.in_ok-first.first ≡ Some (c.in-Some.at, c.in-Some.entry) = search rules in
    let place = rw first at c.in_ok-first.ensures.place in
    let shares = shares_there s.header.version c.args.self.now s.start s.end c.in-Some.at _ (entry_of_ref c.in-Some.entry) c.requires.placed.headed.ordered c.requires.placed.headed.within refl (rw c.body.ensures.body at place) in
    omega (arith, shares.within, c.requires.placed.headed.within, c.body.ensures.bound, ap length c.body.ensures.body, c.head_len.ensures)

pub returns-clause-returned : goal.returns-clause-returned
returns-clause-returned g c =
    let s = c.args.payload.now in
    let e = entry_of_ref c.in-Some.entry in
    let key_at = s.start + c.in-Some.at + c.head_len.result in
    let part : slice_range c.body.result.now s.start s.end ≡ slice_range (body_of c.args.self.now) s.start s.end = ap (λ (b : List ℕ). slice_range b s.start s.end) c.body.ensures.body in
    let first : c.in_ok-first.first ≡ Some (c.in-Some.at, c.in-Some.entry) = search rules in
    let some = sym c.in_ok-first.ensures.found ∙ ap (option_map (λ (x : ℕ × EntryRef). entry_of_ref x.1)) first in
    let same = keys_same c.in-Some.entry.user_key.now c.args.key.now c.ne.result c.ne.ensures c.if-ne.false in
    let place = rw first at c.in_ok-first.ensures.place in
    let is : key_at ≡ s.start + c.in-Some.at + (13 + key_width s.header.version) = omega (arith, c.head_len.ensures) in
    let shares = shares_there s.header.version c.args.self.now s.start s.end c.in-Some.at key_at e c.requires.placed.headed.ordered c.requires.placed.headed.within is (rw c.body.ensures.body at place) in
    ap (λ (x : Entry). Ok (Some x)) (placed_is c.args.self.now key_at e c.of.result c.of.ensures shares.key shares.value)
    ∙ sym (entries_results s.header.version s.header.checksum _ _ part c.requires.valid.sum c.args.key.now c.args.seqno _ c.in_ok-first.ensures.whole (found_hit _ c.args.key.now c.args.seqno e some same))

pub returns-clause-placed : goal.returns-clause-placed
returns-clause-placed g c =
    let s = c.args.payload.now in
    let e = entry_of_ref c.in-Some.entry in
    let key_at = s.start + c.in-Some.at + c.head_len.result in
    let first : c.in_ok-first.first ≡ Some (c.in-Some.at, c.in-Some.entry) = search rules in
    let place = rw first at c.in_ok-first.ensures.place in
    let is : key_at ≡ s.start + c.in-Some.at + (13 + key_width s.header.version) = omega (arith, c.head_len.ensures) in
    let shares = shares_there s.header.version c.args.self.now s.start s.end c.in-Some.at key_at e c.requires.placed.headed.ordered c.requires.placed.headed.within is (rw c.body.ensures.body at place) in
    lies_within c.args.self.now key_at e c.of.result c.of.ensures (omega (arith, shares.within, c.requires.placed.headed.within, body_within c.args.self.now))
