use Rattle.std.proofs.Common.{◌≡◌, ℕ, ◌+◌, ◌≤◌, List, length, slice_range, refl, sym, ap, subst, Some, None, ◌∙◌}
use Rattle.std.specs.Prelude.{Ok}
use Rattle.std.specs.Option.{option_map}
use Rattle.std.proofs.lemmas.Result.{err_from_is_err_and}
use Rattle.sst_blocks.specs.Sections.{body_of}
use Rattle.sst_blocks.specs.Version.{key_width}
use Rattle.sst_blocks.specs.Place.{Place, place_of}
use Rattle.sst_blocks.specs.SeenHandle.{handle_of_ref}
use Rattle.sst_blocks.proofs.Asked.{handles_result, handles_wrong}
use Rattle.sst_blocks.proofs.Room.{room_long}
use Rattle.sst_blocks.proofs.source.BlockSource.handle_in.Goals as goal

pub find_handle-requires-clause-long : goal.find_handle-requires-clause-long
find_handle-requires-clause-long g c =
    let s = c.args.payload.now in
    let part : slice_range c.body.result.now s.start s.end ≡ slice_range (body_of c.args.self.now) s.start s.end = ap (λ (b : List ℕ). slice_range b s.start s.end) c.body.ensures.body in
    subst (λ (p : List ℕ). 4 ≤ length p) (sym part) (room_long (20 + key_width s.header.version) _ c.requires.valid.room)

pub returns-in_err-first : goal.returns-in_err-first
returns-in_err-first g c =
    let s = c.args.payload.now in
    let part : slice_range c.body.result.now s.start s.end ≡ slice_range (body_of c.args.self.now) s.start s.end = ap (λ (b : List ℕ). slice_range b s.start s.end) c.body.ensures.body in
    let p = err_from_is_err_and c.from_residual.result c.from_residual.ensures.1 in
    let fault = c.in_err-first.ensures.fault in
    rw (p.1, p.2, fault.0) (record { returned = sym (handles_wrong s.header.version s.header.checksum _ _ part c.requires.valid.sum c.args.key.now c.args.seqno fault.1) })

pub returns-in-Some : goal.returns-in-Some
returns-in-Some g c =
    let s = c.args.payload.now in
    let part : slice_range c.body.result.now s.start s.end ≡ slice_range (body_of c.args.self.now) s.start s.end = ap (λ (b : List ℕ). slice_range b s.start s.end) c.body.ensures.body in
    let found = sym (ap (option_map handle_of_ref) c.in-Some.is) ∙ c.in_ok-first.ensures.found in
    let place : c.new.result ≡ place_of (handle_of_ref c.in-Some.found) = rw (c.new.ensures.offset, c.new.ensures.size) refl in
    record { returned = ap (λ (p : Place). Ok (Some p)) place ∙ handles_result s.header.version s.header.checksum _ _ part c.requires.valid.sum c.args.key.now c.args.seqno (Some (handle_of_ref c.in-Some.found)) c.in_ok-first.ensures.whole found }

pub returns-in-None : goal.returns-in-None
returns-in-None g c =
    let s = c.args.payload.now in
    let part : slice_range c.body.result.now s.start s.end ≡ slice_range (body_of c.args.self.now) s.start s.end = ap (λ (b : List ℕ). slice_range b s.start s.end) c.body.ensures.body in
    let found = sym (ap (option_map handle_of_ref) c.in-None.is) ∙ c.in_ok-first.ensures.found in
    record { returned = handles_result s.header.version s.header.checksum _ _ part c.requires.valid.sum c.args.key.now c.args.seqno None c.in_ok-first.ensures.whole found }
