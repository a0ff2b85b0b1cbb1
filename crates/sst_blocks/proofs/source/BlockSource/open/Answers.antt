use Rattle.std.proofs.Common.{◌≡◌, ℕ, List, true, slice_range, sym, ap, subst, ◌∙◌}
use Rattle.std.specs.Prelude.{Result, Ok}
use Rattle.sst_blocks.specs.Block.{Loaded, has_room, in_grammar, loaded, grammar_fault}
use Rattle.sst_entries.specs.declared.error.Error.{Error}
use Rattle.sst_entries.specs.Error.{Gives, unless}
use Rattle.sst_blocks.specs.Sections.{body_of}
use Rattle.sst_blocks.proofs.LoadLemmas.{checksum_right}
use Rattle.sst_blocks.proofs.MarkLemmas.{body_part}
use Rattle.sst_blocks.proofs.source.BlockSource.open.Goals as goal

pub open-requires-clause-room : goal.open-requires-clause-room
open-requires-clause-room g c =
    let bytes : List ℕ = c.args.self.now in
    let part = body_part bytes c.args.payload.now.start c.args.payload.now.end c.requires.placed.headed.within in
    let cut : c.in_ok-bytes.bytes ≡ slice_range bytes c.args.payload.now.start c.args.payload.now.end =
    ◌∙◌ {b = slice_range c.self.inside.bytes c.args.payload.now.start c.args.payload.now.end} c.in_ok-bytes.ensures.ok (ap (λ (xs : List ℕ). slice_range xs c.args.payload.now.start c.args.payload.now.end) c.self.view_is) in
    subst (λ (p : List ℕ). has_room c.args.payload.now.header.version c.args.kind p ≡ true) (sym (cut ∙ sym part)) c.requires.valid.room

pub open-requires-clause-tested : goal.open-requires-clause-tested
open-requires-clause-tested g c = λ tested.
    let bytes : List ℕ = c.args.self.now in
    let payload : List ℕ = slice_range (body_of bytes) c.args.payload.now.start c.args.payload.now.end in
    let part = body_part bytes c.args.payload.now.start c.args.payload.now.end c.requires.placed.headed.within in
    let cut : c.in_ok-bytes.bytes ≡ slice_range bytes c.args.payload.now.start c.args.payload.now.end =
    ◌∙◌ {b = slice_range c.self.inside.bytes c.args.payload.now.start c.args.payload.now.end} c.in_ok-bytes.ensures.ok (ap (λ (xs : List ℕ). slice_range xs c.args.payload.now.start c.args.payload.now.end) c.self.view_is) in
    subst (λ (p : List ℕ). in_grammar c.args.payload.now.header.version c.args.kind p ≡ true) (sym (cut ∙ sym part)) (c.requires.valid.verified tested)

pub returns : goal.returns
returns g c =
    let bytes : List ℕ = c.args.self.now in
    let payload : List ℕ = slice_range (body_of bytes) c.args.payload.now.start c.args.payload.now.end in
    let part = body_part bytes c.args.payload.now.start c.args.payload.now.end c.requires.placed.headed.within in
    let cut : c.in_ok-bytes.bytes ≡ slice_range bytes c.args.payload.now.start c.args.payload.now.end =
    ◌∙◌ {b = slice_range c.self.inside.bytes c.args.payload.now.start c.args.payload.now.end} c.in_ok-bytes.ensures.ok (ap (λ (xs : List ℕ). slice_range xs c.args.payload.now.start c.args.payload.now.end) c.self.view_is) in
    let right = checksum_right c.args.payload.now.header.version c.args.payload.now.header.checksum c.args.kind payload c.requires.valid.sum in
    let returned = ap (λ (p : List ℕ). unless (grammar_fault c.args.payload.now.header.version c.args.kind p) (Ok (loaded c.args.payload.now.header.version c.args.kind p))) (cut ∙ sym part) ∙ sym right in
    record { returned = subst (λ (r : Result Loaded Error). Gives {X = Loaded} {Y = Loaded} (λ b. b) c.open.result r) returned c.open.ensures }
