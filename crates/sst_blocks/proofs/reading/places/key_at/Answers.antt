use Rattle.std.proofs.Common.{◌≤◌, ℕ, List, length, refl, rules, arith, ap, sym, ◌∙◌}
use Rattle.std.specs.Option.{option_map}
use Rattle.std.proofs.lemmas.List.{take_rest}
use Rattle.std.proofs.lemmas.Option.{none-some}
use Rattle.sst_blocks.specs.Reading.{key_and_number}
use Rattle.sst_blocks.proofs.Items.{holds}
use Rattle.sst_blocks.proofs.reading.places.key_at.Goals as goal

pub slice_bounds-read_key-count : goal.slice_bounds-read_key-count
slice_bounds-read_key-count g c =
    let h = holds (g.R.ItemRef.format c.args.version) c.is_format.ensures.advances _ _ c.args.index c.at-start.result c.requires.spelled c.requires.within c.at-start.ensures.found in
    omega (arith, h.here.within)

pub slice_bounds-read_key-start : goal.slice_bounds-read_key-start
slice_bounds-read_key-start g c =
    let h = holds (g.R.ItemRef.format c.args.version) c.is_format.ensures.advances _ _ c.args.index c.at-start.result c.requires.spelled c.requires.within c.at-start.ensures.found in
    let le : c.at-start.result ≤ length c.args.payload.now = omega (arith, h.here.within) in
    search rules

pub read_key-requires : goal.read_key-requires
read_key-requires g c κs =
    let f = g.R.ItemRef.format c.args.version in
    let h = holds f c.is_format.ensures.advances _ _ c.args.index c.at-start.result c.requires.spelled c.requires.within c.at-start.ensures.found in
    ((refl, tt), λ none. none-some _ (sym none ∙ ap f.read (take_rest c.args.payload.now c.at-start.result) ∙ h.here.found))

pub returns : goal.returns
returns g c =
    let f = g.R.ItemRef.format c.args.version in
    let h = holds f c.is_format.ensures.advances _ _ c.args.index c.at-start.result c.requires.spelled c.requires.within c.at-start.ensures.found in
    let key = λ (x : g.R.ItemRef.Reported). key_and_number (f.key x) in
    let read = λ (bytes : List ℕ). option_map (λ (x : g.R.ItemRef.Reported × List ℕ). key x.0) (f.read bytes) in
    ap (option_map key) h.there ∙ sym (ap read (take_rest c.args.payload.now c.at-start.result) ∙ ap (option_map (λ (x : g.R.ItemRef.Reported × List ℕ). key x.0)) h.here.found) ∙ c.read_key.ensures
