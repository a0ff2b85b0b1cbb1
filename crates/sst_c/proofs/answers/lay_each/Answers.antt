use Rattle.std.proofs.Common.{◌≡◌, ◌<◌, ℕ, List, arith, length, get_or, refl, subst, sym, ◌∙◌}
use Rattle.std.proofs.lemmas.List.{get_or-drop, length-drop}
use Rattle.std.proofs.lemmas.Option.{get_or_from_slice_get}
use Rattle.std.specs.Prelude.{drop}
use Rattle.std.specs.Option.{option_map}
use Rattle.sst_entries.specs.Lending.{entry_of_ref}
use Rattle.sst_c.specs.Takes.{CopiesMany}
use Rattle.sst_c.proofs.LaidFound.{laid_more, laid_short}
use Rattle.sst_c.proofs.answers.lay_each.Goals as goal

pub returns-then-not-lay_found : goal.returns-then-not-lay_found
returns-then-not-lay_found c =
    let found = c.args.found.now in
    let first = c.args.first in
    let xs = drop first found in
    let x = option_map entry_of_ref c.entry.result in
    let l = c.loop-place in
    let inside : l.place < length xs = omega (arith, c.loop-place-test.true, c.len.ensures, length-drop first found) in
    let is : get_or xs l.place x ≡ x = get_or-drop first found l.place x ∙ get_or_from_slice_get found _ x x c.entry.ensures in
    let short = laid_short xs c.args.bytes.now l.place x inside is l.at l.bytes l.invariant.copies l.invariant.filled l.invariant.same c.if-not-lay_found.ensures.fits in
    subst (λ (copied : List ℕ). CopiesMany xs c.args.bytes.now copied l.place) (sym (c.if-not-lay_found.ensures.left refl).0) short

pub loop-place-preserved : goal.loop-place-preserved
loop-place-preserved c =
    let found = c.args.found.now in
    let first = c.args.first in
    let xs = drop first found in
    let x = option_map entry_of_ref c.entry.result in
    let l = c.loop-place in
    let inside : l.place < length xs = omega (arith, c.loop-place-test.true, c.len.ensures, length-drop first found) in
    let is : get_or xs l.place x ≡ x = get_or-drop first found l.place x ∙ get_or_from_slice_get found _ x x c.entry.ensures in
    let laid = laid_more xs c.args.bytes.now l.place x inside is l.at l.bytes l.invariant.copies l.invariant.filled c.lay_found.new.room c.lay_found.new.at
    (c.if-not-lay_found.ensures.laid refl) (c.if-not-lay_found.ensures.behind refl) in
    record {
      copies = laid.0;
      filled = laid.1;
      room = c.lay_found.ensures.within;
      same = c.lay_found.auto.room ∙ l.invariant.same;
    }
