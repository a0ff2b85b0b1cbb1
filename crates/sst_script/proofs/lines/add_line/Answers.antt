use Rattle.std.proofs.Common.{◌≡◌, ◌∙◌, ◌++◌, ◌∷◌, []}
use Rattle.std.specs.Fmt.{decimal}
use Rattle.sst_entries.specs.Lending.{entry_of_ref}
use Rattle.sst_script.specs.Text.{letter_of, printed}
use Rattle.sst_script.proofs.LineLemmas.{line_is}
use Rattle.sst_script.proofs.lines.add_line.Goals as goal

pub returns-clause-line : goal.returns-clause-line
returns-clause-line g c =
    let e = entry_of_ref c.args.entry.now in
    let before = c.args.text.now.items in
    let key = c.printed.result.now in
    let number = c.as_bytes.result.now in
    let letter = c.letter_of.result in
    let value = c.printed-2.result.now in
    let number_is : number ≡ decimal e.seqno = c.as_bytes.ensures.value ∙ c.format.ensures.text in
    let t1 = c.extend_from_slice.new.self.items in
    let t2 = c.extend_from_slice-2.new.self.items in
    let t3 = c.extend_from_slice-3.new.self.items in
    let t4 = c.extend_from_slice-4.new.self.items in
    let t5 = c.extend_from_slice-5.new.self.items in
    let t6 = c.extend_from_slice-6.new.self.items in
    let e1 : t1 ≡ before ++ key = c.in_ok-extend_from_slice.ensures.items in
    let e2 : t2 ≡ t1 ++ 32 ∷ [] = c.in_ok-extend_from_slice-2.ensures.items in
    let e3 : t3 ≡ t2 ++ number = c.in_ok-extend_from_slice-3.ensures.items in
    let e4 : t4 ≡ t3 ++ 32 ∷ letter ∷ 32 ∷ [] = c.in_ok-extend_from_slice-4.ensures.items in
    let e5 : t5 ≡ t4 ++ value = c.in_ok-extend_from_slice-5.ensures.items in
    let e6 : t6 ≡ t5 ++ 10 ∷ [] = c.in_ok-extend_from_slice-6.ensures.items in
    rw (e6, e5, e4, e3, e2, e1)
    (line_is e before key number value letter c.printed.ensures number_is c.letter_of.ensures c.printed-2.ensures)
