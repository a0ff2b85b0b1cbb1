use Rattle.std.proofs.Common.{◌≡◌, ◌∙◌, ℕ, subst, sym}
use Rattle.sst_blocks.specs.Fnv.{fnv1a}
use Rattle.lsm_readers.specs.Verify.{other_checksum}
use Rattle.sst_c.specs.Verify.{VerifiesTableWith}
use Rattle.sst_c.proofs.Verifying.{came_ok, found_result, verifies_table}
use Rattle.sst_c.proofs.verify.verify_with.Goals as goal

pub returns : goal.returns
returns c =
    let is = c.verify_with.ensures in
    let t = c.args.table.now in
    let r = c.verify_with.result in
    let given = c.from.result in
    let code = c.tell.result in
    let returned = c.tell.new.returned in
    let one = c.tell.ensures.code in
    let two = c.tell.ensures.returned in
    subst (λ (n : ℕ). VerifiesTableWith t n code returned) c.from.ensures (record {
      other = λ differs. let told = found_result r other_checksum (is.other differs) in (one ∙ told.0, two ∙ told.1);
      same = λ zero. came_ok r (fnv1a t.bytes ≡ given) is.same (sym one ∙ zero);
      verifies = λ same. verifies_table t r code returned one two (is.returned same) (is.early same) (is.first same)
          is.sound (is.complete same);
    })
