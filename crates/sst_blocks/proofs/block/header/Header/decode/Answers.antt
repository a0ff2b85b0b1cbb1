use Rattle.std.proofs.Common.{◌≡◌, ℕ, ◌||◌, ◌==◌, ◌&&◌, not, if◌then◌else◌, Option, refl, ap, sym, ◌∙◌}
use Rattle.std.specs.Prelude.{None, Some, is_none, unwrap_or}
use Rattle.std.proofs.lemmas.Bool.{eq-eqb}
use Rattle.std.proofs.lemmas.List.{take_rest}
use Rattle.sst_blocks.specs.declared.version.TableVersion.{TableVersion}
use Rattle.sst_blocks.specs.declared.version.TableVersion.TheVariants.{V4}
use Rattle.sst_entries.specs.declared.error.Error.{Error}
use Rattle.sst_blocks.specs.Number.{num4, num8}
use Rattle.sst_blocks.proofs.block.header.Header.decode.Goals as goal

-- a header that passes every test has no fault
no_fault : (marked : Option TableVersion) (version : TableVersion) (sixth seventh fourth fifth tag : ℕ) (a b d : Error) → marked ≡ Some version → sixth ≡ 0 → seventh ≡ 0 → fourth ≡ tag → fifth ≡ 0
    → (if is_none marked || not (sixth == 0 && seventh == 0) then Some a else (if not (fourth == tag) then Some b else (if not (fifth == 0) then Some d else None))) ≡ None
no_fault marked version sixth seventh fourth fifth tag a b d is e6 e7 e4 e5 = rw (is, e6, e7, e5, eq-eqb fourth tag e4) refl

pub returns : goal.returns
returns c =
    let bytes = c.args.bytes.now in
    let marked = sym c.from_mark.ensures ∙ c.in-Some.is in
    record {
      fault = no_fault _ _ _ _ _ _ _ _ _ _ marked c.if-bytes-ne0.false c.if-bytes-ne0-2.false (c.if-bytes-tag.false ∙ c.tag.ensures) c.if-bytes-ne0-3.false;
      version = ap (λ (version : Option TableVersion). unwrap_or version V4) (sym marked);
      data_len = c.u32_at.ensures ∙ ap num4 (take_rest bytes 8);
      uncompressed_len = c.u32_at-2.ensures ∙ ap num4 (take_rest bytes 12);
      checksum = c.u64_at.ensures ∙ ap num8 (take_rest bytes 16);
    }
