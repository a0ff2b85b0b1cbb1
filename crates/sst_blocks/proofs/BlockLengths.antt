-- How long a block is.
use Rattle.std.proofs.Common.{◌≡◌, ℕ, ◌+◌, List, [], ◌∷◌, ◌++◌, length, refl, length-append, arith}
use Rattle.sst_blocks.specs.declared.version.TableVersion.{TableVersion}
use Rattle.sst_blocks.specs.declared.version.TableVersion.TheVariants.{V3, V4}
use Rattle.sst_blocks.specs.Fnv.{fnv1a}
use Rattle.sst_blocks.specs.Number.{le4, le8}
use Rattle.sst_blocks.specs.Version.{mark}
use Rattle.sst_blocks.proofs.Numbers.{wide4, wide8}
use Rattle.sst_blocks.specs.declared.block_type.BlockType.{BlockType}
use Rattle.sst_blocks.specs.Block.{block_bytes, kind_tag}

length-mark : (v : TableVersion) → length (mark v) ≡ 4
length-mark V3 = refl
length-mark V4 = refl

-- a block is its header and its payload
pub length-block : (v : TableVersion) (kind : BlockType) (bytes : List ℕ)
    → length (block_bytes v kind bytes) ≡ 24 + length bytes
length-block v kind bytes =
    let n = length bytes in
    let fixed = kind_tag kind ∷ 0 ∷ 0 ∷ 0 ∷ [] in
    omega (
      arith,
      length-mark v,
      wide4.len n,
      wide8.len (fnv1a bytes),
      length-append (mark v) fixed,
      length-append (mark v ++ fixed) (le4 n),
      length-append ((mark v ++ fixed) ++ le4 n) (le4 n),
      length-append (((mark v ++ fixed) ++ le4 n) ++ le4 n) (le8 (fnv1a bytes)),
      length-append ((((mark v ++ fixed) ++ le4 n) ++ le4 n) ++ le8 (fnv1a bytes)) bytes,
    )
