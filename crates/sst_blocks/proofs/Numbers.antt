-- Numbers of 2, 4 and 8 bytes, read and written.
use Rattle.std.proofs.Common.{◌≡◌, ℕ, ◌+◌, ◌^◌, ◌<◌, ◌≤◌, List, ◌++◌, length, take, drop}
use Rattle.std.proofs.Common.{refl, sym, ap, ◌∙◌, arith}
use Rattle.std.specs.Int.{w16, w32, w64, from_le_bytes}
use Rattle.std.proofs.lemmas.List.{take-append-drop, length-take}
use Rattle.std.proofs.lemmas.Nat.{le_bytes_2, le_bytes_4, le_bytes_8}
use Rattle.byteorder.specs.Endian.{little_from}
use Rattle.byteorder.specs.Numbers.{little_number-reads_back, little_from-lt, little_from-take}
use Rattle.sst_blocks.specs.declared.version.TableVersion.{TableVersion}
use Rattle.sst_blocks.specs.declared.version.TableVersion.TheVariants.{V3, V4}
use Rattle.sst_blocks.specs.Version.{key_width, key_limit, key_len_bytes, key_len_at}
use Rattle.sst_blocks.specs.Number.{le2, le4, le8, num2, num4, num8}
use Rattle.sst_entries.proofs.Bytes.{IsBytes, IsBytes-take}

-- numbers of w bytes, which are below limit
pub record IsWide (w : ℕ) (num : List ℕ → ℕ) (le : ℕ → List ℕ) (limit : ℕ) : Type 0 where
  pub len : (n : ℕ) → length (le n) ≡ w
  pub front : (bytes : List ℕ) → w ≤ length bytes → IsBytes bytes
      → bytes ≡ le (num bytes) ++ drop w bytes
  pub again : (n : ℕ) (rest : List ℕ) → n < limit → num (le n ++ rest) ≡ n
  pub below : (bytes : List ℕ) → IsBytes bytes → num bytes < limit

same2 : (xs : List ℕ) → little_from 0 2 xs ≡ from_le_bytes w16 xs
same2 xs = omega arith

same4 : (xs : List ℕ) → little_from 0 4 xs ≡ from_le_bytes w32 xs
same4 xs = omega arith

same8 : (xs : List ℕ) → little_from 0 8 xs ≡ from_le_bytes w64 xs
same8 xs = omega arith

pub wide2 : IsWide 2 num2 le2 (2 ^ 16)
unfolding num2 le2
wide2 = record {
  len = λ n. refl;
  front = λ bytes long fits.
      let first = le_bytes_2 (take 2 bytes) (little_from 0 2 bytes)
      (omega (arith, length-take 2 bytes)) (IsBytes-take 2 bytes fits)
      (sym (little_from-take 0 2 2 bytes (omega arith)) ∙ same2 (take 2 bytes)) in
      sym (take-append-drop 2 bytes) ∙ ap (λ (x : List ℕ). x ++ drop 2 bytes) (sym first);
  again = λ n rest lt. little_number-reads_back 2 n rest lt;
  below = λ bytes fits. little_from-lt 0 2 bytes fits;
}

pub wide4 : IsWide 4 num4 le4 (2 ^ 32)
unfolding num4 le4
wide4 = record {
  len = λ n. refl;
  front = λ bytes long fits.
      let first = le_bytes_4 (take 4 bytes) (little_from 0 4 bytes)
      (omega (arith, length-take 4 bytes)) (IsBytes-take 4 bytes fits)
      (sym (little_from-take 0 4 4 bytes (omega arith)) ∙ same4 (take 4 bytes)) in
      sym (take-append-drop 4 bytes) ∙ ap (λ (x : List ℕ). x ++ drop 4 bytes) (sym first);
  again = λ n rest lt. little_number-reads_back 4 n rest lt;
  below = λ bytes fits. little_from-lt 0 4 bytes fits;
}

pub wide8 : IsWide 8 num8 le8 (2 ^ 64)
unfolding num8 le8
wide8 = record {
  len = λ n. refl;
  front = λ bytes long fits.
      let first = le_bytes_8 (take 8 bytes) (little_from 0 8 bytes)
      (omega (arith, length-take 8 bytes)) (IsBytes-take 8 bytes fits)
      (sym (little_from-take 0 8 8 bytes (omega arith)) ∙ same8 (take 8 bytes)) in
      sym (take-append-drop 8 bytes) ∙ ap (λ (x : List ℕ). x ++ drop 8 bytes) (sym first);
  again = λ n rest lt. little_number-reads_back 8 n rest lt;
  below = λ bytes fits. little_from-lt 0 8 bytes fits;
}

-- key lengths, in either version
pub key_wide : (v : TableVersion)
    → IsWide (key_width v) (key_len_at v) (key_len_bytes v) (key_limit v)
key_wide V3 = wide2
key_wide V4 = wide4
