-- Bulk reads: entries read one after another and copied back to back.
use Rattle.std.specs.Prelude.{◌≡◌, ℕ, ◌+◌, ◌<◌, ◌≤◌, ◌⊎◌, List, [], ◌∷◌, ◌++◌, length, map}
use Rattle.std.specs.Prelude.{Option, Some, None, take, drop}
use Rattle.std.specs.List.{flat_map}
use Rattle.sst_entries.specs.Entry.{Entry}
use Rattle.sst_c.specs.Copies.{laid_over}
use Rattle.sst_c.specs.Reported.{entry_facts}
use Rattle.sst_c.specs.What.{many_in}
use Rattle.sst_c.specs.declared.entries.EntryReport.{EntryReport}
use Rattle.sst_c.specs.declared.held.What.{What}

-- the bytes of an entry: its key, then its value
abbrev pub bytes_of : Entry → List ℕ
bytes_of e = e.user_key ++ e.value

-- the bytes of entries, back to back
abbrev pub bytes_of_all : List Entry → List ℕ
bytes_of_all es = flat_map bytes_of es

-- the reports of entries
abbrev pub facts_of_all : List Entry → List EntryReport
facts_of_all es = map (λ e. entry_facts (Some e)) es

-- reads from s to t find these entries, one after another
abbrev pub Yields : {S : Type 0} → (S → ℕ → Option Entry → S → Type 0) → S → List Entry → S
    → Type 0
Yields {S} read s [] t = s ≡ t
Yields {S} read s (e ∷ es) t = (j : S) × read s 0 (Some e) j × Yields read j es t

-- the end of a bulk read of these entries: all reports are filled, or one more read fails, finds no
-- entry, or finds one that does not fit
abbrev pub EndsWith : {S : Type 0} → (S → ℕ → Option Entry → S → Type 0) → ℕ → ℕ → List Entry → S
    → ℕ → Option Entry → S → Type 0
EndsWith read places room es s code found t =
    ((length es ≡ places) × (code ≡ 0) × (found ≡ None) × (s ≡ t))
    ⊎ ((length es < places) × read s code found t
    × ((e : Entry) → found ≡ Some e → room < length (bytes_of_all es) + length (bytes_of e)))

-- a bulk read from s to t, with its code and an entry that was found and not copied. Each entry
-- before the end is reported and copied
pub record ReadsMany {S : Type 0} (read : S → ℕ → Option Entry → S → Type 0) (s : S)
    (places returned : List EntryReport) (room copied : List ℕ) (count code : ℕ) (found : Option Entry)
    (t : S) : Type 0 where
  pub entries : List Entry
  pub last : S
  pub yields : Yields read s entries last
  pub ends : EndsWith read (length places) (length room) entries last code found t
  pub counts : count ≡ length entries
  pub states : returned ≡ laid_over (facts_of_all entries) places
  pub copies : copied ≡ laid_over (bytes_of_all entries) room

-- the bytes of the entry found, or none
abbrev pub bytes_found : Option Entry → List ℕ
bytes_found None = []
bytes_found (Some e) = bytes_of e

-- the bytes of the first `count` results are copied back to back. These are all, or those before
-- the first that does not fit
pub record CopiesMany (found : List (Option Entry)) (room copied : List ℕ) (count : ℕ) : Type 0 where
  pub copies : copied ≡ laid_over (flat_map bytes_found (take count found)) room
  pub ends : (count ≡ length found)
      ⊎ ((x : Option Entry) × (rest : List (Option Entry)) × (drop count found ≡ x ∷ rest)
      × (length room < length (flat_map bytes_found (take count found)) + length (bytes_found x)))

-- the held results from an index on are copied, as many as fit. The code is 105 if there are fewer
-- results
pub record TakesMany (w : What) (first : ℕ) (room copied : List ℕ) (count code : ℕ) : Type 0 where
  pub past : (found : List (Option Entry)) → many_in w ≡ Some found → length found < first
      → code ≡ 105
  pub copies : (found : List (Option Entry)) → many_in w ≡ Some found → first ≤ length found
      → (code ≡ 0) × CopiesMany (drop first found) room copied count
