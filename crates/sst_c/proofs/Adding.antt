-- Entries that are written one after another. Assumes `Logic`.
use Rattle.std.proofs.Common.{◌≡◌, ◌≢◌, ℕ, zero, suc, ◌+◌, ◌-◌, ◌<◌, ◌≤◌, List, [], ◌∷◌, ◌++◌, length, refl, sym, ap, ◌∙◌, arith, inl, inr, subst}
use Rattle.std.specs.Prelude.{map, take, drop, slice_index_or}
use Rattle.std.specs.List.{sum}
use Rattle.std.proofs.Math.Seq.{drop-length, take-length}
use Rattle.std.proofs.lemmas.List.{drop_more, drop-drop}
use Rattle.std.proofs.lemmas.List.Sums.{sum_by-cons}
use Rattle.sst_c.specs.Adds.{AddsOne, AddsAll, AddsMany, Row, row, rows_of_reports, reported_size}
use Rattle.sst_c.specs.declared.entries.EntryReport.{EntryReport}
use Rattle.lsm_writers.specs.Writing.{Writing}

take_next : {X : Type 0} (i : ℕ) (xs rest : List X) (x : X) → drop i xs ≡ x ∷ rest
    → take (suc i) xs ≡ take i xs ++ x ∷ []
take_next zero [] rest x same = absurd (let no : ⊥ = cc in no)
take_next zero (y ∷ ys) rest x same = let one : y ≡ x = cc in ap (λ z. z ∷ []) one
take_next (suc i) [] rest x same = absurd (let no : ⊥ = cc in no)
take_next (suc i) (y ∷ ys) rest x same = ap (λ l. y ∷ l) (take_next i ys rest x same)

pub rows_length : (ts : List EntryReport) (bytes : List ℕ) → length (rows_of_reports ts bytes) ≡ length ts
rows_length [] bytes = refl
rows_length (t ∷ ts) bytes = ap suc (rows_length ts (drop (reported_size t) bytes))

-- the row at a place, as a loop cuts it
abbrev pub cut_row : EntryReport → List ℕ → ℕ → Row
cut_row t bytes at = row t (take (at + t.key_len - at) (drop at bytes))
    (take (at + t.key_len + t.value_len - (at + t.key_len)) (drop (at + t.key_len) bytes))

cut : (t : EntryReport) (bytes : List ℕ) (at : ℕ) → cut_row t bytes at
    ≡ row t (take t.key_len (drop at bytes)) (take t.value_len (drop t.key_len (drop at bytes)))
cut t bytes at =
    let key : at + t.key_len - at ≡ t.key_len = omega arith in
    let value : at + t.key_len + t.value_len - (at + t.key_len) ≡ t.value_len = omega arith in
    ap (λ n. row t (take n (drop at bytes)) (take (at + t.key_len + t.value_len - (at + t.key_len)) (drop (at + t.key_len) bytes))) key
    ∙ ap (λ n. row t (take t.key_len (drop at bytes)) (take n (drop (at + t.key_len) bytes))) value
    ∙ ap (λ l. row t (take t.key_len (drop at bytes)) (take t.value_len l)) (sym (drop-drop t.key_len at bytes))

pub next_row : (ts : List EntryReport) (bytes : List ℕ) (i at : ℕ) (d : EntryReport)
    → drop i (rows_of_reports ts bytes) ≡ rows_of_reports (drop i ts) (drop at bytes) → i < length ts
    → let t = slice_index_or ts i d in
    drop i (rows_of_reports ts bytes) ≡ cut_row t bytes at
    ∷ rows_of_reports (drop (i + 1) ts) (drop (at + t.key_len + t.value_len) bytes)
next_row ts bytes i at d rest within =
    let t = slice_index_or ts i d in
    let end : at + reported_size t ≡ at + t.key_len + t.value_len = omega arith in
    rest
    ∙ ap (λ l. rows_of_reports l (drop at bytes)) (drop_more ts i d within)
    ∙ ap (λ r. r ∷ rows_of_reports (drop (i + 1) ts) (drop (reported_size t) (drop at bytes))) (sym (cut t bytes at))
    ∙ ap (λ l. cut_row t bytes at ∷ rows_of_reports (drop (i + 1) ts) l) (drop-drop (reported_size t) at bytes)
    ∙ ap (λ n. cut_row t bytes at ∷ rows_of_reports (drop (i + 1) ts) (drop n bytes)) end

pub adds_next : (w u v : Writing) (rows rest : List Row) (i : ℕ) (r : Row) → AddsAll w (take i rows) u
    → drop i rows ≡ r ∷ rest → AddsOne u r 0 v → AddsAll w (take (i + 1) rows) v
adds_next w u v rows rest i r added same step =
    let one : suc i ≡ i + 1 = omega arith in
    subst (λ (n : ℕ). AddsAll w (take n rows) v) one
    (subst (λ (l : List Row). AddsAll w l v) (sym (take_next i rows rest r same))
    (adds_one w u v (take i rows) r added step))
  where
    adds_one : (w u v : Writing) (rows : List Row) (r : Row) → AddsAll w rows u → AddsOne u r 0 v
        → AddsAll w (rows ++ r ∷ []) v
    adds_one w u v [] r same step = (v, subst (λ (x : Writing). AddsOne x r 0 v) (sym same) step, refl)
    adds_one w u v (s ∷ ss) r more step = (more.0, more.1, adds_one more.0 u v ss r more.2 step)

pub rest_next : (rows rest : List Row) (i : ℕ) (r : Row) → drop i rows ≡ r ∷ rest → drop (i + 1) rows ≡ rest
rest_next rows rest i r same = sym (drop-drop 1 i rows) ∙ ap (drop 1) same

pub adds_stopped : (w u v : Writing) (rows rest : List Row) (i code : ℕ) (r : Row) → AddsAll w (take i rows) u
    → drop i rows ≡ r ∷ rest → AddsOne u r code v → code ≢ 0 → AddsMany w rows i code v
adds_stopped w u v rows rest i code r added same step fails = record {
  last = u;
  added = added;
  ends = inr (r, rest, same, step, fails);
}

pub adds_all : (w v : Writing) (rows : List Row) (i : ℕ) → AddsAll w (take i rows) v → i ≡ length rows
    → AddsMany w rows i 0 v
adds_all w v rows i added full = record { last = v; added = added; ends = inl (full, refl, refl) }

pub bytes_next : (ts : List EntryReport) (i at len : ℕ) (d : EntryReport) → at + sum (map reported_size (drop i ts)) ≡ len
    → i < length ts
    → at + (slice_index_or ts i d).key_len + (slice_index_or ts i d).value_len + sum (map reported_size (drop (i + 1) ts)) ≡ len
bytes_next ts i at len d same within =
    let t = slice_index_or ts i d in
    let more : sum (map reported_size (drop i ts)) ≡ t.key_len + t.value_len + sum (map reported_size (drop (i + 1) ts)) =
    ap (λ (l : List EntryReport). sum (map reported_size l)) (drop_more ts i d within)
    ∙ sum_by-cons (λ (x : ℕ). x) (reported_size t) (map reported_size (drop (i + 1) ts)) in
    omega arith
