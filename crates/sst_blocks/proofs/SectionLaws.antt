-- The bytes of a finished writer read back as its sections.
use Rattle.std.proofs.Common.{◌≡◌, ℕ, zero, suc, ◌+◌, ◌*◌, ◌-◌, ◌^◌, ◌<◌, ◌≤◌, ◌==◌, not, nat_eq}
use Rattle.std.proofs.Common.{Bool, true, false, if◌then◌else◌, List, [], ◌∷◌, ◌++◌, length, get_or}
use Rattle.std.proofs.Common.{take, drop, map, replicate, refl, sym, ap, ◌∙◌, arith, append_assoc}
use Rattle.std.proofs.Common.{length-append}
use Rattle.std.specs.Prelude.{Option, Some, None}
use Rattle.std.specs.List.{flat_map, list_any}
use Rattle.std.specs.Cmp.Lexicographic.{pointwise}
use Rattle.std.proofs.lemmas.List.{take_at, drop_at, append-nil}
use Rattle.std.proofs.Math.Seq.{drop-append-add}
use Rattle.std.proofs.lemmas.Bool.{eqb-true, and_parts}
use Rattle.sst_blocks.specs.declared.section.SectionName.{SectionName}
use Rattle.sst_blocks.specs.declared.section.SectionName.TheVariants.{Data, Index, Tli, Filter}
use Rattle.sst_blocks.specs.declared.section.SectionName.TheVariants.{FilterTli, TableVersion}
use Rattle.sst_blocks.specs.declared.section.SectionName.TheVariants.{Meta}
use Rattle.sst_blocks.specs.declared.section.Section.{Section}
use Rattle.sst_blocks.specs.Number.{le8, num8}
use Rattle.sst_blocks.specs.Sections.{Written, section_names, slot_index, trailer_mark}
use Rattle.sst_blocks.specs.Sections.{next_start, section_of, AreAscending, slot, trailer}
use Rattle.sst_blocks.specs.Sections.{finished, body_of, trailer_of, section_at, section_in}
use Rattle.sst_blocks.specs.Sections.{is_past, trailer_fault, ReadsBack}
use Rattle.sst_blocks.proofs.Numbers.{wide8}
use Rattle.sst_blocks.proofs.TrailerLemmas.{trailer_fine}

-- a section within the first `end` bytes
abbrev pub Within : ℕ → Option Section → Type 0
Within end None = Unit {0}
Within end (Some s) = s.position + s.len ≤ end

next_within : (end : ℕ) (ss : List (SectionName × ℕ)) → AreAscending end ss
    → next_start end ss ≤ end
next_within end [] asc = omega arith
next_within end (s ∷ ss) asc = let rest = next_within end ss asc.1 in omega (arith, asc.0)

pub section_of-within : (end : ℕ) (ss : List (SectionName × ℕ)) (name : SectionName)
    → AreAscending end ss → Within end (section_of end ss name)
section_of-within end [] name asc = tt
section_of-within end (s ∷ ss) name asc =
    let next = next_within end ss asc.1 in
    let here : s.1 + (next_start end ss - s.1) ≤ end = omega (arith, asc.0) in
    elim (slot_index s.0 == slot_index name) as (λ (b : Bool). Within end
    (if b then Some (record { position = s.1; len = next_start end ss - s.1 })
    else section_of end ss name)) [
      | true ↦ here
      | false ↦ section_of-within end ss name asc.1
    ]

-- equal as lists where they are equal number by number
same_bytes : (xs ys : List ℕ) → pointwise nat_eq xs ys ≡ true → xs ≡ ys
same_bytes [] [] e = refl
same_bytes [] (y ∷ ys) e = cc
same_bytes (x ∷ xs) [] e = cc
same_bytes (x ∷ xs) (y ∷ ys) e = let p = and_parts (nat_eq x y) (pointwise nat_eq xs ys) e in
    let head = eqb-true x y p.0 in let tail = same_bytes xs ys p.1 in cc

slot_len : (s : Option Section) → length (slot s) ≡ 16
slot_len None = refl
slot_len (Some s) = omega (
  arith,
  length-append (le8 s.position)
      (le8 s.len),
  wide8.len s.position,
  wide8.len s.len,
)

-- sixteen bytes ff are no section within the bytes
ff_number : num8 (replicate 16 255) ≡ 2 ^ 64 - 1
unfolding num8
ff_number = refl

ff_second : num8 (drop 8 (replicate 16 255)) ≡ 2 ^ 64 - 1
unfolding num8
ff_second = refl

slot_position : (p l : ℕ) (rest : List ℕ) → p < 2 ^ 64 → num8 ((le8 p ++ le8 l) ++ rest) ≡ p
slot_position p l rest lt = ap num8 (append_assoc (le8 p) (le8 l) rest)
    ∙ wide8.again p (le8 l ++ rest) lt

slot_length : (p l : ℕ) (rest : List ℕ) → l < 2 ^ 64 → num8 (drop 8 ((le8 p ++ le8 l) ++ rest)) ≡ l
slot_length p l rest lt = ap (λ (xs : List ℕ). num8 (drop 8 xs)) (append_assoc (le8 p) (le8 l) rest)
    ∙ ap num8 (drop_at (le8 p) (le8 l ++ rest) 8 (wide8.len p)) ∙ wide8.again l rest lt

not_ff : (p l end : ℕ) → end < 2 ^ 64 → p + l ≤ end → le8 p ++ le8 l ≡ replicate 16 255 → ⊥
not_ff p l end small within same =
    let whole = append-nil (le8 p ++ le8 l) in
    let first : p ≡ 2 ^ 64 - 1 = sym (slot_position p l [] (omega arith)) ∙ ap num8 (whole ∙ same)
    ∙ ff_number in
    let second : l ≡ 2 ^ 64 - 1 = sym (slot_length p l [] (omega arith))
    ∙ ap (λ (xs : List ℕ). num8 (drop 8 xs)) (whole ∙ same) ∙ ff_second in
    omega arith

test_fails : (xs ys : List ℕ) → (xs ≡ ys → ⊥) → pointwise nat_eq xs ys ≡ false
test_fails xs ys differ = decide (pointwise nat_eq xs ys) refl
  where
    decide : (b : Bool) → pointwise nat_eq xs ys ≡ b → b ≡ false
    decide true e = absurd (differ (same_bytes xs ys e))
    decide false e = refl

-- a slot reads back
slot_reads : (end : ℕ) (s : Option Section) (rest : List ℕ) → end < 2 ^ 64 → Within end s
    → section_at (slot s ++ rest) ≡ s
slot_reads end None rest small within = refl
slot_reads end (Some s) rest small within =
    let cells = (le8 s.position ++ le8 s.len) ++ rest in
    let front : take 16 cells ≡ le8 s.position ++ le8 s.len =
    take_at (le8 s.position ++ le8 s.len) rest 16 (slot_len (Some s)) in
    let test : pointwise nat_eq (take 16 cells) (replicate 16 255) ≡ false =
    test_fails (take 16 cells) (replicate 16 255)
    (λ same. not_ff s.position s.len end small within (sym front ∙ same)) in
    let position = slot_position s.position s.len rest (omega arith) in
    let len = slot_length s.position s.len rest (omega arith) in
    rw (test, position, len) refl

module _ (f : SectionName → Option Section) where
  slots : List SectionName → List ℕ
  slots names = flat_map (λ name. slot (f name)) names

  slots_len : (names : List SectionName)
      → length (flat_map (λ name. slot (f name)) names) ≡ 16 * length names
  slots_len [] = refl
  slots_len (n ∷ names) = omega (
    arith,
    length-append (slot (f n))
        (flat_map (λ name. slot (f name)) names),
    slot_len (f n),
    slots_len names,
  )

  -- the slots from one on
  slots_from : (names : List SectionName) (tail : List ℕ) (k : ℕ) (d : SectionName)
      → k < length names
      → (rest : List ℕ)
      × (drop (16 * k) (flat_map (λ name. slot (f name)) names ++ tail)
      ≡ slot (f (get_or names k d)) ++ rest)
  slots_from [] tail k d lt = absurd (omega arith)
  slots_from (n ∷ names) tail zero d lt = (
    flat_map (λ name. slot (f name)) names
        ++ tail,
    append_assoc (slot (f n)) (flat_map (λ name. slot (f name)) names) tail,
  )
  slots_from (n ∷ names) tail (suc k) d lt =
      let more = slots_from names tail k d (omega arith) in
      let later = flat_map (λ name. slot (f name)) names ++ tail in
      let far : 16 * suc k ≡ length (slot (f n)) + 16 * k = omega (arith, slot_len (f n)) in (
        more.0,
        ap (drop (16 * suc k)) (append_assoc (slot (f n))
            (flat_map (λ name. slot (f name)) names) tail)
            ∙ ap (λ (i : ℕ). drop i (slot (f n) ++ later)) far
            ∙ drop-append-add (slot (f n)) later (16 * k) ∙ more.1,
      )

  none_past : (end : ℕ) (names : List SectionName) → ((name : SectionName) → Within end (f name))
      → list_any (is_past end) (map f names) ≡ false
  none_past end [] within = refl
  none_past end (n ∷ names) within = rw (within_test end (f n) (within n))
      (none_past end names within)
    where
      within_test : (end : ℕ) (s : Option Section) → Within end s → is_past end s ≡ false
      within_test end None h = refl
      within_test end (Some s) h = grind arith

-- the parts of a list of two
length_both : (xs ys : List ℕ) (n : ℕ) → length ys ≡ n → length (xs ++ ys) - n ≡ length xs
length_both xs ys n e = omega (arith, length-append xs ys)

trailer_length : (w : Written) → length (trailer w) ≡ 120
trailer_length w =
    let returned : SectionName → Option Section = λ name. section_of (length w.bytes) w.started name in
    omega (
      arith,
      length-append (flat_map (λ name. slot (returned name)) section_names) trailer_mark,
      slots_len returned section_names,
    )

-- the body of a finished writer's bytes is what was written
pub finished_body : (w : Written) → body_of (finished w) ≡ w.bytes
finished_body w =
    ap (λ (n : ℕ). take n (finished w)) (length_both w.bytes (trailer w) 120 (trailer_length w))
    ∙ take_at w.bytes (trailer w) (length w.bytes) refl

finished_trailer : (w : Written) → trailer_of (finished w) ≡ trailer w
finished_trailer w =
    ap (λ (n : ℕ). drop n (finished w)) (length_both w.bytes (trailer w) 120 (trailer_length w))
    ∙ drop_at w.bytes (trailer w) (length w.bytes) refl

name_at : (name : SectionName) → get_or section_names (slot_index name) Data ≡ name
name_at Data = refl
name_at Index = refl
name_at Tli = refl
name_at Filter = refl
name_at FilterTli = refl
name_at TableVersion = refl
name_at Meta = refl

place_lt : (name : SectionName) → slot_index name < length section_names
place_lt Data = omega arith
place_lt Index = omega arith
place_lt Tli = omega arith
place_lt Filter = omega arith
place_lt FilterTli = omega arith
place_lt TableVersion = omega arith
place_lt Meta = omega arith

-- and each section lies where it was written
pub finished_section : (w : Written) (name : SectionName) → length w.bytes < 2 ^ 64
    → AreAscending (length w.bytes) w.started
    → section_in (finished w) name ≡ section_of (length w.bytes) w.started name
unfolding section_in
finished_section w name small asc =
    let returned : SectionName → Option Section = λ name. section_of (length w.bytes) w.started name in
    let place = slots_from returned section_names trailer_mark (slot_index name) Data (place_lt name) in
    ap (λ (cells : List ℕ). section_at (drop (16 * slot_index name) cells)) (finished_trailer w)
    ∙ ap (λ (cells : List ℕ). section_at cells) (place.1
    ∙ ap (λ (n : SectionName). slot (returned n) ++ place.0) (name_at name))
    ∙ slot_reads (length w.bytes) (returned name) place.0 small
    (section_of-within (length w.bytes) w.started name asc)

map_same : {X Y : Type 0} (f g : X → Y) (xs : List X) → ((x : X) → f x ≡ g x) → map f xs ≡ map g xs
map_same f g [] same = refl
map_same f g (x ∷ xs) same = let head = same x in let tail = map_same f g xs same in cc

-- so its trailer is taken
pub finished_fine : (w : Written) → length w.bytes < 2 ^ 64
    → AreAscending (length w.bytes) w.started → trailer_fault (finished w) ≡ None
finished_fine w small asc =
    let returned : SectionName → Option Section = λ name. section_of (length w.bytes) w.started name in
    let bytes = finished w in
    let end = length_both w.bytes (trailer w) 120 (trailer_length w) in
    let slots : length (flat_map (λ name. slot (returned name)) section_names) ≡ 112 =
    slots_len returned section_names in
    let marked : drop 112 (trailer_of bytes) ≡ trailer_mark = ap (drop 112) (finished_trailer w)
    ∙ drop_at (flat_map (λ name. slot (returned name)) section_names) trailer_mark 112 slots in
    let read : map (section_in bytes) section_names ≡ map returned section_names =
    map_same (section_in bytes) returned section_names
    (λ name. finished_section w name small asc) in
    trailer_fine bytes (omega (arith, length-append w.bytes (trailer w), trailer_length w))
    (ap (λ (mark : List ℕ). not (pointwise nat_eq mark trailer_mark)) marked)
    (ap (λ (n : ℕ). list_any (is_past n) (map (section_in bytes) section_names)) end
    ∙ ap (λ (ss : List (Option Section)). list_any (is_past (length w.bytes)) ss) read
    ∙ none_past returned (length w.bytes) section_names
    (λ name. section_of-within (length w.bytes) w.started name asc))

-- ---- sections begin one behind the other

-- more bytes behind them
pub ascending_more : (end more : ℕ) (ss : List (SectionName × ℕ)) → end ≤ more → AreAscending end ss
    → AreAscending more ss
ascending_more end more [] le asc = tt
ascending_more end more (s ∷ []) le asc = (omega (arith, asc.0), tt)
ascending_more end more (s ∷ t ∷ ss) le asc = (asc.0, ascending_more end more (t ∷ ss) le asc.1)

-- one that begins at the end
pub ascending_start : (end : ℕ) (ss : List (SectionName × ℕ)) (name : SectionName)
    → AreAscending end ss → AreAscending end (ss ++ (name, end) ∷ [])
ascending_start end [] name asc = (omega arith, tt)
ascending_start end (s ∷ []) name asc = (asc.0, (omega arith, tt))
ascending_start end (s ∷ t ∷ ss) name asc = (asc.0, ascending_start end (t ∷ ss) name asc.1)

-- so the bytes of a finished writer give back what was written
pub finished_reads : (w : Written) → length w.bytes < 2 ^ 64
    → AreAscending (length w.bytes) w.started → ReadsBack w (finished w)
finished_reads w small asc = record {
  fine = finished_fine w small asc;
  body = finished_body w;
  sections = λ name. finished_section w name small asc;
}
