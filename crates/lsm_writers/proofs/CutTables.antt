-- Where a list is cut into tables, entry by entry.
use Rattle.std.proofs.Common.{◌≡◌, refl, sym, ◌∙◌, ap, subst, ℕ, ◌<◌, ◌≤◌, Bool, true, false, List}
use Rattle.std.proofs.Common.{[], ◌∷◌, ◌++◌, length, append_assoc, append-nil, arith, length-append}
use Rattle.std.proofs.Common.{◌⊎◌, inl, inr}
use Rattle.std.specs.Prelude.{None, ◌&&◌, nat_le}
use Rattle.std.specs.List.{AllByRecursion, filter}
use Rattle.std.proofs.lemmas.Bool.{leb-false, leb-true}
use Rattle.sst_blocks.specs.declared.version.TableVersion.TheVariants.{V4}
use Rattle.sst_entries.specs.Entry.{Entry}
use Rattle.sst_entries.specs.Strict.{last_of}
use Rattle.sst_entries.proofs.Booleans.{and_parts}
use Rattle.sst_entries.proofs.Lists.{all_append}
use Rattle.sst_blocks.specs.declared.table.label.Label.{Label}
use Rattle.sst_blocks.specs.declared.table.options.Options.{Options}
use Rattle.sst_blocks.specs.table.Chunks.{is_full}
use Rattle.sst_blocks.specs.table.Facts.{starts_key}
use Rattle.sst_blocks.specs.table.Index.{data_section}
use Rattle.sst_blocks.specs.table.Parts.{parts_after, rest_part}
use Rattle.lsm_writers.specs.Cut.{rest_chunk}
use Rattle.lsm_writers.specs.Held.{IsUnfilled}
use Rattle.lsm_writers.specs.Tables.{AreCuts, IsCut, apart, cut_len, full_chunks, gained_all}
use Rattle.lsm_writers.specs.Tables.{is_due}
use Rattle.lsm_writers.specs.Writing.{Writing, fresh_writing, gained, spills_of, written}
use Rattle.lsm_writers.proofs.ListWriting.{same_label, same_spills}

-- ---- a writer that has taken some entries

pub gained_snoc : (w : Writing) (es : List Entry) (e : Entry)
    → gained_all w (es ++ e ∷ []) ≡ gained (gained_all w es) e
gained_snoc w [] e = refl
gained_snoc w (x ∷ es) e = gained_snoc (gained w x) es e

pub options_kept : (w : Writing) (es : List Entry) → (gained_all w es).options ≡ w.options
options_kept w [] = refl
options_kept w (e ∷ es) = options_kept (gained w e) es ∙ (same_label w e).1

pub unspilled : (w : Writing) (es : List Entry) → spills_of (gained_all w es) ≡ spills_of w
unspilled w [] = refl
unspilled w (e ∷ es) = unspilled (gained w e) es ∙ same_spills w e

-- ---- its chunks

rest_same : (es : List Entry) → rest_chunk es ≡ rest_part es
rest_same [] = refl
rest_same (e ∷ es) = refl

abbrev pub IsCutOn : List Entry → Writing → Type 0
IsCutOn es w = (gained_all w es).cut ++ rest_chunk (gained_all w es).pending ≡ w.cut
    ++ parts_after (is_full w.options.data_block_size) w.pending es

pub gained_full : (w : Writing) (e : Entry) → is_full w.options.data_block_size
    (w.pending ++ e ∷ []) ≡ true → gained w e ≡ record w
    { cut = w.cut ++ (w.pending ++ e ∷ []) ∷ []; pending = [] }
gained_full w e h = rw h refl

pub gained_open : (w : Writing) (e : Entry) → is_full w.options.data_block_size
    (w.pending ++ e ∷ []) ≡ false → gained w e ≡ record w { pending = w.pending ++ e ∷ [] }
gained_open w e h = rw h refl

pub part_full : (full : List Entry → Bool) (p : List Entry) (e : Entry) (es : List Entry)
    → full (p ++ e ∷ []) ≡ true → parts_after full p (e ∷ es) ≡ (p ++ e ∷ [])
    ∷ parts_after full [] es
unfolding parts_after
part_full full p e es h = rw h refl

pub part_open : (full : List Entry → Bool) (p : List Entry) (e : Entry) (es : List Entry)
    → full (p ++ e ∷ []) ≡ false → parts_after full p (e ∷ es) ≡ parts_after full (p ++ e ∷ []) es
unfolding parts_after
part_open full p e es h = rw h refl

chunks_by : (w : Writing) (e : Entry) (es : List Entry) (full : Bool)
    → is_full w.options.data_block_size (w.pending ++ e ∷ []) ≡ full
    → ((v : Writing) → IsCutOn es v) → IsCutOn (e ∷ es) w
chunks_by w e es true h more =
    let chunk = w.pending ++ e ∷ [] in
    let f = is_full w.options.data_block_size in
    let v : Writing = record w { cut = w.cut ++ chunk ∷ []; pending = [] } in
    let step : gained w e ≡ v = gained_full w e h in
    let rest : (w.cut ++ chunk ∷ []) ++ parts_after f [] es ≡ w.cut
    ++ (chunk ∷ parts_after f [] es) = append_assoc w.cut (chunk ∷ []) (parts_after f [] es) in
    ap (λ (x : Writing). (gained_all x es).cut ++ rest_chunk (gained_all x es).pending) step
    ∙ (more v ∙ (rest ∙ ap (λ (x : List (List Entry)). w.cut ++ x)
    (sym (part_full f w.pending e es h))))
chunks_by w e es false h more =
    let chunk = w.pending ++ e ∷ [] in
    let f = is_full w.options.data_block_size in
    let v : Writing = record w { pending = chunk } in
    let step : gained w e ≡ v = gained_open w e h in
    ap (λ (x : Writing). (gained_all x es).cut ++ rest_chunk (gained_all x es).pending) step
    ∙ (more v ∙ ap (λ (x : List (List Entry)). w.cut ++ x) (sym (part_open f w.pending e es h)))

pub chunks_of : (es : List Entry) (w : Writing) → IsCutOn es w
unfolding parts_after
chunks_of [] w = ap (λ (x : List (List Entry)). w.cut ++ x) (rest_same w.pending)
chunks_of (e ∷ es) w = chunks_by w e es _ refl (chunks_of es)

-- what was cut is full, what is pending is not
record Filled (size : ℕ) (w : Writing) : Type 0 where
  cuts : AllByRecursion (λ (c : List Entry). is_full size c ≡ true) w.cut
  rest : IsUnfilled size w.pending

pub unfilled : (size : ℕ) (es : List Entry) → is_full size es ≡ false → IsUnfilled size es
unfilled size [] h = tt
unfilled size (e ∷ es) h = h

filled_by : (w : Writing) (e : Entry) (full : Bool)
    → is_full w.options.data_block_size (w.pending ++ e ∷ []) ≡ full
    → Filled w.options.data_block_size w → Filled w.options.data_block_size (gained w e)
filled_by w e true h old =
    let chunk = w.pending ++ e ∷ [] in
    let size = w.options.data_block_size in
    let made : Filled size (record w { cut = w.cut ++ chunk ∷ []; pending = [] }) =
    record {
      cuts = all_append (λ (c : List Entry). is_full size c ≡ true) w.cut
          (chunk ∷ []) old.cuts (h, tt);
      rest = tt;
    } in
    rw h made
filled_by w e false h old =
    let size = w.options.data_block_size in
    let made : Filled size (record w { pending = w.pending ++ e ∷ [] }) =
    record { cuts = old.cuts; rest = unfilled size (w.pending ++ e ∷ []) h } in
    rw h made

filled : (size : ℕ) (es : List Entry) (w : Writing) → w.options.data_block_size ≡ size
    → Filled size w → Filled size (gained_all w es)
filled size [] w same old = old
filled size (e ∷ es) w same old =
    let now : Filled w.options.data_block_size (gained w e) =
    filled_by w e _ refl (subst (λ (n : ℕ). Filled n w) (sym same) old) in
    filled size es (gained w e) (ap (λ (o : Options). o.data_block_size) (same_label w e).1 ∙ same)
    (subst (λ (n : ℕ). Filled n (gained w e)) same now)

full_kept : (size : ℕ) (cut : List (List Entry)) (pending : List Entry)
    → AllByRecursion (λ (c : List Entry). is_full size c ≡ true) cut → IsUnfilled size pending
    → filter (is_full size) (cut ++ rest_chunk pending) ≡ cut
full_kept size [] [] h k = refl
full_kept size [] (e ∷ es) h k = rw k refl
full_kept size (c ∷ cut) pending h k = rw h.0
    (ap (λ (x : List (List Entry)). c ∷ x) (full_kept size cut pending h.1 k))

-- the chunks that a writer has cut are the full ones of its list
pub cut_is_full : (label : Label) (options : Options) (es : List Entry)
    → full_chunks options.data_block_size es ≡ (gained_all (fresh_writing label options) es).cut
cut_is_full label options es =
    let size = options.data_block_size in
    let w = gained_all (fresh_writing label options) es in
    let f : Filled size w = filled size es (fresh_writing label options) refl
    (record { cuts = tt; rest = tt }) in
    sym (ap (filter (is_full size)) (chunks_of es (fresh_writing label options)))
    ∙ full_kept size w.cut w.pending f.cuts f.rest

pub cut_len_is : (w : Writing) → w ≡ gained_all (fresh_writing w.label w.options) (written w)
    → cut_len w.options.data_block_size (written w) ≡ length (data_section V4 w.cut)
cut_len_is w h = ap (λ (cs : List (List Entry)). length (data_section V4 cs))
    (cut_is_full w.label w.options (written w) ∙ ap (λ (v : Writing). v.cut) (sym h))

-- ---- tables

snoc_split : (a b t : List Entry) (e : Entry) → t ++ e ∷ [] ≡ a ++ b
    → (b ≡ []) ⊎ ((c : List Entry) × (b ≡ c ++ e ∷ []) × (t ≡ a ++ c))
snoc_split [] b t e h = inr (t, sym h, refl)
snoc_split (x ∷ a) b [] e h = inl (nothing_left a b cc)
  where
    nothing_left : (xs ys : List Entry) → [] ≡ xs ++ ys → ys ≡ []
    nothing_left [] ys h = sym h
    nothing_left (x ∷ xs) ys h = absurd cc
snoc_split (x ∷ a) b (y ∷ t) e h =
    let tail : t ++ e ∷ [] ≡ a ++ b = cc in
    let head : y ≡ x = cc in
    elim (snoc_split a b t e tail) [
      | inl none ↦ inl none
      | inr some ↦ inr (some.0, some.1, cc (head, some.2))
    ]

pub no_end : (es : List Entry) (e : Entry) → es ++ e ∷ [] ≡ [] → ⊥
no_end [] e h = cc
no_end (x ∷ es) e h = cc

pub some_length : (es : List Entry) → (es ≡ [] → ⊥) → 0 < length es
some_length [] some = absurd (some refl)
some_length (x ∷ es) some = omega arith

apart_nil : (a : List Entry) → apart a [] ≡ true → ⊥
apart_nil [] h = cc
apart_nil (x ∷ a) h = cc

pub apart_none : (b : List Entry) → apart [] b ≡ true → ⊥
apart_none b h = cc

-- the joint is told by the first entry behind it
pub apart_first : (a : List Entry) (y : Entry) (b c : List Entry)
    → apart a (y ∷ b) ≡ apart a (y ∷ c)
apart_first [] y b c = refl
apart_first (x ∷ a) y b c = refl

pub apart_starts : (a : List Entry) (e : Entry) → apart a (e ∷ []) ≡ true
    → starts_key (last_of None a) e ≡ true
apart_starts [] e h = absurd cc
apart_starts (x ∷ a) e h = h

pub starts_apart : (a : List Entry) (e : Entry) → (a ≡ [] → ⊥)
    → starts_key (last_of None a) e ≡ true → apart a (e ∷ []) ≡ true
starts_apart [] e some h = absurd (some refl)
starts_apart (x ∷ a) e some h = h

-- a table of one entry
cut_one : (size target : ℕ) (e : Entry) → IsCut size target (e ∷ [])
cut_one size target e = record {
  some = omega arith;
  shortest = λ a b split joint. one a b split joint;
}
  where
    one : (a b : List Entry) → e ∷ [] ≡ a ++ b → apart a b ≡ true → cut_len size a < target
    one [] b split joint = absurd (apart_none b joint)
    one (x ∷ a) b split joint =
        elim (snoc_split (x ∷ a) b [] e split) [
          | inl none ↦ absurd (apart_nil (x ∷ a) (subst
              (λ (y : List Entry). apart (x ∷ a) y ≡ true) none joint))
          | inr some ↦ absurd cc
        ]

-- a table that one more entry is written to
longer_by : (size target : ℕ) (t a c : List Entry) (e : Entry) → IsCut size target t
    → (apart t (e ∷ []) ≡ true → cut_len size t < target) → t ≡ a ++ c
    → apart a (c ++ e ∷ []) ≡ true → cut_len size a < target
longer_by size target t a [] e old short split joint =
    let same : t ≡ a = split ∙ append-nil a in
    subst (λ (x : List Entry). cut_len size x < target) same
    (short (subst (λ (x : List Entry). apart x (e ∷ []) ≡ true) (sym same) joint))
longer_by size target t a (y ∷ c) e old short split joint =
    old.shortest a (y ∷ c) split (apart_first a y c (c ++ e ∷ []) ∙ joint)

cut_longer : (size target : ℕ) (t : List Entry) (e : Entry) → IsCut size target t
    → (apart t (e ∷ []) ≡ true → cut_len size t < target) → IsCut size target (t ++ e ∷ [])
cut_longer size target t e old short = record {
  some = omega (arith, length-append t (e ∷ []));
  shortest = λ a b split joint. elim (snoc_split a b t e split) [
    | inl none ↦ absurd (apart_nil a (subst (λ (y : List Entry). apart a y ≡ true) none joint))
    | inr some ↦ longer_by size target t a some.0 e old short some.2
        (subst (λ (y : List Entry). apart a y ≡ true) some.1 joint)
  ];
}

-- tables whose last one is written on
last_longer : (size target : ℕ) (ts : List (List Entry)) (x : Entry) (xs : List Entry) (e : Entry)
    → AreCuts size target (ts ++ (x ∷ xs) ∷ []) → (apart (x ∷ xs) (e ∷ []) ≡ true
    → cut_len size (x ∷ xs) < target) → AreCuts size target (ts ++ ((x ∷ xs) ++ e ∷ []) ∷ [])
last_longer size target [] x xs e h short = (cut_longer size target (x ∷ xs) e h.0 short, tt, tt)
last_longer size target (u ∷ []) x xs e h short = (
  h.0,
  (apart_first u x (xs ++ e ∷ []) xs ∙ h.1.0, h.1.1),
  last_longer size target [] x xs e h.2
      short,
)
last_longer size target (u ∷ v ∷ ts) x xs e h short =
    (h.0, h.1, last_longer size target (v ∷ ts) x xs e h.2 short)

-- the same, where the last one may be nothing yet
pub cuts_longer : (size target : ℕ) (ts : List (List Entry)) (t : List Entry) (e : Entry)
    → (t ≡ [] → ts ≡ []) → AreCuts size target (ts ++ rest_chunk t)
    → (apart t (e ∷ []) ≡ true → cut_len size t < target)
    → AreCuts size target (ts ++ rest_chunk (t ++ e ∷ []))
cuts_longer size target ts [] e begun h short =
    let one : AreCuts size target ((e ∷ []) ∷ []) = (cut_one size target e, tt, tt) in
    subst (λ (x : List (List Entry)). AreCuts size target (x ++ (e ∷ []) ∷ []))
    (sym (begun refl)) one
cuts_longer size target ts (x ∷ xs) e begun h short = last_longer size target ts x xs e h short

-- a table more, of one entry
next_table : (size target : ℕ) (ts : List (List Entry)) (x : Entry) (xs : List Entry) (e : Entry)
    → AreCuts size target (ts ++ (x ∷ xs) ∷ []) → apart (x ∷ xs) (e ∷ []) ≡ true
    → target ≤ cut_len size (x ∷ xs) → AreCuts size target (ts ++ ((x ∷ xs) ∷ (e ∷ []) ∷ []))
next_table size target [] x xs e h joint long =
    (h.0, (joint, long), (cut_one size target e, tt, tt))
next_table size target (u ∷ []) x xs e h joint long =
    (h.0, h.1, next_table size target [] x xs e h.2 joint long)
next_table size target (u ∷ v ∷ ts) x xs e h joint long =
    (h.0, h.1, next_table size target (v ∷ ts) x xs e h.2 joint long)

pub cuts_next : (size target : ℕ) (ts : List (List Entry)) (t : List Entry) (e : Entry)
    → (t ≡ [] → ⊥) → AreCuts size target (ts ++ rest_chunk t) → apart t (e ∷ []) ≡ true
    → target ≤ cut_len size t → AreCuts size target ((ts ++ t ∷ []) ++ rest_chunk (e ∷ []))
cuts_next size target ts [] e some h joint long = absurd (some refl)
cuts_next size target ts (x ∷ xs) e some h joint long =
    subst (AreCuts size target) (sym (append_assoc ts ((x ∷ xs) ∷ []) ((e ∷ []) ∷ [])))
    (next_table size target ts x xs e h joint long)

pub cuts_first : (size target : ℕ) (e : Entry) → AreCuts size target (rest_chunk (e ∷ []))
cuts_first size target e = (cut_one size target e, tt, tt)

-- ---- whether a table is due

pub not_due : (starts reached : Bool) → (starts && reached) ≡ false → starts ≡ true
    → reached ≡ false
not_due true reached h s = h
not_due false reached h s = absurd cc

pub still_short : (target : ℕ) (w : Writing) (e : Entry)
    → w ≡ gained_all (fresh_writing w.label w.options) (written w) → is_due target w e ≡ false
    → apart (written w) (e ∷ []) ≡ true → cut_len w.options.data_block_size (written w) < target
still_short target w e is due joint =
    let n = length (data_section V4 w.cut) in
    let reached : nat_le target n ≡ false = not_due (starts_key (last_of None (written w)) e)
    (nat_le target n) due (apart_starts (written w) e joint) in
    subst (λ (k : ℕ). k < target) (sym (cut_len_is w is)) (leb-false _ _ reached)

pub long_enough : (target : ℕ) (w : Writing) (e : Entry)
    → w ≡ gained_all (fresh_writing w.label w.options) (written w) → is_due target w e ≡ true
    → (written w ≡ [] → ⊥) → (apart (written w) (e ∷ []) ≡ true)
    × (target ≤ cut_len w.options.data_block_size (written w))
long_enough target w e is due some =
    let n = length (data_section V4 w.cut) in
    let p = and_parts (starts_key (last_of None (written w)) e) (nat_le target n) due in (
      starts_apart (written w) e some p.0,
      subst (λ (k : ℕ). target ≤ k) (sym (cut_len_is w is))
          (leb-true _ _ p.1),
    )
