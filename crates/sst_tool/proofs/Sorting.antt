-- Rows that are put in order, and the first of them that is repeated.
use Rattle.std.proofs.Common.{◌≡◌, refl, sym, ◌∙◌, ap, subst, ℕ, suc, ◌+◌, ◌<◌, ◌≤◌, Bool, true, false}
use Rattle.std.proofs.Common.{List, [], ◌∷◌, ◌++◌, length, get_or, cond, arith, length-append}
use Rattle.std.proofs.Common.{inl, inr, append_assoc}
use Rattle.std.specs.Prelude.{◌⊎◌, ◌&&◌, AllPairs, IsPermutation, OnOk, Option, Some, None}
use Rattle.std.specs.Prelude.{Result, Ok, Err}
use Rattle.std.specs.Prelude.{not, map, filter}
use Rattle.std.specs.List.{All}
use Rattle.std.specs.List.Sorted.{IsSortedBy, IsStableBy, ties}
use Rattle.std.specs.Cmp.{IsStrictWeakOrder}
use Rattle.std.specs.Cmp.Lexicographic.{slice_cmp}
use Rattle.std.specs.declared.cmp.Ordering.{Ordering}
use Rattle.std.specs.declared.cmp.Ordering.TheVariants.{Less, Equal, Greater}
use Rattle.std.specs.Ordering.{is_lt, nat_cmp, ordering_reverse, ordering_then}
use Rattle.std.proofs.Math.Seq.{get_or-append_seam}
use Rattle.std.proofs.lemmas.List.{get_or-append-add, get_or-map, length-map, map-append}
use Rattle.std.proofs.lemmas.List.Elements.{All-cons, All-nil, filter-append}
use Rattle.std.proofs.lemmas.List.Kept.{AllPairs-cons, AllPairs-filter}
use Rattle.std.proofs.lemmas.List.Sorted.{IsPermutation-map, ranks_by}
use Rattle.sst_entries.specs.Entry.{Entry, entry}
use Rattle.sst_entries.specs.declared.value_type.ValueType.TheVariants.{Value}
use Rattle.sst_entries.specs.Strict.{IsStrict, IsStrictAfter, is_before, last_of, may_follow}
use Rattle.sst_entries.specs.Strict.{version_cmp}
use Rattle.sst_entries.proofs.OrderLemmas.{number_total, tie_same}
use Rattle.sst_entries.proofs.Strictness.{last_push}
use Rattle.lsm_writers.specs.Tables.{TablesWriting, all_written, took}
use Rattle.sst_tool.specs.declared.lines.entry_line.Format.{Format}
use Rattle.sst_tool.specs.declared.make.entries.Numbered.{Numbered}
use Rattle.sst_tool.specs.declared.files.error.LineFault.TheVariants.{OutOfOrder, Repeated}
use Rattle.sst_tool.specs.declared.files.error.ToolError.TheVariants.{Line}
use Rattle.sst_tool.specs.make.Entries.{SpellRows, numbered, row_entries}
use Rattle.sst_tool.specs.make.Faults.{StopsAt, StopsSorted}
use Rattle.sst_tool.specs.make.Sorting.{IsFirstOutOfOrder, IsFirstRepeated, IsSortOf}
use Rattle.sst_tool.specs.make.Sorting.{is_row_before}
use Rattle.sst_tool.specs.make.Taken.{TookAll}
use Rattle.sst_tool.proofs.Taken.{entries_of, took_list}

-- ---- what is put in order by something of it, seen by that alone

kept_mapped : {X Y : Type 0} (f : X → Y) (b : Bool) (x : X) (ys : List Y) (xs : List X)
    → ys ≡ map f xs → cond b (f x ∷ ys) ys ≡ map f (cond b (x ∷ xs) xs)
kept_mapped {X} {Y} f true x ys xs e = ap (λ (zs : List Y). f x ∷ zs) e
kept_mapped f false x ys xs e = e

filter_mapped : {X Y : Type 0} (p : Y → Bool) (f : X → Y) (xs : List X)
    → filter p (map f xs) ≡ map f (filter (λ x. p (f x)) xs)
filter_mapped p f [] = refl
filter_mapped p f (x ∷ xs) =
    kept_mapped f (p (f x)) x (filter p (map f xs)) (filter (λ x. p (f x)) xs)
    (filter_mapped p f xs)

pub sort_mapped : {X Y : Type 0} (f : X → Y) (back : Y → X) → ((y : Y) → f (back y) ≡ y)
    → (lt : Y → Y → Bool) (xs ys : List X) → IsSortOf (λ a b. lt (f a) (f b)) xs ys
    → IsSortOf lt (map f xs) (map f ys)
sort_mapped {X} {Y} f back is lt xs ys h = record {
  permuted = IsPermutation-map f xs ys h.permuted;
  sorted = λ k d low less.
      let long : length (map f ys) ≡ length ys = length-map ys f in
      let next = get_or-map f ys (k + 1) (back d) d (omega (arith, less, long)) in
      let this = get_or-map f ys k (back d) d (omega (arith, less, long)) in
      rw (next, this) (h.sorted k (back d) low (omega (arith, less, long)));
  stable = λ y.
      subst (λ (z : Y). filter (ties lt z) (map f ys) ≡ filter (ties lt z) (map f xs)) (is y)
      (filter_mapped (ties lt (f (back y))) f ys
      ∙ ap (map f) (h.stable (back y))
      ∙ sym (filter_mapped (ties lt (f (back y))) f xs));
}

-- the entries of rows that are put in order
entries_sorted : (rows order : List (ℕ × Entry)) → IsSortOf is_row_before rows order
    → IsSortOf is_before (map (λ r. r.1) rows) (map (λ r. r.1) order)
entries_sorted rows order h =
    sort_mapped (λ (r : ℕ × Entry). r.1) (λ (e : Entry). (0, e)) (λ e. refl) is_before rows order h

-- rows, each as its number and its entry
rows_sorted : {A : Type 0} (rows order : List (Numbered A))
    → IsSortOf (λ a b. is_before a.entry b.entry) rows order
    → IsSortOf is_row_before (numbered rows) (numbered order)
rows_sorted {A} rows order h =
    sort_mapped (λ (r : Numbered A). (r.line, r.entry))
    (λ (p : ℕ × Entry). record { line = p.0; entry = p.1 }) (λ p. refl) is_row_before rows order h

-- rows that a sort put in order
pub sorted_rows : {A E : Type 0} (rows order : List (Numbered A)) (returned : Result (Unit {0}) E)
    (Says : Type 0) → IsPermutation rows order
    → (Says → IsSortedBy (λ a b. is_before a.entry b.entry) order) → OnOk returned Says
    → IsStableBy (λ a b. is_before a.entry b.entry) rows order
    → OnOk returned (IsSortOf is_row_before (numbered rows) (numbered order))
sorted_rows rows order (Ok u) Says permuted sorted says stable =
    rows_sorted rows order record { permuted = permuted; sorted = sorted says; stable = stable }
sorted_rows rows order (Err e) Says permuted sorted says stable = tt

-- their entries are in order too
pub row_entries_sorted : {A : Type 0} (rows order : List (Numbered A))
    → IsSortOf is_row_before (numbered rows) (numbered order)
    → IsSortOf is_before (row_entries rows) (row_entries order)
row_entries_sorted rows order h =
    subst (λ (es : List Entry). IsSortOf is_before es (row_entries order)) (entries_of rows)
    (subst (λ (es : List Entry). IsSortOf is_before (map (λ r. r.1) (numbered rows)) es)
    (entries_of order) (entries_sorted (numbered rows) (numbered order) h))

-- ---- a writer took entries in strict order

right_of : (a b : Bool) → a && b ≡ true → b ≡ true
right_of true b h = h
right_of false b h = absurd cc

-- the key and number alone say what may follow
follow_same : (o : Option Entry) (e : Entry)
    → may_follow o (entry e.user_key [] e.seqno Value) ≡ may_follow o e
follow_same None e = refl
follow_same (Some last) e = refl

strict_taken : (w m : TablesWriting) (es : List Entry) → TookAll w es m
    → IsStrictAfter (last_of None (all_written w)) es
unfolding IsStrictAfter
strict_taken w m [] h = tt
strict_taken w m (e ∷ es) h = (
  sym (follow_same (last_of None (all_written w)) e) ∙ right_of _ _ h.2,
  subst (λ (last : Option Entry). IsStrictAfter last es)
      (ap (last_of None) h.1 ∙ last_push None (all_written w) e)
      (strict_taken (took w e) m es h.3),
)

-- ---- neither is before the other

both_equal : (o p : Ordering) → ordering_then o p ≡ Equal → (o ≡ Equal) × (p ≡ Equal)
both_equal Less p h = absurd cc
both_equal Equal p h = (refl, h)
both_equal Greater p h = absurd cc

equal_of : (o p : Ordering) → o ≡ ordering_reverse p → is_lt o ≡ false → is_lt p ≡ false
    → o ≡ Equal
equal_of Less p e f g = absurd cc
equal_of Equal p e f g = refl
equal_of Greater Less e f g = absurd cc
equal_of Greater Equal e f g = absurd cc
equal_of Greater Greater e f g = absurd cc

nat_same : (m n : ℕ) → nat_cmp m n ≡ Equal → m ≡ n
nat_same m n h = grind arith

same_version : (a b : Entry) → is_before a b ≡ false → is_before b a ≡ false
    → (a.user_key ≡ b.user_key) × (a.seqno ≡ b.seqno)
same_version a b p q =
    let equal = equal_of (version_cmp a b) (version_cmp b a) (number_total.antisymm a b) p q in
    let both = both_equal (slice_cmp nat_cmp a.user_key b.user_key) (nat_cmp b.seqno a.seqno) equal in
    (tie_same a.user_key b.user_key both.0, sym (nat_same b.seqno a.seqno both.1))

-- ---- the lines of rows rise

abbrev Rises : ℕ × Entry → ℕ × Entry → Type 0
Rises a b = a.0 < b.0

lines_from : (format : Format) (n : ℕ) (lines : List (List ℕ)) (rows : List (ℕ × Entry))
    → SpellRows format n lines rows → All (λ r. n ≤ r.0) rows
lines_from format n [] rows h =
    subst (All (λ (r : ℕ × Entry). n ≤ r.0)) (sym h) (All-nil (λ (r : ℕ × Entry). n ≤ r.0))
lines_from format n ([] ∷ lines) rows h =
    λ i d less. omega (arith, lines_from format (suc n) lines rows h i d less)
lines_from format n ((b ∷ line) ∷ lines) [] h = absurd h
lines_from format n ((b ∷ line) ∷ lines) (row ∷ rows) h =
    All-cons (λ (r : ℕ × Entry). n ≤ r.0) row rows (omega (arith, h.0))
    (λ i d less. omega (arith, lines_from format (suc n) lines rows h.2 i d less))

lines_rise : (format : Format) (n : ℕ) (lines : List (List ℕ)) (rows : List (ℕ × Entry))
    → SpellRows format n lines rows → AllPairs Rises rows
lines_rise format n [] rows h =
    subst (AllPairs Rises) (sym h) (λ i j d less within. absurd (omega (arith, within)))
lines_rise format n ([] ∷ lines) rows h = lines_rise format (suc n) lines rows h
lines_rise format n ((b ∷ line) ∷ lines) [] h = absurd h
lines_rise format n ((b ∷ line) ∷ lines) (row ∷ rows) h =
    AllPairs-cons Rises row rows
    (λ i d less. omega (arith, h.0, lines_from format (suc n) lines rows h.2 i d less))
    (lines_rise format (suc n) lines rows h.2)

-- two that stand side by side
side_by_side : (R : ℕ × Entry → ℕ × Entry → Type 0) (xs ys : List (ℕ × Entry))
    (a b : ℕ × Entry) → AllPairs R (xs ++ a ∷ b ∷ ys) → R a b
side_by_side R xs ys a b h =
    let all = xs ++ a ∷ b ∷ ys in
    let first = get_or-append_seam xs a (b ∷ ys) a in
    let second = get_or-append-add xs (a ∷ b ∷ ys) 1 a in
    let long = length-append xs (a ∷ b ∷ ys) in
    subst (λ (x : ℕ × Entry). R x b) first
    (subst (λ (x : ℕ × Entry). R (get_or all (length xs) a) x) second
    (h (length xs) (length xs + 1) a (omega arith) (omega (arith, long))))

pass_two : {X : Type 0} (p : X → Bool) (a b : X) (ys : List X) → p a ≡ true → p b ≡ true
    → filter p (a ∷ b ∷ ys) ≡ a ∷ b ∷ filter p ys
pass_two p a b ys h k = rw (h, k) refl

neither : (b c : Bool) → b ≡ false → c ≡ false → not b && not c ≡ true
neither b c h k = rw (h, k) refl

ranks : IsStrictWeakOrder is_row_before
ranks = ranks_by number_total (λ (r : ℕ × Entry). r.1)

not_itself_by : (b : Bool) → (b ≡ true → b ≡ false) → b ≡ false
not_itself_by true h = h refl
not_itself_by false h = refl

not_itself : (r : ℕ × Entry) → is_row_before r r ≡ false
not_itself r = not_itself_by (is_row_before r r) (ranks.one_way r r)

-- of two rows that tie the one in front is of an earlier line
earlier_line : (format : Format) (lines : List (List ℕ))
    (rows order before behind : List (ℕ × Entry)) (first row : ℕ × Entry)
    → SpellRows format 1 lines rows → IsSortOf is_row_before rows order
    → order ≡ before ++ first ∷ row ∷ behind → is_row_before first row ≡ false
    → is_row_before row first ≡ false → first.0 < row.0
earlier_line format lines rows order before behind first row spelled put are p q =
    let same = ties is_row_before row in
    let kept : filter same rows ≡ filter same before ++ first ∷ row ∷ filter same behind =
    sym (put.stable row) ∙ ap (filter same) are
    ∙ filter-append same before (first ∷ row ∷ behind)
    ∙ ap (λ (rs : List (ℕ × Entry)). filter same before ++ rs)
    (pass_two same first row behind (neither _ _ q p)
    (neither _ _ (not_itself row) (not_itself row))) in
    side_by_side Rises (filter same before) (filter same behind) first row
    (subst (AllPairs Rises) kept
    (AllPairs-filter Rises same rows (lines_rise format 1 lines rows spelled)))

-- ---- the first that is repeated

-- a list is empty, or has a last item
longer : {X : Type 0} (x : X) (xs : List X)
    → (xs ≡ []) ⊎ ((front : List X) × (last : X) × (xs ≡ front ++ last ∷ []))
    → (front : List X) × (last : X) × (x ∷ xs ≡ front ++ last ∷ [])
longer {X} x xs (inl e) = ([], x, ap (λ (ys : List X). x ∷ ys) e)
longer {X} x xs (inr h) = (x ∷ h.0, h.1, ap (λ (ys : List X). x ∷ ys) h.2)

ends_in : {X : Type 0} (xs : List X)
    → (xs ≡ []) ⊎ ((front : List X) × (last : X) × (xs ≡ front ++ last ∷ []))
ends_in [] = inl refl
ends_in (x ∷ xs) = inr (longer x xs (ends_in xs))

-- what stands behind another is not before it
sorted_beside : (xs ys : List (ℕ × Entry)) (a b : ℕ × Entry)
    → IsSortedBy is_row_before (xs ++ a ∷ b ∷ ys) → is_row_before b a ≡ false
sorted_beside xs ys a b h =
    let all = xs ++ a ∷ b ∷ ys in
    let first = get_or-append_seam xs a (b ∷ ys) a in
    let second = get_or-append-add xs (a ∷ b ∷ ys) 1 a in
    let long = length-append xs (a ∷ b ∷ ys) in
    subst (λ (x : ℕ × Entry). is_row_before b x ≡ false) first
    (subst (λ (x : ℕ × Entry). is_row_before x (get_or all (length xs) a) ≡ false) second
    (h (length xs) a (omega arith) (omega (arith, long))))

none_before : (row : ℕ × Entry) (w m : TablesWriting) (before : List (ℕ × Entry))
    → all_written w ≡ [] → TookAll w (map (λ r. r.1) before) m → before ≡ []
    → may_follow (last_of None (all_written m)) row.1 ≡ false → ⊥
unfolding last_of
none_before row w m before fresh taken none returned =
    let listed : all_written m ≡ [] =
    took_list w m (map (λ r. r.1) before) taken ∙ rw (fresh, none) refl in
    let follows : may_follow (last_of None (all_written m)) row.1 ≡ true = rw listed refl in
    absurd cc

repeated_by : (format : Format) (lines : List (List ℕ)) (rows order before behind : List (ℕ × Entry))
    (row : ℕ × Entry) (w m : TablesWriting) (n : ℕ) → all_written w ≡ []
    → SpellRows format 1 lines rows → IsSortOf is_row_before rows order
    → order ≡ before ++ row ∷ behind → TookAll w (map (λ r. r.1) before) m
    → may_follow (last_of None (all_written m)) row.1 ≡ false → n ≡ row.0
    → (before ≡ []) ⊎ ((front : List (ℕ × Entry)) × (last : ℕ × Entry)
    × (before ≡ front ++ last ∷ [])) → IsFirstRepeated rows n
unfolding last_of
repeated_by format lines rows order before behind row w m n fresh spelled put are taken returned line
    (inl none) = absurd (none_before row w m before fresh taken none returned)
repeated_by format lines rows order before behind row w m n fresh spelled put are taken returned line
    (inr (front, first, is)) =
    let entries : List (ℕ × Entry) → List Entry = λ rs. map (λ r. r.1) rs in
    let listed : all_written m ≡ entries before =
    took_list w m (entries before) taken ∙ ap (λ (es : List Entry). es ++ entries before) fresh in
    let last : last_of None (all_written m) ≡ Some first.1 =
    ap (last_of None) (listed ∙ ap entries is
    ∙ map-append (λ (r : ℕ × Entry). r.1) front (first ∷ []))
    ∙ last_push None (entries front) first.1 in
    let breaks : is_row_before first row ≡ false =
    subst (λ (o : Option Entry). may_follow o row.1 ≡ false) last returned in
    let all : order ≡ front ++ first ∷ row ∷ behind =
    are ∙ ap (λ (rs : List (ℕ × Entry)). rs ++ row ∷ behind) is
    ∙ append_assoc front (first ∷ []) (row ∷ behind) in
    let back : is_row_before row first ≡ false =
    sorted_beside front behind first row (subst (IsSortedBy is_row_before) all put.sorted) in
    let same = same_version first.1 row.1 breaks back in
    record {
      order = order;
      put = put;
      before = front;
      first = first;
      row = row;
      behind = behind;
      are = all;
      strict = subst (λ (rs : List (ℕ × Entry)). IsStrict (entries rs)) is
          (subst (λ (o : Option Entry). IsStrictAfter o (entries before))
          (ap (last_of None) fresh) (strict_taken w m (entries before) taken));
      same_key = same.0;
      same_number = same.1;
      earlier =
          earlier_line format lines rows order front behind first row spelled put all breaks back;
      line = line;
    }

-- a line that is told as repeated is the first one
pub first_repeated : (format : Format) (lines : List (List ℕ)) (w : TablesWriting) (n : ℕ)
    → all_written w ≡ [] → StopsSorted format lines w (Line n Repeated)
    → (rows : List (ℕ × Entry)) × SpellRows format 1 lines rows × IsFirstRepeated rows n
first_repeated format lines w n fresh h = (
  h.rows,
  h.spelled,
  repeated_by format lines h.rows h.sorted h.stops.before h.stops.behind h.stops.row w h.stops.writer n
      fresh h.spelled h.put h.stops.are h.stops.taken h.stops.returned.1.1 h.stops.returned.0
      (ends_in h.stops.before),
)

-- and so is one that is told as out of order
pub first_out_of_order : (format : Format) (lines : List (List ℕ)) (w : TablesWriting) (n : ℕ)
    → all_written w ≡ [] → StopsAt format lines w (Line n OutOfOrder)
    → IsFirstOutOfOrder format lines n
unfolding last_of
first_out_of_order format lines w n fresh h =
    let listed : all_written h.writer ≡ h.entries =
    took_list w h.writer h.entries h.taken ∙ ap (λ (es : List Entry). es ++ h.entries) fresh in
    record {
      before = h.before;
      line = h.line;
      behind = h.behind;
      are = h.are;
      entries = h.entries;
      spelled = h.spelled;
      strict = subst (λ (o : Option Entry). IsStrictAfter o h.entries)
          (ap (last_of None) fresh) (strict_taken w h.writer h.entries h.taken);
      entry = h.returned.1.0;
      spells = h.returned.1.1;
      breaks = subst (λ (es : List Entry). may_follow (last_of None es) h.returned.1.0 ≡ false) listed
          h.returned.1.2.1;
      counted = h.returned.0;
    }
