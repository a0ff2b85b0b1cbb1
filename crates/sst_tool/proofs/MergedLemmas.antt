-- Entries that are printed unless they are tombstones.
use Rattle.std.proofs.Common.{◌≡◌, refl, sym, ◌∙◌, ap, subst, Bool, true, false, ℕ, zero, suc}
use Rattle.std.proofs.Common.{List, [], ◌∷◌, ◌++◌, ◌+◌, ◌-◌, ◌<◌, ◌≤◌, append_assoc, append-nil}
use Rattle.std.proofs.Common.{◌⊎◌, arith, cond, inl, inr, length, min, reverse, take, true≢false}
use Rattle.std.proofs.lemmas.List.{length-append, length-take, reverse-reverse}
use Rattle.std.proofs.lemmas.List.Elements.{filter-append}
use Rattle.std.specs.Prelude.{Option, None, Some, Result, Ok, Err, IfErr, IfOk, MatchResult, if◌then◌else◌}
use Rattle.std.specs.Result.{IsErrAnd}
use Rattle.sst_entries.specs.declared.error.Error.{Error}
use Rattle.sst_entries.specs.Entry.{Entry}
use Rattle.sst_entries.specs.Error.{is_memory}
use Rattle.sst_entries.specs.Stream.{YieldsExactly, answer_stops, but_first, first, last, but_last}
use Rattle.sst_entries.specs.Stream.{nowhere, ok_results}
use Rattle.sst_entries.proofs.StreamLemmas.{map_append, map_reverse, yields_back, yields_by}
use Rattle.sst_entries.proofs.StreamLemmas.{yields_front}
use Rattle.sst_tool.specs.declared.files.error.ToolError.{ToolError}
use Rattle.sst_tool.specs.declared.files.error.ToolError.TheVariants as error
use Rattle.sst_tool.specs.show.Failures.{NamesNone}
use Rattle.sst_tool.specs.show.Merged.{FailsOnlyAs, PrintsMerged, ShowsLive, is_live, merged_lines, live_of}
use Rattle.sst_tool.specs.show.Merged.{merged_entries}
use Rattle.sst_tool.specs.show.Read.{Outcome, first_error, in_turn}

-- ---- the steps of a loop

-- the lines of an entry are those of the list of it
lines_alone : (e : Entry) (b : Bool) → length (cond b (e ∷ []) []) ≡ (if b then 1 else 0)
lines_alone e true = refl
lines_alone e false = refl

lines_more : (es : List Entry) (e : Entry) → length (live_of (es ++ e ∷ [])) ≡ length (live_of es) + merged_lines e
lines_more es e =
    ap length (filter-append is_live es (e ∷ []))
    ∙ length-append (live_of es) (live_of (e ∷ []))
    ∙ ap (λ (n : ℕ). length (live_of es) + n) (lines_alone e (is_live e))

few_by : (b : Bool) → (if b then 1 else 0) ≤ 1
few_by true = omega arith
few_by false = omega arith

-- an entry has a line at most
pub few_lines : (e : Entry) → merged_lines e ≤ 1
few_lines e = few_by (is_live e)

-- the head of what is left
came_first : (x : Outcome) (rest : List Outcome) → Some x ≡ first rest → x ∷ but_first rest ≡ rest
came_first x [] is = absurd cc
came_first x (y ∷ rest) is = let same : x ≡ y = cc in ap (λ (z : Outcome). z ∷ rest) same

none_first : (rest : List Outcome) → None ≡ first rest → rest ≡ []
none_first [] is = refl
none_first (x ∷ rest) is = absurd cc

-- an error behind entries is the first one
pub first_behind : (es : List Entry) (e : Error) (rest : List Outcome)
    → first_error (ok_results es ++ Err e ∷ rest) ≡ Some e
first_behind [] e rest = refl
first_behind (x ∷ es) e rest = first_behind es e rest

-- of entries there is none
pub no_first : (es : List Entry) → first_error (ok_results es) ≡ None
no_first [] = refl
no_first (x ∷ es) = no_first es

module _ {S : Type 0} (step : S → Option Outcome → S → Type 0) (stops : Error → Bool) (most : ℕ)
    (rs : List Outcome) where
  -- some entries were read, and the source yields the rest; so many lines more may be printed
  pub record Printing (s : S) (left : ℕ) : Type 0 where
    pub read : List Entry
    pub rest : List Outcome
    pub yields : YieldsExactly (answer_stops stops) step nowhere s rest
    pub split : ok_results read ++ rest ≡ rs
    pub counted : length (live_of read) + left ≡ most

  pub one_read : (s t : S) (left : ℕ) (e : Entry) → merged_lines e ≤ left → Printing s left
      → step s (Some (Ok e)) t → Printing t (left - merged_lines e)
  one_read s t left e few before at =
      let one = yields_front (answer_stops stops) step nowhere s before.rest (Some (Ok e)) t
      before.yields at refl in
      record {
        read = before.read ++ e ∷ [];
        rest = but_first before.rest;
        yields = one.1;
        split = ap (λ (xs : List Outcome). xs ++ but_first before.rest) (map_append before.read (e ∷ []))
            ∙ append_assoc (ok_results before.read) (Ok e ∷ []) (but_first before.rest)
            ∙ ap (λ (xs : List Outcome). ok_results before.read ++ xs)
            (came_first (Ok e) before.rest one.0)
            ∙ before.split;
        counted = omega (arith, lines_more before.read e, before.counted, few);
      }

  -- nothing more is to be read
  pub all_read : (s t : S) (left : ℕ) → Printing s left → step s None t → PrintsMerged most rs (most - left)
  all_read s t left before at =
      let one = yields_front (answer_stops stops) step nowhere s before.rest None t
      before.yields at refl in
      record {
        read = before.read;
        rest = before.rest;
        split = before.split;
        counted = omega (arith, before.counted);
        few = omega (arith, before.counted);
        ends = inr (none_first before.rest one.0);
      }

  -- as many lines as may be are printed
  pub most_read : (s : S) (left : ℕ) → left ≤ 0 → Printing s left → PrintsMerged most rs most
  most_read s left none before = record {
    read = before.read;
    rest = before.rest;
    split = before.split;
    counted = omega (arith, none, before.counted);
    few = omega arith;
    ends = inl refl;
  }

  -- an error that does not stop the source is the first
  pub error_read : (s t : S) (left : ℕ) (e : Error) → stops e ≡ false → Printing s left
      → step s (Some (Err e)) t → first_error rs ≡ Some e
  error_read s t left e goes before at =
      let one = yields_front (answer_stops stops) step nowhere s before.rest (Some (Err e)) t
      before.yields at goes in
      ap first_error (sym (ap (λ (xs : List Outcome). ok_results before.read ++ xs)
      (came_first (Err e) before.rest one.0) ∙ before.split))
      ∙ first_behind before.read e (but_first before.rest)

pub none_read : {S : Type 0} (step : S → Option Outcome → S → Type 0) (stops : Error → Bool) (most : ℕ)
    (rs : List Outcome) (s : S) → YieldsExactly (answer_stops stops) step nowhere s rs
    → Printing step stops most rs s most
none_read step stops most rs s yields = record {
  read = [];
  rest = rs;
  yields = yields;
  split = refl;
  counted = omega arith;
}

-- ---- an item that is shown

-- a failure that names no file fails as anything is reported
pub none_only : (f : ToolError) (IsReported : Error → Type 0) → NamesNone f → FailsOnlyAs IsReported f
none_only (error.Refused e) IsReported none = λ other. absurd (true≢false (sym none ∙ other))
none_only (error.Output e) IsReported none = tt
none_only f IsReported none = absurd none

module _ {S : Type 0} (step : S → Option Outcome → S → Type 0) (s t : S) where
  -- one step, and the result of printing its item
  abbrev pub ShowsStep : Result (Option ℕ) ToolError → Type 0
  ShowsStep r = (item : Option Outcome) × step s item t × ShowsLive item r

  entry_by : (count : ℕ) (item : Option Outcome) → step s item t → ShowsLive item (Ok (Some count))
      → (e : Entry) × (count ≡ merged_lines e) × step s (Some (Ok e)) t
  entry_by count None at shows = absurd cc
  entry_by count (Some (Ok e)) at shows = (e, let is : count ≡ merged_lines e = cc in is, at)
  entry_by count (Some (Err e)) at shows = absurd cc

  -- an entry was read
  pub entry_shown : (count : ℕ) → ShowsStep (Ok (Some count))
      → (e : Entry) × (count ≡ merged_lines e) × step s (Some (Ok e)) t
  entry_shown count one = entry_by count one.0 one.1 one.2

  none_by : (item : Option Outcome) → step s item t → ShowsLive item (Ok None) → step s None t
  none_by None at shows = at
  none_by (Some (Ok e)) at shows = absurd cc
  none_by (Some (Err e)) at shows = absurd cc

  -- no entry was left
  pub none_shown : ShowsStep (Ok None) → step s None t
  none_shown one = none_by one.0 one.1 one.2

  same_error : (f : ToolError) (e : Error) (r : Result (Option ℕ) ToolError) → r ≡ Err f
      → r ≡ Err (error.Refused e) → f ≡ error.Refused e
  same_error f e r is same = cc

  error_by : (P : ToolError → Type 0) (f : ToolError) (item : Option Outcome)
      → (NamesNone f → P f) → ((e : Error) → step s (Some (Err e)) t → P (error.Refused e))
      → step s item t → ShowsLive item (Err f) → P f
  error_by P f None none some at shows = absurd cc
  error_by P f (Some (Ok e)) none some at shows = none shows
  error_by P f (Some (Err e)) none some at shows =
      subst P (sym (same_error f e (Err f) refl shows)) (some e at)

  -- printing fails, or the source does
  pub error_unnamed : (r : Result ℕ ToolError) (f : ToolError) → IsErrAnd r (λ x. x ≡ f)
      → ShowsStep (Err f) → IfErr r (FailsOnlyAs (λ _. Unit {0}))
  error_unnamed (Ok x) f is one = absurd is
  error_unnamed (Err x) f is one =
      subst (FailsOnlyAs (λ _. Unit {0})) (sym is)
      (error_by (FailsOnlyAs (λ _. Unit {0})) f one.0 (none_only f (λ _. Unit {0}))
      (λ e at other. tt) one.1 one.2)

  module _ (stops : Error → Bool) (most : ℕ) (rs : List Outcome) where
    pub error_shown : (left : ℕ) (r : Result ℕ ToolError) (f : ToolError)
        → IsErrAnd r (λ x. x ≡ f) → ShowsStep (Err f) → Printing step stops most rs s left
        → IfOk r (PrintsMerged most rs)
        × IfErr r (FailsOnlyAs (λ e. stops e ≡ false → first_error rs ≡ Some e))
    error_shown left (Ok x) f is one before = absurd is
    error_shown left (Err x) f is one before = (
      tt,
      subst (FailsOnlyAs (λ e. stops e ≡ false → first_error rs ≡ Some e)) (sym is)
          (error_by (FailsOnlyAs (λ e. stops e ≡ false → first_error rs ≡ Some e)) f one.0
          (none_only f (λ e. stops e ≡ false → first_error rs ≡ Some e))
          (λ e at other goes. error_read step stops most rs s t left e goes before at) one.1
          one.2),
    )

    -- an entry more was read
    pub entry_more : (left count : ℕ) → 0 < left → ShowsStep (Ok (Some count))
        → Printing step stops most rs s left → Printing step stops most rs t (left - count)
    entry_more left count some one before =
        let e = entry_shown count one in
        subst (λ (n : ℕ). Printing step stops most rs t (left - n)) (sym e.1)
        (one_read step stops most rs s t left e.0 (omega (arith, some, few_lines e.0)) before e.2)

    -- no entry was left
    pub entries_end : (left : ℕ) → ShowsStep (Ok None) → Printing step stops most rs s left
        → PrintsMerged most rs (most - left)
    entries_end left one before = all_read step stops most rs s t left before (none_shown one)

  -- at most one line was printed
  pub few_shown : (count : ℕ) → ShowsStep (Ok (Some count)) → count ≤ 1
  few_shown count one =
      let e = entry_shown count one in omega (arith, e.1, few_lines e.0)

-- ---- the last items, as those of the source read from the back alone

last_first : {X : Type 0} (xs : List X) → but_first (reverse xs) ≡ reverse (but_last xs)
last_first xs = sym (reverse-reverse (but_first (reverse xs)))

pub from_back : {S : Type 0} (front back : S → Option Outcome → S → Type 0) (stops : Option Outcome → Bool)
    (s : S) (rs : List Outcome) → YieldsExactly stops front back s rs
    → YieldsExactly stops back nowhere s (reverse rs)
from_back {S} front back stops s rs yields =
    yields_by stops back nowhere Has
    (λ u xs r v has at goes.
    let one = yields_back stops front back u has.0 r v has.2 at goes in (
      one.0 ∙ ap first (sym has.1),
      (but_last has.0, ap but_first has.1 ∙ last_first has.0, one.1),
    ))
    (λ u xs r v has at goes. absurd at)
    s (reverse rs) (rs, refl, yields)
  where
    Has : S → List Outcome → Type 0
    Has u xs = (ys : List Outcome) × (xs ≡ reverse ys) × YieldsExactly stops front back u ys

-- ---- what is printed of a list

no_results : (es : List Entry) → ok_results es ≡ [] → length (live_of es) ≡ 0
no_results [] is = refl
no_results (x ∷ es) is = absurd cc

-- results of a list are a front of it and the results of the rest
split_list : (read es : List Entry) (rest : List Outcome) → ok_results read ++ rest ≡ ok_results es
    → (more : List Entry) × (es ≡ read ++ more) × (rest ≡ ok_results more)
split_list [] es rest is = (es, refl, is)
split_list (x ∷ read) [] rest is = absurd cc
split_list (x ∷ read) (y ∷ es) rest is =
    let same : x ≡ y = cc in
    let behind : ok_results read ++ rest ≡ ok_results es = cc in
    let one = split_list read es rest behind in
    (one.0, cc (same, one.1), one.2)

count_by : (count most alone more : ℕ) → count ≡ alone → count ≤ most → (count ≡ most) ⊎ (more ≡ 0)
    → count ≡ min most (alone + more)
count_by count most alone more is few ends = elim ends [
  | inl all ↦ omega (arith, is, few, all)
  | inr none ↦ omega (arith, is, few, none)
]

counted_of : (most : ℕ) (es : List Entry) (count : ℕ) → PrintsMerged most (ok_results es) count
    → count ≡ length (take most (live_of es))
counted_of most es count p =
    let parts = split_list p.read es p.rest p.split in
    let whole : length (live_of es) ≡ length (live_of p.read) + length (live_of parts.0) =
    ap (λ (xs : List Entry). length (live_of xs)) parts.1
    ∙ ap length (filter-append is_live p.read parts.0)
    ∙ length-append (live_of p.read) (live_of parts.0) in
    let ends : (count ≡ most) ⊎ (length (live_of parts.0) ≡ 0) = elim p.ends [
      | inl all ↦ inl all
      | inr none ↦ inr (no_results parts.0 (sym parts.2 ∙ none))
    ] in
    count_by count most (length (live_of p.read)) (length (live_of parts.0)) p.counted p.few ends
    ∙ ap (min most) (sym whole)
    ∙ sym (length-take most (live_of es))

-- so many entries are printed of a list that is read in turn
pub list_printed : (back : Bool) (r : Result ℕ ToolError) (most : ℕ) (es : List Entry)
    → IfOk r (PrintsMerged most (ok_results (in_turn back es)))
    → IfOk r (λ count. count ≡ length (merged_entries back most es))
list_printed back (Ok count) most es p = counted_of most (in_turn back es) count p
list_printed back (Err f) most es p = tt

pub back_printed : (r : Result ℕ ToolError) (most : ℕ) (es : List Entry)
    → IfOk r (PrintsMerged most (reverse (ok_results es)))
    → IfOk r (λ count. count ≡ length (merged_entries true most es))
back_printed r most es p =
    list_printed true r most es
    (subst (λ (rs : List Outcome). IfOk r (PrintsMerged most rs)) (map_reverse es) p)

none_by_list : (f : ToolError) (es : List Entry)
    → FailsOnlyAs (λ e. is_memory e ≡ false → first_error (ok_results es) ≡ Some e) f → NamesNone f
none_by_list (error.Output e) es fails = tt
none_by_list (error.Refused e) es fails = memory (is_memory e) refl
  where
    memory : (b : Bool) → is_memory e ≡ b → b ≡ true
    memory true is = refl
    memory false is =
        absurd (let never : None ≡ Some e = sym (no_first es) ∙ fails is is in cc)
none_by_list f es fails = absurd fails

-- the only errors of a list are those of the output and of memory
pub list_fails : (r : Result ℕ ToolError) (es : List Entry)
    → IfErr r (FailsOnlyAs (λ e. is_memory e ≡ false → first_error (ok_results es) ≡ Some e))
    → IfErr r NamesNone
list_fails (Ok count) es fails = tt
list_fails (Err f) es fails = none_by_list f es fails

pub back_fails : (r : Result ℕ ToolError) (es : List Entry)
    → IfErr r (FailsOnlyAs (λ e. is_memory e ≡ false
    → first_error (reverse (ok_results es)) ≡ Some e))
    → IfErr r NamesNone
back_fails r es fails =
    list_fails r (reverse es) (subst (λ (rs : List Outcome).
    IfErr r (FailsOnlyAs (λ e. is_memory e ≡ false → first_error rs ≡ Some e))) (map_reverse es)
    fails)
