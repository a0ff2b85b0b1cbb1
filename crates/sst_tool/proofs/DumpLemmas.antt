-- Entries that are shown one after another.
use Rattle.std.proofs.Common.{◌≡◌, refl, sym, ◌∙◌, ap, subst, Bool, true, false, ℕ, zero, suc}
use Rattle.std.proofs.Common.{List, [], ◌∷◌, ◌++◌, ◌+◌, ◌-◌, ◌<◌, ◌≤◌, append_assoc, append-nil}
use Rattle.std.proofs.Common.{arith, true≢false, length, reverse, take}
use Rattle.std.proofs.lemmas.List.{length-append, length-map, map-append, reverse-reverse, take-map}
use Rattle.std.specs.Prelude.{Option, None, Some, Result, Ok, Err, IfErr, IfOk}
use Rattle.std.specs.Result.{IsErrAnd}
use Rattle.sst_entries.specs.declared.error.Error.{Error}
use Rattle.sst_entries.specs.Entry.{Entry}
use Rattle.sst_entries.specs.Error.{is_memory}
use Rattle.sst_entries.specs.Stream.{CanYield, YieldsExactly, NoneStops, answer_stops, but_first, yield_each}
use Rattle.sst_entries.specs.Stream.{first, ok_results}
use Rattle.sst_entries.proofs.StreamLemmas.{can_after_back, can_front, yields_back, yields_front}
use Rattle.sst_entries.proofs.StreamLemmas.{map_reverse}
use Rattle.lsm_iters.specs.block_index.Yielded.{YieldsEnding, ended_at_error}
use Rattle.sst_tool.specs.declared.files.error.ToolError.{ToolError}
use Rattle.sst_tool.specs.declared.files.error.ToolError.TheVariants as error
use Rattle.sst_tool.specs.show.Failures.{FailsAs, NamesNone}
use Rattle.sst_tool.specs.show.Read.{DealsTo, Outcome, ShowsItem, dumped, in_turn}

taken_none : (n : ℕ) (rs : List Outcome) → rs ≡ [] → take n rs ≡ []
taken_none zero rs none = refl
taken_none (suc n) [] none = refl
taken_none (suc n) (r ∷ rs) none = absurd cc

-- behind entries of a list of entries stands no error
no_error : (xs ys : List Entry) (e : Error) (rs : List Outcome) → ok_results xs ++ Err e ∷ rs ≡ ok_results ys
    → ⊥
no_error [] [] e rs is = absurd cc
no_error [] (y ∷ ys) e rs is = absurd cc
no_error (x ∷ xs) [] e rs is = absurd cc
no_error (x ∷ xs) (y ∷ ys) e rs is =
    no_error xs ys e rs (let rest : ok_results xs ++ Err e ∷ rs ≡ ok_results ys = cc in rest)

turned_ok : (back : Bool) (es : List Entry) → in_turn back (ok_results es) ≡ ok_results (in_turn back es)
turned_ok false es = refl
turned_ok true es = map_reverse es

-- what is dumped of entries are entries
pub dumped_ok : (back : Bool) (n : ℕ) (es : List Entry)
    → dumped back n (ok_results es) ≡ ok_results (dumped back n es)
dumped_ok back n es =
    ap (λ (rs : List Outcome). take n rs) (turned_ok back es)
    ∙ take-map (λ (x : Entry). Ok x) n (in_turn back es)

pub as_many : (back : Bool) (n : ℕ) (es : List Entry)
    → length (dumped back n (ok_results es)) ≡ length (dumped back n es)
as_many back n es = ap length (dumped_ok back n es) ∙ length-map {B = Outcome} (dumped back n es) (λ (x : Entry). Ok x)

if_ok : {X E : Type 0} {P Q : X → Type 0} (r : Result X E) → ((x : X) → P x → Q x) → IfOk r P
    → IfOk r Q
if_ok (Ok x) f p = f x p
if_ok (Err e) f p = tt

-- so where that is answered
pub entries_left : {E : Type 0} (r : Result ℕ E) (back : Bool) (n : ℕ) (es : List Entry) (m : ℕ)
    → IfOk r (λ rest. rest ≡ m - length (dumped back n (ok_results es)))
    → IfOk r (λ rest. rest ≡ m - length (dumped back n es))
entries_left r back n es m returned =
    if_ok r (λ rest is. is ∙ ap (λ (k : ℕ). m - k) (as_many back n es)) returned

-- ---- what is dealt up to the first error

whole_answers : (rs : List (Option Outcome)) → NoneStops (answer_stops (λ _. true)) (ended_at_error rs)
    → ended_at_error rs ≡ rs
whole_answers [] fine = refl
whole_answers (None ∷ rs) fine =
    ap (λ (zs : List (Option Outcome)). None ∷ zs) (whole_answers rs fine.1)
whole_answers (Some (Ok x) ∷ rs) fine =
    ap (λ (zs : List (Option Outcome)). Some (Ok x) ∷ zs) (whole_answers rs fine.1)
whole_answers (Some (Err e) ∷ rs) fine = absurd (let not : true ≡ false = fine.0 in cc)

no_memory : (rs : List (Option Outcome)) → NoneStops (answer_stops (λ _. true)) rs
    → NoneStops (answer_stops is_memory) rs
no_memory [] fine = tt
no_memory (None ∷ rs) fine = (refl, no_memory rs fine.1)
no_memory (Some (Ok x) ∷ rs) fine = (refl, no_memory rs fine.1)
no_memory (Some (Err e) ∷ rs) fine = absurd (let not : true ≡ false = fine.0 in cc)

pub deals_to_error : {S : Type 0} (front back : S → Option Outcome → S → Type 0) (may may_back : S → Type 0)
    (s : S) (rs : List Outcome) → YieldsEnding front back may may_back s rs → DealsTo front back rs s
deals_to_error front back may may_back s rs d = record {
  answers = λ ends answers t runs fine.
      let is = d.answers ends answers t runs (no_memory answers fine) in
      is ∙ whole_answers (yield_each rs ends)
      (subst (λ (zs : List (Option Outcome)). NoneStops (answer_stops (λ _. true)) zs) is fine);
}

module _ {S : Type 0} (front back : S → Option Outcome → S → Type 0) (stops : Error → Bool) where
  -- a source that goes on deals these results; some entries were shown, and so many more may be
  pub record Shows (s : S) (from_end : Bool) (n m : ℕ) (all : List Outcome) : Type 0 where
    pub shown : List Entry
    pub rest : List Outcome
    pub yields : YieldsExactly (answer_stops stops) front back s rest
    pub counted : length shown + n ≡ m
    pub whole : ok_results shown ++ dumped from_end n rest ≡ all

  -- what one answer leaves
  pub record Leaves (t : S) (from_end : Bool) (n : ℕ) (e : Entry) (rest : List Outcome) : Type 0 where
    pub left : List Outcome
    pub yields : YieldsExactly (answer_stops stops) front back t left
    pub taken : dumped from_end (suc n) rest ≡ Ok e ∷ dumped from_end n left

  front_by : (t : S) (n : ℕ) (e : Entry) (rest : List Outcome) → Some (Ok e) ≡ first rest
      → YieldsExactly (answer_stops stops) front back t (but_first rest) → Leaves t false n e rest
  front_by t n e [] gave yields = absurd cc
  front_by t n e (x ∷ xs) gave yields = record {
    left = xs;
    yields = yields;
    taken = let same : x ≡ Ok e = cc in ap (λ (y : Outcome). y ∷ take n xs) same;
  }

  -- the last of what is left is the first of it in the other order
  back_by : (t : S) (n : ℕ) (e : Entry) (rest turned : List Outcome) → reverse rest ≡ turned
      → Some (Ok e) ≡ first turned
      → YieldsExactly (answer_stops stops) front back t (reverse (but_first turned))
      → Leaves t true n e rest
  back_by t n e rest [] is gave yields = absurd cc
  back_by t n e rest (x ∷ xs) is gave yields = record {
    left = reverse xs;
    yields = yields;
    taken = let same : x ≡ Ok e = cc in
        ap (λ (rs : List Outcome). take (suc n) rs) is
        ∙ ap (λ (y : Outcome). y ∷ take n xs) same
        ∙ ap (λ (rs : List Outcome). Ok e ∷ take n rs) (sym (reverse-reverse xs));
  }

  one_by : (s t : S) (from_end : Bool) (n : ℕ) (e : Entry) (rest : List Outcome)
      → YieldsExactly (answer_stops stops) front back s rest
      → (from_end ≡ false → front s (Some (Ok e)) t)
      → (from_end ≡ true → back s (Some (Ok e)) t) → Leaves t from_end n e rest
  one_by s t false n e rest yields front_step back_step =
      let one = yields_front (answer_stops stops) front back s rest (Some (Ok e)) t yields
      (front_step refl) refl in
      front_by t n e rest one.0 one.1
  one_by s t true n e rest yields front_step back_step =
      let one = yields_back (answer_stops stops) front back s rest (Some (Ok e)) t yields
      (back_step refl) refl in
      back_by t n e rest (reverse rest) refl one.0 one.1

  -- an entry more is shown
  shows_more : (s t : S) (from_end : Bool) (n m : ℕ) (e : Entry) (all : List Outcome)
      → Shows s from_end (suc n) m all → (from_end ≡ false → front s (Some (Ok e)) t)
      → (from_end ≡ true → back s (Some (Ok e)) t) → Shows t from_end n m all
  shows_more s t from_end n m e all before front_step back_step =
      let one = one_by s t from_end n e before.rest before.yields front_step back_step in
      record {
        shown = before.shown ++ e ∷ [];
        rest = one.left;
        yields = one.yields;
        counted = omega (arith, length-append before.shown (e ∷ []), before.counted);
        whole = ap (λ (rs : List Outcome). rs ++ dumped from_end n one.left)
            (map-append (λ (x : Entry). Ok x) before.shown (e ∷ []))
            ∙ append_assoc (ok_results before.shown) (Ok e ∷ []) (dumped from_end n one.left)
            ∙ ap (λ (rs : List Outcome). ok_results before.shown ++ rs) (sym one.taken)
            ∙ before.whole;
      }

  -- and one less may be
  pub shows_one : (s t : S) (from_end : Bool) (k m : ℕ) (e : Entry) (all : List Outcome) → 0 < k
      → Shows s from_end k m all → (from_end ≡ false → front s (Some (Ok e)) t)
      → (from_end ≡ true → back s (Some (Ok e)) t) → Shows t from_end (k - 1) m all
  shows_one s t from_end zero m e all some before front_step back_step =
      absurd (omega (arith, some))
  shows_one s t from_end (suc n) m e all some before front_step back_step =
      let same : n ≡ suc n - 1 = omega arith in
      subst (λ (k : ℕ). Shows t from_end k m all) same
      (shows_more s t from_end n m e all before front_step back_step)

  -- nothing was shown yet
  pub shows_none : (s : S) (from_end : Bool) (n : ℕ) (rs : List Outcome)
      → YieldsExactly (answer_stops stops) front back s rs → Shows s from_end n n (dumped from_end n rs)
  shows_none s from_end n rs yields = record {
    shown = [];
    rest = rs;
    yields = yields;
    counted = omega arith;
    whole = refl;
  }

  -- all is shown that is to be
  ends : (s : S) (from_end : Bool) (n m : ℕ) (all : List Outcome)
      (before : Shows s from_end n m all) → dumped from_end n before.rest ≡ []
      → ((es : List Entry) × (all ≡ ok_results es)) × (n ≡ m - length all)
  ends s from_end n m all before none =
      let same = sym (append-nil (ok_results before.shown))
      ∙ ap (λ (rs : List Outcome). ok_results before.shown ++ rs) (sym none) ∙ before.whole in (
        (before.shown, sym same),
        omega (
          arith,
          before.counted,
          ap length same,
          length-map {B = Outcome} before.shown (λ (x : Entry). Ok x),
        ),
      )

  -- as many are shown as may be
  pub shows_end : (s : S) (from_end : Bool) (n m : ℕ) (all : List Outcome) → n ≤ 0
      → Shows s from_end n m all
      → ((es : List Entry) × (all ≡ ok_results es)) × (0 ≡ m - length all)
  shows_end s from_end zero m all none before = ends s from_end 0 m all before refl
  shows_end s from_end (suc n) m all none before = absurd (omega (arith, none))

  nothing_left : (rest : List Outcome) → first rest ≡ None → rest ≡ []
  nothing_left [] none = refl
  nothing_left (x ∷ xs) none = absurd cc

  none_dumped : (s t : S) (from_end : Bool) (n : ℕ) (rest : List Outcome)
      → YieldsExactly (answer_stops stops) front back s rest → (from_end ≡ false → front s None t)
      → (from_end ≡ true → back s None t) → dumped from_end n rest ≡ []
  none_dumped s t false n rest yields front_step back_step =
      taken_none n rest (nothing_left rest (sym
      (yields_front (answer_stops stops) front back s rest None t yields (front_step refl) refl).0))
  none_dumped s t true n rest yields front_step back_step =
      taken_none n (reverse rest) (nothing_left (reverse rest) (sym
      (yields_back (answer_stops stops) front back s rest None t yields (back_step refl) refl).0))

  -- all is shown that there is
  pub shows_all : (s t : S) (from_end : Bool) (n m : ℕ) (all : List Outcome)
      → Shows s from_end n m all → (from_end ≡ false → front s None t)
      → (from_end ≡ true → back s None t)
      → ((es : List Entry) × (all ≡ ok_results es)) × (n ≡ m - length all)
  shows_all s t from_end n m all before front_step back_step =
      ends s from_end n m all before
      (none_dumped s t from_end n before.rest before.yields front_step back_step)

module _ {S : Type 0} (front back : S → Option Outcome → S → Type 0) where
  -- the next of what is left is an error, which is none of a list's
  error_by : (s : S) (from_end : Bool) (k m : ℕ) (es : List Entry) (e : Error)
      (before : Shows front back is_memory s from_end (suc k) m (dumped from_end m (ok_results es)))
      (turned : List Outcome) → in_turn from_end before.rest ≡ turned
      → Some (Err e) ≡ first turned → ⊥
  error_by s from_end k m es e before [] is next = absurd cc
  error_by s from_end k m es e before (x ∷ xs) is next =
      let same : x ≡ Err e = cc in
      let taken : dumped from_end (suc k) before.rest ≡ Err e ∷ take k xs
      = ap (λ (rs : List Outcome). take (suc k) rs) is ∙ ap (λ (r : Outcome). r ∷ take k xs) same in
      no_error before.shown (dumped from_end m es) e (take k xs)
      (ap (λ (rs : List Outcome). ok_results before.shown ++ rs) (sym taken) ∙ before.whole
      ∙ dumped_ok from_end m es)

  memory_by : (s t : S) (from_end : Bool) (k m : ℕ) (es : List Entry) (e : Error) (b : Bool)
      → is_memory e ≡ b
      → Shows front back is_memory s from_end (suc k) m (dumped from_end m (ok_results es))
      → (from_end ≡ false → front s (Some (Err e)) t)
      → (from_end ≡ true → back s (Some (Err e)) t) → b ≡ true
  memory_by s t from_end k m es e true is before front_step back_step = refl
  memory_by s t false k m es e false is before front_step back_step =
      absurd (error_by s false k m es e before before.rest refl
      (yields_front (answer_stops is_memory) front back s before.rest (Some (Err e)) t before.yields
      (front_step refl) is).0)
  memory_by s t true k m es e false is before front_step back_step =
      absurd (error_by s true k m es e before (reverse before.rest) refl
      (yields_back (answer_stops is_memory) front back s before.rest (Some (Err e)) t before.yields
      (back_step refl) is).0)

  -- of a list an error is one of memory
  pub error_is_memory : (s t : S) (from_end : Bool) (k m : ℕ) (e : Error) (es : List Entry)
      → 0 < k → Shows front back is_memory s from_end k m (dumped from_end m (ok_results es))
      → (from_end ≡ false → front s (Some (Err e)) t)
      → (from_end ≡ true → back s (Some (Err e)) t) → is_memory e ≡ true
  error_is_memory s t from_end zero m e es some before front_step back_step =
      absurd (omega (arith, some))
  error_is_memory s t from_end (suc k) m e es some before front_step back_step =
      memory_by s t from_end k m es e (is_memory e) refl before front_step back_step

-- a source may be asked on
pub may_go_on : {S A : Type 0} (front back : S → Option A → S → Type 0) (can can_back : S → Type 0)
    (s t : S) (from_end : Bool) (r : Option A) → CanYield front back can can_back s
    → (from_end ≡ false → front s r t) → (from_end ≡ true → back s r t)
    → CanYield front back can can_back t
may_go_on front back can can_back s t false r may front_step back_step =
    can_front front back can can_back s r t may (front_step refl)
may_go_on front back can can_back s t true r may front_step back_step =
    can_after_back front back can can_back s r t may (back_step refl)

-- ---- one item, asked for and shown

no_answer : (f : ToolError) (b : Bool) (r : Result Bool ToolError) → r ≡ Err f → r ≡ Ok b → ⊥
no_answer f b r is not = cc

same_answer : (a b : Bool) (r : Result Bool ToolError) → r ≡ Ok a → r ≡ Ok b → a ≡ b
same_answer a b r is same = cc

same_failure : (f g : ToolError) (r : Result Bool ToolError) → r ≡ Err f → r ≡ Err g → f ≡ g
same_failure f g r is same = cc

-- what names no file fails as anything is told
pub none_fails : (f : ToolError) (IsReported : Error → Type 0) → NamesNone f → FailsAs IsReported f
none_fails (error.Refused e) IsReported none = λ other. absurd (true≢false (sym none ∙ other))
none_fails (error.Output e) IsReported none = tt
none_fails f IsReported none = absurd none

module _ {S : Type 0} (front back : S → Option Outcome → S → Type 0) (s t : S) (from_end : Bool)
  where
    -- a call gave this item
    pub record Gave (item : Option Outcome) : Type 0 where
      pub at_front : from_end ≡ false → front s item t
      pub at_back : from_end ≡ true → back s item t

    abbrev pub ShowsNext : Result Bool ToolError → Type 0
    ShowsNext r = (item : Option Outcome) × (from_end ≡ false → front s item t)
        × (from_end ≡ true → back s item t) × ShowsItem item r

    gave_next : (r : Result Bool ToolError) (next : ShowsNext r) → Gave next.0
    gave_next r next = record { at_front = next.1; at_back = next.2 }

    entry_by : (item : Option Outcome) (more : Bool) → more ≡ true → Gave item
        → ShowsItem item (Ok more) → (e : Entry) × Gave (Some (Ok e))
    entry_by None more is gave shown =
        absurd (true≢false (sym is ∙ same_answer more false (Ok more) refl shown))
    entry_by (Some (Ok e)) more is gave shown = (e, gave)
    entry_by (Some (Err e)) more is gave shown =
        absurd (no_answer (error.Refused e) more (Ok more) shown refl)

    -- it gave an entry
    pub entry_shown : (more : Bool) → more ≡ true → ShowsNext (Ok more)
        → (e : Entry) × Gave (Some (Ok e))
    entry_shown more is next = entry_by next.0 more is (gave_next (Ok more) next) next.3

    end_by : (item : Option Outcome) (more : Bool) → more ≡ false → Gave item
        → ShowsItem item (Ok more) → Gave None
    end_by None more is gave shown = gave
    end_by (Some (Ok e)) more is gave shown = absurd (true≢false (sym shown ∙ is))
    end_by (Some (Err e)) more is gave shown =
        absurd (no_answer (error.Refused e) more (Ok more) shown refl)

    -- it gave nothing
    pub end_shown : (more : Bool) → more ≡ false → ShowsNext (Ok more) → Gave None
    end_shown more is next = end_by next.0 more is (gave_next (Ok more) next) next.3

    error_item : (P : ToolError → Type 0) (item : Option Outcome) (f : ToolError)
        → (NamesNone f → P f) → ((e : Error) → Gave (Some (Err e)) → P (error.Refused e))
        → Gave item → ShowsItem item (Err f) → P f
    error_item P None f none some gave shown = absurd (no_answer f false (Err f) refl shown)
    error_item P (Some (Ok e)) f none some gave shown = none shown
    error_item P (Some (Err e)) f none some gave shown =
        subst P (sym (same_failure f (error.Refused e) (Err f) refl shown)) (some e gave)

    -- of a failure that is passed on, this holds where it names no file, and where an error came
    pub error_shown : {X : Type 0} (r : Result X ToolError) (f : ToolError) (P : ToolError → Type 0)
        → IsErrAnd r (λ x. x ≡ f) → (NamesNone f → P f)
        → ((e : Error) → Gave (Some (Err e)) → P (error.Refused e)) → ShowsNext (Err f) → IfErr r P
    error_shown (Ok x) f P is none some next = tt
    error_shown (Err x) f P is none some next =
        subst P (sym is) (error_item P next.0 f none some (gave_next (Err f) next) next.3)
