-- What is left of a scan: one step of it, and what it deals.
use Rattle.std.proofs.Common.{◌≡◌, ℕ, zero, suc, ◌+◌, ◌-◌, ◌^◌, ◌<◌, Bool, true, false, List, []}
use Rattle.std.proofs.Common.{◌∷◌, ◌++◌, length, map, max, refl, sym, ap, subst, ◌∙◌}
use Rattle.std.proofs.Common.{arith, inl, inr}
use Rattle.std.specs.Prelude.{Option, Some, None, Result, Ok, Err, IfErr, IfOk, is_some, ◌⊎◌}
use Rattle.std.specs.Iterator.{MakesProgress, at_most}
use Rattle.std.specs.List.{flat_map}
use Rattle.std.proofs.lemmas.Bool.{le-ltb}
use Rattle.sst_blocks.specs.declared.block_type.BlockType.TheVariants.{Data}
use Rattle.sst_entries.specs.declared.error.Error.{Error}
use Rattle.sst_entries.specs.declared.error.Error.TheVariants.{OutOfMemory}
use Rattle.sst_blocks.specs.Block.{Loaded, load_at_result, position_fault, entries_of}
use Rattle.sst_entries.specs.Entry.{Entry}
use Rattle.sst_entries.specs.Lending.{came}
use Rattle.sst_entries.specs.Error.{FaultsFirst, is_memory}
use Rattle.sst_blocks.specs.declared.opened.Opened.{Opened}
use Rattle.sst_blocks.specs.Opened.{with_load}
use Rattle.sst_entries.specs.Stream.{Answers, YieldsExactly, first, but_first, front_of, nowhere}
use Rattle.sst_entries.specs.Stream.{Lowers, answer_stops}
use Rattle.sst_entries.proofs.StreamLemmas.{head_eq, yields_by}
use Rattle.sst_entries.proofs.Refusals.{memory_is}
use Rattle.lsm_readers.specs.point.Answer.{lifted}
use Rattle.lsm_readers.specs.Scan.{FaultsAtBlock, FaultsAtEntry, IsEndedScan, Scan, ScanHas}
use Rattle.lsm_readers.specs.Scan.{ScansLent, ScansNext, lend_first, lend_next, unlend}
use Rattle.lsm_readers.specs.Scan.{behind, block_result, blocks_results, ended, entries_from}
use Rattle.lsm_readers.specs.Scan.{entries_results, fault_of, lifted_result, loads, scan_loads_behind}
use Rattle.lsm_readers.specs.Scan.{loads_from, loads_of, scan_left, scan_size, scan_results}
use Rattle.lsm_readers.specs.Scan.{then_blocks, unless_left, up_to_error}
use Rattle.lsm_readers.specs.point.Read.{◌>>=◌}

abbrev R : Type 0
R = Result Entry Error

abbrev Answer : Scan → Option R → Scan → Type 0
Answer = Answers (λ _. Unit {0}) ScanHas front_of

-- ---- an entry with the global number added

pub lifted_ok : (g : ℕ) (e : Entry) → e.seqno + g < 2 ^ 64 → lifted_result g e ≡ Ok (lifted g e)
lifted_ok g e fits = rw (le-ltb (2 ^ 64 - 1) (e.seqno + g) (omega (arith, fits))) refl

-- ---- what is left

-- an ended scan gives nothing
pub ended_left : (s : Scan) → IsEndedScan s → scan_left s ≡ []
unfolding entries_from blocks_results
ended_left s e = rw (e.0, e.1) refl

-- the first entry, or its fault
abbrev first_entry : R → List R → List R
first_entry (Ok x) more = Ok x ∷ more
first_entry (Err e) more = Err e ∷ []

up_to_first : (r : R) (rs : List R) → up_to_error (r ∷ rs) ≡ first_entry r (up_to_error rs)
up_to_first (Ok x) rs = refl
up_to_first (Err e) rs = refl

pub entry_left : (body : List ℕ) (g : ℕ) (e : Entry) (es : List Entry) (position count : ℕ)
    → entries_from body g (e ∷ es) position count
    ≡ first_entry (lifted_result g e) (entries_from body g es position count)
unfolding entries_from
entry_left body g e es position count = up_to_first (lifted_result g e)
    (map (lifted_result g) es ++ flat_map (entries_results g) (blocks_results body position count))

-- what is left behind the present block, by what the next block is
abbrev next_left : List ℕ → ℕ → ℕ → Result (List Entry × ℕ) Error → List R
next_left body g n (Ok x) = entries_from body g x.0 x.1 n
next_left body g n (Err e) = Err e ∷ []

next_blocks : (body : List ℕ) (g n position : ℕ) (r : Result Loaded Error)
    → up_to_error (flat_map (entries_results g) (then_blocks r
    (λ b. blocks_results body (behind position b) n)))
    ≡ next_left body g n (r >>= λ b. Ok (entries_of b, behind position b))
unfolding entries_from
next_blocks body g n position (Ok b) = refl
next_blocks body g n position (Err e) = refl

pub block_left : (body : List ℕ) (g position n : ℕ)
    → entries_from body g [] position (suc n) ≡ next_left body g n (block_result body position)
unfolding entries_from blocks_results
block_left body g position n = next_blocks body g n position (load_at_result body position Data)

-- ---- what a call gives

still : (s t : Scan) (x : Entry) (stops : Error → Bool) → scan_left s ≡ Ok x ∷ scan_left t
    → IsEndedScan s ⊎ (stops OutOfMemory ≡ true) → IsEndedScan t ⊎ (stops OutOfMemory ≡ true)
still s t x stops left (inl e) = absurd (let no : [] ≡ Ok x ∷ scan_left t = sym (ended_left s e)
    ∙ left in cc)
still s t x stops left (inr m) = inr m

-- the first entry
gave_entry : (s t : Scan) (x : Entry) → scan_left s ≡ Ok x ∷ scan_left t → Answer s (Some (Ok x)) t
gave_entry s t x left = record {
  may = tt;
  gives = λ stops xs has fine.
      let whole : xs ≡ Ok x ∷ scan_left t = has.0 ∙ left in
      (sym (ap first whole), (ap but_first whole, still s t x stops left has.1));
}

no_memory : (s : Scan) (e : Error) (stops : Error → Bool) → e ≡ OutOfMemory → (IsEndedScan s → ⊥)
    → stops e ≡ false → IsEndedScan s ⊎ (stops OutOfMemory ≡ true) → ⊥
no_memory s e stops is going fine (inl done) = going done
no_memory s e stops is going fine (inr m) = let wrong : true ≡ false = sym m ∙ sym (ap stops is)
    ∙ fine in absurd cc

error_gives : (s t : Scan) (e : Error) (stops : Error → Bool) (xs : List R)
    → (is_memory e ≡ false → scan_left s ≡ Err e ∷ []) → (IsEndedScan s → ⊥) → IsEndedScan t →
    (b : Bool)
    → is_memory e ≡ b → ScanHas stops s xs → stops e ≡ false
    → (Some (Err e) ≡ first xs) × ScanHas stops t (but_first xs)
error_gives s t e stops xs left going done true m has fine =
    absurd (no_memory s e stops (memory_is e m) going fine has.1)
error_gives s t e stops xs left going done false m has fine =
    let whole : xs ≡ Err e ∷ [] = has.0 ∙ left m in
    (sym (ap first whole), (ap but_first whole ∙ sym (ended_left t done), inl done))

-- the error in front, or want of memory
gave_error : (s t : Scan) (e : Error) → (is_memory e ≡ false → scan_left s ≡ Err e ∷ [])
    → (IsEndedScan s → ⊥) → IsEndedScan t → Answer s (Some (Err e)) t
gave_error s t e left going done = record {
  may = tt;
  gives =
      λ stops xs has fine. error_gives s t e stops xs left going done (is_memory e) refl has fine;
}

-- nothing
gave_none : (s : Scan) → IsEndedScan s → Answer s None s
gave_none s done = record {
  may = tt;
  gives = λ stops xs has fine.
      let none : xs ≡ [] = has.0 ∙ ended_left s done in
      (sym (ap first none), (ap but_first none ∙ sym (ended_left s done), inl done));
}

-- ---- the blocks that a call goes through

-- the next block has no fault that is found before memory is taken
abbrev HasNoFault : Scan → Type 0
HasNoFault s = (e : Error) → position_fault s.body s.position Data ≡ Some e → ⊥

-- from s the call has come to u, of which as much is left; either no block was read yet, or the
-- first had no fault
pub record Reached (s u : Scan) : Type 0 where
  pub left : scan_left u ≡ scan_left s
  pub start : (unlend s ≡ unlend u) ⊎ HasNoFault s
  pub stands : (unlend s ≡ unlend u) ⊎ (s.entries ≡ [])
  pub ended : IsEndedScan s → IsEndedScan u
  pub count : ℕ
  pub counts : u.opened ≡ loads count s.opened
  pub falls : count + u.blocks ≡ s.blocks
  pub needs : count + loads_of u ≡ loads_of s

ended_too : (s u : Scan) (m : Type 0) → (IsEndedScan s → IsEndedScan u) → IsEndedScan s ⊎ m →
    IsEndedScan u ⊎ m
ended_too s u m on (inl e) = inl (on e)
ended_too s u m on (inr h) = inr h

answers_from : (s u t : Scan) (r : Option R) → Reached s u → Answer u r t → Answer s r t
answers_from s u t r reached answer = record {
  may = tt;
  gives = λ stops xs has fine. answer.gives stops xs
      (has.0 ∙ sym reached.left, ended_too s u (stops OutOfMemory ≡ true) reached.ended has.1) fine;
}

-- the next block was loaded
abbrev pub moved : Scan → List Entry → ℕ → Scan
moved u es next = record u {
  lent = None;
  entries = es;
  position = next;
  blocks = u.blocks - 1;
  opened =
      with_load Data u.opened;
}

pub moved_is : (u s : Scan) (es : List Entry) (next : ℕ) (o : Opened) → u ≡ s
    → o ≡ with_load Data u.opened → record (moved u es next) { opened = o } ≡ moved s es next
moved_is u s es next o same counts = ap (λ (p : Opened). record (moved u es next) { opened = p })
    counts ∙ ap (λ (v : Scan). moved v es next) same

next_is : (u : Scan) (n : ℕ) → u.entries ≡ [] → u.blocks ≡ suc n
    → scan_left u ≡ next_left u.body u.global_seqno n (block_result u.body u.position)
next_is u n none some = ap (λ (es : List Entry). entries_from u.body u.global_seqno es u.position
    u.blocks) none ∙ ap (λ (k : ℕ). entries_from u.body u.global_seqno [] u.position k) some
    ∙ block_left u.body u.global_seqno u.position n

needs_first : (u : Scan) (n : ℕ) → u.entries ≡ [] → u.blocks ≡ suc n
    → loads_of u ≡ suc (scan_loads_behind (block_result u.body u.position)
    (λ next. loads_from u.body next n))
unfolding loads_from
needs_first u n none some = rw (none, some) refl

needs_next : (u : Scan) (n : ℕ) (es : List Entry) (next : ℕ) → u.entries ≡ [] → u.blocks ≡ suc n
    → block_result u.body u.position ≡ Ok (es, next)
    → loads_of u ≡ suc (unless_left es (loads_from u.body next n))
needs_next u n es next none some returned =
    needs_first u n none some ∙ ap (λ (r : Result (List Entry × ℕ) Error). suc
    (scan_loads_behind r (λ next. loads_from u.body next n))) returned

abbrev loaded : Result (Unit {0}) Error
loaded = Ok tt

no_fault : (s u : Scan) → (unlend s ≡ unlend u) ⊎ HasNoFault s
    → FaultsFirst loaded (position_fault u.body u.position Data) → HasNoFault s
no_fault s u (inl same) ahead = subst HasNoFault (sym same)
    (λ e h. let wrong : Some e ≡ None = ahead e h in cc)
no_fault s u (inr none) ahead = none

-- a block is read only where no entry is left
none_stood : (s u : Scan) → (unlend s ≡ unlend u) ⊎ (s.entries ≡ []) → u.entries ≡ []
    → s.entries ≡ []
none_stood s u (inl same) none = ap (λ (v : Scan). v.entries) same ∙ none
none_stood s u (inr none) _ = none

pub reached_next : (s u : Scan) (es : List Entry) (next : ℕ) → Reached s u → u.entries ≡ []
    → 0 < u.blocks → block_result u.body u.position ≡ Ok (es, next)
    → FaultsFirst loaded (position_fault u.body u.position Data) → Reached s (moved u es next)
reached_next s u es next reached none some returned ahead =
    let n = u.blocks - 1 in
    let k : u.blocks ≡ suc n = omega (arith, some) in
    record {
      left = sym (next_is u n none k ∙ ap (next_left u.body u.global_seqno n) returned) ∙ reached.left;
      start = inr (no_fault s u reached.start ahead);
      stands = inr (none_stood s u reached.stands none);
      ended = λ e. absurd (omega (arith, some, (reached.ended e).1));
      count = suc reached.count;
      counts = ap (with_load Data) reached.counts;
      falls = omega (arith, reached.falls, some);
      needs = omega (arith, reached.needs, needs_next u n es next none k returned);
    }

-- ---- the answers

has_entry : (s : Scan) (e : Entry) (es : List Entry) → s.entries ≡ e ∷ es → IsEndedScan s → ⊥
has_entry s e es some done = let no : [] ≡ e ∷ es = sym done.0 ∙ some in cc

has_block : (s : Scan) → 0 < s.blocks → IsEndedScan s → ⊥
has_block s some done = omega (arith, some, done.1)

-- where an entry is left, no more blocks are needed
all_loaded : (s u : Scan) (e : Entry) (es : List Entry) (reached : Reached s u) → u.entries ≡ e ∷ es
    → reached.count ≡ loads_of s
all_loaded s u e es reached some =
    let none : loads_of u ≡ 0 = ap (λ (xs : List Entry). unless_left xs
    (loads_from u.body u.position u.blocks)) some in
    omega (arith, reached.needs, none)

abbrev refused : Error → Result (Unit {0}) Error
refused e = Err e

-- where an entry is left, and where nothing is left to read, no block was asked for or the first
-- had no fault
early_entry : (s u : Scan) (e : Entry) (es : List Entry) (r : Option R)
    → (unlend s ≡ unlend u) ⊎ HasNoFault s
    → u.entries ≡ e ∷ es → FaultsAtBlock s r
early_entry s u e es r (inl same) some none more fault h =
    absurd (let wrong : [] ≡ e ∷ es = sym none ∙ ap (λ (v : Scan). v.entries) same ∙ some in cc)
early_entry s u e es r (inr calm) some none more fault h = absurd (calm fault h)

early_none : (s u : Scan) (r : Option R) → (unlend s ≡ unlend u) ⊎ HasNoFault s → u.blocks ≡ 0
    → FaultsAtBlock s r
early_none s u r (inl same) last none more fault h =
    absurd (omega (arith, more, ap (λ (v : Scan). v.blocks) same, last))
early_none s u r (inr calm) last none more fault h = absurd (calm fault h)

-- the refusal of the block that was reached
early_block : (s u : Scan) (e : Error) → (unlend s ≡ unlend u) ⊎ HasNoFault s
    → FaultsFirst (refused e) (position_fault u.body u.position Data)
    → FaultsAtBlock s (Some (Err e))
early_block s u e (inl same) ahead none more fault h =
    let is : Some fault ≡ Some e = ahead fault (ap
    (λ (v : Scan). position_fault v.body v.position Data) (sym same) ∙ h) in
    cc
early_block s u e (inr calm) ahead none more fault h = absurd (calm fault h)

-- of an entry that stands in the present block comes what its number says
abbrev LendsThere : Scan → Option R → Type 0
LendsThere s r = (x : Entry) (xs : List Entry) → s.entries ≡ x ∷ xs
    → r ≡ Some (lifted_result s.global_seqno x)

there_entry : (s u : Scan) (e : Entry) (es : List Entry) (r : R)
    → (unlend s ≡ unlend u) ⊎ (s.entries ≡ []) → u.entries ≡ e ∷ es
    → lifted_result u.global_seqno e ≡ r → LendsThere s (Some r)
there_entry s u e es r (inl same) some returned x xs stands =
    let one : e ≡ x = head_eq (sym some ∙ sym (ap (λ (v : Scan). v.entries) same) ∙ stands) in
    ap (λ (y : R). Some y) (sym returned
    ∙ ap (λ (g : ℕ). lifted_result g e) (sym (ap (λ (v : Scan). v.global_seqno) same))
    ∙ ap (lifted_result s.global_seqno) one)
there_entry s u e es r (inr none) some returned x xs stands =
    absurd (let wrong : [] ≡ x ∷ xs = sym none ∙ stands in cc)

there_none : (s u : Scan) (r : Option R) → (unlend s ≡ unlend u) ⊎ (s.entries ≡ [])
    → u.entries ≡ [] → LendsThere s r
there_none s u r stood none x xs stands =
    absurd (let wrong : [] ≡ x ∷ xs = sym (none_stood s u stood none) ∙ stands in cc)

-- its number comes before any want of memory
lifts_there : (s : Scan) (r : Option R) → LendsThere s r → FaultsAtEntry s r
lifts_there s r there x xs stands f returned = there x xs stands ∙ ap (λ (y : R). Some y) returned

entry_ok : (s u : Scan) (e : Entry) (es : List Entry) (x : Entry) → Reached s u → u.entries ≡ e ∷ es
    → lifted_result u.global_seqno e ≡ Ok x
    → ScansLent s (Some (Ok x)) (record u { lent = Some x; entries = es })
entry_ok s u e es x reached some returned =
    let t = record u { lent = Some x; entries = es } in
    let left : scan_left u ≡ Ok x ∷ scan_left t =
    ap (λ (ys : List Entry). entries_from u.body u.global_seqno ys u.position u.blocks) some
    ∙ entry_left u.body u.global_seqno e es u.position u.blocks
    ∙ ap (λ (r : R). first_entry r (entries_from u.body u.global_seqno es u.position u.blocks))
    returned in
    let there = there_entry s u e es (Ok x) reached.stands some returned in
    record {
      next = record {
        answers = answers_from s u t (Some (Ok x)) reached (gave_entry u t x left);
        ends = tt;
        early = early_entry s u e es (Some (Ok x)) reached.start some;
        lifts = lifts_there s (Some (Ok x)) there;
        count = reached.count;
        counts = reached.counts;
        within = omega (arith, reached.falls);
        exact = λ _. all_loaded s u e es reached some;
        most = omega (arith, all_loaded s u e es reached some);
        some = λ more. omega (arith, more, all_loaded s u e es reached some);
        falls = reached.falls;
      };
      there = there;
    }

entry_err : (s u : Scan) (e : Entry) (es : List Entry) (fault : Error) → Reached s u
    → u.entries ≡ e ∷ es → lifted_result u.global_seqno e ≡ Err fault
    → ScansLent s (Some (Err fault)) (ended u)
entry_err s u e es fault reached some returned =
    let left = λ (m : is_memory fault ≡ false). ap
    (λ (ys : List Entry). entries_from u.body u.global_seqno ys u.position u.blocks) some
    ∙ entry_left u.body u.global_seqno e es u.position u.blocks
    ∙ ap (λ (r : R). first_entry r (entries_from u.body u.global_seqno es u.position u.blocks))
    returned in
    let there = there_entry s u e es (Err fault) reached.stands some returned in
    record {
      next = record {
        answers = answers_from s u (ended u) (Some (Err fault)) reached
            (gave_error u (ended u) fault left (has_entry u e es some) (refl, refl));
        ends = (refl, refl);
        early = early_entry s u e es (Some (Err fault)) reached.start some;
        lifts = lifts_there s (Some (Err fault)) there;
        count = reached.count;
        counts = reached.counts;
        within = omega (arith, reached.falls);
        exact = λ _. all_loaded s u e es reached some;
        most = omega (arith, all_loaded s u e es reached some);
        some = λ more. omega (arith, more, all_loaded s u e es reached some);
        falls = tt;
      };
      there = there;
    }

-- what a step of the block that was reached leads to: an entry or its fault
abbrev Lends : Scan → Result Bool Error × Scan → Type 0
Lends s p = ScansLent s (came p.0 p.1.lent) p.1

lends_result : (s u : Scan) (e : Entry) (es : List Entry) (returned : R) → Reached s u
    → u.entries ≡ e ∷ es → lifted_result u.global_seqno e ≡ returned → Lends s (lend_first u es returned)
lends_result s u e es (Ok x) reached some returned = entry_ok s u e es x reached some returned
lends_result s u e es (Err fault) reached some returned = entry_err s u e es fault reached some returned

pub scans_entry : (s u t : Scan) (r : Result Bool Error) → Reached s u
    → (r, t) ≡ lend_next u u.entries → (r ≡ Ok false → ⊥) → ScansLent s (came r t.lent) t
scans_entry s u t r reached is some = by u.entries refl is
  where
    by : (es : List Entry) → u.entries ≡ es → (r, t) ≡ lend_next u es
        → ScansLent s (came r t.lent) t
    by [] none is = absurd (some (ap (λ (p : Result Bool Error × Scan). p.0) is))
    by (e ∷ es) stands is = subst (Lends s) (sym is)
        (lends_result s u e es (lifted_result u.global_seqno e) reached stands refl)

-- a block could not be loaded
abbrev pub halted : Scan → Scan
halted u = record (ended u) { opened = with_load Data u.opened }

pub halted_is : (u s : Scan) (o : Opened) → u ≡ s → o ≡ with_load Data u.opened
    → record (ended u) { opened = o } ≡ halted s
halted_is u s o same counts = ap (λ (p : Opened). record (ended u) { opened = p }) counts
    ∙ ap halted same

fault_is : {X : Type 0} (r : Result X Error) (e : Error) → fault_of r ≡ Some e → r ≡ Err e
fault_is (Ok x) e h = absurd cc
fault_is (Err f) e h = let same : f ≡ e = cc in ap (λ (x : Error). Err x) same

one_load : (u : Scan) (n : ℕ) {e : Error} → block_result u.body u.position ≡ Err e
    → scan_loads_behind (block_result u.body u.position) (λ next. loads_from u.body next n) ≡ 0
one_load u n returned = ap (λ (r : Result (List Entry × ℕ) Error). scan_loads_behind r
    (λ next. loads_from u.body next n)) returned

pub scans_fault : (s u t : Scan) (e : Error) → Reached s u → u.entries ≡ [] → 0 < u.blocks
    → (is_memory e ≡ false → fault_of (block_result u.body u.position) ≡ Some e)
    → FaultsFirst (refused e) (position_fault u.body u.position Data) → t ≡ halted u
    → ScansLent s (Some (Err e)) t
scans_fault s u t e reached none some returned ahead is =
    let n = u.blocks - 1 in
    let k : u.blocks ≡ suc n = omega (arith, some) in
    let left = λ (m : is_memory e ≡ false). next_is u n none k
    ∙ ap (next_left u.body u.global_seqno n) (fault_is (block_result u.body u.position) e
    (returned m)) in
    let there = there_none s u (Some (Err e)) reached.stands none in
    let step : ScansLent s (Some (Err e)) (halted u) = record {
      next = record {
        answers = answers_from s u (halted u) (Some (Err e)) reached
            (gave_error u (halted u) e left (has_block u some) (refl, refl));
        ends = (refl, refl);
        early = early_block s u e reached.start ahead;
        lifts = lifts_there s (Some (Err e)) there;
        count = suc reached.count;
        counts = ap (with_load Data) reached.counts;
        within = omega (arith, reached.falls, some);
        exact = λ m. omega (
          arith,
          reached.needs,
          needs_first u n none k,
          one_load u n
              (fault_is (block_result u.body u.position) e (returned m)),
        );
        most = omega (arith, reached.needs, needs_first u n none k);
        some = λ _. omega arith;
        falls = tt;
      };
      there = there;
    } in
    subst (ScansLent s (Some (Err e))) (sym is) step

-- no entry is left in the block that was reached
pub record AtEnd (s t : Scan) : Type 0 where
  pub reached : Reached s t
  pub none : t.entries ≡ []
  pub lent : t.lent ≡ None

still_reached : (s u : Scan) → Reached s u → Reached s (unlend u)
still_reached s u reached = record {
  left = reached.left;
  start = reached.start;
  stands = reached.stands;
  ended = reached.ended;
  count = reached.count;
  counts = reached.counts;
  falls = reached.falls;
  needs = reached.needs;
}

pub at_end : (s u t : Scan) (r : Result Bool Error) → Reached s u → (r, t) ≡ lend_next u u.entries
    → r ≡ Ok false → AtEnd s t
at_end s u t r reached is none = by u.entries refl is
  where
    returned : (es : List Entry) (one : R) → (r, t) ≡ lend_first u es one → AtEnd s t
    returned es (Ok x) is =
        let wrong : Ok true ≡ Ok false = sym (ap (λ (p : Result Bool Error × Scan). p.0) is)
        ∙ none in absurd cc
    returned es (Err f) is =
        let wrong : Err f ≡ Ok false = sym (ap (λ (p : Result Bool Error × Scan). p.0) is)
        ∙ none in absurd cc

    by : (es : List Entry) → u.entries ≡ es → (r, t) ≡ lend_next u es → AtEnd s t
    by [] stands is = subst (AtEnd s) (sym (ap (λ (p : Result Bool Error × Scan). p.1) is))
        (record { reached = still_reached s u reached; none = stands; lent = refl })
    by (e ∷ es) stands is = returned es (lifted_result u.global_seqno e) is

not_some : (n : ℕ) → (0 < n → ⊥) → n ≡ 0
not_some zero h = refl
not_some (suc n) h = absurd (h (omega arith))

no_loads : (u : Scan) → IsEndedScan u → loads_of u ≡ 0
unfolding loads_from
no_loads u done = rw (done.0, done.1) refl

-- nothing is left
pub scans_none : (s u : Scan) → AtEnd s u → (0 < u.blocks → ⊥) → ScansLent s None u
scans_none s u end last =
    let done : IsEndedScan u = (end.none, not_some u.blocks last) in
    let there = there_none s u None (end.reached).stands end.none in
    record {
      next = record {
        answers = answers_from s u u None end.reached (gave_none u done);
        ends = done;
        early = early_none s u None (end.reached).start done.1;
        lifts = lifts_there s None there;
        count = (end.reached).count;
        counts = (end.reached).counts;
        within = omega (arith, (end.reached).falls);
        exact = λ _. omega (arith, (end.reached).needs, no_loads u done);
        most = omega (arith, (end.reached).needs, no_loads u done);
        some = λ more. omega (arith, more, (end.reached).needs, no_loads u done);
        falls = tt;
      };
      there = there;
    }

-- ---- an entry that is lent is not shared

not_ended : (s u : Scan) (x : Entry) → ScansNext s (Some (Ok x)) u → IsEndedScan s → ⊥
not_ended s u x step done =
    let given = (step.answers).gives (λ _. false) [] (sym (ended_left s done), inl done) refl in
    let wrong : Some (Ok x) ≡ first {A = R} [] = given.0 in absurd cc

pub scans_refused : (s u t : Scan) (x : Entry) → ScansNext s (Some (Ok x)) u → t ≡ ended u
    → ScansNext s (Some (Err OutOfMemory)) t
scans_refused s u t x step is =
    let refused : ScansNext s (Some (Err OutOfMemory)) (ended u) = record {
      answers = gave_error s (ended u) OutOfMemory
          (λ fine. let wrong : true ≡ false = fine in absurd cc)
          (not_ended s u x step) (refl, refl);
      ends = (refl, refl);
      early = λ none more e fault.
          let wrong : Some (Ok x) ≡ Some (Err e) = step.early none more e fault in absurd cc;
      lifts = λ e es some f returned.
          let wrong : Some (Ok x) ≡ Some (Err f) = step.lifts e es some f returned in absurd cc;
      count = step.count;
      counts = step.counts;
      within = step.within;
      exact = λ fine. let wrong : true ≡ false = fine in absurd cc;
      most = step.most;
      some = step.some;
      falls = tt;
    } in
    subst (ScansNext s (Some (Err OutOfMemory))) (sym is) refused

-- what was lent is shared, or memory is refused for it
pub scans_shared : (s u t : Scan) (r : R) → ScansLent s (came (Ok true) u.lent) u
    → is_some u.lent ≡ true → IfOk r (λ x. (u.lent ≡ Some x) × (t ≡ u))
    → IfErr r (λ e. (e ≡ OutOfMemory) × (t ≡ ended u)) → ScansNext s (Some r) t
scans_shared s u t (Ok x) step some ok err = subst (ScansNext s (Some (Ok x))) (sym ok.1)
    (subst (λ (o : Option Entry). ScansNext s (came (Ok true) o) u) ok.0 step.next)
scans_shared s u t (Err e) step some ok err = by u.lent refl some
  where
    by : (o : Option Entry) → u.lent ≡ o → is_some o ≡ true → ScansNext s (Some (Err e)) t
    by None is some = absurd cc
    by (Some x) is some = subst (λ (f : Error). ScansNext s (Some (Err f)) t) (sym err.0)
        (scans_refused s u t x
        (subst (λ (o : Option Entry). ScansNext s (came (Ok true) o) u) is step.next) err.1)

-- nothing came
pub scans_over : (s u : Scan) → ScansLent s (came (Ok false) u.lent) u → false ≡ is_some u.lent
    → ScansNext s None u
scans_over s u step none = by u.lent refl none
  where
    by : (o : Option Entry) → u.lent ≡ o → false ≡ is_some o → ScansNext s None u
    by None is none = subst (λ (o : Option Entry). ScansNext s (came (Ok false) o) u) is step.next
    by (Some x) is none = absurd cc

-- ---- how many items come at most

some_left : (r : R) (rs : List R) → 0 < length (first_entry r rs)
some_left (Ok x) rs = omega arith
some_left (Err e) rs = omega arith

none_left : (body : List ℕ) (g : ℕ) (es : List Entry) (position count : ℕ)
    → length (entries_from body g es position count) ≡ 0 → es ≡ []
none_left body g [] position count none = refl
none_left body g (e ∷ es) position count none =
    absurd (omega (
      arith,
      none,
      ap length (entry_left body g e es position count),
      some_left
          (lifted_result g e) (entries_from body g es position count),
    ))

no_error : (s t : Scan) (e : Error) → ScansNext s (Some (Err e)) t → IsEndedScan s → ⊥
no_error s t e step done =
    let given = (step.answers).gives (λ _. false) [] (sym (ended_left s done), inl done) refl in
    let wrong : Some (Err e) ≡ first {A = R} [] = given.0 in absurd cc

first_length : (x : R) (xs : List R) → Some x ≡ first xs → length xs ≡ suc (length (but_first xs))
first_length x [] h = absurd cc
first_length x (y ∷ ys) h = refl

pub scan_falls : (s t : Scan) (r : R) → ScansNext s (Some r) t → scan_size t < scan_size s
scan_falls s t (Ok x) step =
    let given = (step.answers).gives is_memory (scan_left s) (refl, inr refl) refl in
    let one = first_length (Ok x) (scan_left s) given.0 in
    let rest = ap length (given.1).0 in
    omega (arith, one, rest, step.falls)
scan_falls s t (Err e) step =
    let none = ap length (ended_left t step.ends) in
    elim (zero_or (scan_size s)) [
      | inl small ↦ absurd (no_error s t e step (
        none_left s.body s.global_seqno s.entries
            s.position s.blocks (omega (arith, small)),
        omega (arith, small),
      ))
      | inr large ↦ omega (arith, large, none, (step.ends).1)
    ]
  where
    zero_or : (n : ℕ) → (n ≡ 0) ⊎ (0 < n)
    zero_or zero = inl refl
    zero_or (suc n) = inr (omega arith)

pub progress : (s t : Scan) (r : R) → ScansNext s (Some r) t
    → MakesProgress (λ _. Unit {0}) (λ u. at_most (scan_size u)) s (Some r) t
progress s t r step = record {
  on = λ _. (tt, tt, scan_falls s t r step);
  keeps = tt;
  rests =
      λ _. tt;
}

-- ---- what a scan deals

pub scan_yields : (stops : Error → Bool) (s : Scan) (xs : List R) → ScanHas stops s xs
    → YieldsExactly (answer_stops stops) ScansNext nowhere s xs
scan_yields stops s xs has = yields_by (answer_stops stops) ScansNext nowhere (ScanHas stops)
    (λ s xs r t has step fine. (step.answers).gives stops xs has fine)
    (λ s xs r t has step fine. absurd step) s xs has

pub scan_ends : (stops : Error → Bool) (s t : Scan) (e : Error) → ScansNext s (Some (Err e)) t
    → YieldsExactly (answer_stops stops) ScansNext nowhere t []
scan_ends stops s t e step = scan_yields stops t [] (sym (ended_left t step.ends), inl step.ends)

-- and what it lends
pub scan_lends : (stops : Error → Bool) (s : Scan) (xs : List R) → ScanHas stops s xs
    → YieldsExactly (answer_stops stops) ScansLent nowhere s xs
scan_lends stops s xs has = yields_by (answer_stops stops) ScansLent nowhere (ScanHas stops)
    (λ s xs r t has step fine. (step.next.answers).gives stops xs has fine)
    (λ s xs r t has step fine. absurd step) s xs has

pub lends_end : (stops : Error → Bool) (s t : Scan) (e : Error) → ScansLent s (Some (Err e)) t
    → YieldsExactly (answer_stops stops) ScansLent nowhere t []
lends_end stops s t e step = scan_lends stops t []
    (sym (ended_left t step.next.ends), inl step.next.ends)

pub lent_falls : (s t : Scan) (r : Option R) → ScansLent s r t
    → Lowers r (scan_size s) (scan_size t)
lent_falls s t None step =
    omega (arith, ap length (ended_left t step.next.ends), step.next.ends.1)
lent_falls s t (Some r) step = scan_falls s t r step.next

-- the first block was read
pub first_left : (body : List ℕ) (g count : ℕ) (es : List Entry) (next : ℕ)
    → block_result body 0 ≡ Ok (es, next) → scan_results body count g
    ≡ entries_from body g es next (count - 1)
first_left body g count es next returned =
    let k : max 1 count ≡ suc (count - 1) = omega arith in
    ap (entries_from body g [] 0) k ∙ block_left body g 0 (count - 1)
    ∙ ap (next_left body g (count - 1)) returned

-- it could not be read
pub fault_left : (body : List ℕ) (g count : ℕ) (e : Error)
    → fault_of (load_at_result body 0 Data) ≡ Some e → scan_results body count g ≡ Err e ∷ []
fault_left body g count e fault =
    let k : max 1 count ≡ suc (count - 1) = omega arith in
    ap (entries_from body g [] 0) k
    ∙ block_left body g 0 (count - 1)
    ∙ ap (λ (r : Result Loaded Error). next_left body g (count - 1)
    (r >>= λ b. Ok (entries_of b, behind 0 b))) (fault_is (load_at_result body 0 Data) e fault)

pub same_left : (b d : List ℕ) (g : ℕ) (es fs : List Entry) (next m n : ℕ) → b ≡ d → es ≡ fs → m ≡ n
    → entries_from b g es next m ≡ entries_from d g fs next n
same_left b d g es fs next m n p q r = rw (p, q, r) refl
