-- The tables that a store writes of lists, and the counters of ids after them.
use Rattle.std.proofs.Common.{◌≡◌, refl, sym, ◌∙◌, ap, ℕ, ◌≤◌, List, [], ◌∷◌}
use Rattle.std.proofs.Common.{arith, length}
use Rattle.std.specs.Prelude.{IfSome, MatchOption, None, Option, Some, sum_by}
use Rattle.std.specs.List.{AllByRecursion}
use Rattle.std.specs.Option.{option_map, option_map_or}
use Rattle.lsm_tables.specs.Words.{AreCutOf, Entry, HasList, Label, OpenTable, ids_behind}
use Rattle.lsm_tables.specs.Words.{run_label}
use Rattle.example_store.specs.Ids.{AreMadeOf, HasFlushed}
use Rattle.example_store.specs.Story.{Holding, option_list}
use Rattle.example_store.proofs.Compacting.{made_of}

-- ---- the tables of a list

pub cut_listed : (label : Label) (target : ℕ) (es : List Entry) (r : Option (List OpenTable))
    → IfSome r (λ run. AreCutOf label target es 0 run)
    → AllByRecursion (AreCutOf label target es 0) (option_list r)
cut_listed label target es None cut = tt
cut_listed label target es (Some run) cut = (cut, tt)

few_listed : (r : Option (List OpenTable)) → length (option_list r) ≤ 1
few_listed None = omega arith
few_listed (Some run) = omega arith

pub made_by : (s : Holding) (es : List Entry) (r : Option (List OpenTable))
    → MatchOption r (es ≡ []) (λ run. HasList es run)
    → IfSome r (λ run. AreCutOf (run_label s.ids s.target 0) s.target es 0 run)
    → AreMadeOf s es (option_list r)
made_by s es r has cut = record {
  has = made_of es r has;
  few = few_listed r;
  cut = cut_listed (run_label s.ids s.target 0) s.target es r cut;
}

-- ---- flushing

-- there is nothing to flush
pub flushed_none : (s : Holding) → s.recent ≡ [] → HasFlushed s s
flushed_none s none = record {
  made = [];
  written = made_by s s.recent None none tt;
  placed = refl;
  counter = refl;
}

-- runs and counter are unchanged after it
pub flushed_on : (s t u : Holding) → HasFlushed s t → u.runs ≡ t.runs → u.ids ≡ t.ids
    → HasFlushed s u
flushed_on s t u h runs ids = record {
  made = h.made;
  written = h.written;
  placed = runs ∙ h.placed;
  counter = ids ∙ h.counter;
}

one_run : (run : List OpenTable) → sum_by length (run ∷ []) ≡ length run
one_run run = search arith

-- a run was put before the others
pub flushed_one : (s t : Holding) (run : List OpenTable) → HasList s.recent run
    → AreCutOf (run_label s.ids s.target 0) s.target s.recent 0 run → t.runs ≡ run ∷ s.runs
    → t.ids ≡ ids_behind s.ids s.target (length run) → HasFlushed s t
flushed_one s t run has cut runs ids = record {
  made = run ∷ [];
  written = made_by s s.recent (Some run) has cut;
  placed = runs;
  counter = ids ∙ ap (ids_behind s.ids s.target) (sym (one_run run));
}

-- ---- counters

-- the counter after a run that is shared
pub shared_counter : {S : Type 0} (f : S → List OpenTable) (ids : Option ℕ) (target : ℕ)
    (left : Option ℕ) (shared : Option S) (run : Option (List OpenTable))
    → option_map f shared ≡ run → left ≡ ids_behind ids target (option_map_or length run 0)
    → IfSome shared (λ x. left ≡ ids_behind ids target (length (f x)))
shared_counter f ids target left None run is behind = tt
shared_counter f ids target left (Some x) run is behind =
    behind ∙ ap (λ (r : Option (List OpenTable)). ids_behind ids target (option_map_or length r 0))
    (sym is)

-- as many tables as the run of them has
pub few_tables : (run : Option (List OpenTable))
    → option_map_or length run 0 ≡ sum_by length (option_list run)
few_tables None = refl
few_tables (Some run) = sym (one_run run)
