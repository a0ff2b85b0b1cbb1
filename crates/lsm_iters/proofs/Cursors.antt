-- A loaded block as a part of a walk.
use Rattle.std.proofs.Common.{◌≡◌, ◌∙◌, ℕ, true, false, List, [], refl, sym, ap, subst, arith}
use Rattle.std.specs.Prelude.{Option, Some, None, Result, Ok, Err, IfErr, IfOk, is_some}
use Rattle.std.specs.Option.{option_map}
use Rattle.sst_blocks.specs.Cursor.{Cursor}
use Rattle.sst_entries.specs.declared.error.Error.{Error}
use Rattle.sst_entries.specs.declared.error.Error.TheVariants.{OutOfMemory}
use Rattle.sst_entries.specs.declared.stream.Direction.{Direction}
use Rattle.sst_entries.specs.Entry.{Entry}
use Rattle.sst_entries.specs.Stream.{ok_results}
use Rattle.lsm_iters.specs.walk.Ends.{StepAnswers, StepGives, remains_in, taken_at}
use Rattle.lsm_iters.specs.walk.Parts.{early_behind, none_behind, own_of}
use Rattle.lsm_iters.proofs.AtEnds.{behind_map, early_map, map_none, map_taken, none_at}
use Rattle.lsm_iters.proofs.AtEnds.{none_taken}
use Rattle.lsm_iters.proofs.AtEnds.{not_memory, nothing_behind}
use Rattle.lsm_iters.specs.Lending.{behind_in, cursor_remains}

abbrev R : Type 0
R = Result Entry Error

-- a step of a block, by what is lent after it
abbrev pub given : Option Entry → Option R
given l = option_map (λ e. Ok e) l

-- an end of a block was taken, and is lent
abbrev pub Taken : Direction → Cursor → Option Entry → List Entry → Type 0
Taken at c l es = ◌≡◌ {A = Option Entry × List Entry} (l, es) (taken_at at c.behind)

none_left : (at : Direction) (c : Cursor) (es : List Entry) → Taken at c None es → c.behind ≡ []
none_left at c es is = none_taken at c.behind (sym (ap (λ (x : Option Entry × List Entry). x.0) is))

answer : (at : Direction) (c d : Cursor) (l : Option Entry) → Taken at c l d.behind
    → StepAnswers at (cursor_remains c) (given l) (cursor_remains d)
answer at c d None is =
    let none = none_left at c d.behind is in (
      ap ok_results none,
      record {
        results = ap ok_results (ap (λ (x : Option Entry × List Entry). x.1) is
            ∙ ap (λ (xs : List Entry). (taken_at at xs).1) none ∙ nothing_behind at);
        loads = refl;
      },
    )
answer at c d (Some e) is = map_taken (λ (y : Entry). Ok y) at c.behind d.behind e (sym is)

pub cursor_step : (at : Direction) (c d : Cursor) (l : Option Entry) → Taken at c l d.behind
    → StepGives at (cursor_remains c) (given l) (cursor_remains d)
cursor_step at c d l is = record { answer = answer at c d l is; loads = omega arith }

pub none_lent : (l : Option Entry) → is_some l ≡ false → l ≡ None
none_lent None is = refl
none_lent (Some e) is = let wrong : true ≡ false = is in absurd cc

pub some_lent : (l : Option Entry) → is_some l ≡ true → (e : Entry) × (l ≡ Some e)
some_lent None is = let wrong : false ≡ true = is in absurd cc
some_lent (Some e) is = (e, refl)

-- where the entry could not be shared
pub cursor_refused : (at : Direction) (c d : Cursor) (e : Error) → Taken at c d.lent d.behind
    → is_some d.lent ≡ true → e ≡ OutOfMemory
    → StepGives at (cursor_remains c) (Some (Err e)) (cursor_remains d)
cursor_refused at c d e is some memory = record {
  answer = (
    λ fine. absurd (not_memory e memory fine),
    λ over. refused (map_none (λ (y : Entry). Ok y) c.behind over.results),
  );
  loads = omega arith;
}
  where
    refused : c.behind ≡ [] → ⊥
    refused none =
        let l = some_lent d.lent some in
        none_at at c.behind l.0 none
        (sym (ap (λ (x : Option Entry × List Entry). x.0) is) ∙ l.1)

-- it was lent, and shared where there was memory
pub cursor_shared : (at : Direction) (c d : Cursor) (r : R) → Taken at c d.lent d.behind
    → is_some d.lent ≡ true → IfOk r (λ e. d.lent ≡ Some e) → IfErr r (λ e. e ≡ OutOfMemory)
    → StepGives at (cursor_remains c) (Some r) (cursor_remains d)
cursor_shared at c d (Ok e) is some found err =
    subst (λ (l : Option Entry). StepGives at (cursor_remains c) (given l) (cursor_remains d)) found
    (cursor_step at c d d.lent is)
cursor_shared at c d (Err e) is some found err = cursor_refused at c d e is some err

-- ---- where a block is loaded

pub none_own : (r : Result Cursor Error) → own_of cursor_remains (Some r) ≡ 0
none_own (Ok c) = refl
none_own (Err e) = refl

pub no_part_loads : (o : Option Cursor) → (remains_in cursor_remains o).loads ≡ 0
no_part_loads None = refl
no_part_loads (Some c) = refl

pub part_results : (o : Option Cursor)
    → (remains_in cursor_remains o).results ≡ ok_results (behind_in o)
part_results None = refl
part_results (Some c) = refl

pub part_behind : (o : Option Cursor) (n : ℕ)
    → none_behind (remains_in cursor_remains o).results n ≡ none_behind (behind_in o) n
part_behind None n = refl
part_behind (Some c) n = behind_map (λ (x : Entry). Ok x) _ n

pub part_early : (o : Option Cursor) (f : Option Error)
    → early_behind (remains_in cursor_remains o).results f ≡ early_behind (behind_in o) f
part_early None f = refl
part_early (Some c) f = early_map (λ (x : Entry). Ok x) _ f

lent_answer : (at : Direction) (o p : Option Cursor) (l : Option Entry)
    → ◌≡◌ {A = Option Entry × List Entry} (l, behind_in p) (taken_at at (behind_in o))
    → StepAnswers at (remains_in cursor_remains o) (given l) (remains_in cursor_remains p)
lent_answer at o p None is =
    let none : behind_in o ≡ [] = none_taken at (behind_in o)
    (sym (ap (λ (x : Option Entry × List Entry). x.0) is)) in (
      part_results o ∙ ap ok_results none,
      record {
        results = part_results p ∙ ap ok_results
            (ap (λ (x : Option Entry × List Entry). x.1) is
            ∙ ap (λ (xs : List Entry). (taken_at at xs).1) none ∙ nothing_behind at);
        loads = no_part_loads p;
      },
    )
lent_answer at o p (Some e) is =
    ap (taken_at at) (part_results o)
    ∙ map_taken (λ (y : Entry). Ok y) at (behind_in o) (behind_in p) e (sym is)
    ∙ ap (λ (rs : List R). (Some (Ok e), rs)) (sym (part_results p))

pub lent_step : (at : Direction) (o p : Option Cursor) (l : Option Entry)
    → ◌≡◌ {A = Option Entry × List Entry} (l, behind_in p) (taken_at at (behind_in o))
    → StepGives at (remains_in cursor_remains o) (given l) (remains_in cursor_remains p)
lent_step at o p l is = record {
  answer = lent_answer at o p l is;
  loads = omega (arith, no_part_loads o, no_part_loads p);
}
