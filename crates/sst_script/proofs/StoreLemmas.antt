-- The result of writing the pending entries, and of the commands that replace the runs.
use Rattle.std.proofs.Common.{◌≡◌, refl, sym, ◌∙◌, ap, subst, inr, ℕ, Bool, false}
use Rattle.std.proofs.Common.{List, [], ◌∷◌, length}
use Rattle.std.specs.Prelude.{Option, None, Ok}
use Rattle.sst_entries.specs.Entry.{Entry}
use Rattle.sst_entries.specs.Error.{Gives}
use Rattle.lsm_readers.specs.point.Table.{OpenTable}
use Rattle.lsm_runs.specs.compaction.Chain.{AreCutOf, IsRunOfList, ids_behind, run_label}
use Rattle.lsm_runs.specs.compaction.Chain.{tables_fault}
use Rattle.sst_script.specs.declared.command.Command.{Command}
use Rattle.sst_script.specs.declared.command.Command.TheVariants.{Compact, Pack, Table}
use Rattle.sst_script.specs.declared.print.Answer.TheVariants.{Runs, Tables}
use Rattle.sst_script.specs.Runs.{repeats, run_tables, HasRuns, Run}
use Rattle.sst_script.specs.Script.{Store, kept_by, pending_fault, store, adding_fault, target_size}
use Rattle.sst_script.specs.Script.{CompactsTo, Executes, Packs, Writes}

nothing_refused : (next : Option ℕ) (es : List Entry) → tables_fault next target_size 0 es ≡ None
    → pending_fault next es ≡ None
nothing_refused next [] written = refl
nothing_refused next (e ∷ es) written = written

-- they have no fault
fine : (rs : List Run) (es : List Entry) (next : Option ℕ) → repeats rs es ≡ false
    → tables_fault next target_size 0 es ≡ None → adding_fault (store es rs next) ≡ None
fine rs es next fresh written =
    let returned : pending_fault next es ≡ None = nothing_refused next es written in
    rw (fresh, returned) refl

-- the result of the test for repeated entries
pub answered : (rs : List Run) (es given : List Entry) (b returned : Bool)
    → Gives (λ (x : Bool). x) (Ok b) (Ok (repeats rs given)) → b ≡ returned → given ≡ es
    → repeats rs es ≡ returned
answered rs es given b returned gives fresh same =
    let is : repeats rs given ≡ b = cc in
    subst (λ (xs : List Entry). repeats rs xs ≡ returned) same (is ∙ fresh)

-- a run was written
pub wrote : (rs : List Run) (ts new : List (List OpenTable)) (es : List Entry)
    (next following : Option ℕ) (tables : List OpenTable) (count : ℕ) → run_tables rs ≡ ts
    → new ≡ tables ∷ ts → count ≡ length tables
    → repeats rs es ≡ false → tables_fault next target_size 0 es ≡ None
    → following ≡ ids_behind next target_size (length tables)
    → IsRunOfList es 0 tables → AreCutOf (run_label next target_size 0) target_size es 0 tables
    → HasRuns new (λ after. Writes (store es rs next) count (store [] after following))
wrote rs ts new es next following tables count same new_is count_is fresh written behind is cut =
    let run : Run = record { list = es; tables = tables; is = is } in
    let left : following ≡ ids_behind next target_size count = behind
    ∙ ap (ids_behind next target_size) (sym count_is) in (
      run ∷ rs,
      ap (λ (us : List (List OpenTable)). tables ∷ us) same ∙ sym new_is,
      (
        fine rs es next fresh written,
        inr (
          run,
          refl,
          count_is,
          cut,
          ap
              (λ (n : Option ℕ). store [] (run ∷ rs) n) left,
        ),
      ),
    )

-- a command that writes a table
pub executed : (A : Type 0) (command : Command) (rs : List Run) (es left : List Entry)
    (next following : Option ℕ) (count : ℕ) (new : List (List OpenTable)) → command ≡ Table
    → left ≡ []
    → HasRuns new (λ after. Writes (store es rs next) count (store [] after following))
    → HasRuns new (λ after.
    Executes {A = A} command (store es rs next) (Ok (Tables count)) (store left after following))
executed A command rs es left next following count new is none done =
    let table : Executes {A = A} Table (store es rs next) (Ok (Tables count))
    (store [] done.0 following) = (count, refl, done.2) in (
      done.0,
      done.1,
      subst (λ (c : Command). Executes {A = A} c (store es rs next) (Ok (Tables count))
          (store left done.0 following)) (sym is)
          (subst (λ (xs : List Entry). Executes {A = A} Table (store es rs next) (Ok (Tables count))
          (store xs done.0 following)) (sym none) table),
    )

-- a command that compacts the runs
pub compact_executed : (A : Type 0) (command : Command) (old : Store) (watermark : ℕ)
    (evict zero : Bool) (count : ℕ) (new : List (List OpenTable)) (after : List Run → Store)
    → command ≡ Compact watermark evict zero
    → HasRuns new (λ rs. CompactsTo old (kept_by watermark evict zero old.runs) count (after rs))
    → HasRuns new (λ rs. Executes {A = A} command old (Ok (Tables count)) (after rs))
compact_executed A command old watermark evict zero count new after is done = (
  done.0,
  done.1,
  subst (λ (c : Command). Executes {A = A} c old (Ok (Tables count)) (after done.0)) (sym is)
      (count, refl, done.2),
)

-- a command that packs them
pub pack_executed : (A : Type 0) (command : Command) (old : Store) (count : ℕ)
    (new : List (List OpenTable)) (after : List Run → Store) → command ≡ Pack
    → HasRuns new (λ rs. Packs old count (after rs))
    → HasRuns new (λ rs. Executes {A = A} command old (Ok (Runs count)) (after rs))
pack_executed A command old count new after is done = (
  done.0,
  done.1,
  subst (λ (c : Command). Executes {A = A} c old (Ok (Runs count)) (after done.0)) (sym is)
      (count, refl, done.2),
)
