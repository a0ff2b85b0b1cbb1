-- The fault that an error of opening a store names.
use Rattle.std.proofs.Common.{◌≡◌, refl, sym, ◌∙◌, ap, subst, ℕ, zero, suc, ◌-◌, ◌^◌, ◌<◌, ◌⊎◌}
use Rattle.std.proofs.Common.{inl, inr}
use Rattle.std.proofs.Common.{true, false, List, [], ◌∷◌, ◌++◌, length, take, drop, get_or, arith}
use Rattle.std.specs.Prelude.{Ok, Err, IfErr, IsErrAnd, Result, map}
use Rattle.std.specs.List.{AllByRecursion}
use Rattle.std.proofs.lemmas.Bool.{cases_Bool}
use Rattle.std.proofs.lemmas.List.{length-map, map-append}
use Rattle.lsm_tables.specs.Words.{Entry, Error, IsInOrder, IsStrict, OpenTable, StoresList}
use Rattle.lsm_tables.specs.Words.{is_memory, range_of, recovered_result, union_in}
use Rattle.example_store.specs.Closed.{StoreLists, files_in}
use Rattle.example_store.specs.Faulty.{AreOwnFiles, HasNumbers, IsFirstFault, IsFirstRun}
use Rattle.example_store.specs.Faulty.{IsOpenFault, IsOwnFile, NamesFile, NamesInRun}
use Rattle.example_store.specs.Story.{IsOwnRun, IsOwnTable}
use Rattle.example_store.specs.declared.store.close.Closed.{Closed}
use Rattle.example_store.specs.declared.store.open.FileFault.TheVariants.{Unopened}
use Rattle.example_store.specs.declared.store.open.OpenError.{OpenError}
use Rattle.example_store.specs.declared.store.open.OpenError.TheVariants.{File, NoFile, OutOfMemory}
use Rattle.example_store.specs.declared.store.open.OpenError.TheVariants.{OldestTooHigh, OutOfOrder}
use Rattle.example_store.specs.declared.store.open.OpenError.TheVariants.{Repeated, SeqNoOverflow}
use Rattle.example_store.proofs.Opening.{order_alike}
use Rattle.example_store.proofs.Own.{bytes_of, table_stored}

-- an error that is passed on names the same fault
pub passed : {X E : Type 0} (P : E → Type 0) (r : Result X E) (e : E) → IsErrAnd r (λ y. y ≡ e)
    → P e → IfErr r P
passed P (Ok x) e is said = tt
passed P (Err y) e is said = subst P (sym is) said

-- ---- one file

-- a table that is not opened
pub names_unopened : (next : ℕ) (bytes : List ℕ) (run place : ℕ) (e : Error) (r : OpenError)
    → (is_memory e ≡ true → r ≡ OutOfMemory)
    → (is_memory e ≡ false → r ≡ File run place (Unopened e))
    → (is_memory e ≡ false → recovered_result bytes 0 true true ≡ Err e)
    → ((es : List Entry) → StoresList bytes es → is_memory e ≡ true)
    → NamesFile next bytes run place r
names_unopened next bytes run place e r memory other returned opens =
    elim (cases_Bool (is_memory e)) [
      | inl wants ↦ subst (NamesFile next bytes run place) (sym (memory wants)) tt
      | inr fine ↦ subst (NamesFile next bytes run place) (sym (other fine)) (
        refl,
        refl,
        record {
          refused = returned fine;
          none = λ es stored. let wrong : true ≡ false = sym (opens es stored) ∙ fine in absurd cc;
        },
      )
    ]

own_file : (next : ℕ) (t : OpenTable) → IsOwnTable next t → IsOwnFile next t.bytes
own_file next t own = record {
  list = own.list;
  stores = table_stored next t own;
  some = own.some;
  own = own.own;
}

own_files : (next : ℕ) (ts : List OpenTable) → AllByRecursion (IsOwnTable next) ts
    → AllByRecursion (IsOwnFile next) (map bytes_of ts)
own_files next [] own = tt
own_files next (t ∷ ts) own = (own_file next t own.0, own_files next ts own.1)

-- ---- one run

-- a list around one of its indexes
about : {X : Type 0} (xs : List X) (i : ℕ) (x : X) → i < length xs → x ≡ get_or xs i x
    → xs ≡ take i xs ++ x ∷ drop (suc i) xs
about [] i x less is = absurd (omega (arith, less))
about (y ∷ ys) zero x less is = ap (λ z. z ∷ ys) (sym is)
about (y ∷ ys) (suc i) x less is =
    ap (λ zs. y ∷ zs) (about ys i x (omega (arith, less)) is)

module _ (next : ℕ) (files : List (List ℕ)) (run : ℕ) (tables : List OpenTable)
    (own : AllByRecursion (IsOwnTable next) tables) where
  -- the files before it were opened
  pub names_in_run : (i : ℕ) (bytes : List ℕ) (e : OpenError) → map bytes_of tables ≡ take i files
      → i < length files → bytes ≡ get_or files i bytes → NamesFile next bytes run (length tables) e
      → NamesInRun next files run e
  names_in_run i bytes OutOfMemory made less is named = tt
  names_in_run i bytes SeqNoOverflow made less is named = absurd named
  names_in_run i bytes OldestTooHigh made less is named = absurd named
  names_in_run i bytes (File r p fault) made less is named = (
    named.0,
    record {
      front = take i files;
      bytes = bytes;
      behind = drop (suc i) files;
      files_are = about files i bytes less is;
      at = named.1 ∙ sym (length-map tables bytes_of) ∙ ap length made;
      fine = subst (AllByRecursion (IsOwnFile next)) made (own_files next tables own);
      wrong = named.2;
    },
  )
  names_in_run i bytes (NoFile r) made less is named = absurd named
  names_in_run i bytes (OutOfOrder r) made less is named = absurd named
  names_in_run i bytes Repeated made less is named = absurd named

  -- all were opened
  pub names_run : {X : Type 0} (r : Result X OpenError) → map bytes_of tables ≡ files
      → IfErr r (λ e. (e ≡ NoFile run) × (tables ≡ []) ⊎ (e ≡ OutOfOrder run)
      × (IsInOrder range_of tables → ⊥)) → IfErr r (NamesInRun next files run)
  names_run (Ok x) made named = tt
  names_run (Err e) made named = elim named [
    | inl none ↦ subst (NamesInRun next files run) (sym none.0)
        (refl, sym made ∙ ap (map bytes_of) none.1)
    | inr wrong ↦ subst (NamesInRun next files run) (sym wrong.0) (
      refl,
      record {
        fine = subst (AllByRecursion (IsOwnFile next)) made (own_files next tables own);
        wrong = λ ts same each order. wrong.1 (order_alike ts tables (same ∙ sym made) order);
      },
    )
  ]

-- ---- all runs

pub own_run_files : (next : ℕ) (runs : List (List OpenTable)) → AllByRecursion (IsOwnRun next) runs
    → AllByRecursion (AreOwnFiles next) (map (map bytes_of) runs)
own_run_files next [] own = tt
own_run_files next (run ∷ runs) own =
    (record { run = run; own = own.0; files_are = refl }, own_run_files next runs own.1)

module _ (next : ℕ) (files front : List (List (List ℕ))) (run : List (List ℕ))
    (behind : List (List (List ℕ))) (are : files ≡ front ++ run ∷ behind)
    (fine : AllByRecursion (AreOwnFiles next) front) where
  first_run : (e : OpenError) → NamesInRun next run (length front) e → IsFirstRun next files e
  first_run e named = record {
    front = front;
    run = run;
    behind = behind;
    files_are = are;
    fine = fine;
    wrong = named;
  }

  pub names_first : (e : OpenError) → NamesInRun next run (length front) e
      → IsFirstFault next files e
  names_first OutOfMemory named = tt
  names_first SeqNoOverflow named = absurd named
  names_first OldestTooHigh named = absurd named
  names_first (File r p fault) named = first_run (File r p fault) named
  names_first (NoFile r) named = first_run (NoFile r) named
  names_first (OutOfOrder r) named = first_run (OutOfOrder r) named
  names_first Repeated named = absurd named

-- the runs before it were opened
pub names_first_run : {X Y : Type 0} (next : ℕ) (bytes : X → List (List ℕ))
    (items : Y → List (List ℕ)) (made : List X) (ys : List Y) (i : ℕ) (y : Y) (e : OpenError)
    → map bytes made ≡ map items (take i ys) → i < length ys → y ≡ get_or ys i y
    → AllByRecursion (AreOwnFiles next) (map bytes made)
    → NamesInRun next (items y) (length made) e → IsFirstFault next (map items ys) e
names_first_run next bytes items made ys i y e so_far less is fine named =
    names_first next (map items ys) (map items (take i ys)) (items y) (map items (drop (suc i) ys))
    (ap (map items) (about ys i y less is) ∙ map-append items (take i ys) (y ∷ drop (suc i) ys))
    (subst (AllByRecursion (AreOwnFiles next)) so_far fine) e
    (subst (λ (n : ℕ). NamesInRun next (items y) n e)
    (sym (length-map made bytes) ∙ ap length so_far) named)

-- the fault of a closed store whose seqnos are right
pub names_kept : {A : Type 0} (c : Closed A) (e : OpenError) → HasNumbers c
    → IsFirstFault c.next (files_in c) e → IsOpenFault c e
names_kept c OutOfMemory right named = tt
names_kept c SeqNoOverflow right named = absurd named
names_kept c OldestTooHigh right named = absurd named
names_kept c (File r p fault) right named = (right, named)
names_kept c (NoFile r) right named = (right, named)
names_kept c (OutOfOrder r) right named = (right, named)
names_kept c Repeated right named = absurd named

-- the fault of its seqnos
pub names_numbers : {A : Type 0} (c : Closed A) (e : OpenError)
    → (e ≡ SeqNoOverflow) × (c.next ≡ 2 ^ 64 - 1) ⊎ (e ≡ OldestTooHigh) × (c.next < c.oldest)
    → IsOpenFault c e
names_numbers c e named = elim named [
  | inl spent ↦ subst (IsOpenFault c) (sym spent.0) spent.1
  | inr high ↦ subst (IsOpenFault c) (sym high.0) high.1
]

-- two entries with the same key and seqno
pub names_repeated : {A : Type 0} (c : Closed A) (e : OpenError) (lists : List (List (List Entry)))
    → HasNumbers c → AllByRecursion (AreOwnFiles c.next) (files_in c)
    → (e ≡ OutOfMemory) ⊎ (e ≡ Repeated) → StoreLists (files_in c) lists
    → (IsStrict (union_in lists) → e ≡ OutOfMemory) → IsOpenFault c e
names_repeated c e lists right fine named store taken = elim named [
  | inl memory ↦ subst (IsOpenFault c) (sym memory) tt
  | inr twice ↦ subst (IsOpenFault c) (sym twice) (
    right,
    record {
      fine = fine;
      lists = lists;
      store = store;
      wrong = λ strict. let no : Repeated ≡ OutOfMemory = sym twice ∙ taken strict in cc;
    },
  )
]
