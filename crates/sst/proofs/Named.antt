-- Files that are opened, each with its name.
use denote.Ref.{Bor}
use Rattle.std.proofs.Common.{◌≡◌, sym, ◌∙◌, ap, subst, ℕ, ◌+◌, ◌<◌, ◌≤◌, List, [], ◌∷◌, ◌++◌}
use Rattle.std.proofs.Common.{◌-◌, ◌≢◌, drop, false, get_or, inl, inr, length, refl, take}
use Rattle.std.specs.Prelude.{Err, IfOk, Ok, OnOk, Option, Result, map}
use Rattle.std.specs.Global.{Global}
use Rattle.std.proofs.lemmas.List.{take-append-drop, take_all, take_more}
use Rattle.sst_entries.specs.Stream.{ok_results}
use Rattle.lsm_readers.specs.point.Table.{OpenTable}
use Rattle.sst_entries.specs.Entry.{Entry}
use Rattle.sst_tool.specs.files.Opened.{AreOpenedFrom, HasContent, IsToldByBytes}
use Rattle.sst_tool.proofs.Opened.{opened_more}
use Rattle.sst_tool.specs.show.Read.{Outcome, dumped, readable}
use Rattle.sst_tool.specs.declared.show.dumps.DumpOptions.{DumpOptions}
use Rattle.sst_tool.specs.declared.show.named.NamedTable.{NamedTable}
use Rattle.sst.specs.Showing.{AreNamed, DumpsEach}

mapped_more : {A B : Type 0} (f : A → B) (xs : List A) (x : A)
    → map f (xs ++ x ∷ []) ≡ map f xs ++ f x ∷ []
mapped_more f [] x = refl
mapped_more {A} {B} f (y ∷ ys) x = ap (λ (zs : List B). f y ∷ zs) (mapped_more f ys x)

-- one more file is opened
pub named_more : (content : List ℕ → Option (List ℕ)) (names : List (Bor (List ℕ))) (i : ℕ)
    (d : Bor (List ℕ)) (files : List (NamedTable Global)) (file : NamedTable Global)
    → i < length names → AreNamed content (take i names) files
    → file.name ≡ get_or names i d → IsToldByBytes false file.table
    → HasContent (content (get_or names i d).now) file.table
    → AreNamed content (take (i + 1) names) (files ++ file ∷ [])
named_more content names i d files file h before name returned has = record {
  named = mapped_more (λ (f : NamedTable Global). f.name) files file
      ∙ ap (λ (ns : List (Bor (List ℕ))). ns ++ file.name ∷ []) before.named
      ∙ ap (λ (n : Bor (List ℕ)). take i names ++ n ∷ []) name
      ∙ sym (take_more names i d h);
  opened = subst (λ (ts : List OpenTable). AreOpenedFrom false content (take (i + 1) names) ts)
      (sym (mapped_more (λ (f : NamedTable Global). f.table) files file))
      (opened_more false content names i d (map (λ (f : NamedTable Global). f.table) files)
      file.table h before.opened returned has);
}

-- what is done where a call answers
pub on_ok : {X E P Q : Type 0} (r : Result X E) → OnOk r P → (P → Q) → OnOk r Q
on_ok (Ok x) p so = so p
on_ok (Err e) p so = tt

-- what follows of each answer, if something holds
pub on_each : {X E : Type 0} (r : Result X E) (Q : Type 0) (P D : X → Type 0) → (Q → IfOk r P)
    → ((x : X) → (Q → P x) → D x) → IfOk r D
on_each (Ok x) Q P D returned make = make x returned
on_each (Err e) Q P D returned make = tt

-- ---- entries of files, one after another

-- what is read of a table are entries
abbrev AreEntries : List Outcome → Type 0
AreEntries rs = (es : List Entry) × (rs ≡ ok_results es)

module _ (o : DumpOptions) (content : List ℕ → Option (List ℕ)) where
  -- what is read of a table where so many entries may be
  abbrev read : ℕ → OpenTable → List Outcome
  read left t = dumped o.reverse left (readable o t)

  dumps_behind : (front : List (Bor (List ℕ))) (name : Bor (List ℕ)) (t : OpenTable)
      (most left rest : ℕ) → DumpsEach o content front most left → left ≢ 0
      → IsToldByBytes false t → HasContent (content name.now) t → AreEntries (read left t)
      → rest ≡ left - length (read left t) → DumpsEach o content (front ++ name ∷ []) most rest
  dumps_behind [] name t most left rest so_far more returned has entries is = inr (
    t,
    returned,
    has,
    subst (λ (n : ℕ). AreEntries (read n t)) so_far entries,
    subst (λ (n : ℕ). rest ≡ n - length (read n t)) so_far is,
  )
  dumps_behind (x ∷ front) name t most left rest so_far more returned has entries is = elim so_far [
    | inl none ↦ absurd (more none.1)
    | inr one ↦ inr (
      one.0,
      one.1,
      one.2,
      one.3,
      dumps_behind front name t (most - length (read most one.0)) left rest one.4 more returned has
          entries is,
    )
  ]

  -- one more file is read
  pub dumps_more : (names : List (Bor (List ℕ))) (i : ℕ) (d : Bor (List ℕ)) (t : OpenTable)
      (most left rest : ℕ) → i < length names → DumpsEach o content (take i names) most left
      → left ≢ 0 → IsToldByBytes false t → HasContent (content (get_or names i d).now) t
      → ((es : List Entry) × (dumped o.reverse left (readable o t) ≡ ok_results es))
      → rest ≡ left - length (dumped o.reverse left (readable o t))
      → DumpsEach o content (take (i + 1) names) most rest
  dumps_more names i d t most left rest less so_far more returned has entries is =
      subst (λ (ns : List (Bor (List ℕ))). DumpsEach o content ns most rest)
      (sym (take_more names i d less))
      (dumps_behind (take i names) (get_or names i d) t most left rest so_far more returned has entries
      is)

  dumps_none : (front behind : List (Bor (List ℕ))) (most left : ℕ)
      → DumpsEach o content front most left → left ≡ 0
      → DumpsEach o content (front ++ behind) most left
  dumps_none [] [] most left so_far none = so_far
  dumps_none [] (y ∷ behind) most left so_far none = inl (sym so_far ∙ none, none)
  dumps_none (x ∷ front) behind most left so_far none = elim so_far [
    | inl before ↦ inl before
    | inr one ↦ inr (
      one.0,
      one.1,
      one.2,
      one.3,
      dumps_none front behind (most - length (read most one.0)) left one.4 none,
    )
  ]

  -- nothing more may be read
  pub dumps_enough : (names : List (Bor (List ℕ))) (i most left : ℕ)
      → DumpsEach o content (take i names) most left → left ≡ 0
      → DumpsEach o content names most left
  dumps_enough names i most left so_far none =
      subst (λ (ns : List (Bor (List ℕ))). DumpsEach o content ns most left)
      (take-append-drop i names) (dumps_none (take i names) (drop i names) most left so_far none)

  -- all files are read
  pub dumps_all : (names : List (Bor (List ℕ))) (i most left : ℕ)
      → DumpsEach o content (take i names) most left → length names ≤ i
      → DumpsEach o content names most left
  dumps_all names i most left so_far all =
      subst (λ (ns : List (Bor (List ℕ))). DumpsEach o content ns most left)
      (take_all i names all) so_far
