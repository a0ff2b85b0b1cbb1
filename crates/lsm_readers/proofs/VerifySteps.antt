-- A step of reading a whole table that finds nothing wrong, and what is so then.
use Rattle.std.proofs.Common.{◌≡◌, ℕ, ◌+◌, ◌-◌, ◌^◌, ◌<◌, ◌≤◌, ◌==◌, Bool, true, false, ltb}
use Rattle.std.proofs.Common.{List, [], ◌∷◌, length, refl, sym, ap, ◌∙◌, inl, inr, arith}
use Rattle.std.specs.Prelude.{◌⊎◌, Option, Some, None, Result, Ok, Err}
use Rattle.std.proofs.lemmas.Bool.{eq-eqb, eqb-true, le-ltb, lt-ltb, ltb-false, ltb-true}
use Rattle.sst_blocks.specs.declared.section.SectionName.{SectionName}
use Rattle.sst_entries.specs.declared.error.Error.{Error}
use Rattle.sst_entries.specs.Entry.{Entry}
use Rattle.sst_entries.specs.Key.{same_key}
use Rattle.sst_entries.specs.Strict.{may_follow}
use Rattle.sst_entries.proofs.KeyLemmas.{same_is, same_itself}
use Rattle.sst_blocks.specs.Handle.{Handle}
use Rattle.sst_blocks.specs.declared.table.item_name.ItemName.{ItemName}
use Rattle.lsm_readers.specs.declared.verify.Finding.{Finding}
use Rattle.lsm_readers.specs.Findings.{IsFirst}
use Rattle.lsm_readers.specs.point.Parts.{Parts}
use Rattle.lsm_readers.specs.Verify.{◌>>=◌, asked_found, end_named, first_found, key_same}
use Rattle.lsm_readers.specs.Verify.{located, order_found, place_found, same_found}
use Rattle.lsm_readers.specs.Verify.{some_found, spent, tested}

abbrev pub answer : {A : Type 0} → A → Result A Finding
answer x = Ok x

-- one value is told
pub reported_is : {A : Type 0} (x y : A) → answer x ≡ Ok y → x ≡ y
reported_is x y h = cc

-- a step that found nothing went on from a value
pub then_ok : {A B : Type 0} (r : Result A Finding) (f : A → Result B Finding) (y : B)
    → (r >>= f) ≡ Ok y → (x : A) × (r ≡ Ok x) × (f x ≡ Ok y)
then_ok (Ok x) f y h = (x, refl, h)
then_ok (Err e) f y h = absurd cc

pub then_goes : {A B : Type 0} (r : Result A Finding) (f : A → Result B Finding) (x : A) (y : B)
    → r ≡ Ok x → f x ≡ Ok y → (r >>= f) ≡ Ok y
then_goes {A = A} r f x y is rest = ap (λ (q : Result A Finding). q >>= f) is ∙ rest

-- a step that found something, or the next one
pub then_err : {A B : Type 0} (r : Result A Finding) (g : A → Result B Finding) (f : Finding)
    → (r >>= g) ≡ Err f → (r ≡ Err f) ⊎ ((x : A) × (r ≡ Ok x) × (g x ≡ Err f))
then_err (Ok x) g f h = inr (x, refl, h)
then_err (Err e) g f h = inl (let same : e ≡ f = cc in ap (λ (y : Finding). Err y) same)

-- ---- tests

pub tested_ok : (b : Bool) (f : Finding) (u : Unit {0}) → tested b f ≡ Ok u → b ≡ true
tested_ok true f u h = refl
tested_ok false f u h = absurd cc

pub tested_goes : (b : Bool) (f : Finding) → b ≡ true → tested b f ≡ Ok tt
tested_goes b f is = ap (λ (c : Bool). tested c f) is

pub located_ok : {X : Type 0} (section : SectionName) (offset : ℕ) (r : Result X Error) (x : X)
    → located section offset r ≡ Ok x → r ≡ Ok x
located_ok section offset (Ok y) x h = let same : y ≡ x = cc in cc
located_ok section offset (Err e) x h = absurd cc

pub located_goes : {X : Type 0} (section : SectionName) (offset : ℕ) (r : Result X Error) (x : X)
    → r ≡ Ok x → located section offset r ≡ Ok x
located_goes {X = X} section offset r x is =
    ap (λ (q : Result X Error). located section offset q) is

-- ---- counts

module _ (meta : ℕ) (item : ItemName) (left by rest : ℕ) where
  pub spent_ok : spent meta item left by ≡ Ok rest → left ≡ by + rest
  spent_ok h = go (ltb left by) refl h
    where
      go : (b : Bool) → ltb left by ≡ b
          → spent meta item left by ≡ Ok rest → left ≡ by + rest
      go true is h = absurd (let no = rw is at h in cc)
      go false is h =
          let le : by ≤ left = ltb-false left by is in
          let returned = rw is at h in
          let same : left - by ≡ rest = cc in
          omega arith

  pub spent_goes : left ≡ by + rest → spent meta item left by ≡ Ok rest
  spent_goes is =
      let le : by ≤ left = omega arith in
      let same : left - by ≡ rest = omega arith in
      rw (le-ltb left by le, same) refl

pub same_found_ok : (meta : ℕ) (item : ItemName) (said read : ℕ) (u : Unit {0})
    → same_found meta item said read ≡ Ok u → said ≡ read
same_found_ok meta item said read u h =
    eqb-true said read (tested_ok (said == read) _ u h)

pub same_found_goes : (meta : ℕ) (item : ItemName) (said read : ℕ) → said ≡ read
    → same_found meta item said read ≡ Ok tt
same_found_goes meta item said read is = tested_goes (said == read) _ (eq-eqb said read is)

pub key_same_ok : (meta : ℕ) (item : ItemName) (said read : List ℕ) (u : Unit {0})
    → key_same meta item said read ≡ Ok u → said ≡ read
key_same_ok meta item said read u h =
    same_is said read (tested_ok (same_key said read) _ u h)

pub key_same_goes : (meta : ℕ) (item : ItemName) (said read : List ℕ) → said ≡ read
    → key_same meta item said read ≡ Ok tt
key_same_goes meta item said read is =
    tested_goes (same_key said read) _
    (ap (λ (k : List ℕ). same_key said k) (sym is) ∙ same_itself said)

-- ---- an entry

module _ (at : ℕ) (last : Option Entry) (e : Entry) where
  pub order_ok : (u : Unit {0}) → order_found at last e ≡ Ok u
      → (e.seqno < 2 ^ 64 - 1) × (may_follow last e ≡ true)
  order_ok u h = go (ltb e.seqno (2 ^ 64 - 1)) refl h
    where
      go : (b : Bool) → ltb e.seqno (2 ^ 64 - 1) ≡ b → order_found at last e ≡ Ok u
          → (e.seqno < 2 ^ 64 - 1) × (may_follow last e ≡ true)
      go true is h = (
        ltb-true e.seqno (2 ^ 64 - 1) is,
        tested_ok (may_follow last e) _ u
            (rw is at h),
      )
      go false is h = absurd (let no = rw is at h in cc)

  pub order_goes : e.seqno < 2 ^ 64 - 1 → may_follow last e ≡ true → order_found at last e ≡ Ok tt
  order_goes low follows =
      rw (lt-ltb e.seqno (2 ^ 64 - 1) low) (tested_goes (may_follow last e) _ follows)

pub first_ok : (parts : Parts) (last : Option Entry) (e : Entry) (u : Unit {0})
    → first_found parts last e ≡ Ok u → IsFirst parts last e
first_ok parts None e u h =
    same_is _ _ (tested_ok (same_key parts.facts.key_range.min e.user_key) _ u h)
first_ok parts (Some last) e u h = tt

pub first_goes : (parts : Parts) (last : Option Entry) (e : Entry) → IsFirst parts last e
    → first_found parts last e ≡ Ok tt
first_goes parts None e is =
    let min = parts.facts.key_range.min in
    tested_goes (same_key min e.user_key) _
    (ap (λ (k : List ℕ). same_key min k) (sym is) ∙ same_itself min)
first_goes parts (Some last) e is = refl

pub asked_ok : (at : ℕ) (r : Result Bool Error) (u : Unit {0}) → asked_found at r ≡ Ok u
    → r ≡ Ok true
asked_ok at (Ok true) u h = refl
asked_ok at (Ok false) u h = absurd cc
asked_ok at (Err e) u h = absurd cc

pub asked_goes : (at : ℕ) (r : Result Bool Error) → r ≡ Ok true → asked_found at r ≡ Ok tt
asked_goes at r is = ap (asked_found at) is

-- ---- a block

pub place_ok : (at offset : ℕ) (u : Unit {0}) → place_found at offset ≡ Ok u → offset ≡ at
place_ok at offset u h = eqb-true offset at (tested_ok (offset == at) _ u h)

pub place_goes : (at offset : ℕ) → offset ≡ at → place_found at offset ≡ Ok tt
place_goes at offset is = tested_goes (offset == at) _ (eq-eqb offset at is)

-- a block of entries has one
pub some_ok : (at : ℕ) (es c : List Entry) → some_found at es ≡ Ok c
    → (es ≡ c) × (0 < length es)
some_ok at [] c h = absurd cc
some_ok at (e ∷ es) c h = (cc, omega arith)

pub some_goes : (at : ℕ) (es : List Entry) → 0 < length es → some_found at es ≡ Ok es
some_goes at [] some = absurd (omega arith)
some_goes at (e ∷ es) some = refl

-- a handle names the last of some entries
module _ (section : SectionName) (h : Handle) (e : Entry) where
  pub end_ok : (u : Unit {0}) → end_named section h e.user_key e.seqno ≡ Ok u
      → (h.end_key ≡ e.user_key) × (h.seqno ≡ e.seqno)
  end_ok u returned = go (same_key h.end_key e.user_key) refl returned
    where
      go : (b : Bool) → same_key h.end_key e.user_key ≡ b
          → end_named section h e.user_key e.seqno ≡ Ok u
          → (h.end_key ≡ e.user_key) × (h.seqno ≡ e.seqno)
      go true is returned = (
        same_is _ _ is,
        eqb-true h.seqno e.seqno
            (tested_ok (h.seqno == e.seqno) _ u (rw is at returned)),
      )
      go false is returned = absurd (let no = rw is at returned in cc)

  pub end_goes : h.end_key ≡ e.user_key → h.seqno ≡ e.seqno
      → end_named section h e.user_key e.seqno ≡ Ok tt
  end_goes key number =
      let same = ap (λ (k : List ℕ). same_key h.end_key k) (sym key) ∙ same_itself h.end_key in
      rw same (tested_goes (h.seqno == e.seqno) _ (eq-eqb h.seqno e.seqno number))
