-- What a verification answers of what is found. Assumes `Logic`.
use Rattle.std.proofs.Common.{◌≡◌, ℕ, List, length, Option, Some, None, Result, Ok, Err, refl, sym, ap, ◌∙◌, inl, inr, subst}
use Rattle.lsm_readers.specs.declared.verify.Finding.{Finding}
use Rattle.lsm_readers.specs.declared.verify.Verified.{Verified}
use Rattle.std.specs.Prelude.{IfErr, IfOk}
use Rattle.std.specs.Result.{IsErrAnd}
use Rattle.sst_blocks.specs.Sections.{body_of}
use Rattle.lsm_readers.specs.Findings.{IsFirstFinding}
use Rattle.lsm_readers.specs.Verify.{Finds, FindsFirst, table_early, table_found}
use Rattle.lsm_readers.specs.Words.{Entry, StoresList}
use Rattle.lsm_readers.specs.declared.verify.VerifyError.{VerifyError}
use Rattle.sst_c.specs.Verify.{ReportsCounts, ReportsFinding, ReportsWrong, VerifiesTable, VerifyAnswers}
use Rattle.sst_c.specs.Verify.{finding_result, no_finding, verified_result, verify_code, verify_result}
use Rattle.lsm_readers.specs.point.Table.{OpenTable}
use Rattle.lsm_readers.specs.declared.verify.VerifyError.TheVariants.{Found, OutOfMemory}
use Rattle.sst_c.specs.declared.held.Held.{Held}
use Rattle.sst_c.specs.declared.held.What.{What}
use Rattle.sst_c.specs.declared.held.What.TheVariants.{Table}
use Rattle.sst_c.specs.declared.verify.VerifyReport.{VerifyReport}

pub answers_ok : (v : Verified) (returned : Result Verified Finding) → returned ≡ Ok v
    → VerifyAnswers 0 (verified_result v) returned
unfolding VerifyAnswers
answers_ok v returned same = let P : Result Verified Finding → Type 0 = λ t. VerifyAnswers 0 (verified_result v) t in
    subst P (sym same) (inl (refl, refl))

pub answers_err : (f : Finding) (returned : Result Verified Finding) → returned ≡ Err f
    → VerifyAnswers 107 (finding_result f) returned
unfolding VerifyAnswers
answers_err f returned same = let P : Result Verified Finding → Type 0 = λ t. VerifyAnswers 107 (finding_result f) t in
    subst P (sym same) (inl (refl, refl))

pub answers_memory : (returned : Result Verified Finding) (v : VerifyReport) → v ≡ no_finding
    → VerifyAnswers 1 v returned
unfolding VerifyAnswers
answers_memory (Ok x) v none = inr (refl, none)
answers_memory (Err f) v none = inr (refl, none)

-- what is found wrong is no want of memory
pub found_is_no_memory : (f : Finding) → Found f ≡ OutOfMemory → ⊥
found_is_no_memory f same = cc

abbrev table_or : OpenTable → What → OpenTable
table_or t (Table u) = u
table_or t _ = t

-- a handle holds one table
pub same_table : (w : What) (u t : OpenTable) → w ≡ Table u → w ≡ Table t → u ≡ t
same_table w u t is same = ap (table_or t) (sym is) ∙ ap (table_or t) same

abbrev held_or : Held → Option Held → Held
held_or h (Some k) = k
held_or h None = h

pub same_held : (o : Option Held) (k h : Held) → o ≡ Some k → o ≡ Some h → k ≡ h
same_held o k h is same = ap (held_or h) (sym is) ∙ ap (held_or h) same

-- what holds of a code and of what is told holds of what equals them
pub at_both : (P : ℕ → VerifyReport → Type 0) (code other : ℕ) (v w : VerifyReport) → code ≡ other → v ≡ w → P other w → P code v
at_both P code other v w one two holds = subst (λ (n : ℕ). P n v) (sym one) (subst (λ (x : VerifyReport). P other x) (sym two) holds)

-- what a verification came to is told, memory aside
pub came_answers : (r : Result Verified VerifyError) (returned : Result Verified Finding) → Finds (λ (v : Verified). v) r returned
    → VerifyAnswers (verify_code r) (verify_result r) returned
came_answers (Ok v) returned same = answers_ok v returned same
came_answers (Err OutOfMemory) returned misses = answers_memory returned no_finding refl
came_answers (Err (Found f)) returned misses = answers_err f returned (misses f refl)

-- a fault that is found is reported
pub found_result : (r : Result Verified VerifyError) (f : Finding) → IsErrAnd r (λ e. e ≡ Found f)
    → (verify_code r ≡ 107) × (verify_result r ≡ finding_result f)
found_result (Ok v) f same = elim same [ ]
found_result (Err e) f same = (ap (λ (x : VerifyError). verify_code (Err x)) same, ap (λ (x : VerifyError). verify_result (Err x)) same)

-- and what takes no memory to be found, whatever memory there is;
pub came_early : (r : Result Verified VerifyError) (early : Option Finding) → FindsFirst r early
    → ReportsFinding (verify_code r) (verify_result r) early
came_early r early first f is = found_result r f (first f is)

-- what is told is the first that is wrong;
pub came_wrong : (r : Result Verified VerifyError) (IsFirst : Finding → Type 0)
    → IfErr r (λ e. (f : Finding) → e ≡ Found f → IsFirst f) → ReportsWrong IsFirst (verify_code r) (verify_result r)
came_wrong (Ok v) IsFirst firsts code = absurd (let no : ⊥ = cc in no)
came_wrong (Err OutOfMemory) IsFirst firsts code = absurd (let no : ⊥ = cc in no)
came_wrong (Err (Found f)) IsFirst firsts code = (f, refl, firsts f refl)

-- a table that is verified has what is told;
pub came_counts : (r : Result Verified VerifyError) (bytes : List ℕ)
    → IfOk r (λ v. (es : List Entry) × (t : StoresList bytes es) × (v.item_count ≡ length es)
    × (v.data_block_count ≡ length t.handles))
    → verify_code r ≡ 0 → ReportsCounts bytes (verify_result r)
came_counts (Ok v) bytes stores code = stores
came_counts (Err OutOfMemory) bytes stores code = absurd (let no : ⊥ = cc in no)
came_counts (Err (Found f)) bytes stores code = absurd (let no : ⊥ = cc in no)

-- and in one that stores a list nothing wrong is found
pub came_fine : (r : Result Verified VerifyError) → IfErr r (λ e. e ≡ OutOfMemory) → verify_code r ≡ 107 → ⊥
came_fine (Ok v) fine code = cc
came_fine (Err OutOfMemory) fine code = cc
came_fine (Err (Found f)) fine code = found_is_no_memory f fine

-- so the code and the report of a verification's result are those of the table
pub verifies_table : (t : OpenTable) (r : Result Verified VerifyError) (code : ℕ) (returned : VerifyReport)
    → code ≡ verify_code r → returned ≡ verify_result r
    → Finds (λ (v : Verified). v) r (table_found (body_of t.bytes) t.parts)
    → FindsFirst r (table_early (body_of t.bytes) t.parts)
    → IfErr r (λ e. (f : Finding) → e ≡ Found f → IsFirstFinding (body_of t.bytes) t.parts f)
    → IfOk r (λ v. (es : List Entry) × (s : StoresList t.bytes es) × (v.item_count ≡ length es)
    × (v.data_block_count ≡ length s.handles))
    → ((es : List Entry) → StoresList t.bytes es → IfErr r (λ e. e ≡ OutOfMemory))
    → VerifiesTable t code returned
verifies_table t r code returned one two finds early firsts stores complete =
    let found = table_found (body_of t.bytes) t.parts in
    let first = table_early (body_of t.bytes) t.parts in
    let First = IsFirstFinding (body_of t.bytes) t.parts in
    record {
      answers = at_both (λ n v. VerifyAnswers n v found) code (verify_code r) returned (verify_result r) one two
          (came_answers r found finds);
      early = at_both (λ n v. ReportsFinding n v first) code (verify_code r) returned (verify_result r) one two
          (came_early r first early);
      first = at_both (λ n v. ReportsWrong First n v) code (verify_code r) returned (verify_result r) one two
          (came_wrong r First firsts);
      sound = λ zero. subst (λ (v : VerifyReport). ReportsCounts t.bytes v) (sym two)
          (came_counts r t.bytes stores (sym one ∙ zero));
      complete = λ es holds wrong. came_fine r (complete es holds) (sym one ∙ wrong);
    }

-- code 0 is returned for verified tables only
pub came_ok : (r : Result Verified VerifyError) (P : Type 0) → IfOk r (λ _. P) → verify_code r ≡ 0 → P
came_ok (Ok v) P holds code = holds
came_ok (Err OutOfMemory) P holds code = absurd (let no : ⊥ = cc in no)
came_ok (Err (Found f)) P holds code = absurd (let no : ⊥ = cc in no)
