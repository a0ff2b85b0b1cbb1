-- Sections behind what was written before.
use Rattle.std.proofs.Common.{◌≡◌, refl, ◌∙◌, ap, sym, subst, ℕ, ◌+◌, ◌≤◌, true, false, All}
use Rattle.std.proofs.Common.{List, [], ◌∷◌, ◌++◌, length, take, append_assoc, length-append, arith}
use Rattle.std.specs.Prelude.{Option, None, Result, Ok, Err, IfErr}
use Rattle.std.proofs.Math.Seq.{take-append_seam}
use Rattle.std.proofs.lemmas.List.{append-nil, length-take, take-take, take_all}
use Rattle.std.proofs.lemmas.List.Elements.{All-push, All-weaker}
use Rattle.sst_entries.specs.Error.{Faults, is_memory}
use Rattle.sst_entries.specs.declared.error.Error.{Error}
use Rattle.sst_entries.specs.declared.error.Error.TheVariants.{OutOfMemory}
use Rattle.sst_blocks.specs.Sections.{Written, slot_index}
use Rattle.sst_blocks.specs.declared.section.SectionName.{SectionName}
use Rattle.sst_blocks.specs.declared.section.SectionName.TheVariants.{Index}
use Rattle.sst_blocks.specs.table.File.{HasNoIndex}
use Rattle.sst_blocks.specs.table.Layout.{appended}

-- one section, and two
pub section_more : (w u v : Written) (name : SectionName) (bytes : List ℕ)
    → u ≡ record w { started = w.started ++ (name, length w.bytes) ∷ [] } →
    v ≡ record u { bytes = u.bytes ++ bytes } → v ≡ appended w ((name, bytes) ∷ [])
section_more w u v name bytes eu ev = rw (ev, eu, append-nil bytes) refl

pub section_behind : (w u : Written) (s t : SectionName × List ℕ) → u ≡ appended w (s ∷ [])
    → appended u (t ∷ []) ≡ appended w (s ∷ t ∷ [])
section_behind w u s t e =
    let bytes : (w.bytes ++ (s.1 ++ [])) ++ (t.1 ++ []) ≡ w.bytes ++ (s.1 ++ (t.1 ++ [])) =
    append_assoc w.bytes (s.1 ++ []) (t.1 ++ [])
    ∙ ap (λ bs. w.bytes ++ bs) (append_assoc s.1 [] (t.1 ++ [])) in
    let at : length (w.bytes ++ (s.1 ++ [])) ≡ length w.bytes + length s.1 =
    length-append w.bytes (s.1 ++ []) ∙ ap (λ (bs : List ℕ). length w.bytes + length bs)
    (append-nil s.1) in
    let started : (w.started ++ (s.0, length w.bytes) ∷ [])
    ++ (t.0, length (w.bytes ++ (s.1 ++ []))) ∷ [] ≡ w.started ++ (s.0, length w.bytes)
    ∷ (t.0, length w.bytes + length s.1) ∷ [] =
    append_assoc w.started ((s.0, length w.bytes) ∷ [])
    ((t.0, length (w.bytes ++ (s.1 ++ []))) ∷ [])
    ∙ ap (λ (n : ℕ). w.started ++ (s.0, length w.bytes) ∷ (t.0, n) ∷ []) at in
    rw (e, bytes, started) refl

-- which sections were not started yet
pub no_index_yet : (w : Written) → HasNoIndex w
    → All (λ (s : SectionName × ℕ). slot_index s.0 ≡ 1 → ⊥) w.started
no_index_yet w none =
    All-weaker (λ (s : SectionName × ℕ). (slot_index s.0 ≡ 1 → ⊥) × (slot_index s.0 ≡ 2 → ⊥))
    (λ (s : SectionName × ℕ). slot_index s.0 ≡ 1 → ⊥) (λ s h. h.0) w.started none

pub no_top_level_first : (w : Written) → HasNoIndex w
    → All (λ (s : SectionName × ℕ). slot_index s.0 ≡ 2 → ⊥) w.started
no_top_level_first w none =
    All-weaker (λ (s : SectionName × ℕ). (slot_index s.0 ≡ 1 → ⊥) × (slot_index s.0 ≡ 2 → ⊥))
    (λ (s : SectionName × ℕ). slot_index s.0 ≡ 2 → ⊥) (λ s h. h.1) w.started none

pub no_top_level_yet : (w u v : Written) → HasNoIndex w
    → u ≡ record w { started = w.started ++ (Index, length w.bytes) ∷ [] } → v.started ≡ u.started →
    All (λ (s : SectionName × ℕ). slot_index s.0 ≡ 2 → ⊥) v.started
no_top_level_yet w u v none begun same =
    subst (λ ss. All (λ (s : SectionName × ℕ). slot_index s.0 ≡ 2 → ⊥) ss)
    (sym (same ∙ ap (λ (y : Written). y.started) begun))
    (All-push (λ (s : SectionName × ℕ). slot_index s.0 ≡ 2 → ⊥) w.started (Index, length w.bytes)
    (no_top_level_first w none) (λ e. absurd cc))

-- what was written before stays at the front
pub bytes_stay : (w : Written) → take (length w.bytes) w.bytes ≡ w.bytes
bytes_stay w = take_all (length w.bytes) w.bytes (omega arith)

pub front_begun : (w u : Written) (started : List (SectionName × ℕ))
    → u ≡ record w { started = started } → take (length w.bytes) u.bytes ≡ w.bytes
front_begun w u started e = ap (λ (y : Written). take (length w.bytes) y.bytes) e ∙ bytes_stay w

pub front_longer : (w x : Written) (block : List ℕ) → x ≡ record w { bytes = w.bytes ++ block }
    → take (length w.bytes) x.bytes ≡ w.bytes
front_longer w x block e = ap (λ (y : Written). take (length w.bytes) y.bytes) e
    ∙ take-append_seam w.bytes block

pub front_after : (w u x : Written) → take (length w.bytes) u.bytes ≡ w.bytes
    → take (length u.bytes) x.bytes ≡ u.bytes → take (length w.bytes) x.bytes ≡ w.bytes
front_after w u x before stays =
    let long : length w.bytes ≤ length u.bytes =
    omega (arith, length-take (length w.bytes) u.bytes, ap length before) in
    sym (take-take (length w.bytes) (length u.bytes) x.bytes long)
    ∙ ap (λ (bs : List ℕ). take (length w.bytes) bs) stays ∙ before

pub front_same : (w u x : Written) → take (length w.bytes) u.bytes ≡ w.bytes → x ≡ u
    → take (length w.bytes) x.bytes ≡ w.bytes
front_same w u x before e = ap (λ (y : Written). take (length w.bytes) y.bytes) e ∙ before

-- where nothing is refused but want of memory, no fault is told
pub faults_none : {X : Type 0} (r : Result X Error) (returned : Option Error) → returned ≡ None
    → IfErr r (λ e. e ≡ OutOfMemory) → Faults r returned
faults_none (Ok x) returned none memory = none
faults_none (Err e) returned none memory = λ h.
    let both : true ≡ false = sym (ap is_memory memory) ∙ h in
    absurd cc
