use Rattle.std.proofs.Common.{◌≡◌, ◌+◌, ◌⊎◌, ℕ, List, Bool, refl, true, false, ap, subst, sym, ◌∙◌, inl, inr}
use Rattle.std.specs.Prelude.{is_some, not, IfErr, IfOk, IsTrue, Option, Some, None, Result, Ok, Err, if◌then◌else◌}
use Rattle.sst_blocks.specs.Version.{key_width}
use Rattle.sst_entries.specs.declared.error.Error.{Error}
use Rattle.sst_entries.specs.declared.error.Error.TheVariants.{InvalidBlock}
use Rattle.sst_entries.specs.Error.{Faults, is_memory}
use Rattle.sst_blocks.specs.declared.block_type.BlockType.{BlockType}
use Rattle.sst_blocks.specs.declared.block_type.BlockType.TheVariants.{Data, Meta}
use Rattle.sst_blocks.specs.Block.{has_room, has_room_for, in_grammar, grammar_fault}
use Rattle.sst_blocks.specs.Handles.{handles_in}
use Rattle.sst_blocks.specs.Reading.{entries_in}
use Rattle.sst_blocks.specs.Starts.{IsBlock, SpellsAt}
use Rattle.sst_blocks.proofs.Room.{room_long}
use Rattle.sst_blocks.proofs.block.item_starts.Goals as goal

-- what holds at a kind of entries, and what holds at each
of_entries : (P : BlockType → Type 0) (Q : Type 0) (kind : BlockType) → (kind ≡ Data) ⊎ (kind ≡ Meta) → (P Data → Q) → (P Meta → Q) → P kind → Q
of_entries P Q kind (inl is) first second holds = first (subst P is holds)
of_entries P Q kind (inr is) first second holds = second (subst P is holds)

at_entries : (P : BlockType → Type 0) (kind : BlockType) → (kind ≡ Data) ⊎ (kind ≡ Meta) → P Data → P Meta → P kind
at_entries P kind (inl is) first second = subst P (sym is) first
at_entries P kind (inr is) first second = subst P (sym is) second

-- a payload is refused where it spells nothing
refused : {X Y : Type 0} (spell : Y → List ℕ) (o : Option (List Y)) (bytes : List ℕ) (places : X → List ℕ) (r : Result X Error) → IfOk r (λ x. SpellsAt Y spell o bytes (places x))
    → IfErr r (λ e. is_memory e ≡ false → (e ≡ InvalidBlock) × (o ≡ None)) → Faults r (if not (is_some o) then Some InvalidBlock else None)
refused spell o bytes places (Ok x) found fault = ap (λ (b : Bool). if not b then Some InvalidBlock else None) (ap is_some found.are)
refused spell o bytes places (Err e) found fault = λ memory. let f = fault memory in ap (λ (b : Bool). if not b then Some InvalidBlock else None) (ap is_some f.1) ∙ ap (λ z. Some z) (sym f.0)

pub starts_in-requires : goal.starts_in-requires
unfolding entries_in
starts_in-requires g c κs =
    let v = c.args.version in
    let payload = c.args.payload.now in
    let room = of_entries (λ k. has_room v k payload ≡ true) (has_room_for (13 + key_width v) payload ≡ true) c.args.kind c.in-Data.is (λ h. h) (λ h. h) c.requires.room in
    let tested = of_entries (λ k. IsTrue c.args.is_tested → in_grammar v k payload ≡ true) (IsTrue c.args.is_tested → is_some (entries_in v payload) ≡ true) c.args.kind c.in-Data.is (λ h. h) (λ h. h) c.requires.tested in
    ((refl, tt), (room_long (13 + key_width v) payload room, (c.requires.short, tested)))

pub starts_in-requires-in-Index : goal.starts_in-requires-in-Index
unfolding handles_in
starts_in-requires-in-Index g c κs =
    let v = c.args.version in
    let payload = c.args.payload.now in
    let room = subst (λ k. has_room v k payload ≡ true) c.in-Index.is c.requires.room in
    let tested = subst (λ k. IsTrue c.args.is_tested → in_grammar v k payload ≡ true) c.in-Index.is c.requires.tested in
    ((refl, tt), (room_long (20 + key_width v) payload room, (c.requires.short, tested)))

pub returns-in-Data-clause-found : goal.returns-in-Data-clause-found
unfolding entries_in
returns-in-Data-clause-found g c =
    at_entries (λ k. IfOk c.starts_in.result (λ starts. IsBlock c.args.version k c.args.payload.now starts.items)) c.args.kind c.in-Data.is c.starts_in.ensures.found c.starts_in.ensures.found

pub returns-in-Data-clause-refused : goal.returns-in-Data-clause-refused
unfolding entries_in
returns-in-Data-clause-refused g c =
    let returned = refused _ (entries_in c.args.version c.args.payload.now) _ _ c.starts_in.result c.starts_in.ensures.found c.starts_in.ensures.fault in
    at_entries (λ k. Faults c.starts_in.result (grammar_fault c.args.version k c.args.payload.now)) c.args.kind c.in-Data.is returned returned

pub returns-in-Index-clause-found : goal.returns-in-Index-clause-found
unfolding handles_in
returns-in-Index-clause-found g c =
    subst (λ k. IfOk c.starts_in-in-Index.result (λ starts. IsBlock c.args.version k c.args.payload.now starts.items)) (sym c.in-Index.is) c.starts_in-in-Index.ensures.found

pub returns-in-Index-clause-refused : goal.returns-in-Index-clause-refused
unfolding handles_in
returns-in-Index-clause-refused g c =
    let returned = refused _ (handles_in c.args.version c.args.payload.now) _ _ c.starts_in-in-Index.result c.starts_in-in-Index.ensures.found c.starts_in-in-Index.ensures.fault in
    subst (λ k. Faults c.starts_in-in-Index.result (grammar_fault c.args.version k c.args.payload.now)) (sym c.in-Index.is) returned
