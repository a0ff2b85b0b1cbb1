-- A payload in the grammar has room for what it counts, and what is told of one that has not.
use Rattle.std.proofs.Common.{◌≡◌, ℕ, ◌+◌, ◌*◌, ◌≤◌, Bool, true, false, List, length, refl, sym}
use Rattle.std.proofs.Common.{◌∙◌, arith}
use Rattle.std.specs.Prelude.{Err, is_some}
use Rattle.std.proofs.lemmas.Bool.{le-leb, leb-true}
use Rattle.sst_blocks.specs.declared.version.TableVersion.{TableVersion}
use Rattle.sst_blocks.specs.declared.block_type.BlockType.{BlockType}
use Rattle.sst_blocks.specs.declared.block_type.BlockType.TheVariants.{Data, Index, Filter, Meta}
use Rattle.sst_entries.specs.declared.error.Error.TheVariants.{InvalidBlock}
use Rattle.sst_blocks.specs.Fnv.{fnv1a}
use Rattle.sst_blocks.specs.Number.{num4}
use Rattle.sst_blocks.specs.Version.{key_width}
use Rattle.sst_blocks.specs.Block.{checked_payload, has_room, has_room_for, in_grammar}
use Rattle.sst_blocks.specs.Handles.{handle_format, handles_in}
use Rattle.sst_blocks.specs.Reading.{entries_in, entry_format}
use Rattle.sst_blocks.proofs.Entries.{entries_advance, entries_in_same, length-spelled}
use Rattle.sst_blocks.proofs.HandleLaws.{handles_advance, handles_in_same, length-handle_spelled}
use Rattle.sst_blocks.proofs.Items.{items_room}
use Rattle.sst_blocks.proofs.LoadLemmas.{checksum_right}
use Rattle.sst_blocks.proofs.Searches.{there}

-- a count fits where its items would
pub room_there : (least : ℕ) (bytes : List ℕ) → 4 + least * num4 bytes ≤ length bytes
    → has_room_for least bytes ≡ true
unfolding has_room_for
room_there least bytes fits = le-leb (4 + least * num4 bytes) (length bytes) fits

-- there is a count
pub room_long : (least : ℕ) (bytes : List ℕ) → has_room_for least bytes ≡ true → 4 ≤ length bytes
unfolding has_room_for
room_long least bytes room = omega (arith, leb-true (4 + least * num4 bytes) (length bytes) room)

entries_room : (v : TableVersion) (bytes : List ℕ) → is_some (entries_in v bytes) ≡ true
    → has_room_for (13 + key_width v) bytes ≡ true
entries_room v bytes fine = there (entries_in v bytes)
    (has_room_for (13 + key_width v) bytes ≡ true) fine (λ es are.
    room_there (13 + key_width v) bytes
    (items_room (entry_format v) (entries_advance v) (13 + key_width v)
    (λ e. omega (arith, length-spelled v e)) bytes es (sym (entries_in_same v bytes) ∙ are)))

handles_room : (v : TableVersion) (bytes : List ℕ) → is_some (handles_in v bytes) ≡ true
    → has_room_for (20 + key_width v) bytes ≡ true
handles_room v bytes fine = there (handles_in v bytes)
    (has_room_for (20 + key_width v) bytes ≡ true) fine (λ hs are.
    room_there (20 + key_width v) bytes
    (items_room (handle_format v) (handles_advance v) (20 + key_width v)
    (λ h. omega (arith, length-handle_spelled v h)) bytes hs
    (sym (handles_in_same v bytes) ∙ are)))

pub grammar_room : (v : TableVersion) (kind : BlockType) (payload : List ℕ)
    → in_grammar v kind payload ≡ true → has_room v kind payload ≡ true
grammar_room v Data payload fine = entries_room v payload fine
grammar_room v Meta payload fine = entries_room v payload fine
grammar_room v Index payload fine = handles_room v payload fine
grammar_room v Filter payload fine = fine

without : (b : Bool) → (b ≡ true → false ≡ true) → b ≡ false
without true wrong = absurd (let no : false ≡ true = wrong refl in cc)
without false wrong = refl

no_room : (v : TableVersion) (kind : BlockType) (payload : List ℕ) → has_room v kind payload ≡ false
    → in_grammar v kind payload ≡ false
no_room v kind payload none = without (in_grammar v kind payload)
    (λ fine. sym none ∙ grammar_room v kind payload fine)

-- what is told of a payload of the right checksum without room
pub room_wrong : (v : TableVersion) (checksum : ℕ) (kind : BlockType) (payload : List ℕ)
    → fnv1a payload ≡ checksum → has_room v kind payload ≡ false
    → checked_payload v checksum kind payload ≡ Err InvalidBlock
room_wrong v checksum kind payload same none = checksum_right v checksum kind payload same
    ∙ rw (no_room v kind payload none) refl
