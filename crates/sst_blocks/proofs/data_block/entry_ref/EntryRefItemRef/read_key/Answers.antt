use Rattle.std.proofs.Common.{◌≤◌, ◌+◌, length, arith, rules}
use Rattle.std.proofs.lemmas.List.{take_rest, length-drop}
use Rattle.sst_blocks.proofs.Entries.{front_of_bytes, front_key_len, front_number, front_key}
use Rattle.sst_blocks.proofs.data_block.entry_ref.EntryRefItemRef.read_key.Goals as goal

pub slice_bounds-key_len_at-count : goal.slice_bounds-key_len_at-count
slice_bounds-key_len_at-count c = omega (arith, (front_of_bytes c.args.version c.args.bytes.now c.requires).lies.within)

pub slice_bounds-key_len_at-start : goal.slice_bounds-key_len_at-start
slice_bounds-key_len_at-start c =
    let within : 9 ≤ length c.args.bytes.now = omega (arith, (front_of_bytes c.args.version c.args.bytes.now c.requires).lies.within) in
    search rules

pub key_len_at-key_len-requires : goal.key_len_at-key_len-requires
key_len_at-key_len-requires c =
    let bytes = c.args.bytes.now in
    let f = front_of_bytes c.args.version bytes c.requires in
    rw (take_rest bytes 9) (omega (arith, f.lies.within, length-drop 9 bytes))

pub slice_bounds-result-end : goal.slice_bounds-result-end
slice_bounds-result-end c =
    let f = front_of_bytes c.args.version c.args.bytes.now c.requires in
    let len = front_key_len c.args.version c.args.bytes.now f c.key_len_at-key_len.result c.key_len_at-key_len.ensures.value in
    let within : c.head_len-head.result + c.key_len_at-key_len.result ≤ length c.args.bytes.now = omega (arith, c.head_len-head.ensures, len, f.lies.within) in
    search rules

pub slice_bounds-u64_at-count : goal.slice_bounds-u64_at-count
slice_bounds-u64_at-count c = omega (arith, (front_of_bytes c.args.version c.args.bytes.now c.requires).lies.within)

pub slice_bounds-u64_at-start : goal.slice_bounds-u64_at-start
slice_bounds-u64_at-start c =
    let within : 1 ≤ length c.args.bytes.now = omega (arith, (front_of_bytes c.args.version c.args.bytes.now c.requires).lies.within) in
    search rules

pub u64_at-requires : goal.u64_at-requires
u64_at-requires c =
    let bytes = c.args.bytes.now in
    let f = front_of_bytes c.args.version bytes c.requires in
    rw (take_rest bytes 1) (omega (arith, f.lies.within, length-drop 1 bytes))

pub returns : goal.returns
returns c =
    let v = c.args.version in
    let bytes = c.args.bytes.now in
    let f = front_of_bytes v bytes c.requires in
    let len = front_key_len v bytes f c.key_len_at-key_len.result c.key_len_at-key_len.ensures.value in
    front_key v bytes f c.head_len-head.result c.key_len_at-key_len.result c.u64_at.result c.head_len-head.ensures len (front_number v bytes f c.u64_at.result c.u64_at.ensures)
