use Rattle.std.proofs.Common.{◌≡◌, ◌≢◌, ◌∙◌, not, sym, List, ℕ, None, Some, rules}
use Rattle.std.proofs.lemmas.Option.{none-some}
use Rattle.sst_entries.specs.Entry.{Entry}
use Rattle.sst_entries.specs.Point.{read_place, point}
use Rattle.sst_entries.proofs.StreamLemmas.{on_err}
use Rattle.sst_entries.specs.Lending.{entry_of_ref}
use Rattle.sst_entries.specs.Span.{front_length}
use Rattle.sst_entries.specs.Strict.{is_before}
use Rattle.sst_blocks.proofs.Points.{past_parted, keys_apart, keys_same, read_past, read_other, read_hit}
use Rattle.sst_blocks.proofs.data_block.DataBlock.point_read.Goals as goal

pub returns-then-index-len-clause-found : goal.returns-then-index-len-clause-found
returns-then-index-len-clause-found g c =
    let es = c.args.self.now in
    let key = c.args.key.now in
    let n = c.front_len-index.result in
    let place : n ≡ front_length (λ (e : Entry). not (is_before (read_place key c.args.seqno) e)) es = c.front_len-index.ensures.value (λ (k : List ℕ) (m : ℕ). not (is_before (read_place key c.args.seqno) (read_place k m))) (λ k m r h. search rules) (past_parted es key c.args.seqno c.front_len-index.ensures.strict) in
    read_past es key c.args.seqno n place (search rules)

pub returns-then-ne-clause-found : goal.returns-then-ne-clause-found
returns-then-ne-clause-found g c =
    let es = c.args.self.now in
    let key = c.args.key.now in
    let n = c.front_len-index.result in
    let place : n ≡ front_length (λ (e : Entry). not (is_before (read_place key c.args.seqno) e)) es = c.front_len-index.ensures.value (λ (k : List ℕ) (m : ℕ). not (is_before (read_place key c.args.seqno) (read_place k m))) (λ k m r h. search rules) (past_parted es key c.args.seqno c.front_len-index.ensures.strict) in
    read_other es key c.args.seqno n (entry_of_ref c.entry_ref-entry.result) c.front_len-index.ensures.strict place c.entry_ref-entry.ensures (keys_apart c.entry_ref-entry.result.user_key.now key c.ne.result c.ne.ensures c.if-ne.true)

pub returns-clause-found : goal.returns-clause-found
returns-clause-found g c =
    let es = c.args.self.now in
    let key = c.args.key.now in
    let n = c.front_len-index.result in
    let place : n ≡ front_length (λ (e : Entry). not (is_before (read_place key c.args.seqno) e)) es = c.front_len-index.ensures.value (λ (k : List ℕ) (m : ℕ). not (is_before (read_place key c.args.seqno) (read_place k m))) (λ k m r h. search rules) (past_parted es key c.args.seqno c.front_len-index.ensures.strict) in
    let same = keys_same c.entry_ref-entry.result.user_key.now key c.ne.result c.ne.ensures c.if-ne.false in
    cc (c.in_ok-share.ensures.found, read_hit es key c.args.seqno n (entry_of_ref c.entry_ref-entry.result) place c.entry_ref-entry.ensures same)

pub returns-in_err-share-clause-some : goal.returns-in_err-share-clause-some
returns-in_err-share-clause-some g c =
    let es = c.args.self.now in
    let key = c.args.key.now in
    let n = c.front_len-index.result in
    let place : n ≡ front_length (λ (e : Entry). not (is_before (read_place key c.args.seqno) e)) es = c.front_len-index.ensures.value (λ (k : List ℕ) (m : ℕ). not (is_before (read_place key c.args.seqno) (read_place k m))) (λ k m r h. search rules) (past_parted es key c.args.seqno c.front_len-index.ensures.strict) in
    let same = keys_same c.entry_ref-entry.result.user_key.now key c.ne.result c.ne.ensures c.if-ne.false in
    let hit : point es key c.args.seqno ≡ Some (entry_of_ref c.entry_ref-entry.result) = sym (read_hit es key c.args.seqno n (entry_of_ref c.entry_ref-entry.result) place c.entry_ref-entry.ensures same) in
    let there : point es key c.args.seqno ≢ None = λ gone. none-some (entry_of_ref c.entry_ref-entry.result) (sym gone ∙ hit) in
    on_err c.from_residual.result there
