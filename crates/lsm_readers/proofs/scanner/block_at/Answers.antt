use Rattle.std.proofs.Common.{◌≡◌, ℕ, ◌+◌, List, refl, ap, ◌∙◌, sym, arith}
use Rattle.std.specs.Prelude.{Result, Ok}
use Rattle.sst_entries.specs.declared.error.Error.{Error}
use Rattle.sst_blocks.specs.Block.{Loaded, entries_of}
use Rattle.sst_entries.specs.Entry.{Entry}
use Rattle.sst_blocks.proofs.LoadLemmas.{data_holds}
use Rattle.lsm_readers.specs.Scan.{behind}
use Rattle.lsm_readers.specs.point.Read.{◌>>=◌}
use Rattle.lsm_readers.proofs.Loads.{load_at_kind}
use Rattle.lsm_readers.proofs.scanner.block_at.Goals as goal

pub new-requires : goal.new-requires
new-requires g c = data_holds _ (load_at_kind _ _ _ _ c.in_ok-block.ensures.returned)

abbrev pair : List Entry → ℕ → Result (List Entry × ℕ) Error
pair xs n = Ok (xs, n)

both : (xs ys : List Entry) (m n : ℕ) → xs ≡ ys → m ≡ n → pair xs m ≡ pair ys n
both xs ys m n e f = rw (e, f) refl

pub returns-clause-returned : goal.returns-clause-returned
returns-clause-returned g c =
    let b = c.in_ok-block.block in
    ap (λ (r : Result Loaded Error). r >>= λ x. Ok (entries_of x, behind c.args.position x)) c.in_ok-block.ensures.returned
    ∙ both (entries_of b) c.new.result (behind c.args.position b) (c.args.position + c.serialized_len.result + c.size.result) (sym c.new.ensures) (omega (arith, c.serialized_len.ensures, c.size.ensures))
