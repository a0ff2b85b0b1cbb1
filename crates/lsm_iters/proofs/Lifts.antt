-- An entry whose number is lifted, by its number.
use Rattle.std.proofs.Common.{◌≡◌, ℕ, ◌+◌, ◌-◌, ◌^◌, Bool, true, false, sym, ap, ◌∙◌}
use Rattle.std.specs.Prelude.{Ok, Err, nat_lt, if◌then◌else◌}
use Rattle.sst_entries.specs.declared.error.Error.{Error}
use Rattle.sst_entries.specs.declared.error.Error.TheVariants.{SeqNoOverflow}
use Rattle.sst_entries.specs.Entry.{Entry}
use Rattle.lsm_iters.specs.Lift.{lifted, lifted_result, global_seqno_result}

reported_err : (past : Bool) (k : ℕ) (x : Entry) (f : Error)
    → Err f ≡ (if past then Err SeqNoOverflow else Ok k)
    → (if past then Err SeqNoOverflow else Ok x) ≡ Err f
reported_err true k x f returned = cc
reported_err false k x f returned = absurd cc

reported_ok : (past : Bool) (k m : ℕ) (x : Entry) → Ok m ≡ (if past then Err SeqNoOverflow else Ok k)
    → (if past then Err SeqNoOverflow else Ok (record x { seqno = k }))
    ≡ Ok (record x { seqno = m })
reported_ok true k m x returned = absurd cc
reported_ok false k m x returned = let same : m ≡ k = cc in
    ap (λ (n : ℕ). Ok (record x { seqno = n })) (sym same)

pub lift_refused : (g n : ℕ) (e : Entry) (f : Error) → n ≡ e.seqno → Err f ≡ global_seqno_result g n
    → lifted_result g e ≡ Err f
lift_refused g n e f same returned = reported_err (nat_lt (2 ^ 64 - 1) (e.seqno + g)) (e.seqno + g)
    (lifted g e) f (returned ∙ ap (global_seqno_result g) same)

pub lift_fits : (g n m : ℕ) (e : Entry) → n ≡ e.seqno → Ok m ≡ global_seqno_result g n
    → lifted_result g e ≡ Ok (record e { seqno = m })
lift_fits g n m e same returned = reported_ok (nat_lt (2 ^ 64 - 1) (e.seqno + g)) (e.seqno + g) m e
    (returned ∙ ap (global_seqno_result g) same)
