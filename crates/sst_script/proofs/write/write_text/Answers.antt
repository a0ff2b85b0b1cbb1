use Rattle.std.proofs.Common.{◌≡◌, ℕ, ◌-◌, List, ◌++◌, length, take, drop, sym, ap, ◌∙◌, append_assoc, take-append-drop}
use Rattle.std.proofs.lemmas.List.{take_rest}
use Rattle.std.proofs.KnownBytes.{Appends-trans}
use Rattle.sst_script.proofs.ShownLemmas.{kept_behind}
use Rattle.sst_script.proofs.write.write_text.Goals as goal
use Rattle.sst_script.proofs.write.write_text.Goals.{in-Ok, in-Err+else-ne}

-- the first bytes that were left were taken
taken : (all done rest : List ℕ) (n : ℕ) → all ≡ done ++ rest → all ≡ (done ++ take n rest) ++ take (length rest - n) (drop n rest)
taken all done rest n e =
    e
    ∙ ap (λ (l : List ℕ). done ++ l) (sym (take-append-drop n rest))
    ∙ sym (append_assoc done (take n rest) (drop n rest))
    ∙ ap (λ (l : List ℕ). (done ++ take n rest) ++ l) (sym (take_rest rest n))

pub loop-preserved : goal.loop-preserved
loop-preserved g c =
    let done = c.loop.invariant.0 in
    let rest = c.loop.rest.now in
    elim c.match-write.branch [
      | in-Ok w ↦
          rw w.rest-is
          (done ++ take w.in-Ok.taken rest, taken c.args.text.now done rest w.in-Ok.taken c.loop.invariant.1, Appends-trans _ _ _ _ _ c.loop.invariant.2 w.in-Ok.ensures.bytes)
      | in-Err+else-ne w ↦
          rw w.rest-is
          (done, c.loop.invariant.1, kept_behind _ _ _ _ c.loop.invariant.2 w.in-Err.ensures.bytes)
    ]
