use Rattle.std.proofs.Common.{refl, sym, ◌∙◌, ap, arith}
use Rattle.std.specs.Int.{w64, from_be_bytes}
use Rattle.sst_entries.proofs.Bytes.{IsBytes-drop}
use Rattle.lsm_sorted.proofs.WordLemmas.{words_decide, words_leave}
use Rattle.lsm_sorted.proofs.heap.words.compare_bytes.Goals as goal

pub loop-a-init : goal.loop-a-init
loop-a-init c = record {
  rest = refl;
  fits_x = λ i. omega (arith, c.type_inv.first i);
  fits_y = λ i. omega (arith, c.type_inv.second i);
}

pub returns-in_default : goal.returns-in_default
returns-in_default c = c.cmp.ensures ∙ sym c.loop-a.invariant.rest

pub returns-in_default-split_first_chunk : goal.returns-in_default-split_first_chunk
returns-in_default-split_first_chunk c = c.cmp-in_default-split_first_chunk.ensures ∙ sym c.loop-a.invariant.rest

pub returns-then-is_ne : goal.returns-then-is_ne
returns-then-is_ne c =
    words_decide c.loop-a.x.now c.loop-a.y.now c.from_be_bytes.result c.from_be_bytes-in-loop-a.result c.cmp-found.result
    (omega (arith, c.in-Some.ensures.cases.2)) (omega (arith, c.in-Some-split_first_chunk.ensures.cases.2)) c.loop-a.invariant.fits_x c.loop-a.invariant.fits_y
    (c.from_be_bytes.ensures ∙ ap (from_be_bytes w64) c.in-Some.ensures.cases.0)
    (c.from_be_bytes-in-loop-a.ensures ∙ ap (from_be_bytes w64) c.in-Some-split_first_chunk.ensures.cases.0)
    c.cmp-found.ensures (sym c.is_ne.ensures ∙ c.if-is_ne.true)
    ∙ sym c.loop-a.invariant.rest

pub loop-a-smaller : goal.loop-a-smaller
loop-a-smaller c = omega (arith, c.in-Some.ensures.cases.2)

pub loop-a-preserved : goal.loop-a-preserved
loop-a-preserved c =
    let left =
    words_leave c.loop-a.x.now c.loop-a.y.now c.from_be_bytes.result c.from_be_bytes-in-loop-a.result c.cmp-found.result
    (omega (arith, c.in-Some.ensures.cases.2)) (omega (arith, c.in-Some-split_first_chunk.ensures.cases.2)) c.loop-a.invariant.fits_x c.loop-a.invariant.fits_y
    (c.from_be_bytes.ensures ∙ ap (from_be_bytes w64) c.in-Some.ensures.cases.0)
    (c.from_be_bytes-in-loop-a.ensures ∙ ap (from_be_bytes w64) c.in-Some-split_first_chunk.ensures.cases.0)
    c.cmp-found.ensures (sym c.is_ne.ensures ∙ c.if-is_ne.false) in
    rw (c.in-Some.ensures.cases.1, c.in-Some-split_first_chunk.ensures.cases.1) (record {
      rest = c.loop-a.invariant.rest ∙ left;
      fits_x = IsBytes-drop 8 c.loop-a.x.now c.loop-a.invariant.fits_x;
      fits_y = IsBytes-drop 8 c.loop-a.y.now c.loop-a.invariant.fits_y;
    })
