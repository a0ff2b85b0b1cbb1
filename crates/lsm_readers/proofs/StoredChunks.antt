-- Handles that name chunks of a strict list are strict, and end as their chunks do.
use Rattle.std.proofs.Common.{◌≡◌, ℕ, List, [], ◌∷◌, map, refl, sym, ap, ◌∙◌, arith}
use Rattle.std.specs.Prelude.{Option, Some, None}
use Rattle.std.specs.List.{AllZip}
use Rattle.sst_entries.specs.declared.value_type.ValueType.TheVariants.{Value}
use Rattle.sst_entries.specs.Entry.{Entry, entry}
use Rattle.sst_entries.specs.Strict.{IsStrict, IsStrictAfter, is_before, last_of, may_follow}
use Rattle.sst_entries.proofs.Strictness.{strict_back, strict_front}
use Rattle.sst_blocks.specs.Handle.{Handle}
use Rattle.sst_blocks.specs.Handles.{AreStrictHandles, end_of, reaches}
use Rattle.sst_blocks.proofs.Reaching.{reaches_after}
use Rattle.sst_blocks.specs.table.Chunks.{joined}
use Rattle.sst_blocks.specs.table.Index.{last_entry}
use Rattle.lsm_readers.specs.Stored.{NamesChunk}
use Rattle.lsm_readers.proofs.ChunkReads.{after}
use Rattle.lsm_readers.proofs.FileLengths.{follow_last, last_some}

module _ (body : List ℕ) (h : Handle) (c : List Entry) (n : NamesChunk body h c) where
  -- a handle's end comes after an entry where the last entry of its chunk does
  end_after : (e : Entry) → is_before e (end_of h) ≡ is_before e (last_entry c)
  end_after e = ap (λ (k : List ℕ). is_before e (entry k [] h.seqno Value)) n.end_key
      ∙ ap (λ (m : ℕ). is_before e (entry (last_entry c).user_key [] m Value)) n.seqno

  -- and before one where that does
  end_before : (e : Entry) → is_before (end_of h) e ≡ is_before (last_entry c) e
  end_before e = ap (λ (k : List ℕ). is_before (entry k [] h.seqno Value) e) n.end_key
      ∙ ap (λ (m : ℕ). is_before (entry (last_entry c).user_key [] m Value) e) n.seqno

  end_follows : (p : Option Entry) → may_follow p (end_of h) ≡ may_follow p (last_entry c)
  end_follows None = refl
  end_follows (Some e) = end_after e

  -- a handle reaches a key where the last entry of its chunk comes after a read of it
  pub chunk_reaches : (key : List ℕ) (bound : ℕ) → reaches key bound h
      ≡ after key bound (last_entry c)
  chunk_reaches key bound = reaches_after key bound h ∙ end_after (entry key [] bound Value)

-- the ends of the blocks of a strict list: q stands where p does, by key and number
ends_strict : (body : List ℕ) (p q : Option Entry) (hs : List Handle) (cs : List (List Entry))
    → ((e : Entry) → may_follow q e ≡ may_follow p e) → AllZip (NamesChunk body) hs cs
    → IsStrictAfter p (joined cs) → IsStrictAfter q (map end_of hs)
unfolding IsStrictAfter last_of
ends_strict body p q [] [] same named strict = tt
ends_strict body p q [] (c ∷ cs) same named strict = absurd named
ends_strict body p q (h ∷ hs) [] same named strict = absurd named
ends_strict body p q (h ∷ hs) ([] ∷ cs) same named strict =
    absurd (omega (arith, (named.0).some))
ends_strict body p q (h ∷ hs) ((x ∷ xs) ∷ cs) same named strict =
    let c : List Entry = x ∷ xs in
    let here = same (end_of h) ∙ end_follows body h c named.0 p
    ∙ follow_last p x xs (strict_front p c (joined cs) strict) in
    let more = strict_back p c (joined cs) strict in (
      here,
      ends_strict body (last_of p c) (Some (end_of h)) hs cs
          (λ e. end_before body h c named.0 e ∙ sym (ap (λ (o : Option Entry). may_follow o e)
          (last_some x xs))) named.1 more,
    )

pub handles_strict : (body : List ℕ) (hs : List Handle) (cs : List (List Entry))
    → AllZip (NamesChunk body) hs cs → IsStrict (joined cs) → AreStrictHandles hs
handles_strict body hs cs named strict = ends_strict body None None hs cs (λ e. refl) named strict
