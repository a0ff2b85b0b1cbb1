-- A writer's parts once an entry was put behind those that were pending.
use Rattle.std.proofs.Common.{◌≡◌, refl, sym, ◌∙◌, ap, subst, ℕ, Bool, true, false, List, [], ◌∷◌}
use Rattle.std.proofs.Common.{◌++◌, arith, length-append, cond}
use Rattle.std.specs.Prelude.{Option, None}
use Rattle.sst_entries.specs.Entry.{Entry}
use Rattle.sst_blocks.specs.declared.filter.policy.BloomConstructionPolicy.{BloomConstructionPolicy}
use Rattle.sst_blocks.specs.declared.table.label.Label.{Label}
use Rattle.sst_blocks.specs.declared.table.options.FilterKind.{FilterKind}
use Rattle.sst_blocks.specs.declared.table.options.Options.{Options}
use Rattle.sst_blocks.specs.table.Chunks.{is_full, joined}
use Rattle.lsm_writers.specs.declared.section.filter_either.FilterWriterImpl.{FilterWriterImpl}
use Rattle.lsm_writers.specs.declared.writer.meta.Metadata.{Metadata}
use Rattle.lsm_writers.specs.declared.writer.meta.Tally.{Tally}
use Rattle.lsm_writers.specs.Counts.{added, HasRoom}
use Rattle.sst_blocks.specs.table.Fits.{LabelFits}
use Rattle.lsm_writers.specs.Cut.{Cut, rest_chunk, with_cut}
use Rattle.lsm_writers.specs.Filtering.{IsFiltered}
use Rattle.lsm_writers.specs.Held.{CanGoOn, IsHeld, IsTaken}
use Rattle.lsm_writers.specs.Writing.{Writing, gained, item_fault, spilled, write_fault}
use Rattle.lsm_writers.proofs.Cutting.{rest_is}
use Rattle.lsm_writers.proofs.Filtered.{filtered_cut, filtered_not}
use Rattle.lsm_writers.proofs.Taking.{cut_held, held_cut, room_still}
use Rattle.lsm_writers.proofs.CutTables.{unfilled}

-- one entry more is a chunk of its own
pub rest_more : (es : List Entry) (e : Entry) → rest_chunk (es ++ e ∷ []) ≡ (es ++ e ∷ []) ∷ []
rest_more es e = rest_is (es ++ e ∷ []) (omega (arith, length-append es (e ∷ [])))

cut_is : (cut new : Cut) (es : List Entry) (e : Entry)
    → new.chunks ≡ cut.chunks ++ (es ++ e ∷ []) ∷ []
    → new.chunks ≡ cut.chunks ++ rest_chunk (es ++ e ∷ [])
cut_is cut new es e h = h ∙ ap (λ (x : List (List Entry)). cut.chunks ++ x) (sym (rest_more es e))

-- they are held once it was counted, and the writer can go on
pub parts_taken : {A : Type 0} (full : Bool) (size : ℕ) (cut new : Cut) (old : List Entry)
    (e : Entry) (k : ℕ) (pending : List Entry) (n : ℕ) (t : Tally A) (m o p : Metadata A)
    → is_full size (old ++ e ∷ []) ≡ full → IsHeld size cut.chunks (old ++ e ∷ []) k (added t m)
    → cut.failed ≡ false
    → IsTaken full (old ++ e ∷ []) cut m pending n new o → p ≡ added t o
    → IsHeld size new.chunks pending n p × CanGoOn false size new pending
parts_taken {A} false size cut new old e k pending n t m o p is held works r a =
    let same : p ≡ added t m = a ∙ ap (λ (x : Metadata A). added t x) r.3 in (
      rw (r.0, r.1 ∙ sym held.sized, r.2, same) held,
      record
          { works = λ _. rw r.2 works; room = λ _. rw r.0 (unfilled size (old ++ e ∷ []) is) },
    )
parts_taken {A} true size cut new old e k pending n t m o p is held works r a =
    let items = old ++ e ∷ [] in
    let done = cut_held size cut.chunks items k m t new.chunks o p held
    (cut_is cut new old e r.2) r.4 a in
    (rw (r.0, r.1) done, record { works = λ _. r.3; room = λ _. rw r.0 tt })

-- so are the keys of the filter
pub filter_taken : {A : Type 0} (full : Bool) (kind : FilterKind) (policy : BloomConstructionPolicy)
    (w : Option (FilterWriterImpl A)) (cut new : Cut) (old : List Entry) (e : Entry)
    (pending : List Entry) (n : ℕ) (m o : Metadata A)
    → IsFiltered false kind policy w (joined cut.chunks ++ (old ++ e ∷ []))
    → IsTaken full (old ++ e ∷ []) cut m pending n new o
    → IsFiltered false kind policy w (joined new.chunks ++ pending)
filter_taken false kind policy w cut new old e pending n m o h r = rw (r.0, r.2) h
filter_taken true kind policy w cut new old e pending n m o h r =
    rw r.0 (filtered_cut kind policy w cut.chunks new.chunks (old ++ e ∷ []) h
    (cut_is cut new old e r.2))

-- there is room for one more in the counts
pub room_taken : {A : Type 0} (full : Bool) (items : List Entry) (cut new : Cut)
    (pending : List Entry) (n : ℕ) (m o : Metadata A) → HasRoom m
    → IsTaken full items cut m pending n new o → HasRoom o
room_taken false items cut new pending n m o h r = rw r.3 h
room_taken true items cut new pending n m o h r = rw r.4 (room_still new.chunks m h)

gained_by : {A : Type 0} (full : Bool) (label : Label) (options : Options) (items : List Entry)
    (cut new : Cut) (pending : List Entry) (n : ℕ) (m o : Metadata A)
    → IsTaken full items cut m pending n new o
    → ◌≡◌ {A = Writing} (record {
      label = label;
      options = options;
      cut = new.chunks;
      pending =
          pending;
      failed = false;
    })
    (cond full (record {
      label = label;
      options = options;
      cut = cut.chunks ++ items ∷ [];
      pending =
          [];
      failed = false;
    }) (record {
      label = label;
      options = options;
      cut =
          cut.chunks;
      pending = items;
      failed = false;
    }))
gained_by false label options items cut new pending n m o r = rw (r.0, r.2) refl
gained_by true label options items cut new pending n m o r = rw (r.0, r.2) refl

-- and the list has gained the entry
pub gained_is : {A : Type 0} (label : Label) (options : Options) (cut new : Cut)
    (old pending : List Entry) (failed : Bool) (e : Entry) (n : ℕ) (m o : Metadata A)
    → failed ≡ false
    → IsTaken (is_full options.data_block_size (old ++ e ∷ []))
    (old ++ e ∷ []) cut m pending n new o
    → record {
      label = label;
      options = options;
      cut = new.chunks;
      pending = pending;
      failed =
          false;
    } ≡ gained (record {
      label = label;
      options = options;
      cut = cut.chunks;
      pending =
          old;
      failed = failed;
    }) e
gained_is label options cut new old pending failed e n m o works r =
    rw works (gained_by (is_full options.data_block_size (old ++ e ∷ [])) label options
    (old ++ e ∷ []) cut new pending n m o r)

-- ---- what a writer refuses

module _ (label : Label) (options : Options) (cut : Cut) (pending : List Entry) (failed : Bool)
    (e : Entry) (works : failed ≡ false) where
  pub write_fault_is : write_fault (record {
    label = label;
    options = options;
    cut =
        cut.chunks;
    pending = pending;
    failed = failed;
  }) e ≡ item_fault pending e
  write_fault_is = rw works refl

  pub write_fault_none : item_fault pending e ≡ None
      → write_fault (record {
        label = label;
        options = options;
        cut = cut.chunks;
        pending =
            pending;
        failed = failed;
      }) e ≡ None
  write_fault_none none = write_fault_is ∙ none

-- once a call was refused all parts are as they were, and the filter has any keys
pub parts_left : {A : Type 0} (size : ℕ) (cut new : Cut) (old pending : List Entry) (k n : ℕ)
    (m o : Metadata A) (label : Label) (failed : Bool) (kind : FilterKind)
    (policy : BloomConstructionPolicy) (w v : Option (FilterWriterImpl A)) (es : List Entry)
    → pending ≡ old → n ≡ k → new.chunks ≡ cut.chunks → o ≡ m → IsHeld size cut.chunks old k m
    → LabelFits label → IsFiltered failed kind policy w es
    → IsHeld size new.chunks pending n o × CanGoOn true size new pending × LabelFits label
    × IsFiltered true kind policy v (joined new.chunks ++ pending)
parts_left size cut new old pending k n m o label failed kind policy w v es p s c u held fits
    filtered = (
      rw (p, s, c, u) held,
      record { works = λ no. absurd cc; room = λ no. absurd cc },
      fits,
      filtered_not kind policy v (joined new.chunks ++ pending) filtered.small,
    )

pub left_is : (label : Label) (options : Options) (cut new : Cut) (old pending : List Entry)
    (failed : Bool) → pending ≡ old → new.chunks ≡ cut.chunks
    → ◌≡◌ {A = Writing} (record {
      label = label;
      options = options;
      cut = new.chunks;
      pending =
          pending;
      failed = true;
    }) (record {
      label = label;
      options = options;
      cut =
          cut.chunks;
      pending = old;
      failed = true;
    })
left_is label options cut new old pending failed p c = rw (p, c) refl

-- ---- the pending entries were cut off

pub parts_spilled : {A : Type 0} (size : ℕ) (cut new : Cut) (old pending : List Entry) (k : ℕ)
    (m o : Metadata A) (label : Label) (failed : Bool) (kind : FilterKind)
    (policy : BloomConstructionPolicy) (w : Option (FilterWriterImpl A))
    → failed ≡ false → new.chunks ≡ cut.chunks ++ rest_chunk old → new.failed ≡ false → pending ≡ []
    → o ≡ with_cut new.chunks m
    → IsHeld size cut.chunks old k m → LabelFits label
    → IsFiltered failed kind policy w (joined cut.chunks ++ old)
    → IsHeld size new.chunks pending 0 o × CanGoOn false size new pending × LabelFits label
    × IsFiltered false kind policy w (joined new.chunks ++ pending)
parts_spilled {A} size cut new old pending k m o label failed kind policy w works n f p u held fits
    filtered =
    let done : IsHeld size new.chunks [] 0 (with_cut new.chunks m) =
    subst (λ (cs : List (List Entry)). IsHeld size cs [] 0 (with_cut cs m)) (sym n)
    (held_cut size cut.chunks old k m held) in
    let has = subst (λ (b : Bool). IsFiltered b kind policy w (joined cut.chunks ++ old)) works
    filtered in (
      rw (p, u) done,
      record { works = λ _. f; room = λ _. rw p tt },
      fits,
      rw p
          (filtered_cut kind policy w cut.chunks new.chunks old has n),
    )

pub spilled_now : (label : Label) (options : Options) (cut new : Cut) (old pending : List Entry)
    (failed : Bool) → failed ≡ false → new.chunks ≡ cut.chunks ++ rest_chunk old → pending ≡ []
    → ◌≡◌ {A = Writing} (record {
      label = label;
      options = options;
      cut = new.chunks;
      pending =
          pending;
      failed = false;
    }) (spilled (record
    { label = label; options = options; cut = cut.chunks; pending = old; failed = failed }))
spilled_now label options cut new old pending failed works n p = rw (works, n, p) refl
