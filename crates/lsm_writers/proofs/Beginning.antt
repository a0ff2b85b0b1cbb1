-- Writers that have no entry yet.
use Rattle.std.proofs.Common.{◌≡◌, refl, sym, ap, subst, ℕ, Bool, false, List, [], ◌++◌, length}
use Rattle.std.proofs.Common.{arith}
use Rattle.std.specs.Prelude.{None}
use Rattle.std.specs.List.{AllByRecursion}
use Rattle.sst_entries.specs.Entry.{Entry}
use Rattle.sst_entries.specs.Strict.{IsStrictAfter, last_of}
use Rattle.sst_blocks.specs.table.Chunks.{joined}
use Rattle.sst_blocks.specs.table.Facts.{count_after, lowest_seqno, highest_seqno}
use Rattle.sst_blocks.specs.table.Filters.{keys_after}
use Rattle.sst_blocks.specs.table.Fits.{LabelFits}
use Rattle.sst_blocks.specs.declared.table.label.Label.{Label}
use Rattle.sst_blocks.specs.declared.table.options.Options.{Options}
use Rattle.lsm_writers.specs.declared.writer.meta.Metadata.{Metadata}
use Rattle.lsm_writers.specs.Counts.{no_counts}
use Rattle.lsm_writers.specs.Cut.{Cut}
use Rattle.lsm_writers.specs.Filtering.{IsFiltered, IsSmallFilter}
use Rattle.lsm_writers.specs.Held.{CanGoOn, IsHeld, IsShortest, IsUnfilled}
use Rattle.lsm_writers.proofs.Filtered.{no_keys}

-- a writer with options that were told before
pub nothing_held : {A : Type 0} (size : ℕ) (cut : Cut) (pending : List Entry) (meta : Metadata A)
    (label : Label) (options : Options) → cut ≡ record { chunks = []; failed = false }
    → pending ≡ [] → meta ≡ no_counts → LabelFits label → IsSmallFilter options.filter_kind
    → IsHeld size cut.chunks pending 0 meta × CanGoOn false size cut pending × LabelFits label
    × IsFiltered {A = A} false options.filter_kind options.bloom_policy None
    (joined cut.chunks ++ pending)
unfolding IsStrictAfter last_of count_after keys_after lowest_seqno highest_seqno
nothing_held size cut pending meta label options c p m fits small =
    let held : IsHeld size [] [] 0 meta = record {
      strict = tt;
      fits = tt;
      shortest = tt;
      front =
          λ n lt le. absurd (omega (arith, lt, le));
      counted = m;
      sized = refl;
      small =
          omega arith;
    } in
    let ready : CanGoOn false size (record { chunks = []; failed = false }) [] =
    record { works = λ _. refl; room = λ _. tt } in
    rw (c, p) (held, ready, fits, record { small = small; has = λ _. no_keys options.bloom_policy })

-- without entries chunks may be of another size
pub held_anew : {A : Type 0} (size other : ℕ) (cut : List (List Entry)) (pending : List Entry)
    (chunk_size : ℕ) (meta : Metadata A) → cut ≡ [] → pending ≡ []
    → IsHeld size cut pending chunk_size meta → IsHeld other cut pending chunk_size meta
held_anew size other cut pending chunk_size meta uncut none h = record {
  strict = h.strict;
  fits = h.fits;
  shortest = subst (λ (cs : List (List Entry)). AllByRecursion (IsShortest other) cs)
      (sym uncut) tt;
  front = λ n some within. absurd (omega (arith, some, within, ap length none));
  counted = h.counted;
  sized = h.sized;
  small = h.small;
}

pub goes_on_anew : (failed : Bool) (size other : ℕ) (cut : Cut) (pending : List Entry)
    → pending ≡ [] → CanGoOn failed size cut pending → CanGoOn failed other cut pending
goes_on_anew failed size other cut pending none h =
    record {
      works = h.works;
      room = λ works. subst (λ (es : List Entry). IsUnfilled other es)
          (sym none) tt;
    }
