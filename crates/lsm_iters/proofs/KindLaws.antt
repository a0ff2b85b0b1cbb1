-- The same of an iterator of one of the three kinds.
use Rattle.std.proofs.Common.{◌≡◌, ℕ, List, refl, sym, ap, ◌∙◌, arith}
use Rattle.std.specs.Prelude.{Option, Some, None}
use Rattle.sst_entries.specs.Span.{Span, rest_in}
use Rattle.sst_entries.specs.Stream.{front_of, back_of}
use Rattle.sst_blocks.specs.Handle.{Handle}
use Rattle.sst_blocks.specs.Handles.{window}
use Rattle.sst_blocks.specs.Opened.{none_opened}
use Rattle.sst_blocks.specs.Place.{Place}
use Rattle.sst_blocks.specs.Seeking.{whole_span, span_from}
use Rattle.lsm_iters.specs.declared.block_index.kinds.BlockIndexIterImpl.{BlockIndexIterImpl}
use Rattle.lsm_iters.specs.declared.block_index.kinds.BlockIndexIterImpl.TheVariants.{Full}
use Rattle.lsm_iters.specs.declared.block_index.kinds.BlockIndexIterImpl.TheVariants.{Volatile}
use Rattle.lsm_iters.specs.declared.block_index.kinds.BlockIndexIterImpl.TheVariants.{
  TwoLevel as Levels,
}
use Rattle.lsm_iters.specs.block_index.Yielded.{YieldsEnding}
use Rattle.lsm_iters.specs.block_index.Index.{Index, full, on_demand, two_level}
use Rattle.lsm_iters.specs.block_index.Kinds.{BackGives, FrontGives, IsReader, IsSought, left_of}
use Rattle.lsm_iters.specs.block_index.Left.{IsBetween, IsEnded, IsTwoLevelSought, LeftGives}
use Rattle.lsm_iters.specs.block_index.Left.{StaysEnded, OnDemand, TwoLevel, new_on_demand}
use Rattle.lsm_iters.specs.block_index.Left.{new_two_level, two_level_left}
use Rattle.lsm_iters.proofs.IndexAtEnds.{R}
use Rattle.lsm_iters.proofs.Counting.{counts_along}
use Rattle.lsm_iters.proofs.Dealing.{yields_left, stays_ended}
use Rattle.lsm_iters.proofs.Seeks.{all_of}
use Rattle.lsm_iters.proofs.Laws.{demand_back, demand_between, demand_front, levels_back}
use Rattle.lsm_iters.proofs.Laws.{levels_between, levels_front, span_back, span_between}
use Rattle.lsm_iters.proofs.Laws.{span_front}

-- before a seek
pub levels_new : (s : TwoLevel) (body : List ℕ) (whole : List Handle) → s ≡ new_two_level body whole
    → IsTwoLevelSought s None None
levels_new s body whole is = record {
  tops = ap (λ (x : TwoLevel). x.tops) is ∙ sym (ap (λ (x : TwoLevel). x.whole) is);
  lower = ap (λ (x : TwoLevel). x.lower) is;
  upper = ap (λ (x : TwoLevel). x.upper) is;
  front = ap (λ (x : TwoLevel). x.front) is;
  back = ap (λ (x : TwoLevel). x.back) is;
}

module _ {A : Type 0} where
  pub kind_front : (s : BlockIndexIterImpl A) (r : Option R) (t : BlockIndexIterImpl A)
      → FrontGives s r t → LeftGives front_of (left_of s) r (left_of t)
  kind_front (Full s) r (Full t) step = span_front s r t step
  kind_front (Full s) r (Volatile t) step = absurd step
  kind_front (Full s) r (Levels t) step = absurd step
  kind_front (Volatile s) r (Full t) step = absurd step
  kind_front (Volatile s) r (Volatile t) step = demand_front s r t step
  kind_front (Volatile s) r (Levels t) step = absurd step
  kind_front (Levels s) r (Full t) step = absurd step
  kind_front (Levels s) r (Volatile t) step = absurd step
  kind_front (Levels s) r (Levels t) step = levels_front s r t step

  pub kind_back : (s : BlockIndexIterImpl A) (r : Option R) (t : BlockIndexIterImpl A)
      → BackGives s r t → LeftGives back_of (left_of s) r (left_of t)
  kind_back (Full s) r (Full t) step = span_back s r t step
  kind_back (Full s) r (Volatile t) step = absurd step
  kind_back (Full s) r (Levels t) step = absurd step
  kind_back (Volatile s) r (Full t) step = absurd step
  kind_back (Volatile s) r (Volatile t) step = demand_back s r t step
  kind_back (Volatile s) r (Levels t) step = absurd step
  kind_back (Levels s) r (Full t) step = absurd step
  kind_back (Levels s) r (Volatile t) step = absurd step
  kind_back (Levels s) r (Levels t) step = levels_back s r t step

  pub kind_yields : (s : BlockIndexIterImpl A) → YieldsEnding FrontGives BackGives (λ _. Unit {0})
      (λ _. Unit {0}) s (left_of s).results
  kind_yields s = yields_left left_of FrontGives BackGives kind_front kind_back s

  pub kind_stays : (s : BlockIndexIterImpl A) → IsEnded (left_of s)
      → StaysEnded FrontGives BackGives left_of s
  kind_stays s ended = stays_ended left_of FrontGives BackGives kind_front kind_back s ended

  pub kind_between : (s : BlockIndexIterImpl A) (lo : Option (List ℕ × ℕ)) (hi : Option (List ℕ))
      → IsSought s lo hi → IsBetween (left_of s) lo hi
  kind_between (Full s) lo hi sought = span_between s lo hi sought
  kind_between (Volatile s) lo hi sought = demand_between s lo hi sought
  kind_between (Levels s) lo hi sought = levels_between s lo hi sought

  -- ---- readers of an index

  pub reader_of : (i : BlockIndexIterImpl A) (index : Index) (lo : Option (List ℕ × ℕ))
      (hi : Option (List ℕ)) → IsSought i lo hi → (left_of i).index ≡ index
      → (left_of i).opened ≡ none_opened → IsReader i index lo hi
  reader_of i index lo hi sought same opened =
      let between = kind_between i lo hi sought in
      let most : (left_of i).loads ≡ index.loads lo hi = between.loads
      ∙ ap (λ (x : Index). x.loads lo hi) same in
      record {
        sought = sought;
        between = between;
        index_is = same;
        opened = opened;
        yields = kind_yields i;
        counts = λ ends rs t runs. counts_along left_of FrontGives BackGives kind_front kind_back
            (index.loads lo hi) ends rs i t (record {
              count = 0;
              counts = opened;
              within =
                  omega (arith, most);
            }) runs;
      }

  pub full_reader : (s : Span Handle) (hs : List Handle) → s ≡ whole_span hs
      → IsReader {A = A} (Full s) (full hs) None None
  full_reader s hs is =
      let list : s.list ≡ hs = ap (λ (x : Span Handle). x.list) is in
      reader_of (Full s) (full hs) None None (all_of s hs is ∙ sym list) (ap full list) refl

  pub full_reader_from : (s : Span Handle) (hs : List Handle) (place : ℕ) (edge : List ℕ × ℕ)
      → s ≡ span_from place (whole_span hs) → rest_in s ≡ window hs (Some edge) None
      → IsReader {A = A} (Full s) (full hs) (Some edge) None
  full_reader_from s hs place edge is rest =
      let list : s.list ≡ hs = ap (λ (x : Span Handle). x.list) is in
      reader_of (Full s) (full hs) (Some edge) None
      (rest ∙ ap (λ (xs : List Handle). window xs (Some edge) None) (sym list))
      (ap full list) refl

  pub demand_reader : (s : OnDemand) (body : List ℕ) (place : Place) (lo : Option (List ℕ × ℕ))
      → s ≡ record (new_on_demand body place) { lower = lo }
      → IsReader {A = A} (Volatile s) (on_demand body place) lo None
  demand_reader s body place lo is =
      reader_of (Volatile s) (on_demand body place) lo None
      (record {
        part = ap (λ (x : OnDemand). x.part) is;
        lower =
            ap (λ (x : OnDemand). x.lower) is;
        upper = ap (λ (x : OnDemand). x.upper) is;
      })
      (ap (λ (x : OnDemand). on_demand x.body x.place) is)
      (ap (λ (x : OnDemand). x.opened) is)

  pub levels_reader : (s : TwoLevel) (body : List ℕ) (whole : List Handle)
      → s ≡ new_two_level body whole → IsReader {A = A} (Levels s) (two_level body whole) None None
  levels_reader s body whole is =
      reader_of (Levels s) (two_level body whole) None None (levels_new s body whole is)
      (ap (λ (x : TwoLevel). two_level x.body x.whole) is)
      (ap (λ (x : TwoLevel). x.opened) is)

  pub levels_reader_from : (s : TwoLevel) (body : List ℕ) (whole : List Handle)
      (lo : Option (List ℕ × ℕ)) → IsTwoLevelSought s lo None
      → (two_level_left s).index ≡ two_level body whole → s.opened ≡ none_opened
      → IsReader {A = A} (Levels s) (two_level body whole) lo None
  levels_reader_from s body whole lo sought index opened =
      reader_of (Levels s) (two_level body whole) lo None sought index opened
