-- The three kinds of block indexes and of their iterators.
use Rattle.std.specs.Prelude.{◌≡◌, ℕ, Bool, List, [], Option, None, Result}
use Rattle.sst_entries.specs.declared.error.Error.{Error}
use Rattle.sst_entries.specs.declared.stream.Direction.{Direction}
use Rattle.sst_entries.specs.Stream.{front_of, back_of, Runs}
use Rattle.sst_entries.specs.Span.{SpanGives}
use Rattle.sst_blocks.specs.Handle.{Handle}
use Rattle.sst_blocks.specs.Handles.{window}
use Rattle.sst_blocks.specs.Opened.{none_opened}
use Rattle.lsm_iters.specs.block_index.Answers.{AnswersAny, AnswersTrue}
use Rattle.lsm_iters.specs.declared.block_index.kinds.BlockIndexImpl.{BlockIndexImpl}
use Rattle.lsm_iters.specs.declared.block_index.kinds.BlockIndexImpl.TheVariants.{Full as FullIndex}
use Rattle.lsm_iters.specs.declared.block_index.kinds.BlockIndexImpl.TheVariants.{VolatileFull}
use Rattle.lsm_iters.specs.declared.block_index.kinds.BlockIndexImpl.TheVariants.{
  TwoLevel as LevelsIndex,
}
use Rattle.lsm_iters.specs.declared.block_index.kinds.BlockIndexIterImpl.{BlockIndexIterImpl}
use Rattle.lsm_iters.specs.declared.block_index.kinds.BlockIndexIterImpl.TheVariants.{Full}
use Rattle.lsm_iters.specs.declared.block_index.kinds.BlockIndexIterImpl.TheVariants.{Volatile}
use Rattle.lsm_iters.specs.declared.block_index.kinds.BlockIndexIterImpl.TheVariants.{
  TwoLevel as Levels,
}
use Rattle.lsm_iters.specs.block_index.Yielded.{YieldsEnding}
use Rattle.lsm_iters.specs.block_index.Index.{Index, full, on_demand, two_level}
use Rattle.lsm_iters.specs.block_index.Left.{CountsUpTo, Left, OnDemandGives, TwoLevelGives}
use Rattle.lsm_iters.specs.block_index.Left.{IsBetween}
use Rattle.lsm_iters.specs.block_index.Left.{IsDemandSought, IsSpanSought, IsTwoLevelSought}
use Rattle.lsm_iters.specs.block_index.Left.{back_early}
use Rattle.lsm_iters.specs.block_index.Left.{back_needs, front_early, front_needs, on_demand_left}
use Rattle.lsm_iters.specs.block_index.Left.{span_left, two_level_left}

-- The index of each kind.
abbrev pub index_of : {A : Type 0} → BlockIndexImpl A → Index
index_of (FullIndex handles) = full handles
index_of (VolatileFull i) = on_demand i.0 i.1
index_of (LevelsIndex i) = two_level i.0 i.1

-- There is a reader from an edge on: for a pinned block if it has a handle there, otherwise always.
abbrev pub HasReader : {A : Type 0} → BlockIndexImpl A → Option (List ℕ × ℕ) → Type 0
HasReader (FullIndex handles) edge = window handles edge None ≡ [] → ⊥
HasReader (VolatileFull i) edge = Unit {0}
HasReader (LevelsIndex i) edge = Unit {0}

-- The handles left, by kind.
abbrev pub left_of : {A : Type 0} → BlockIndexIterImpl A → Left
left_of (Full s) = span_left s
left_of (Volatile s) = on_demand_left s
left_of (Levels s) = two_level_left s

-- These edges were sought, and no step was made.
abbrev pub IsSought : {A : Type 0} → BlockIndexIterImpl A → Option (List ℕ × ℕ) → Option (List ℕ)
    → Type 0
IsSought (Full s) lower upper = IsSpanSought s lower upper
IsSought (Volatile s) lower upper = IsDemandSought s lower upper
IsSought (Levels s) lower upper = IsTwoLevelSought s lower upper

-- The result of a seek, by kind.
abbrev pub SeekAnswers : {A : Type 0} → BlockIndexIterImpl A → Bool → Type 0
SeekAnswers (Full s) any = AnswersAny s any
SeekAnswers (Volatile s) any = AnswersTrue s any
SeekAnswers (Levels s) any = AnswersTrue s any

-- Whether a seek may allocate, for its copy of the edge.
abbrev pub TakesMemory : {A : Type 0} → BlockIndexIterImpl A → Type 0
TakesMemory (Full s) = ⊥
TakesMemory (Volatile s) = Unit {0}
TakesMemory (Levels s) = Unit {0}

-- One step at the front, and one at the back.
abbrev pub FrontGives : {A : Type 0} → BlockIndexIterImpl A → Option (Result Handle Error)
    → BlockIndexIterImpl A → Type 0
FrontGives (Full s) r (Full t) = SpanGives front_of s r t
FrontGives (Volatile s) r (Volatile t) = OnDemandGives front_of s r t
FrontGives (Levels s) r (Levels t) = TwoLevelGives front_of front_needs front_early s r t
FrontGives _ r _ = ⊥

abbrev pub BackGives : {A : Type 0} → BlockIndexIterImpl A → Option (Result Handle Error)
    → BlockIndexIterImpl A → Type 0
BackGives (Full s) r (Full t) = SpanGives back_of s r t
BackGives (Volatile s) r (Volatile t) = OnDemandGives back_of s r t
BackGives (Levels s) r (Levels t) = TwoLevelGives back_of back_needs back_early s r t
BackGives _ r _ = ⊥

-- A new iterator over an index's handles between two edges, with nothing loaded. In any order of
-- calls, it loads no more blocks than the index has between them.
pub record IsReader {A : Type 0} (i : BlockIndexIterImpl A) (index : Index)
    (low : Option (List ℕ × ℕ)) (high : Option (List ℕ)) : Type 0 where
  pub sought : IsSought i low high
  pub between : IsBetween (left_of i) low high
  pub index_is : (left_of i).index ≡ index
  pub opened : (left_of i).opened ≡ none_opened
  pub yields : YieldsEnding FrontGives BackGives (λ _. Unit {0}) (λ _. Unit {0}) i (left_of i).results
  pub counts : (ends : List Direction) (rs : List (Option (Result Handle Error)))
      (t : BlockIndexIterImpl A)
      → Runs FrontGives BackGives i ends rs t → CountsUpTo (index.loads low high) (left_of t)
