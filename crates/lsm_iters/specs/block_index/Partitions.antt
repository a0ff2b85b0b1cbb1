-- The unloaded partitions of a two-level index, as parts of a double-ended iteration.
use Rattle.std.specs.Prelude.{◌≡◌, suc, List, [], ◌∷◌, length, map, Option, Some, None}
use Rattle.std.specs.Prelude.{Result, Ok, Err}
use Rattle.sst_entries.specs.declared.error.Error.{Error}
use Rattle.sst_entries.specs.Span.{Span, rest_in}
use Rattle.sst_blocks.specs.Sections.{body_of}
use Rattle.sst_blocks.specs.Handle.{Handle}
use Rattle.sst_blocks.specs.Place.{place_of}
use Rattle.lsm_iters.specs.declared.walk.Walk.{Walk}
use Rattle.lsm_iters.specs.walk.Parts.{Coming, Loading, loads_in}
use Rattle.lsm_iters.specs.declared.block_index.partitions.Partitions.{Partitions}
use Rattle.lsm_iters.specs.block_index.Index.{block_between, block_early}
use Rattle.lsm_iters.specs.block_index.Left.{TwoLevel, with_index_loads}
use Rattle.lsm_iters.specs.block_index.Seen.{rest_of}

-- The partition that a top-level handle names.
abbrev pub part_named : {A : Type 0} → Partitions A → Handle → Result (Loading Handle) Error
part_named p top = Ok (record {
  results = block_between (body_of p.source) p.edges.0 p.edges.1 (place_of top);
  early = block_early (body_of p.source) (place_of top);
})

-- The partitions that are not loaded yet.
abbrev pub coming_partitions : {A : Type 0} → Partitions A → Coming Handle
coming_partitions p = record { parts = map (part_named p) (rest_in p.tops); loads = 0 }

-- A named partition is one of those left, and none is replaced by an error.
abbrev pub NamesOf : Option (Result (Loading Handle) Error) → List Handle → List Handle → Type 0
NamesOf None s t = (s ≡ []) × (t ≡ [])
NamesOf (Some (Ok part)) s t = length s ≡ suc (length t)
NamesOf (Some (Err e)) s t = ⊥

-- One load is counted; it keeps the bytes and the top level.
pub record KeepsPartitions {A : Type 0} (s : Partitions A)
    (named : Option (Result (Loading Handle) Error)) (t : Partitions A) : Type 0 where
  pub body : body_of t.source ≡ body_of s.source
  pub list : t.tops.list ≡ s.tops.list
  pub counts : t.opened ≡ with_index_loads (loads_in (named ∷ [])) s.opened
  pub names : NamesOf named (rest_in s.tops) (rest_in t.tops)

-- No partition is left to load.
pub record EndsPartitions {A : Type 0} (s t : Partitions A) : Type 0 where
  pub body : body_of t.source ≡ body_of s.source
  pub list : t.tops.list ≡ s.tops.list
  pub edges : t.edges ≡ s.edges
  pub opened : t.opened ≡ s.opened
  pub tops : rest_in t.tops ≡ []

-- An iteration over partitions is a two-level iterator.
abbrev pub two_level_of : {A : Type 0} → Walk (Partitions A) (Span Handle) → TwoLevel
two_level_of w = record {
  body = body_of w.parts.source;
  whole = w.parts.tops.list;
  tops = rest_in w.parts.tops;
  lower = w.parts.edges.0;
  upper = w.parts.edges.1;
  front = rest_of w.front;
  back = rest_of w.back;
  opened = w.parts.opened;
}
