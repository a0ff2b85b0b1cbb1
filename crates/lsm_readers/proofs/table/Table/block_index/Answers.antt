use Rattle.std.proofs.Common.{◌≡◌, ap, subst, ◌∙◌}
use Rattle.std.specs.Prelude.{List, Result, Ok, Err, IfOk}
use Rattle.sst_entries.specs.declared.error.Error.{Error}
use Rattle.sst_entries.specs.Entry.{Entry}
use Rattle.lsm_readers.specs.Stored.{StoresList}
use Rattle.lsm_iters.specs.declared.block_index.kinds.BlockIndexImpl.{BlockIndexImpl}
use Rattle.lsm_iters.specs.block_index.Kinds.{index_of}
use Rattle.lsm_iters.specs.block_index.Index.{Index}
use Rattle.lsm_readers.specs.BlockIndexes.{NamesBlocksOf, table_index}
use Rattle.lsm_readers.specs.point.IndexKinds.{Kind, kind_kept, index_kind_of}
use Rattle.lsm_readers.specs.point.Table.{IsOpen, OpenTable, table_of}
use Rattle.lsm_readers.proofs.IndexKinds.{opened_kind}
use Rattle.lsm_readers.proofs.OneIndex.{names_blocks}
use Rattle.lsm_readers.proofs.table.Table.block_index.Goals as goal

-- the index that a call made, where it made one, is that of an open table whose bytes store a list
all_name : {A : Type 0} (t : OpenTable) → IsOpen t → (index : Index) → index ≡ table_index t → (r : Result (BlockIndexImpl A) Error) → IfOk r (λ i. index_of i ≡ index)
    → (es : List Entry) (file : StoresList t.bytes es) → IfOk r (λ i. NamesBlocksOf file (index_of i))
all_name t held index is (Ok i) made es file = λ lower upper.
    ap (λ (x : Index). x.returned lower upper) (made ∙ is) ∙ names_blocks t held es file lower upper
all_name t held index is (Err e) made es file = tt

-- and of a kind that is told
all_of_kind : {A : Type 0} (kind said : Kind) → kind ≡ said → (r : Result (BlockIndexImpl A) Error) → IfOk r (λ i. index_kind_of i ≡ kind) → IfOk r (λ i. index_kind_of i ≡ said)
all_of_kind kind said returned (Ok i) made = made ∙ returned
all_of_kind kind said returned (Err e) made = tt

pub returns-clause-list : goal.returns-clause-list
returns-clause-list g c =
    let t = c.args.self.now in
    let shown = ap (table_of c.self.inside.source) c.deref-inner.ensures ∙ c.self.view_is in
    all_name t (subst IsOpen c.self.view_is c.self.invariant) _ (ap table_index shown) c.over.result c.over.ensures.index

pub returns-clause-kind : goal.returns-clause-kind
returns-clause-kind g c pin_filter pin_index returned =
    let t = c.args.self.now in
    let shown = ap (table_of c.self.inside.source) c.deref-inner.ensures ∙ c.self.view_is in
    all_of_kind _ _ (ap (λ (u : OpenTable). kind_kept u.parts.pinned.index) shown ∙ opened_kind t pin_filter pin_index returned) c.over.result c.over.ensures.kind
