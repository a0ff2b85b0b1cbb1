-- One call of an iterator over a range of a table.
use Rattle.std.proofs.Common.{◌≡◌, ℕ, zero, suc, ◌+◌, ◌<◌, ◌≤◌, Bool, true, false, List, [], ◌∷◌}
use Rattle.std.proofs.Common.{◌++◌, length, reverse, refl, sym, ap, ◌∙◌, arith}
use Rattle.std.proofs.lemmas.List.{nil_from_length}
use Rattle.std.specs.Prelude.{Option, Some, None, Result, Ok, Err}
use Rattle.sst_entries.specs.declared.error.Error.{Error}
use Rattle.sst_entries.specs.declared.error.Error.TheVariants.{OutOfMemory}
use Rattle.sst_entries.specs.Entry.{Entry}
use Rattle.sst_entries.specs.Error.{is_memory}
use Rattle.sst_entries.specs.Stream.{answer_stops, first}
use Rattle.sst_blocks.specs.declared.opened.Opened.{Opened}
use Rattle.sst_blocks.specs.Handle.{Handle}
use Rattle.lsm_iters.proofs.AtEnds.{pair, not_memory}
use Rattle.lsm_iters.specs.block_index.Left.{CountsLoads, IsEnded as IsLeftEnded, Left}
use Rattle.lsm_iters.specs.block_index.Left.{early_behind}
use Rattle.lsm_iters.specs.block_index.Left.{with_index_loads, none_behind}
use Rattle.lsm_iters.proofs.TwoLevels.{loaded_more}
use Rattle.lsm_iters.specs.Bounds.{lower_edge, upper_edge}
use Rattle.lsm_iters.specs.Lift.{lift_results}
use Rattle.lsm_iters.specs.Range.{CountsBlocks, IsEndedRange, LendsOn, Next, Range, RangeGives}
use Rattle.lsm_iters.specs.Range.{back_next}
use Rattle.lsm_iters.specs.Range.{blocks_early, blocks_for, blocks_needed, data_loaded, early_for}
use Rattle.lsm_iters.specs.Range.{front_next, index_to_come, left_in, left_unless, range_left}
use Rattle.lsm_iters.specs.Range.{to_come}
use Rattle.lsm_iters.specs.Rows.{Bounded, rows}
use Rattle.lsm_iters.specs.Steps.{LoadsNone, SeeksOnce, over, stopped}
use Rattle.lsm_iters.proofs.RangeEnds.{if_false, if_true}

abbrev pub R : Type 0
R = Result Entry Error

abbrev pub H : Type 0
H = Result Handle Error

abbrev pub End : Type 0
End = List R → Option R × List R

-- where nothing is lent
pub none_on : (r : Option R) → LendsOn r None
none_on r e is = let wrong : None ≡ Some e = is in absurd cc

-- ---- what is left, once the edges were sought

-- the rows of what is left at the front, of the blocks to come, and of what is left at the back
abbrev all_rows : Bounded → List Entry → List H → List Entry → List R
all_rows b es hs fs = lift_results b.global_seqno es ++ (rows b hs ++ lift_results b.global_seqno fs)

abbrev pub coming : {A : Type 0} → Range A → List H
coming u = (left_in u.handles).results

abbrev pub left_rows : {A : Type 0} → Range A → List R
left_rows u = all_rows u.of u.front (coming u) u.back

-- nothing is left
pub record IsOver {A : Type 0} (u : Range A) : Type 0 where
  pub rows : left_rows u ≡ []
  pub index : IsLeftEnded (left_in u.handles)

pub data_more : (m n : ℕ) (o : Opened) → data_loaded m (data_loaded n o) ≡ data_loaded (m + n) o
data_more zero n o = ap (λ (k : ℕ). data_loaded k o) (let e : n ≡ 0 + n = omega arith in e)
data_more (suc m) n o = ap (data_loaded 1) (data_more m n o)
    ∙ ap (λ (k : ℕ). data_loaded k o) (let e : suc (m + n) ≡ suc m + n = omega arith in e)

unless_index : (b : Bool) (l : Left) → l.index ≡ (left_unless b l).index
unless_index true l = refl
unless_index false l = refl

unless_opened : (b : Bool) (l : Left) → l.opened ≡ (left_unless b l).opened
unless_opened true l = refl
unless_opened false l = refl

module _ {A : Type 0} where
  to_come_is : (u : Range A) → u.handles.sought ≡ true → to_come u ≡ coming u
  to_come_is u sought = if_true u.handles.sought (coming u)
      ((left_in u.handles).index.returned (lower_edge u.of.low) (upper_edge u.of.high)) sought

  index_is : (u : Range A) → u.handles.sought ≡ true → index_to_come u ≡ (left_in u.handles).loads
  index_is u sought = if_true u.handles.sought (left_in u.handles).loads
      ((left_in u.handles).index.loads (lower_edge u.of.low) (upper_edge u.of.high)) sought

  left_is : (u : Range A) → u.handles.sought ≡ true → range_left u ≡ left_rows u
  left_is u sought = ap (λ (hs : List H). all_rows u.of u.front hs u.back) (to_come_is u sought)

  -- all is over exactly where nothing is left
  size_none : (s : Range A) → IsEndedRange s → (range_left s ≡ []) × (to_come s ≡ [])
      × (index_to_come s ≡ 0)
  size_none s ended = (
    nil_from_length (range_left s) (omega (arith, ended)),
    nil_from_length (to_come s) (omega (arith, ended)),
    omega (arith, ended),
  )

  size_over : (t : Range A) → t.handles.sought ≡ true → IsOver t → IsEndedRange t
  size_over t sought none =
      omega (
        arith,
        ap length (left_is t sought ∙ none.rows),
        ap length (to_come_is t sought ∙ none.index.results),
        index_is t sought ∙ none.index.loads,
        if_true {X = ℕ} t.handles.sought 0 1 sought,
      )

-- ---- how many blocks an answer needs

-- where the fault of a block is met, a block is needed
early_some : (b : Bounded) (hs : List H) (f : Error) → blocks_early b hs ≡ Some f
    → 0 < blocks_needed b hs
early_some b [] f e = let wrong : None ≡ Some f = e in absurd cc
early_some b (Ok h ∷ hs) f e = omega arith
early_some b (Err x ∷ hs) f e = let wrong : None ≡ Some f = e in absurd cc

early_behind_some : {X : Type 0} (b : Bounded) (near : List X) (hs : List H) (f : Error)
    → early_behind near (blocks_early b hs) ≡ Some f → 0 < none_behind near (blocks_needed b hs)
early_behind_some b [] hs f e = early_some b hs f e
early_behind_some b (x ∷ near) hs f e = let wrong : None ≡ Some f = e in absurd cc

same_at : {X : Type 0} (f : Bounded → List Entry → List H → X) (b c : Bounded)
    (near es : List Entry) (xs ys : List H) → b ≡ c → near ≡ es → xs ≡ ys → f b near xs ≡ f c es ys
same_at f b c near es xs ys p q r = ap (λ (d : Bounded). f d near xs) p
    ∙ ap (λ (zs : List Entry). f c zs xs) q ∙ ap (f c es) r

-- ---- the blocks that a call goes through

-- from s the call has come to u, of which as much is left: what stands next at the end are these
-- entries, and then these handles
pub record Reached {A : Type 0} (near : List Entry) (turned : List H) (next : Next)
    (s u : Range A) : Type 0 where
  pub results : left_rows u ≡ range_left s
  pub of : u.of ≡ s.of
  pub index : (left_in u.handles).index ≡ (left_in s.handles).index
  pub sought : u.handles.sought ≡ true
  pub ended : IsEndedRange s → IsOver u
  pub blocks : ℕ
  pub counts : u.opened ≡ data_loaded blocks s.opened
  pub within : blocks + length (coming u) ≡ length (to_come s)
  pub most : blocks + none_behind near (blocks_needed u.of turned) ≡ blocks_for s.of next
  pub early : early_behind near (blocks_early u.of turned) ≡ early_for s.of next
  pub loads : ℕ
  pub index_counts : (left_in u.handles).opened ≡ with_index_loads loads (left_in s.handles).opened
  pub index_within : loads + (left_in u.handles).loads ≤ index_to_come s

abbrev pub FrontReached : {A : Type 0} → Range A → Range A → Type 0
FrontReached s u = Reached u.front (coming u) (front_next s) s u

abbrev pub BackReached : {A : Type 0} → Range A → Range A → Type 0
BackReached s u = Reached u.back (reverse (coming u)) (back_next s) s u

-- the edges are sought
module _ {A : Type 0} (s t : Range A) (is : t ≡ record s { handles = t.handles })
    (none : LoadsNone (left_in s.handles) (left_in t.handles))
    (sought : t.handles.sought ≡ true) where
  starts : (near : List Entry) (turned : List H) (next : Next)
      → SeeksOnce s.handles t.handles (lower_edge s.of.low) (upper_edge s.of.high)
      → near ≡ next.entries → turned ≡ next.handles → Reached near turned next s t
  starts near turned next seeks entries handles =
      let of : t.of ≡ s.of = ap (λ (x : Range A). x.of) is in
      let same : left_rows t ≡ range_left s =
      ap (λ (x : Range A). all_rows x.of x.front (coming t) x.back) is
      ∙ ap (λ (hs : List H). all_rows s.of s.front hs s.back) seeks.results in
      record {
        results = same;
        of = ap (λ (x : Range A). x.of) is;
        index = none.index;
        sought = sought;
        ended = λ ended. let nothing = size_none s ended in record {
          rows = same ∙ nothing.0;
          index = record { results = seeks.results ∙ nothing.1; loads = seeks.loads ∙ nothing.2 };
        };
        blocks = 0;
        counts = ap (λ (x : Range A). x.opened) is;
        within = omega (arith, ap length seeks.results);
        most = omega (
          arith,
          same_at (λ b es hs. none_behind es (blocks_needed b hs)) t.of s.of near
              next.entries turned next.handles of entries handles,
        );
        early = same_at (λ b es hs. early_behind es (blocks_early b hs)) t.of s.of near next.entries
            turned next.handles of entries handles;
        loads = 0;
        index_counts = none.opened;
        index_within = omega (arith, seeks.loads);
      }

  pub front_starts : SeeksOnce s.handles t.handles (lower_edge s.of.low) (upper_edge s.of.high)
      → FrontReached s t
  front_starts seeks =
      starts t.front (coming t) (front_next s) seeks
      (ap (λ (x : Range A). x.front) is) seeks.results

  pub back_starts : SeeksOnce s.handles t.handles (lower_edge s.of.low) (upper_edge s.of.high)
      → BackReached s t
  back_starts seeks =
      starts t.back (reverse (coming t)) (back_next s) seeks (ap (λ (x : Range A). x.back) is)
      (ap reverse seeks.results)

  -- they could not be sought
  pub refused : (end : End) (next : Range A → Next) (e : Error) → e ≡ OutOfMemory
      → s.handles.sought ≡ false → RangeGives end next s (Some (Err e)) (over t)
  refused end next e memory once = record {
    answer = (
      λ fine. absurd (not_memory e memory fine),
      λ ended. omega
          (arith, ended, if_false {X = ℕ} s.handles.sought 0 1 once),
    );
    ends = refl;
    of = ap (λ (x : Range A). x.of) is;
    index = unless_index t.handles.ended _ ∙ none.index;
    initialized = refl;
    loads = record {
      blocks = 0;
      counts = ap (λ (x : Range A). x.opened) is;
      within = omega arith;
      most = omega arith;
      index = 0;
      index_counts = unless_opened t.handles.ended _ ∙ none.opened;
      index_within = omega arith;
    };
    exact = λ fine. absurd (not_memory e memory fine);
    first = λ f early all. absurd (omega (
      arith,
      all,
      early_behind_some s.of (next s).entries
          (next s).handles f early,
    ));
    lent = none_on (Some (Err e));
  }

-- nothing of u comes behind t, and no more blocks were loaded than may be
pub record Moves {A : Type 0} (allowed : ℕ) (u t : Range A) : Type 0 where
  pub of : t.of ≡ u.of
  pub index : (left_in t.handles).index ≡ (left_in u.handles).index
  pub sought : t.handles.sought ≡ true
  pub blocks : ℕ
  pub counts : t.opened ≡ data_loaded blocks u.opened
  pub within : blocks + length (coming t) ≤ length (coming u)
  pub most : blocks ≤ allowed
  pub loads : CountsLoads (left_in u.handles) (left_in t.handles)

-- ---- the answers

module _ {A : Type 0} where
  -- an answer of what was reached
  abbrev pub From : End → Range A → Option R → Range A → Type 0
  From end u None t = (left_rows u ≡ []) × IsOver t
  From end u (Some (Ok e)) t = end (left_rows u) ≡ (Some (Ok e), left_rows t)
  From end u (Some (Err e)) t = (is_memory e ≡ false → (end (left_rows u)).0 ≡ Some (Err e))
      × (IsOver u → ⊥)

  module _ (next : Next) (near : List Entry) (turned : List H) (s u t : Range A)
      (reached : Reached near turned next s u) (moves : Moves
      (none_behind near (blocks_needed u.of turned)) u t) where
    all_counted : moves.blocks ≡ none_behind near (blocks_needed u.of turned)
        → moves.blocks + reached.blocks ≡ blocks_for s.of next
    all_counted all = omega (arith, all, reached.most)

    counted_all : moves.blocks + reached.blocks ≡ blocks_for s.of next
        → moves.blocks ≡ none_behind near (blocks_needed u.of turned)
    counted_all all = omega (arith, all, reached.most)

    counted : t.opened ≡ data_loaded (moves.blocks + reached.blocks) s.opened
    counted = moves.counts ∙ ap (data_loaded moves.blocks) reached.counts
        ∙ data_more moves.blocks reached.blocks s.opened

    index_counted : (left_in t.handles).opened ≡ with_index_loads
        (moves.loads.count + reached.loads)
        (left_in s.handles).opened
    index_counted = moves.loads.counts ∙ ap (with_index_loads moves.loads.count)
        reached.index_counts
        ∙ loaded_more moves.loads.count reached.loads (left_in s.handles).opened

    counts_on : CountsBlocks (blocks_for s.of next) s t
    counts_on = record {
      blocks = moves.blocks + reached.blocks;
      counts = counted;
      within = omega (arith, moves.within, reached.within, ap length (to_come_is t moves.sought));
      most = omega (arith, moves.most, reached.most);
      index = moves.loads.count + reached.loads;
      index_counts = index_counted;
      index_within = omega (
        arith,
        moves.loads.within,
        reached.index_within,
        index_is t
            moves.sought,
      );
    }

    counts_over : CountsBlocks (blocks_for s.of next) s (over t)
    counts_over = record {
      blocks = moves.blocks + reached.blocks;
      counts = counted;
      within = omega (arith, moves.within, reached.within);
      most = omega (arith, moves.most, reached.most);
      index = moves.loads.count + reached.loads;
      index_counts = unless_opened t.handles.ended _ ∙ index_counted;
      index_within = omega (arith, moves.loads.within, reached.index_within);
    }

  -- it is one of the whole
  pub gives_all : (end : End) (next : Range A → Next) (near : List Entry) (turned : List H)
      (s u t : Range A) (r : Option R) → Reached near turned (next s) s u
      → (moves : Moves (none_behind near (blocks_needed u.of turned)) u t)
      → (answer_stops is_memory r ≡ false → moves.blocks
      ≡ none_behind near (blocks_needed u.of turned))
      → ((f : Error) → early_behind near (blocks_early u.of turned) ≡ Some f
      → moves.blocks ≡ none_behind near (blocks_needed u.of turned) → r ≡ Some (Err f))
      → From end u r t → LendsOn r (stopped r t).lent → RangeGives end next s r (stopped r t)
  unfolding counts_on counts_over
  gives_all end next near turned s u t None reached moves all first from on = record {
    answer = (sym reached.results ∙ from.0, size_over t moves.sought from.1);
    ends = tt;
    of = moves.of ∙ reached.of;
    index = moves.index ∙ reached.index;
    initialized = moves.sought;
    loads = counts_on (next s) near turned s u t reached moves;
    exact = λ fine. all_counted (next s) near turned s u t reached moves (all fine);
    first = λ f early full. first f (reached.early ∙ early)
        (counted_all (next s) near turned s u t reached moves full);
    lent = on;
  }
  gives_all end next near turned s u t (Some (Ok e)) reached moves all first from on = record {
    answer = ap end (sym reached.results) ∙ from ∙ pair refl (sym (left_is t moves.sought));
    ends = tt;
    of = moves.of ∙ reached.of;
    index = moves.index ∙ reached.index;
    initialized = moves.sought;
    loads = counts_on (next s) near turned s u t reached moves;
    exact = λ fine. all_counted (next s) near turned s u t reached moves (all fine);
    first = λ f early full. first f (reached.early ∙ early)
        (counted_all (next s) near turned s u t reached moves full);
    lent = on;
  }
  gives_all end next near turned s u t (Some (Err e)) reached moves all first from on = record {
    answer = (
      λ fine. ap (λ (rs : List R). (end rs).0) (sym reached.results)
          ∙ from.0 fine,
      λ ended. from.1 (reached.ended ended),
    );
    ends = refl;
    of = moves.of ∙ reached.of;
    index = unless_index t.handles.ended _ ∙ moves.index ∙ reached.index;
    initialized = refl;
    loads = counts_over (next s) near turned s u t reached moves;
    exact = λ fine. all_counted (next s) near turned s u t reached moves (all fine);
    first = λ f early full. first f (reached.early ∙ early)
        (counted_all (next s) near turned s u t reached moves full);
    lent = on;
  }
