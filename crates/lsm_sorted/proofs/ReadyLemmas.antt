-- Which ends of a merger are ready, and what stays as it was.
use Rattle.std.proofs.Common.{◌≡◌, refl, sym, ◌∙◌, ap, true}
use Rattle.sst_entries.specs.declared.stream.Direction.{Direction}
use Rattle.sst_entries.specs.declared.stream.Direction.TheVariants.{Front, Back}
use Rattle.lsm_sorted.specs.declared.merge.Merger.{Merger}
use Rattle.lsm_sorted.specs.merge.Merge.{is_ready, SameRoom}
use Rattle.lsm_sorted.specs.merge.Asks.{made_ready}
use Rattle.lsm_sorted.proofs.Kept.{opposite}

pub same_room : {S A : Type 0} (m : Merger S A) → SameRoom m m
same_room m = record {
  count = refl;
  room = refl;
  front_ready = refl;
  back_ready = refl;
  failed =
      refl;
}

pub same_twice : {S A : Type 0} (s m t : Merger S A) → SameRoom s m → SameRoom m t → SameRoom s t
same_twice s m t one two = record {
  count = two.count ∙ one.count;
  room = two.room ∙ one.room;
  front_ready = two.front_ready ∙ one.front_ready;
  back_ready = two.back_ready ∙ one.back_ready;
  failed = two.failed ∙ one.failed;
}

pub ready_same : {S A : Type 0} (end : Direction) (s t : Merger S A) → SameRoom s t
    → is_ready end t ≡ is_ready end s
ready_same Back s t same = same.back_ready
ready_same Front s t same = same.front_ready

pub made_sources : {S A : Type 0} (end : Direction) (m : Merger S A)
    → (made_ready end m).sources ≡ m.sources
made_sources Back m = refl
made_sources Front m = refl

pub made_heap : {S A : Type 0} (end : Direction) (m : Merger S A) → (made_ready end m).heap ≡ m.heap
made_heap Back m = refl
made_heap Front m = refl

pub made_now : {S A : Type 0} (end : Direction) (m : Merger S A)
    → is_ready end (made_ready end m) ≡ true
made_now Back m = refl
made_now Front m = refl

pub made_other : {S A : Type 0} (end : Direction) (m : Merger S A)
    → is_ready (opposite end) (made_ready end m) ≡ is_ready (opposite end) m
made_other Back m = refl
made_other Front m = refl

pub made_failed : {S A : Type 0} (end : Direction) (m : Merger S A)
    → (made_ready end m).failed ≡ m.failed
made_failed Back m = refl
made_failed Front m = refl

pub made_at : {S A : Type 0} (end e : Direction) (m t : Merger S A) → e ≡ end → t ≡ made_ready e m
    → made_ready end m ≡ t
made_at end e m t same made = ap (λ (d : Direction). made_ready d m) (sym same) ∙ sym made
