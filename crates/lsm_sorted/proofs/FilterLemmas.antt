-- A head and its filter.
use Rattle.std.proofs.Common.{◌≡◌, refl, sym, subst, Bool, true, false, not}
use Rattle.std.specs.Prelude.{Option, Some, Result, Ok}
use Rattle.sst_entries.specs.Entry.{Entry}
use Rattle.sst_entries.specs.Kind.{is_tombstone_kind}
use Rattle.sst_entries.specs.declared.error.Error.{Error}
use Rattle.lsm_sorted.specs.Compaction.{Verdict, keep, told_by, reports_by}
use Rattle.lsm_sorted.specs.Compacting.{AsksIf, GetsAll}
use Rattle.lsm_sorted.specs.CompactionState.{Filters}

module _ {F C : Type 0} (gives : F → Entry → Result Verdict Error → F → Type 0)
    (gets : C → Entry → C → Type 0) where
  -- a tombstone is left as it is
  pub filters_tombstone : (head : Entry) (f : F) (c : C) → is_tombstone_kind head.kind ≡ true
      → Filters gives gets head f c (Ok (Some head)) f c
  filters_tombstone head f c h = record {
    verdict = Ok keep;
    asks = subst (λ (b : Bool). AsksIf gives (not b) f head (Ok keep) f) (sym h) (refl, refl);
    states = refl;
    reports = refl;
  }

  -- of another entry the filter is asked
  pub filters_asked : (head : Entry) (f : F) (c : C) (v : Result Verdict Error) (g : F)
      (result : Result (Option Entry) Error) (d : C) → is_tombstone_kind head.kind ≡ false
      → gives f head v g → result ≡ told_by head v → GetsAll gets c (reports_by head v) d
      → Filters gives gets head f c result g d
  filters_asked head f c v g result d h asked returned got = record {
    verdict = v;
    asks = subst (λ (b : Bool). AsksIf gives (not b) f head v g) (sym h) asked;
    states = returned;
    reports = got;
  }
