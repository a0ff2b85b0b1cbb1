-- A read whose value is seen by a view.
use Rattle.std.proofs.Common.{◌≡◌, List, [], refl, sym, ◌∙◌}
use Rattle.std.specs.Prelude.{Option, Some, None, Result, Ok, Err, IsOk, IfOk, IfSome}
use Rattle.std.specs.Option.{option_map}
use Rattle.std.specs.Result.{IsErrAnd}
use Rattle.sst_entries.specs.declared.error.Error.{Error}
use Rattle.sst_entries.specs.Error.{FaultsFirst, Gives, Refuses}
use Rattle.sst_blocks.specs.declared.block_type.BlockType.{BlockType}
use Rattle.sst_blocks.specs.declared.opened.Opened.{Opened}
use Rattle.sst_blocks.specs.Access.{Access}
use Rattle.sst_blocks.specs.Asked.{result_map}
use Rattle.lsm_readers.specs.point.Read.{DoesRead, Opens, Read, wants_memory}

pub some_seen : {X Y : Type 0} (f : X → Y) (P : Y → Type 0) (o : Option X)
    → IfSome (option_map f o) P → IfSome o (λ x. P (f x))
some_seen f P None h = tt
some_seen f P (Some x) h = h

pub err_not_ok : {X : Type 0} (r : Result X Error) (e : Error) (P : X → Type 0)
    → IsErrAnd r (λ y. y ≡ e) → IfOk r P
err_not_ok (Ok x) e P is = absurd is
err_not_ok (Err d) e P is = tt

module _ {X Y : Type 0} (f : X → Y) where
  pub err_seen : (r : Result X Error) (e : Error) → IsErrAnd r (λ y. y ≡ e)
      → IsErrAnd (result_map f r) (λ y. y ≡ e)
  err_seen (Ok x) e is = absurd is
  err_seen (Err d) e is = is

  pub gives_seen : (r : Result X Error) (returned : Result Y Error)
      → Gives (λ (y : Y). y) (result_map f r) returned → Gives f r returned
  gives_seen (Ok x) returned h = h
  gives_seen (Err e) returned h = h

  pub gives_by : (r : Result X Error) (returned : Result Y Error) → Gives f r returned
      → Gives (λ (y : Y). y) (result_map f r) returned
  gives_by (Ok x) returned h = h
  gives_by (Err e) returned h = h

  refuses_seen : (r : Result X Error) (returned : Option Error) → Refuses (result_map f r) returned
      → Refuses r returned
  refuses_seen (Ok x) returned h = h
  refuses_seen (Err e) returned h = h

  refuses_by : (r : Result X Error) (returned : Option Error) → Refuses r returned
      → Refuses (result_map f r) returned
  refuses_by (Ok x) returned h = h
  refuses_by (Err e) returned h = h

  pub first_seen : (r : Result X Error) (returned : Option Error) → FaultsFirst (result_map f r) returned
      → FaultsFirst r returned
  first_seen r returned first = λ e is. refuses_seen r (Some e) (first e is)

  first_by : (r : Result X Error) (returned : Option Error) → FaultsFirst r returned
      → FaultsFirst (result_map f r) returned
  first_by r returned first = λ e is. refuses_by r (Some e) (first e is)

  pub ok_seen : (r : Result X Error) → IsOk (result_map f r) → IsOk r
  ok_seen (Ok x) h = refl
  ok_seen (Err e) h = absurd cc

  ok_by : (r : Result X Error) → IsOk r → IsOk (result_map f r)
  ok_by (Ok x) h = refl
  ok_by (Err e) h = absurd cc

  memory_seen : (r : Result X Error) → wants_memory (result_map f r) ≡ wants_memory r
  memory_seen (Ok x) = refl
  memory_seen (Err e) = refl

  pub opens_seen : (r : Result X Error) (loads : List BlockType) (o o' : Opened)
      → Opens (result_map f r) loads o o' → Opens r loads o o'
  opens_seen r loads o o' opens = record {
    made = opens.made;
    counts = opens.counts;
    within = opens.within;
    whole = λ calm. opens.whole (memory_seen r ∙ calm);
    some = opens.some;
  }

  opens_by : (r : Result X Error) (loads : List BlockType) (o o' : Opened)
      → Opens r loads o o' → Opens (result_map f r) loads o o'
  opens_by r loads o o' opens = record {
    made = opens.made;
    counts = opens.counts;
    within = opens.within;
    whole = λ calm. opens.whole (sym (memory_seen r) ∙ calm);
    some = opens.some;
  }

  -- a call that answers what the view of its value says does the read, seen by the view
  pub does_by : (access : Access) (r : Result X Error) (read : Read Y) (o o' : Opened)
      → Gives f r read.returned
      → FaultsFirst r read.early → Opens r read.loads o o' → (read.loads ≡ [] → IsOk r)
      → DoesRead access (result_map f r) read o o'
  does_by access r read o o' returned first opens calm = record {
    returned = gives_by r read.returned returned;
    early = λ _. first_by r read.early first;
    opens = opens_by r read.loads o o' opens;
    calm = λ none. ok_by r (calm none);
  }
