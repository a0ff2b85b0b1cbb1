-- Testing that handles are strict, one after another.
use Rattle.std.proofs.Common.{◌≡◌, ◌≤◌, ◌∷◌, ℕ, ◌+◌, ◌<◌, List, Bool, true, false, Option, Some}
use Rattle.std.proofs.Common.{None, length, get_or, drop, map, sym, ap, ◌∙◌, refl}
use Rattle.std.specs.Prelude.{IsTrue, ◌↔◌}
use Rattle.std.proofs.lemmas.List.{drop_more, drop_all}
use Rattle.sst_entries.specs.Entry.{Entry}
use Rattle.sst_blocks.specs.Handle.{Handle}
use Rattle.sst_blocks.specs.Handles.{AreStrictHandles, end_of}
use Rattle.sst_entries.specs.Strict.{may_follow, is_strict_after}
use Rattle.sst_entries.proofs.Strictness.{strict_from_test, test_from_strict}

-- one more handle is tested
tested : (whole : Bool) (last : Option Entry) (hs : List Handle) (i : ℕ) (h : Handle)
    → i < length hs → h ≡ get_or hs i h
    → whole ≡ is_strict_after last (map end_of (drop i hs))
    → whole ≡ is_strict_after last (end_of h ∷ map end_of (drop (i + 1) hs))
tested whole last hs i h lt is so_far =
    let split : drop i hs ≡ h ∷ drop (i + 1) hs = drop_more hs i h lt
    ∙ ap (λ (x : Handle). x ∷ drop (i + 1) hs) (sym is) in
    so_far ∙ ap (λ (xs : List Handle). is_strict_after last (map end_of xs)) split

-- it may follow, and the others decide
pub one_more : (whole : Bool) (last : Option Entry) (hs : List Handle) (i : ℕ) (h : Handle)
    → i < length hs → h ≡ get_or hs i h → may_follow last (end_of h) ≡ true
    → whole ≡ is_strict_after last (map end_of (drop i hs))
    → whole ≡ is_strict_after (Some (end_of h)) (map end_of (drop (i + 1) hs))
unfolding is_strict_after
one_more whole last hs i h lt is follows so_far = tested whole last hs i h lt is so_far
    ∙ rw follows refl

-- it may not, and the list is no strict one
pub one_fails : (whole : Bool) (last : Option Entry) (hs : List Handle) (i : ℕ) (h : Handle)
    → i < length hs → h ≡ get_or hs i h → may_follow last (end_of h) ≡ false
    → whole ≡ is_strict_after last (map end_of (drop i hs)) → false ≡ whole
unfolding is_strict_after
one_fails whole last hs i h lt is fails so_far =
    sym (tested whole last hs i h lt is so_far ∙ rw fails refl)

pub at_end : (whole : Bool) (last : Option Entry) (hs : List Handle) (i : ℕ) → length hs ≤ i
    → whole ≡ is_strict_after last (map end_of (drop i hs)) → true ≡ whole
unfolding is_strict_after
at_end whole last hs i le so_far = sym (so_far
    ∙ ap (λ (xs : List Handle). is_strict_after last (map end_of xs)) (drop_all i hs le))

-- what the test means
pub test_means : (b : Bool) (hs : List Handle) → b ≡ is_strict_after None (map end_of hs)
    → IsTrue b ↔ AreStrictHandles hs
test_means b hs e = (
  λ yes. strict_from_test None (map end_of hs) (sym e ∙ yes),
  λ strict. e
      ∙ test_from_strict None (map end_of hs) strict,
)
