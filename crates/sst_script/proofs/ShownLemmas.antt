-- The prefix of a text that was written, part by part.
use Rattle.std.proofs.Common.{◌≡◌, sym, ◌∙◌, ap, subst, ℕ, List, [], ◌++◌}
use Rattle.std.proofs.Common.{append_assoc, append-nil}
use Rattle.std.specs.Prelude.{Option, Some, None, Result, Ok, Err}
use Rattle.std.specs.Result.{IsErrAnd}
use Rattle.std.specs.Io.KnownBytes.{Appends, Keeps}
use Rattle.std.proofs.KnownBytes.{Appends-trans}
use Rattle.sst_script.specs.Shown.{AppendsFront, ShowsText}

-- a text is a prefix of itself
pub front_all : (a b : Option (List ℕ)) (text : List ℕ) → Appends a b text → AppendsFront a b text
front_all a b text all = record {
  front = text;
  rest = [];
  is = sym (append-nil text);
  appends =
      all;
}

-- a part after one that was written
front_then : (a b c : Option (List ℕ)) (done text : List ℕ) → Appends a b done
    → AppendsFront b c text → AppendsFront a c (done ++ text)
front_then a b c done text whole shown = record {
  front = done ++ shown.front;
  rest = shown.rest;
  is = ap (λ (t : List ℕ). done ++ t) shown.is ∙ sym (append_assoc done shown.front shown.rest);
  appends = Appends-trans a b c done shown.front whole shown.appends;
}

-- a prefix of a text is one of a longer text
front_before : (a b : Option (List ℕ)) (text after : List ℕ) → AppendsFront a b text
    → AppendsFront a b (text ++ after)
front_before a b text after shown = record {
  front = shown.front;
  rest = shown.rest ++ after;
  is = ap (λ (t : List ℕ). t ++ after) shown.is ∙ append_assoc shown.front shown.rest after;
  appends = shown.appends;
}

-- a part failed after others that were written, and before others
pub front_failed : {X E : Type 0} (a b c : Option (List ℕ)) (all done text after : List ℕ)
    (r : Result X E) (e : E) → IsErrAnd r (λ y. y ≡ e)
    → all ≡ done ++ text ++ after → Appends a b done → AppendsFront b c text → ShowsText a c r all
front_failed a b c all done text after (Ok x) e is parts whole shown = absurd is
front_failed a b c all done text after (Err y) e is parts whole shown =
    subst (AppendsFront a c) (sym parts) (front_before a c (done ++ text) after
    (front_then a b c done text whole shown))

-- the last part
pub shows_last : {X E : Type 0} (a b c : Option (List ℕ)) (all done text : List ℕ) (r : Result X E)
    → all ≡ done ++ text → Appends a b done → ShowsText b c r text → ShowsText a c r all
shows_last a b c all done text (Ok x) parts whole shown =
    subst (Appends a c) (sym parts) (Appends-trans a b c done text whole shown)
shows_last a b c all done text (Err e) parts whole shown =
    subst (AppendsFront a c) (sym parts) (front_then a b c done text whole shown)

-- a call that failed kept what was written
pub kept_behind : (a b c : Option (List ℕ)) (bs : List ℕ) → Appends a b bs → Keeps b c
    → Appends a c bs
kept_behind None b c bs p q = tt
kept_behind (Some x) None c bs p q = absurd p
kept_behind (Some x) (Some y) None bs p q = absurd q
kept_behind (Some x) (Some y) (Some z) bs p q = q ∙ p
