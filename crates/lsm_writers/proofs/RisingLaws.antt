-- Keys that rise, and the last keys of parts among them.
use Rattle.std.proofs.Common.{◌≡◌, refl, ap, ◌∙◌, subst, ℕ, ◌<◌, true, List, [], ◌∷◌, ◌++◌, length}
use Rattle.std.proofs.Common.{Option, Some, None, append_assoc, arith}
use Rattle.std.specs.Prelude.{map}
use Rattle.std.specs.List.{AllByRecursion}
use Rattle.sst_entries.specs.Entry.{Entry}
use Rattle.sst_entries.specs.Strict.{IsStrictAfter, may_follow}
use Rattle.sst_entries.proofs.OrderLemmas.{before_trans}
use Rattle.sst_blocks.specs.table.Filters.{last_of_keys}
use Rattle.sst_blocks.specs.table.Parts.{joined_parts}
use Rattle.lsm_writers.specs.section.Given.{IsSomePart, KeyPart, keys_in}
use Rattle.lsm_writers.specs.section.Rising.{AreRising, end_entry}

pub strict_parts : (last : Option Entry) (e : Entry) (es : List Entry) → IsStrictAfter last (e ∷ es)
    → (may_follow last e ≡ true) × IsStrictAfter (Some e) es
unfolding IsStrictAfter
strict_parts last e es h = h

strict_join : (last : Option Entry) (e : Entry) (es : List Entry) → may_follow last e ≡ true
    → IsStrictAfter (Some e) es → IsStrictAfter last (e ∷ es)
unfolding IsStrictAfter
strict_join last e es f h = (f, h)

pub strict_none : (last : Option Entry) → IsStrictAfter last []
unfolding IsStrictAfter
strict_none last = tt

follows_on : (last : Option Entry) (x y : Entry) → may_follow last x ≡ true
    → may_follow (Some x) y ≡ true → may_follow last y ≡ true
follows_on None x y f g = refl
follows_on (Some l) x y f g = before_trans l x y f g

-- without the first
strict_tail : (last : Option Entry) (e : Entry) (es : List Entry) → IsStrictAfter last (e ∷ es)
    → IsStrictAfter last es
strict_tail last e [] h = strict_none last
strict_tail last e (x ∷ es) h =
    let a = strict_parts last e (x ∷ es) h in
    let b = strict_parts (Some e) x es a.1 in
    strict_join last x es (follows_on last e x a.0 b.0) b.1

-- without a front
strict_drop : (last : Option Entry) (ks rest : List (List ℕ))
    → IsStrictAfter last (map end_entry (ks ++ rest)) → IsStrictAfter last (map end_entry rest)
strict_drop last [] rest h = h
strict_drop last (k ∷ ks) rest h = strict_drop last ks rest
    (strict_tail last (end_entry k) (map end_entry (ks ++ rest)) h)

-- without what stands behind
pub strict_front : (last : Option Entry) (ks rest : List (List ℕ))
    → IsStrictAfter last (map end_entry (ks ++ rest)) → IsStrictAfter last (map end_entry ks)
strict_front last [] rest h = strict_none last
strict_front last (k ∷ ks) rest h =
    let a = strict_parts last (end_entry k) (map end_entry (ks ++ rest)) h in
    strict_join last (end_entry k) (map end_entry ks) a.0
    (strict_front (Some (end_entry k)) ks rest a.1)

pub rising_front : (ks rest : List (List ℕ)) → AreRising (ks ++ rest) → AreRising ks
rising_front ks rest h = strict_front None ks rest h

pub last_more : (ks : List (List ℕ)) (key : List ℕ) → last_of_keys (ks ++ key ∷ []) ≡ key
last_more [] key = refl
last_more (k ∷ []) key = refl
last_more (k ∷ l ∷ ks) key = last_more (l ∷ ks) key

-- what comes behind some keys rises above the last of them
pub above_last : (last : Option Entry) (ks more : List (List ℕ)) → 0 < length ks
    → IsStrictAfter last (map end_entry (ks ++ more)) →
    (may_follow last (end_entry (last_of_keys ks)) ≡ true)
    × IsStrictAfter (Some (end_entry (last_of_keys ks))) (map end_entry more)
above_last last [] more some h = absurd (omega (arith, some))
above_last last (k ∷ []) more some h = strict_parts last (end_entry k) (map end_entry more) h
above_last last (k ∷ l ∷ ks) more some h =
    let a = strict_parts last (end_entry k) (map end_entry ((l ∷ ks) ++ more)) h in
    let b = above_last (Some (end_entry k)) (l ∷ ks) more (omega arith) a.1 in
    (follows_on last (end_entry k) (end_entry (last_of_keys (l ∷ ks))) a.0 b.0, b.1)

ends_rise : (last : Option Entry) (ps : List KeyPart) (pending more : List (List ℕ))
    → AllByRecursion IsSomePart ps →
    IsStrictAfter last (map end_entry ((joined_parts (keys_in ps) ++ pending) ++ more))
    → IsStrictAfter last (map end_entry (map last_of_keys (keys_in ps) ++ more))
ends_rise last [] pending more some h = strict_drop last pending more h
ends_rise last (p ∷ ps) pending more some h =
    let joined = joined_parts (keys_in ps) in
    let apart : ((p.keys ++ joined) ++ pending) ++ more ≡ p.keys ++ ((joined ++ pending) ++ more) =
    ap (λ (ks : List (List ℕ)). ks ++ more) (append_assoc p.keys joined pending)
    ∙ append_assoc p.keys (joined ++ pending) more in
    let a = above_last last p.keys ((joined ++ pending) ++ more) (some.0).some
    (subst (λ (ks : List (List ℕ)). IsStrictAfter last (map end_entry ks)) apart h) in
    strict_join last (end_entry (last_of_keys p.keys))
    (map end_entry (map last_of_keys (keys_in ps) ++ more)) a.0
    (ends_rise (Some (end_entry (last_of_keys p.keys))) ps pending more some.1 a.1)

-- the last keys of the parts that were cut, and a key that comes behind all
pub last_keys_rise : (cut : List KeyPart) (pending : List (List ℕ)) (key : List ℕ)
    → AllByRecursion IsSomePart cut → AreRising ((joined_parts (keys_in cut) ++ pending) ++ key
    ∷ []) →
    AreRising (map last_of_keys (keys_in cut) ++ key ∷ [])
last_keys_rise cut pending key some h = ends_rise None cut pending (key ∷ []) some h
