-- The keys of a strict list, each once, rise.
use Rattle.std.proofs.Common.{◌≡◌, ℕ, Bool, true, false, cond, List, [], ◌∷◌, map, refl, sym, subst}
use Rattle.std.proofs.Common.{◌∙◌}
use Rattle.std.proofs.lemmas.Bool.{not-true, not-false}
use Rattle.std.specs.Prelude.{Some}
use Rattle.std.specs.Cmp.Lexicographic.{slice_cmp, texts_ties}
use Rattle.std.specs.Ordering.{nat_cmp, is_lt, is_eq, ordering_then}
use Rattle.std.specs.declared.cmp.Ordering.{Ordering}
use Rattle.std.specs.declared.cmp.Ordering.TheVariants.{Less, Equal, Greater}
use Rattle.sst_entries.specs.declared.value_type.ValueType.TheVariants.{Value}
use Rattle.sst_entries.specs.Entry.{Entry, entry}
use Rattle.sst_entries.specs.Key.{key_lt, same_key}
use Rattle.sst_entries.specs.Strict.{is_before, IsStrict, IsStrictAfter}
use Rattle.sst_entries.proofs.KeyLemmas.{same_is}
use Rattle.sst_blocks.specs.Handle.{Handle}
use Rattle.sst_blocks.proofs.Reaching.{above_reaches, reaches_after}
use Rattle.sst_blocks.specs.table.Facts.{starts_key}
use Rattle.sst_blocks.specs.table.Filters.{keys_after, keys_of}

-- the entry that stands for a key in a top level
abbrev pub key_end : List ℕ → Entry
key_end key = entry key [] 0 Value

pub before_is : (a b : List ℕ) → key_lt a b ≡ is_before (key_end a) (key_end b)
before_is a b =
    let end : Handle = record { end_key = b; seqno = 0; offset = 0; size = 0 } in
    above_reaches a end ∙ reaches_after a 0 end

lt_first : (o p : Ordering) → is_lt (ordering_then o p) ≡ true → is_eq o ≡ false → is_lt o ≡ true
lt_first Less p h apart = refl
lt_first Equal p h apart = absurd cc
lt_first Greater p h apart = absurd cc

-- an entry behind one with another key has a greater key
pub key_above : (a b : Entry) → is_before a b ≡ true → same_key a.user_key b.user_key ≡ false
    → key_lt a.user_key b.user_key ≡ true
key_above a b h other = lt_first (slice_cmp nat_cmp a.user_key b.user_key) _ h
    (sym (texts_ties a.user_key b.user_key) ∙ other)

keys_line : (x : Entry) (es : List Entry) → IsStrictAfter (Some x) es
    → IsStrictAfter (Some (key_end x.user_key)) (map key_end (keys_after (Some x) es))
unfolding IsStrictAfter keys_after
keys_line x [] h = tt
keys_line x (e ∷ es) h =
    let more = keys_line e es h.1 in
    elim (starts_key (Some x) e) as (λ (b : Bool). starts_key (Some x) e ≡ b
    → IsStrictAfter (Some (key_end x.user_key))
    (map key_end (cond b (e.user_key ∷ keys_after (Some e) es) (keys_after (Some e) es)))) [
      | true ↦ λ s. (
        sym (before_is x.user_key e.user_key)
            ∙ key_above x e h.0 (not-true (same_key x.user_key e.user_key) s),
        more,
      )
      | false ↦ λ s. subst (λ (k : List ℕ). IsStrictAfter (Some (key_end k))
          (map key_end (keys_after (Some e) es))) (sym
          (same_is x.user_key e.user_key (not-false (same_key x.user_key e.user_key) s))) more
    ] refl

pub keys_strict : (es : List Entry) → IsStrict es → IsStrict (map key_end (keys_of es))
unfolding IsStrictAfter keys_after
keys_strict [] h = tt
keys_strict (e ∷ es) h = (refl, keys_line e es h.1)
