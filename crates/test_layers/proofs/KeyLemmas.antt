-- Keys that are registered one after another.
use Rattle.std.proofs.Common.{◌≡◌, refl, sym, ◌∙◌, ap, subst, ℕ, List, [], ◌∷◌, ◌++◌}
use Rattle.sst_entries.specs.Strict.{IsStrictAfter}
use Rattle.sst_blocks.specs.declared.filter.policy.BloomConstructionPolicy.{BloomConstructionPolicy}
use Rattle.sst_blocks.specs.declared.table.options.FilterKind.{FilterKind}
use Rattle.lsm_writers.specs.section.Given.{GivenKeys, no_keys, with_key}
use Rattle.lsm_writers.specs.section.Held.{CutParts, HoldsParts}
use Rattle.lsm_writers.specs.section.Rising.{AreRising, Rises}
use Rattle.lsm_writers.proofs.SameOptions.{all_keys_more}
use Rattle.test_layers.specs.Keys.{WasGiven}

-- any key is greater than none
pub first_rises : (key : List ℕ) → AreRising (key ∷ [])
unfolding IsStrictAfter
first_rises key = (refl, tt)

pub rises_above_none : (holds : GivenKeys → Type 0) (key : List ℕ) → holds no_keys → Rises holds key
rises_above_none holds key held = record { given = no_keys; held = held; rising = first_rises key }

-- what a writer of partitions was given
pub given_none : (w : CutParts) → HoldsParts w no_keys → WasGiven w []
given_none w held = record { given = no_keys; held = held; are = refl }

pub given_again : (w v : CutParts) (keys : List (List ℕ)) → WasGiven w keys
    → ((given : GivenKeys) → HoldsParts w given → HoldsParts v given) → WasGiven v keys
given_again w v keys was again = record {
  given = was.given;
  held = again was.given was.held;
  are =
      was.are;
}

pub given_more : (w v : CutParts) (kind : FilterKind) (policy : BloomConstructionPolicy)
    (keys : List (List ℕ)) (key : List ℕ) → WasGiven w keys
    → ((given : GivenKeys) → HoldsParts w given → HoldsParts v (with_key kind policy given key))
    → WasGiven v (keys ++ key ∷ [])
given_more w v kind policy keys key was more = record {
  given = with_key kind policy was.given key;
  held = more was.given was.held;
  are = all_keys_more kind policy was.given key
      ∙ ap (λ (ks : List (List ℕ)). ks ++ key ∷ []) was.are;
}

pub rises_above : (w : CutParts) (keys : List (List ℕ)) (key : List ℕ) → WasGiven w keys
    → AreRising (keys ++ key ∷ []) → Rises (HoldsParts w) key
rises_above w keys key was rising = record {
  given = was.given;
  held = was.held;
  rising = subst (λ (ks : List (List ℕ)). AreRising (ks ++ key ∷ [])) (sym was.are) rising;
}

-- three letters
pub second_rises : (a b : List ℕ) → a ≡ 97 ∷ [] → b ≡ 98 ∷ [] → AreRising (a ∷ b ∷ [])
unfolding IsStrictAfter
second_rises a b ea eb = rw (ea, eb) (refl, (refl, tt))

pub third_rises : (a b c : List ℕ) → a ≡ 97 ∷ [] → b ≡ 98 ∷ [] → c ≡ 99 ∷ []
    → AreRising (a ∷ b ∷ c ∷ [])
unfolding IsStrictAfter
third_rises a b c ea eb ec = rw (ea, eb, ec) (refl, (refl, (refl, tt)))
