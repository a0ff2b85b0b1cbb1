-- The order of keys: user keys ascending, then sequence numbers descending, then tags ascending.
use Rattle.std.specs.Prelude.{ℕ, Bool, List, nat_eq}
use Rattle.std.specs.Cmp.Lexicographic.{pointwise, slice_cmp}
use Rattle.std.specs.declared.cmp.Ordering.{Ordering}
use Rattle.std.specs.Ordering.{nat_cmp, on, flip_args, then_cmp, is_lt}
use Rattle.sst_entries.specs.Kind.{tag_of}
use Rattle.sst_entries.specs.declared.key.InternalKey.{InternalKey}

-- Two user keys are the same.
abbrev pub same_key : List ℕ → List ℕ → Bool
same_key a b = pointwise nat_eq a b

-- One user key is before another, bytewise.
abbrev pub key_lt : List ℕ → List ℕ → Bool
key_lt a b = is_lt (slice_cmp nat_cmp a b)

-- The order of internal keys.
abbrev pub key_cmp : {A : Type 0} → InternalKey A → InternalKey A → Ordering
key_cmp {A = A} = then_cmp (on (λ (k : InternalKey A). k.user_key) (slice_cmp nat_cmp))
    (then_cmp (flip_args (on (λ (k : InternalKey A). k.seqno) nat_cmp))
    (on (λ (k : InternalKey A). tag_of k.value_type) nat_cmp))
