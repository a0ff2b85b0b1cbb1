use Rattle.std.proofs.Common.{◌≡◌, ◌+◌, ◌<◌, ◌++◌, ◌∷◌, [], take, drop, get_or, length, true, false, List, ℕ, Option, None, refl, rules, ap, sym, subst, ◌∙◌}
use Rattle.std.proofs.lemmas.List.{take_more, take_all, take-append-drop, drop_more}
use Rattle.sst_entries.specs.Entry.{Entry}
use Rattle.sst_entries.specs.Strict.{is_strict_after, last_of, may_follow}
use Rattle.sst_entries.proofs.Booleans.{apart}
use Rattle.sst_entries.proofs.Strictness.{test_push, last_push, test_fails, strict_from_test, test_from_strict}
use Rattle.sst_entries.proofs.order.are_strict.Goals as goal

pub loop-item-init : goal.loop-item-init
unfolding is_strict_after last_of
loop-item-init g c = record { strict = refl; last_is = refl }

pub loop-item-preserved : goal.loop-item-preserved
loop-item-preserved g c =
    let es = take c.loop-item.item-index c.args.items.now in
    let e = c.item-item.result in
    let more : take (c.loop-item.item-index + 1) c.args.items.now ≡ es ++ e ∷ [] = take_more c.args.items.now c.loop-item.item-index e c.loop-item-test.true ∙ ap (λ (x : Entry). es ++ x ∷ []) (sym c.item-item.is) in
    let follows : may_follow (last_of None es) e ≡ true = subst (λ (o : Option Entry). may_follow o e ≡ true) c.loop-item.invariant.last_is (search rules) in
    record {
      strict = rw more (test_push None es e c.loop-item.invariant.strict follows);
      last_is = rw more (sym (last_push None es e));
    }

-- an entry that may not follow those before it makes the whole list no strict one
fails_at : (es : List Entry) (n : ℕ) (e : Entry) → n < length es → e ≡ get_or es n e → may_follow (last_of None (take n es)) e ≡ false → is_strict_after None es ≡ false
fails_at es n e lt is fails =
    let parts : es ≡ take n es ++ e ∷ drop (n + 1) es = sym (take-append-drop n es) ∙ ap (λ (xs : List Entry). take n es ++ xs) (drop_more es n e lt ∙ ap (λ (x : Entry). x ∷ drop (n + 1) es) (sym is)) in
    rw parts (test_fails None (take n es) e (drop (n + 1) es) fails)

pub returns-then-not-may_follow-clause-test : goal.returns-then-not-may_follow-clause-test
returns-then-not-may_follow-clause-test g c =
    sym (fails_at c.args.items.now c.loop-item.item-index c.item-item.result c.loop-item-test.true c.item-item.is (subst (λ (o : Option Entry). may_follow o c.item-item.result ≡ false) c.loop-item.invariant.last_is (search rules)))

pub returns-then-not-may_follow-clause-means : goal.returns-then-not-may_follow-clause-means
returns-then-not-may_follow-clause-means g c =
    let fails : is_strict_after None c.args.items.now ≡ false = fails_at c.args.items.now c.loop-item.item-index c.item-item.result c.loop-item-test.true c.item-item.is (subst (λ (o : Option Entry). may_follow o c.item-item.result ≡ false) c.loop-item.invariant.last_is (search rules)) in
    (λ no. let wrong : false ≡ true = no in absurd cc, λ strict. absurd (apart (is_strict_after None c.args.items.now) (test_from_strict None c.args.items.now strict) fails))

pub returns-clause-means : goal.returns-clause-means
returns-clause-means g c =
    let whole : take c.loop-item.item-index c.args.items.now ≡ c.args.items.now = take_all c.loop-item.item-index c.args.items.now c.loop-item-test.false in
    let test : is_strict_after None c.args.items.now ≡ true = subst (λ (es : List Entry). is_strict_after None es ≡ true) whole c.loop-item.invariant.strict in
    (λ yes. strict_from_test None c.args.items.now test, λ strict. refl)
