use Rattle.std.proofs.Common.{◌≡◌, ◌∙◌, sym, ap, subst, ◌-◌, ◌^◌, true, List, [], rules, lt-ltb}
use Rattle.std.specs.Prelude.{Some, None, nat_lt}
use Rattle.sst_entries.specs.declared.value_type.ValueType.TheVariants.{Value}
use Rattle.sst_entries.specs.Entry.{Entry, entry}
use Rattle.sst_entries.specs.Strict.{is_before, last_of}
use Rattle.lsm_writers.proofs.Orders.{follows_last, follows_nothing}
use Rattle.sst_script.proofs.LastPlace.{last_is, last_is_before}
use Rattle.sst_script.proofs.pending.Pending.can_follow.Goals as goal

pub returns-in-None : goal.returns-in-None
returns-in-None g c =
    let low : nat_lt c.args.seqno (2 ^ 64 - 1) ≡ true = lt-ltb _ _ c.if-seqno-lt18446744073709551615.true in
    let is : c.deref.result.now ≡ c.args.self.now = c.deref.ensures.value ∙ c.self.view_is in
    let none : None ≡ last_of None c.deref.result.now = last_is_before None c.deref.result.now c.in-None.ensures.value in
    follows_nothing c.args.self.now c.args.key.now c.args.seqno (sym (subst (λ (es : List Entry). None ≡ last_of None es) is none)) low

pub returns-in-Some : goal.returns-in-Some
returns-in-Some g c =
    let low : nat_lt c.args.seqno (2 ^ 64 - 1) ≡ true = lt-ltb _ _ c.if-seqno-lt18446744073709551615.true in
    let is : c.deref.result.now ≡ c.args.self.now = c.deref.ensures.value ∙ c.self.view_is in
    let i = c.last-in-Some.inside in
    let x : Entry = record { user_key = i.key.user_key; seqno = i.key.seqno; kind = i.key.value_type; value = i.value } in
    let found : Some c.in-Some.last.now ≡ last_of None c.deref.result.now = last_is None c.deref.result.now c.in-Some.last.now c.in-Some.ensures.value in
    let some : Some x ≡ last_of None c.args.self.now = ap (λ (e : Entry). Some e) c.last-in-Some.view_is ∙ found ∙ ap (last_of None) is in
    let test : c.is_lt.result ≡ is_before x (entry c.args.key.now [] c.args.seqno Value) = search rules in
    test ∙ follows_last c.args.self.now c.args.key.now c.args.seqno x (sym some) low
