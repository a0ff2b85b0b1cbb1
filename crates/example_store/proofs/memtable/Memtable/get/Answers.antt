use Rattle.std.proofs.Common.{◌≡◌, ◌<◌, ◌≤◌, sym, ◌∙◌, ap, subst, List, length, get_or}
use Rattle.std.specs.Prelude.{Some, not}
use Rattle.lsm_tables.specs.Words.{Entry, IsStrict, front_length, is_before, point, read_place}
use Rattle.lsm_tables.proofs.TableLaws.{apart}
use Rattle.example_store.proofs.Places.{found_at, none_at, other_at}
use Rattle.example_store.proofs.memtable.Memtable.get.Goals as goal

pub returns-in_default : goal.returns-in_default
returns-in_default g c =
    let es = c.self.inside.items.items in
    let n = c.count_up_to-place.result in
    let key = c.args.key.now in
    let p = λ (e : Entry). not (is_before (read_place key c.args.seqno) e) in
    let given = c.deref.ensures.value in
    let at : n ≡ front_length p es = c.count_up_to-place.ensures.exact (subst IsStrict (sym given) c.self.invariant) ∙ ap (front_length p) given in
    let within : n ≤ length es = subst (λ (xs : List Entry). n ≤ length xs) given c.count_up_to-place.ensures.within in
    let end : length es ≤ n = subst (λ (xs : List Entry). length xs ≤ n) c.deref-2.ensures.value c.in_default.ensures.lookup.3 in
    none_at es key c.args.seqno n at within end ∙ ap (λ (xs : List Entry). point xs key c.args.seqno) c.self.view_is

pub returns-then-not-equals : goal.returns-then-not-equals
returns-then-not-equals g c =
    let es = c.self.inside.items.items in
    let n = c.count_up_to-place.result in
    let key = c.args.key.now in
    let e = c.in-Some.item.now in
    let p = λ (e : Entry). not (is_before (read_place key c.args.seqno) e) in
    let given = c.deref.ensures.value in
    let at : n ≡ front_length p es = c.count_up_to-place.ensures.exact (subst IsStrict (sym given) c.self.invariant) ∙ ap (front_length p) given in
    let within : n < length es = subst (λ (xs : List Entry). n < length xs) c.deref-2.ensures.value c.in-Some.ensures.lookup.3.0 in
    let here : e ≡ get_or es n e = subst (λ (xs : List Entry). e ≡ get_or xs n e) c.deref-2.ensures.value c.in-Some.ensures.lookup.1 in
    let other = λ (same : e.user_key ≡ key). apart c.equals.result (c.equals.ensures.1 (ap (λ (x : Entry). x.user_key) c.item.view_is ∙ same)) c.if-not-equals.true in
    other_at es key c.args.seqno n at e c.self.invariant within here other ∙ ap (λ (xs : List Entry). point xs key c.args.seqno) c.self.view_is

pub returns : goal.returns
returns g c =
    let es = c.self.inside.items.items in
    let n = c.count_up_to-place.result in
    let key = c.args.key.now in
    let e = c.in-Some.item.now in
    let p = λ (e : Entry). not (is_before (read_place key c.args.seqno) e) in
    let given = c.deref.ensures.value in
    let at : n ≡ front_length p es = c.count_up_to-place.ensures.exact (subst IsStrict (sym given) c.self.invariant) ∙ ap (front_length p) given in
    let within : n < length es = subst (λ (xs : List Entry). n < length xs) c.deref-2.ensures.value c.in-Some.ensures.lookup.3.0 in
    let here : e ≡ get_or es n e = subst (λ (xs : List Entry). e ≡ get_or xs n e) c.deref-2.ensures.value c.in-Some.ensures.lookup.1 in
    let same : e.user_key ≡ key = sym (ap (λ (x : Entry). x.user_key) c.item.view_is) ∙ c.equals.ensures.0 c.if-not-equals.false in
    ap (λ (x : Entry). Some x) c.as_entry_ref.ensures ∙ found_at es key c.args.seqno n at e within here same ∙ ap (λ (xs : List Entry). point xs key c.args.seqno) c.self.view_is
