use Rattle.std.proofs.Common.{◌≡◌, rules, ap, sym, ◌∙◌, length}
use Rattle.std.specs.Prelude.{option_map}
use Rattle.json.specs.Value.{value_view}
use Rattle.sst_tool.proofs.ObjectLemmas.{digits_mean_none, has_members, many_mean_none}
use Rattle.sst_tool.proofs.ObjectLemmas.{means_digits, view_object}
use Rattle.sst_tool.proofs.lines.object_line.read_bytes.Goals as goal

pub returns-in-Some-clause-ok : goal.returns-in-Some-clause-ok
returns-in-Some-clause-ok g c =
    means_digits (value_view c.args.value.now) (value_view c.in-Some.digits.now) c.read_digits.result
    (has_members c.args.value.now c.in-Object.members.items 1 (ap value_view c.in-Object.is ∙ view_object c.in-Object.members) (search rules))
    (sym c.get.ensures ∙ ap (option_map (λ v. value_view v.now)) c.in-Some.is)
    c.read_digits.ensures.ok

pub returns-in-Some-clause-refused : goal.returns-in-Some-clause-refused
returns-in-Some-clause-refused g c =
    digits_mean_none (value_view c.args.value.now) (value_view c.in-Some.digits.now) c.read_digits.result
    (has_members c.args.value.now c.in-Object.members.items 1 (ap value_view c.in-Object.is ∙ view_object c.in-Object.members) (search rules))
    (sym c.get.ensures ∙ ap (option_map (λ v. value_view v.now)) c.in-Some.is)
    c.read_digits.ensures.refused

pub returns-in-Object-2-clause-refused : goal.returns-in-Object-2-clause-refused
returns-in-Object-2-clause-refused g c = λ fine.
    let long : c.len.result ≡ length c.in-Object.members.items = search rules in
    many_mean_none c.args.value.now c.in-Object.members.items (ap value_view c.in-Object.is ∙ view_object c.in-Object.members)
    (λ one. c.if-len-eq1.false (long ∙ one))
