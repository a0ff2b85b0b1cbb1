use Rattle.std.proofs.Common.{◌≡◌, rules, ap, ◌∙◌, length}
use Rattle.json.specs.Value.{value_view}
use Rattle.sst_tool.proofs.ObjectLemmas.{has_members, other_many, view_object}
use Rattle.sst_tool.proofs.lines.object_line.test_members.Goals as goal

pub returns-in-Object-clause-ok : goal.returns-in-Object-clause-ok
returns-in-Object-clause-ok g c =
    has_members c.args.value.now c.in-Object.members.items 4 (ap value_view c.in-Object.is ∙ view_object c.in-Object.members) (search rules)

pub returns-in-Object-2-clause-refused : goal.returns-in-Object-2-clause-refused
returns-in-Object-2-clause-refused g c =
    let long : c.len.result ≡ length c.in-Object.members.items = search rules in
    other_many c.args.value.now c.in-Object.members.items (ap value_view c.in-Object.is ∙ view_object c.in-Object.members)
    (λ four. c.if-len-eq4.false (long ∙ four))
