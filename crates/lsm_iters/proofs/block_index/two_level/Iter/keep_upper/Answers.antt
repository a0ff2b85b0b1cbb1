use Rattle.std.proofs.Common.{ap, sym, subst}
use Rattle.sst_blocks.specs.Sections.{body_of}
use Rattle.sst_entries.specs.Span.{Span, rest_in}
use Rattle.sst_blocks.specs.Handle.{Handle}
use Rattle.lsm_iters.specs.block_index.Left.{IsEnded, TwoLevel, two_level_left}
use Rattle.lsm_iters.specs.block_index.Seen.{rest_of}
use Rattle.lsm_iters.proofs.Sought.{levels_over, levels_upper, none_nearer}
use Rattle.lsm_iters.proofs.block_index.two_level.Iter.keep_upper.Goals as goal

pub returns-clause-sought : goal.returns-clause-sought
returns-clause-sought g c lower was =
    let s : TwoLevel = record { body = body_of c.self.inside.walk.parts.source; whole = c.self.inside.walk.parts.tops.list; tops = rest_in c.self.inside.walk.parts.tops; lower = c.self.inside.walk.parts.edges.0; upper = c.self.inside.walk.parts.edges.1; front = rest_of c.self.inside.walk.front; back = rest_of c.self.inside.walk.back; opened = c.self.inside.walk.parts.opened } in
    let before = rw (← c.self.view_is) at was in
    let sought = rw c.as_slice.ensures at (c.seek_upper.ensures.both lower before.tops) in
    levels_upper s c.seek_upper.new.self c.set_upper.new.self c.args.key lower c.set_upper.ensures
    (ap (λ (x : Span Handle). x.list) c.seek_upper.ensures.narrowed) sought before

pub returns-clause-over : goal.returns-clause-over
returns-clause-over g c over =
    let s : TwoLevel = record { body = body_of c.self.inside.walk.parts.source; whole = c.self.inside.walk.parts.tops.list; tops = rest_in c.self.inside.walk.parts.tops; lower = c.self.inside.walk.parts.edges.0; upper = c.self.inside.walk.parts.edges.1; front = rest_of c.self.inside.walk.front; back = rest_of c.self.inside.walk.back; opened = c.self.inside.walk.parts.opened } in
    levels_over s c.seek_upper.new.self c.set_upper.new.self
    (none_nearer _ c.self.inside.walk.parts.tops c.seek_upper.new.self c.seek_upper.ensures.narrowed)
    (subst (λ (x : TwoLevel). IsEnded (two_level_left x)) (sym c.self.view_is) over)
