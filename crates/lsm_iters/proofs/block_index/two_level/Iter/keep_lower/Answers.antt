use Rattle.std.specs.Prelude.{Some, None}
use Rattle.std.proofs.Common.{List, ap, sym, subst, ◌∙◌}
use Rattle.sst_blocks.specs.Sections.{body_of}
use Rattle.sst_entries.specs.Span.{Span, rest_in}
use Rattle.sst_blocks.specs.Handle.{Handle}
use Rattle.sst_blocks.specs.Handles.{window}
use Rattle.lsm_iters.specs.block_index.Left.{IsEnded, TwoLevel, two_level_left}
use Rattle.lsm_iters.specs.block_index.Seen.{rest_of}
use Rattle.lsm_iters.proofs.Sought.{levels_lower, levels_over}
use Rattle.lsm_iters.proofs.block_index.two_level.Iter.keep_lower.Goals as goal

pub returns-clause-sought : goal.returns-clause-sought
returns-clause-sought g c upper was =
    let s : TwoLevel = record { body = body_of c.self.inside.walk.parts.source; whole = c.self.inside.walk.parts.tops.list; tops = rest_in c.self.inside.walk.parts.tops; lower = c.self.inside.walk.parts.edges.0; upper = c.self.inside.walk.parts.edges.1; front = rest_of c.self.inside.walk.front; back = rest_of c.self.inside.walk.back; opened = c.self.inside.walk.parts.opened } in
    let before = rw (← c.self.view_is) at was in
    let sought = rw c.as_slice.ensures at (c.seek_lower.ensures.both upper c.self.inside.walk.parts.tops.list before.tops) in
    levels_lower s c.seek_lower.new.self c.set_lower.new.self (c.args.key, c.args.seqno) upper c.set_lower.ensures
    (ap (λ (x : Span Handle). x.list) c.seek_lower.ensures.narrowed) sought before

pub returns-clause-over : goal.returns-clause-over
returns-clause-over g c over =
    let s : TwoLevel = record { body = body_of c.self.inside.walk.parts.source; whole = c.self.inside.walk.parts.tops.list; tops = rest_in c.self.inside.walk.parts.tops; lower = c.self.inside.walk.parts.edges.0; upper = c.self.inside.walk.parts.edges.1; front = rest_of c.self.inside.walk.front; back = rest_of c.self.inside.walk.back; opened = c.self.inside.walk.parts.opened } in
    levels_over s c.seek_lower.new.self c.set_lower.new.self
    (λ none. c.seek_lower.ensures.kept ∙ ap (λ (hs : List Handle). window hs (Some (c.as_slice.result.now, c.args.seqno)) None) none)
    (subst (λ (x : TwoLevel). IsEnded (two_level_left x)) (sym c.self.view_is) over)
