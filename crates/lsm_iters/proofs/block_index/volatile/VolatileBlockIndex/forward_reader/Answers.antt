use Rattle.std.specs.Prelude.{Option, Some, None}
use Rattle.std.proofs.Common.{◌≡◌, ℕ, List, refl, sym, subst, ap, ◌∙◌}
use Rattle.sst_blocks.specs.Place.{Place}
use Rattle.sst_blocks.specs.Sections.{body_of}
use Rattle.lsm_iters.specs.block_index.Left.{IsBetween, OnDemand, new_on_demand, on_demand_left}
use Rattle.lsm_iters.proofs.Laws.{demand_yields}
use Rattle.lsm_iters.proofs.block_index.volatile.VolatileBlockIndex.forward_reader.Goals as goal

module _ (s : OnDemand) (body : List ℕ) (place : Place) (edge : List ℕ × ℕ) (edges : Option (List ℕ × ℕ) × Option (List ℕ)) (is : s ≡ new_on_demand body place) (at : edges ≡ (Some edge, s.upper)) where
  lower_kept : record s { lower = edges.0; upper = edges.1 } ≡ record (new_on_demand body place) { lower = Some edge }
  lower_kept =
      ap (λ (e : Option (List ℕ × ℕ) × Option (List ℕ)). record s { lower = e.0; upper = e.1 }) at
      ∙ ap (λ (x : OnDemand). record x { lower = Some edge }) is

  from_lower : IsBetween (on_demand_left (record s { lower = edges.0; upper = edges.1 })) (Some edge) None
  from_lower = subst (λ (x : OnDemand). IsBetween (on_demand_left x) (Some edge) None) (sym lower_kept) (record { results = refl; loads = refl })

pub returns-clause-sought : goal.returns-clause-sought
returns-clause-sought g c =
    let s : OnDemand = record { body = body_of c.iter-2.inside.source; place = c.iter-2.inside.handle; lower = c.iter-2.inside.edges.0; upper = c.iter-2.inside.edges.1; part = c.iter-2.inside.part; opened = c.iter-2.inside.opened } in
    rw c.in_ok-key.ensures.ok at (lower_kept s c.args.self.now.0 c.args.self.now.1 (c.in_ok-key.key, c.args.seqno) c.set_lower.new.self (c.iter-2.view_is ∙ c.in_ok-iter.ensures.unsought) c.set_lower.ensures)

pub returns-clause-between : goal.returns-clause-between
returns-clause-between g c =
    let s : OnDemand = record { body = body_of c.iter-2.inside.source; place = c.iter-2.inside.handle; lower = c.iter-2.inside.edges.0; upper = c.iter-2.inside.edges.1; part = c.iter-2.inside.part; opened = c.iter-2.inside.opened } in
    rw c.in_ok-key.ensures.ok at (from_lower s c.args.self.now.0 c.args.self.now.1 (c.in_ok-key.key, c.args.seqno) c.set_lower.new.self (c.iter-2.view_is ∙ c.in_ok-iter.ensures.unsought) c.set_lower.ensures)

pub returns-clause-yields : goal.returns-clause-yields
returns-clause-yields g c = demand_yields _
