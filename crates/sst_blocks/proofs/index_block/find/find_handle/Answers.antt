use Rattle.std.proofs.Common.{ap, sym, ◌∙◌}
use Rattle.std.specs.Prelude.{[], Bool, find, unwrap_or}
use Rattle.std.specs.Option.{option_map}
use Rattle.sst_blocks.specs.Handle.{Handle}
use Rattle.sst_blocks.specs.Handles.{handles_in}
use Rattle.sst_blocks.specs.SeenHandle.{handle_of_ref}
use Rattle.sst_blocks.proofs.Reaching.{reach_before}
use Rattle.sst_blocks.proofs.index_block.find.find_handle.Goals as goal

pub returns-in-Some-clause-found : goal.returns-in-Some-clause-found
unfolding handles_in
returns-in-Some-clause-found c =
    sym (ap (option_map (λ x. handle_of_ref x.1)) c.in-Some.is) ∙ c.in_ok-found.ensures.found
    ∙ ap (λ (p : Handle → Bool). find p (unwrap_or (handles_in c.args.version c.args.payload.now) [])) (sym (reach_before c.args.key.now c.args.seqno))

pub returns-in-None-clause-found : goal.returns-in-None-clause-found
unfolding handles_in
returns-in-None-clause-found c =
    sym (ap (option_map (λ x. handle_of_ref x.1)) c.in-None.is) ∙ c.in_ok-found.ensures.found
    ∙ ap (λ (p : Handle → Bool). find p (unwrap_or (handles_in c.args.version c.args.payload.now) [])) (sym (reach_before c.args.key.now c.args.seqno))
