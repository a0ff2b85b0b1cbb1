use Rattle.std.proofs.Common.{◌≡◌, ◌∙◌, sym, ap}
use Rattle.std.specs.Prelude.{Some}
use Rattle.std.specs.Option.{option_map}
use Rattle.sst_blocks.specs.Place.{Place, place_of}
use Rattle.sst_blocks.specs.SeenHandle.{handle_of_ref}
use Rattle.sst_blocks.proofs.index_block.IndexBlock.place_at.Goals as goal

same_place : (p q : Place) → p.offset ≡ q.offset → p.size ≡ q.size → p ≡ q
same_place p q offset size = ap (λ n. record p { offset = n }) offset ∙ ap (λ n. record { offset = q.offset; size = n }) size

pub returns : goal.returns
returns g c =
    let h = handle_of_ref c.handle_ref-found.result in
    let place : c.new.result ≡ place_of h = same_place c.new.result (place_of h) c.new.ensures.offset c.new.ensures.size in
    ap (option_map place_of) c.handle_ref-found.ensures ∙ ap (λ (p : Place). Some p) (sym place)
