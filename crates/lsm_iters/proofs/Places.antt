-- Taking the place of the handle at an end of a block.
use Rattle.std.proofs.Common.{◌≡◌, ◌+◌, ◌-◌, ◌<◌, ◌≤◌, List, refl, sym, ap, ◌∙◌}
use Rattle.std.specs.Prelude.{Option, Some, None}
use Rattle.std.specs.List.{slice_get}
use Rattle.std.specs.Option.{option_map}
use Rattle.sst_entries.specs.Span.{Span}
use Rattle.sst_entries.specs.Stream.{first, but_first, last, but_last, front_of, back_of}
use Rattle.sst_blocks.specs.Handle.{Handle}
use Rattle.sst_blocks.specs.Place.{Place, place_of}
use Rattle.sst_blocks.proofs.SpanLemmas.{gives_front, gives_back, left_empty}
use Rattle.lsm_iters.specs.block_index.Seen.{PlaceGives}

pub place_front : (s : Span Handle) (o : Option Handle) (p : Place) → slice_get s.list s.from ≡ o
    → option_map place_of o ≡ Some p → s.from < s.to
    → PlaceGives front_of s (Some p) (record s { from = s.from + 1 })
place_front s None p is at some = let wrong : None ≡ Some p = at in absurd cc
place_front s (Some h) p is at some =
    let gives = gives_front s h some is in
    record {
      returned = sym at ∙ ap (option_map place_of) (sym gives.answer.0);
      rest =
          gives.answer.1;
      list = gives.list;
    }

pub place_back : (s : Span Handle) (o : Option Handle) (p : Place) → slice_get s.list (s.to - 1) ≡ o
    → option_map place_of o ≡ Some p → s.from < s.to
    → PlaceGives back_of s (Some p) (record s { to = s.to - 1 })
place_back s None p is at some = let wrong : None ≡ Some p = at in absurd cc
place_back s (Some h) p is at some =
    let gives = gives_back s h some is in
    record {
      returned = sym at ∙ ap (option_map place_of) (sym gives.answer.0);
      rest =
          gives.answer.1;
      list = gives.list;
    }

pub no_place_front : (s : Span Handle) → s.to ≤ s.from → PlaceGives front_of s None s
no_place_front s none =
    let empty = left_empty s none in
    record {
      returned = sym (ap (λ (hs : List Handle). option_map place_of (first hs)) empty);
      rest = empty ∙ sym (ap but_first empty);
      list = refl;
    }

pub no_place_back : (s : Span Handle) → s.to ≤ s.from → PlaceGives back_of s None s
no_place_back s none =
    let empty = left_empty s none in
    record {
      returned = sym (ap (λ (hs : List Handle). option_map place_of (last hs)) empty);
      rest = empty ∙ sym (ap but_last empty);
      list = refl;
    }
