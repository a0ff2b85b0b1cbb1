use Rattle.std.proofs.Common.{◌≡◌, refl, ◌∙◌, ap, sym, subst, ◌<◌, List, [], ◌∷◌, ◌++◌, length, arith}
use Rattle.std.specs.Prelude.{IsSome, OnOk, Option, Some, None}
use Rattle.std.specs.Option.{option_map}
use Rattle.sst_entries.specs.Entry.{Entry}
use Rattle.sst_entries.specs.Lending.{entry_of_ref}
use Rattle.sst_entries.specs.Strict.{last_of}
use Rattle.sst_blocks.specs.Handles.{AreStrictHandles}
use Rattle.lsm_writers.specs.section.Kept.{handle_with}
use Rattle.lsm_writers.proofs.Orders.{nothing_is_last, the_last}
use Rattle.lsm_writers.proofs.writer.data_blocks.register_block.Goals as goal

is_read : {X : Type 0} (f : X → Entry) (o : Option X) (es : List Entry)
    → option_map f o ≡ last_of None es → 0 < length es → IsSome o
is_read f None es is some = absurd (omega (arith, some, ap length (nothing_is_last es (sym is))))
is_read f (Some x) es is some = refl

pub unwrap-last-requires : goal.unwrap-last-requires
unwrap-last-requires g c = is_read entry_of_ref c.last.result c.args.entries.now c.last.ensures c.requires.some

pub register_ref-requires : goal.register_ref-requires
register_ref-requires g c =
    let last : last_of None c.args.entries.now ≡ Some (entry_of_ref c.unwrap-last.result) = sym c.last.ensures ∙ ap (option_map entry_of_ref) c.unwrap-last.ensures in
    subst (λ (e : Entry). AreStrictHandles (c.args.index_writer.now.handles ++ handle_with e.user_key e.seqno c.args.block ∷ []))
    (sym (the_last _ _ last)) c.requires.strict

pub returns-clause-ok : goal.returns-clause-ok
returns-clause-ok g c =
    let last : last_of None c.args.entries.now ≡ Some (entry_of_ref c.unwrap-last.result) = sym c.last.ensures ∙ ap (option_map entry_of_ref) c.unwrap-last.ensures in
    subst (λ (e : Entry). OnOk c.register_ref.result (c.register_ref.new.self.handles ≡ c.args.index_writer.now.handles ++ handle_with e.user_key e.seqno c.args.block ∷ []))
    (the_last _ _ last) c.register_ref.ensures.ok
