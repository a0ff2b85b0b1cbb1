use Rattle.std.proofs.Common.{◌≡◌, ◌/◌, ◌%◌, arith, rules, sym, subst, List, ℕ}
use Rattle.atomic_table.specs.Table.{keeps}
use Rattle.sst_blocks.specs.Marks.{Says}
use Rattle.sst_blocks.proofs.MarkLemmas.{marked}
use Rattle.sst_blocks.proofs.marks.Marks.set_word.Goals as goal

pub swap_new_seat-found-requires : goal.swap_new_seat-found-requires
swap_new_seat-found-requires g c =
    let bytes = c.in-Some.words.now.shared.key in
    let key : bytes ≡ c.args.self.now = search rules in
    let said = subst (λ (b : List ℕ). Says b c.args.word) (sym key) c.requires in
    (omega (arith, c.if-at-word_count.true, c.word_count.ensures), λ s h n f. (bytes, keeps, tt, marked bytes c.args.word said s.words (c.args.start / 2048 % 1024) h, tt))
