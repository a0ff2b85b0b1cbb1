use Rattle.test_support.proofs.lent.lists.lent_list.Goals as goal

pub returns : goal.returns
returns c = record { can = record { at = λ ends rs t runs. (tt, tt) } }
