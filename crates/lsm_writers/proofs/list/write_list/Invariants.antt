use Rattle.std.proofs.Common.{◌≡◌, [], ◌++◌}
use Rattle.sst_blocks.specs.table.Options.{default_options, label_of}
use Rattle.lsm_writers.specs.Writing.{list_fault, spills_of, written, writing_fault}
use Rattle.lsm_writers.proofs.list.write_list.Given as goal

abbrev pub invariant-loop-item : goal.invariant-loop-item
invariant-loop-item g l = record {
  label : l.writer.label ≡ label_of l.id l.initial_level l.fn.created_at;
  options : l.writer.options ≡ default_options;
  spills : spills_of l.writer ≡ [];
  listed : written l.writer ≡ l.yielded;
  fault : list_fault (label_of l.id l.initial_level l.fn.created_at) l.fn.items.items
      ≡ writing_fault l.writer l.item-iterator.rest.items;
  whole : l.fn.items.items ≡ l.yielded ++ l.item-iterator.rest.items;
}
