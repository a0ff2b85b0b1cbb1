use denote.Ref.{Bor}
use Rattle.std.proofs.Common.{ℕ, List, refl, subst, sym}
use Rattle.std.specs.Prelude.{IfOk}
use Rattle.lsm_files.specs.Reads.{AreKnown}
use Rattle.sst_tool.specs.lines.Escapes.{WordMeans}
use Rattle.sst_tool.specs.show.Gets.{GetsFrom}
use Rattle.sst_tool.specs.declared.show.gets.GetOptions.{GetOptions}
use Rattle.sst.specs.Showing.{DoesGet}
use Rattle.sst.proofs.Named.{on_each}
use Rattle.sst.proofs.show.get.Goals as goal

pub returns : goal.returns
returns g c =
    let task = c.args.task.now in
    let content = g.P.Place.content c.args.place.now in
    let reads = g.P.File.ReadAt.reads in
    let options : GetOptions = record {
      key = c.as_slice.result;
      at = task.at;
      loads = task.loads;
      format = c.format_of.result;
    } in
    on_each c.get.result (AreKnown reads) (GetsFrom options content task.files.items)
    (DoesGet reads task content)
    (subst (λ (paths : List (Bor (List ℕ))). AreKnown reads
    → IfOk c.get.result (GetsFrom options content paths)) c.as_slice-2.ensures.value
    c.get.ensures.returned)
    (λ there returned. record {
      options = options;
      asked = record {
        key = subst (λ (key : List ℕ). WordMeans task.key.now key) (sym c.as_slice.ensures.value)
            c.in_ok-key.ensures;
        at = refl;
        loads = refl;
        format = c.format_of.ensures;
      };
      returned = returned;
    })
