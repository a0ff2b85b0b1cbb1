use Rattle.std.proofs.Common.{◌≡◌, length, rules, arith, ap}
use Rattle.std.proofs.lemmas.List.{take_rest}
use Rattle.sst_blocks.specs.Fnv.{fnv_basis}
use Rattle.sst_blocks.specs.Sections.{Written, finished, trailer}
use Rattle.sst_blocks.proofs.FnvLemmas.{fnv_from-grown}
use Rattle.sst_blocks.proofs.SectionLaws.{finished_reads}
use Rattle.sst_blocks.proofs.section.SectionWriter.finish.Goals as goal

pub returns-clause-checksum : goal.returns-clause-checksum
returns-clause-checksum g c =
    let xs = c.self.inside.bytes.items in
    let ys = c.put_trailer.new.bytes.items in
    let same : xs ≡ c.args.self.bytes = ap (λ (w : Written). w.bytes) c.self.view_is in
    let written : ys ≡ finished c.args.self = search rules in
    let rest = take_rest ys c.self.inside.hashed in
    let whole = fnv_from-grown fnv_basis c.self.inside.hashed c.args.self.bytes (trailer c.args.self) (omega (arith, ap length same)) in
    let hashed = c.self.invariant.1 in
    let last : c.from.result ≡ c.update.new.self.0 = search rules in
    cc (c.update.ensures, c.deref-2.ensures.value)

pub returns-clause-reads : goal.returns-clause-reads
returns-clause-reads g c =
    let w : Written = record { bytes = c.self.inside.bytes.items; started = c.self.inside.started.items } in
    let reads = finished_reads w (omega arith) c.self.invariant.2 in
    search rules
