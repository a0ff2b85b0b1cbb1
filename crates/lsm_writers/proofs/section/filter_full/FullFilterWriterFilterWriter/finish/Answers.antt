-- One block where there are keys, and nothing without.
use Rattle.std.proofs.Common.{ap, sym, ◌∙◌, ℕ}
use Rattle.std.specs.Prelude.{Ok}
use Rattle.sst_entries.proofs.StreamLemmas.{on_err}
use Rattle.lsm_writers.specs.section.Held.{Hashes}
use Rattle.lsm_writers.proofs.Emptiness.{vec_is_empty}
use Rattle.lsm_writers.proofs.Sections.{full_fault, full_first, full_idle, full_none}
use Rattle.lsm_writers.proofs.Sections.{full_none_fault, full_written}
use Rattle.lsm_writers.proofs.SectionFinishing.{works_first}
use Rattle.lsm_writers.proofs.Behind.{bytes_stay}
use Rattle.lsm_writers.proofs.Sizes.{first_failed, first_none}
use Rattle.lsm_writers.proofs.section.filter_full.FullFilterWriterFilterWriter.finish.Goals as goal
use Rattle.lsm_writers.proofs.Empty.{vec_is_some}

pub returns-then-is_empty-clause-ok : goal.returns-then-is_empty-clause-ok
returns-then-is_empty-clause-ok g c = λ keys h.
    full_none c.args.self keys c.args.writer.now
    (vec_is_empty c.self.inside.bloom_hash_buffer c.args.self.hashes c.is_empty.result (ap (λ (w : Hashes). w.hashes) c.self.view_is) c.is_empty.ensures c.if-is_empty.true) h

pub returns-then-is_empty-clause-refused : goal.returns-then-is_empty-clause-refused
returns-then-is_empty-clause-refused g c = λ keys h.
    full_none_fault c.args.self keys (sym (ap (λ (w : Hashes). w.failed) c.self.view_is) ∙ c.if-self.false)
    (vec_is_empty c.self.inside.bloom_hash_buffer c.args.self.hashes c.is_empty.result (ap (λ (w : Hashes). w.hashes) c.self.view_is) c.is_empty.ensures c.if-is_empty.true) h

pub write_filter-requires-clause-some : goal.write_filter-requires-clause-some
write_filter-requires-clause-some g c = λ none.
    vec_is_some c.self.inside.bloom_hash_buffer c.args.self.hashes c.is_empty.result (ap (λ (w : Hashes). w.hashes) c.self.view_is) c.is_empty.ensures c.if-is_empty.false
    (sym (ap (λ (w : Hashes). w.hashes) c.self.view_is) ∙ none)

pub returns-clause-ok : goal.returns-clause-ok
returns-clause-ok g c =
    full_written c.write_filter.result c.self.inside.bloom_policy c.self.inside.bloom_hash_buffer.items c.args.self c.args.writer.now c.write_filter.new.writer
    (ap (λ (w : Hashes). w.policy) c.self.view_is) (ap (λ (w : Hashes). w.hashes) c.self.view_is) c.write_filter.ensures.ok

pub returns-clause-refused : goal.returns-clause-refused
returns-clause-refused g c = λ keys h.
    full_fault c.write_filter.result c.self.inside.bloom_policy c.self.inside.bloom_hash_buffer.items c.args.self keys
    (ap (λ (w : Hashes). w.policy) c.self.view_is) (ap (λ (w : Hashes). w.hashes) c.self.view_is)
    (vec_is_some c.self.inside.bloom_hash_buffer c.args.self.hashes c.is_empty.result (ap (λ (w : Hashes). w.hashes) c.self.view_is) c.is_empty.ensures c.if-is_empty.false)
    (sym (ap (λ (w : Hashes). w.failed) c.self.view_is) ∙ c.if-self.false) h c.write_filter.ensures.refused

pub returns-clause-idle : goal.returns-clause-idle
returns-clause-idle g c =
    on_err c.write_filter.result
    (full_idle c.args.self
    (vec_is_some c.self.inside.bloom_hash_buffer c.args.self.hashes c.is_empty.result (ap (λ (w : Hashes). w.hashes) c.self.view_is) c.is_empty.ensures c.if-is_empty.false))

pub returns-clause-first : goal.returns-clause-first
returns-clause-first g c = works_first c.write_filter.result c.self.inside.failed c.args.self.failed (ap (λ (w : Hashes). w.failed) c.self.view_is) c.if-self.false

pub returns-clause-before : goal.returns-clause-before
returns-clause-before g c = c.write_filter.ensures.before

pub returns-then-is_empty-clause-first : goal.returns-then-is_empty-clause-first
returns-then-is_empty-clause-first g c = works_first {X = ℕ} (Ok 1) c.self.inside.failed c.args.self.failed (ap (λ (w : Hashes). w.failed) c.self.view_is) c.if-self.false

pub returns-then-is_empty-clause-sized : goal.returns-then-is_empty-clause-sized
returns-then-is_empty-clause-sized g c = λ keys h.
    first_none {X = ℕ} (Ok 1) _
    (full_none_fault c.args.self keys (sym (ap (λ (w : Hashes). w.failed) c.self.view_is) ∙ c.if-self.false)
    (vec_is_empty c.self.inside.bloom_hash_buffer c.args.self.hashes c.is_empty.result (ap (λ (w : Hashes). w.hashes) c.self.view_is) c.is_empty.ensures c.if-is_empty.true) h)

pub returns-clause-sized : goal.returns-clause-sized
returns-clause-sized g c = λ keys h.
    full_first c.write_filter.result c.self.inside.bloom_policy c.self.inside.bloom_hash_buffer.items c.args.self keys
    (ap (λ (w : Hashes). w.policy) c.self.view_is) (ap (λ (w : Hashes). w.hashes) c.self.view_is)
    (vec_is_some c.self.inside.bloom_hash_buffer c.args.self.hashes c.is_empty.result (ap (λ (w : Hashes). w.hashes) c.self.view_is) c.is_empty.ensures c.if-is_empty.false)
    (sym (ap (λ (w : Hashes). w.failed) c.self.view_is) ∙ c.if-self.false) h c.write_filter.ensures.first

pub returns-then-is_empty-clause-before : goal.returns-then-is_empty-clause-before
returns-then-is_empty-clause-before g c = bytes_stay c.args.writer.now

-- a writer that has failed
pub returns-then-self-clause-sized : goal.returns-then-self-clause-sized
returns-then-self-clause-sized g c = λ keys h. first_failed ℕ c.args.self.failed _ (sym (ap (λ (w : Hashes). w.failed) c.self.view_is) ∙ c.if-self.true)

pub returns-then-self-clause-before : goal.returns-then-self-clause-before
returns-then-self-clause-before g c = bytes_stay c.args.writer.now

pub returns-then-self-clause-idle : goal.returns-then-self-clause-idle
returns-then-self-clause-idle g c = λ h. sym (ap (λ (w : Hashes). w.failed) c.self.view_is) ∙ c.if-self.true
