use Rattle.lsm_writers.proofs.multi_writer.MultiWriter.stays_writing.Goals as goal

pub returns : goal.returns
returns g c = rw (← c.self.view_is) (λ works. record { works = works; goes_on = c.self.invariant.1 works })
