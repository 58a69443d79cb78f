use Rattle.jshow.proofs.refusing.show_job.Goals as goal

pub returns : goal.returns
returns g c = rw (← c.from-line.ensures) c.refuse.ensures
