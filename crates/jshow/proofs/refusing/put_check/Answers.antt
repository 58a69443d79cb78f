use Rattle.jshow.proofs.refusing.put_check.Goals as goal

pub returns : goal.returns
returns g c = rw (← c.from-at.ensures) c.refuse.ensures
