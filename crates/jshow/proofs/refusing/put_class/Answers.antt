use Rattle.jshow.proofs.refusing.put_class.Goals as goal

pub returns-in-None : goal.returns-in-None
returns-in-None g c = rw (← c.from-at.ensures, c.in-None.is) c.refuse.ensures

pub returns-in-Some : goal.returns-in-Some
returns-in-Some g c = rw (← c.from-at.ensures, c.in-Some.is, ← c.from.ensures) c.refuse-in-Some.ensures
