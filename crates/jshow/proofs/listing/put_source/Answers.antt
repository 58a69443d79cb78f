use Rattle.jshow.proofs.listing.put_source.Goals as goal

pub returns : goal.returns
returns g c = rw (← c.from.ensures, ← c.text-url.ensures.value) c.put_line.ensures
