use Rattle.jverify.proofs.reading.class_at.Goals as goal

pub returns : goal.returns
returns c = c.class_at.ensures c.args.p.now c.requires
