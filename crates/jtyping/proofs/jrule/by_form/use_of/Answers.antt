use Rattle.jtyping.proofs.jrule.by_form.use_of.Goals as goal

pub returns : goal.returns
returns c = c.use_at.ensures c.args.p.now c.requires
