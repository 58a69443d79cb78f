use Rattle.jtyping.proofs.jrule.by_form.array_use_of.Goals as goal

pub returns : goal.returns
returns c = c.array_use_at.ensures c.args.p.now c.requires
