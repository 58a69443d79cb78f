use Rattle.jtyping.proofs.JruleProofs.FormRules.{form_agrees}
use Rattle.jtyping.proofs.jrule.laws.form_law.Goals as goal

pub returns : goal.returns
returns c = form_agrees
