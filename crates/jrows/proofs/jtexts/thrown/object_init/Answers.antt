use Rattle.std.proofs.Common.{[]}
use Rattle.jrows.specs.jtexts.TextCallOutcomes.{leaves}
use Rattle.jrows.specs.declared.jtexts.ran.Ran.TheVariants as rans
use Rattle.jrows.proofs.JtextsProofs.Costs.{at_no_cost}
use Rattle.jrows.proofs.jtexts.thrown.object_init.Goals as goal

pub returns : goal.returns
returns g c s = at_no_cost s s rans.Went [] (leaves rans.Full [] s)
