use Rattle.std.proofs.Common.{◌<◌, rules}
use Rattle.jruntime.proofs.JstateProofs.ClassNumbers.{librarys_class}
use Rattle.jruntime.proofs.jstate.classes.class_numbered.Goals as goal

pub returns : goal.returns
returns c = let few : c.args.n < 46 = search rules in librarys_class c.args.n _ few
