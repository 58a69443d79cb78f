use Rattle.std.proofs.Common.{subst}
use Rattle.jlinking.specs.jlink.LinkedPrograms.{Links}
use Rattle.jserving.proofs.JinvokeProofs.ClassMembership.{no_array}
use Rattle.jserving.proofs.jinvoke.method_lookup.MethodLookup.array_law.Goals as goal

pub returns : goal.returns
returns c = no_array c.args.self.now (subst Links c.self.view_is c.named.ensures.links) c.number_laws.ensures.library
