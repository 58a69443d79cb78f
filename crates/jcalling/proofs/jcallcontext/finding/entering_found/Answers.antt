use Rattle.jcalling.proofs.JcallcontextProofs.ContextRequests.{entering_is}
use Rattle.jcalling.proofs.JcallcontextProofs.CallOutcomes.{few_of}
use Rattle.jcalling.proofs.jcallcontext.finding.entering_found.Goals as goal

pub find_entering-requires : goal.find_entering-requires
find_entering-requires g c = few_of c.args.m.now c.args.count c.requires _ c.in-Some.is

pub returns : goal.returns
returns g c = entering_is c.args.m.now _ c.args.count c.in-Some.is c.find_entering.result c.find_entering.ensures
