use Rattle.std.proofs.Common.{sym}
use Rattle.jcalling.proofs.JcallcontextProofs.ContextRequests.{privilege_is}
use Rattle.jcalling.proofs.JcallcontextProofs.CallOutcomes.{few_of}
use Rattle.jcalling.proofs.jcallcontext.finding.privilege_found.Goals as goal

pub find_privilege-requires : goal.find_privilege-requires
find_privilege-requires g c = few_of c.args.m.now c.args.count c.requires.calling _ c.in-Some.is

pub returns : goal.returns
returns g c =
    privilege_is c.args.m.now _ c.args.count c.in-Some.is c.args.call c.form_of-side.result.0 c.form_of-side.result.1 c.in_ok-found-in-Some.found
    c.as_slice-permissions.result.now c.as_slice-kept.result.now c.form_of-side.ensures (sym c.as_slice-permissions.ensures) (sym c.as_slice-kept.ensures) c.in_ok-found-in-Some.ensures
