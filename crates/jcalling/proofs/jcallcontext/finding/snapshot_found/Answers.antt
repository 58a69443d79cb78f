use Rattle.jcalling.proofs.JcallcontextProofs.ContextRequests.{snapshot_is}
use Rattle.jcalling.proofs.JcallcontextProofs.CallOutcomes.{few_of}
use Rattle.jcalling.proofs.jcallcontext.finding.snapshot_found.Goals as goal

pub snapshotting-requires : goal.snapshotting-requires
snapshotting-requires g c = few_of c.args.m.now c.args.count c.requires.calling _ c.in-Some.is

pub returns : goal.returns
returns g c =
    snapshot_is c.args.m.now _ c.args.count c.in-Some.is c.args.call c.snapshot_side-side.result c.snapshotting.result c.snapshot_side-side.ensures c.snapshotting.ensures
