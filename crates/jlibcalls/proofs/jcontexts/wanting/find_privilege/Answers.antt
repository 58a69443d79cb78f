use Rattle.std.proofs.Common.{take}
use Rattle.jlibcalls.proofs.JcontextsProofs.PrivilegedCalls.{found_so}
use Rattle.jlibcalls.proofs.jcontexts.wanting.find_privilege.Goals as goal

pub returns-in-Some : goal.returns-in-Some
returns-in-Some g c =
    found_so _ c.args.permissions.now c.args.kept.now c.args.shapes.now c.args.heap.now c.args.side c.args.form
    (take c.args.count c.args.frames.now.newest.operands) c.in-Some.request c.by_request.result c.in-Some.ensures c.by_request.ensures
