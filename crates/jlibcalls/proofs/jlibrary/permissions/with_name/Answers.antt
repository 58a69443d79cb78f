use Rattle.std.proofs.Common.{sym}
use Rattle.std.specs.Prelude.{take}
use Rattle.jsemantics.specs.jmachine.PermissionCalls.{init}
use Rattle.jruntime.specs.jstate.HeapMeanings.{store_by}
use Rattle.jlibcalls.proofs.JlibraryProofs.ConstructorArguments.{not_given, stuck_row}
use Rattle.jlibcalls.proofs.jlibrary.permissions.with_name.Goals as goal

pub returns-in-None-three-clause-row : goal.returns-in-None-three-clause-row
returns-in-None-three-clause-row g c =
    stuck_row (λ s. init s c.args.cwd.now c.args.init (take c.args.count c.args.frames.now.newest.operands)) c.args.permissions.now c.args.heap.now
    (λ p shapes things constants. not_given (store_by p shapes things constants c.args.heap.now) c.args.cwd.now c.args.init (take c.args.count c.args.frames.now.newest.operands) (sym c.requires.more) c.in-None.ensures c.in-None-three.ensures)
