use Rattle.std.specs.Prelude.{[], ◌∷◌}
use Rattle.jsemantics.specs.jmachine.PermissionCalls.{bare, init, made_in}
use Rattle.jruntime.specs.jstate.HeapMeanings.{store_by}
use Rattle.jlibcalls.proofs.JlibraryProofs.ConstructorArguments.{as_row, bare_row, no_object, stuck_row}
use Rattle.jlibcalls.proofs.jlibrary.permissions.bare.Goals as goal

pub returns-in-None-clause-row : goal.returns-in-None-clause-row
returns-in-None-clause-row g c =
    stuck_row (λ s. init s c.args.cwd.now c.args.init (c.args.object ∷ [])) c.args.permissions.now c.args.heap.now
    (λ p shapes things constants. no_object (store_by p shapes things constants c.args.heap.now) c.args.cwd.now c.args.init c.args.object c.in-None.ensures)

pub returns-in-Some-clause-row : goal.returns-in-Some-clause-row
returns-in-Some-clause-row g c =
    as_row c.construct.result (λ s. init s c.args.cwd.now c.args.init (c.args.object ∷ [])) (λ s. made_in s c.args.cwd.now c.args.init (bare c.in-Some.o)) c.args.permissions.now c.construct.new.permissions
    c.args.heap.now c.construct.new.heap (λ p shapes things constants. bare_row (store_by p shapes things constants c.args.heap.now) c.args.cwd.now c.args.init c.args.object c.in-Some.o c.in-Some.ensures)
    c.construct.ensures.row
