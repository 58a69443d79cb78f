use Rattle.std.specs.Prelude.{[], take}
use Rattle.jlib.specs.declared.calls.LibCall.TheVariants as calls
use Rattle.jlib.specs.declared.calls.ThrownInit.TheVariants as given
use Rattle.jsemantics.specs.ProofNames.{object_init}
use Rattle.jsemantics.specs.jmachine.TextCalls.{builder, print, print_end, string}
use Rattle.jsemantics.specs.jmachine.Throwables.{init, message}
use Rattle.jruntime.specs.jstate.HeapMeanings.{store_by}
use Rattle.jlibcalls.proofs.JlibraryProofs.Calls.{if_call, is_builder, is_denial, is_line, is_message, is_object, is_print, is_string, is_thrown, no_call, permission_call, quiet_call}
use Rattle.jlibcalls.proofs.JlibraryProofs.PermissionHolders.{has_holder}
use Rattle.jlibcalls.proofs.JlibraryProofs.PermissionlessCalls.{as_call, keeps}
use Rattle.jlibcalls.proofs.jlibrary.rows.row.Goals as goal

pub permission_init-requires-clause-cell : goal.permission_init-requires-clause-cell
permission_init-requires-clause-cell g c =
    has_holder c.celled_laws.ensures.has c.args.fixed.now.shapes.now c.args.heap.now c.requires.celled

pub returns-in-ObjectInit-clause-row : goal.returns-in-ObjectInit-clause-row
returns-in-ObjectInit-clause-row g c =
    rw c.in-ObjectInit.is
    (quiet_call c.args.fixed.now.shapes.now c.args.fixed.now.cwd.now c.args.fixed.now.thread calls.ObjectInit (take c.args.count c.args.frames.now.newest.operands) c.args.permissions.now c.args.heap.now c.quiet.result c.args.heap.now (λ s. object_init s (take c.args.count c.args.frames.now.newest.operands)) c.object.result c.quiet.ensures.ran c.quiet.ensures.told
    (is_object _ c.args.fixed.now.cwd.now c.args.fixed.now.thread (take c.args.count c.args.frames.now.newest.operands)) (λ p things constants. c.object.ensures (store_by p c.args.fixed.now.shapes.now things constants c.args.heap.now)))

pub returns-in-ThrownInit-clause-row : goal.returns-in-ThrownInit-clause-row
returns-in-ThrownInit-clause-row g c =
    rw c.in-ThrownInit.is
    (quiet_call c.args.fixed.now.shapes.now c.args.fixed.now.cwd.now c.args.fixed.now.thread (calls.ThrownInit c.in-ThrownInit.field-0 c.in-ThrownInit.how) (take c.args.count c.args.frames.now.newest.operands) c.args.permissions.now c.args.heap.now c.quiet-in-ThrownInit.result c.thrown_init.new.heap (λ s. init s c.in-ThrownInit.how (take c.args.count c.args.frames.now.newest.operands)) c.thrown_init.result c.quiet-in-ThrownInit.ensures.ran c.quiet-in-ThrownInit.ensures.told
    (is_thrown _ c.args.fixed.now.cwd.now c.args.fixed.now.thread (take c.args.count c.args.frames.now.newest.operands) c.in-ThrownInit.field-0 c.in-ThrownInit.how) c.thrown_init.ensures.row)

pub returns-in-ThrownInit-clause-held : goal.returns-in-ThrownInit-clause-held
returns-in-ThrownInit-clause-held g c p =
    keeps p c.args.fixed.now.shapes.now (λ s. init s c.in-ThrownInit.how (take c.args.count c.args.frames.now.newest.operands)) c.args.heap.now c.thrown_init.new.heap c.thrown_init.result [] c.args.permissions.now c.thrown_init.ensures.row

pub returns-in-AccessControlInit-clause-row : goal.returns-in-AccessControlInit-clause-row
returns-in-AccessControlInit-clause-row g c =
    rw c.in-AccessControlInit.is
    (quiet_call c.args.fixed.now.shapes.now c.args.fixed.now.cwd.now c.args.fixed.now.thread calls.AccessControlInit (take c.args.count c.args.frames.now.newest.operands) c.args.permissions.now c.args.heap.now c.quiet-in-AccessControlInit.result c.told.new.heap (λ s. init s given.Message (take c.args.count c.args.frames.now.newest.operands)) c.told.result c.quiet-in-AccessControlInit.ensures.ran c.quiet-in-AccessControlInit.ensures.told
    (is_denial _ c.args.fixed.now.cwd.now c.args.fixed.now.thread (take c.args.count c.args.frames.now.newest.operands)) c.told.ensures.row)

pub returns-in-AccessControlInit-clause-held : goal.returns-in-AccessControlInit-clause-held
returns-in-AccessControlInit-clause-held g c p =
    keeps p c.args.fixed.now.shapes.now (λ s. init s given.Message (take c.args.count c.args.frames.now.newest.operands)) c.args.heap.now c.told.new.heap c.told.result [] c.args.permissions.now c.told.ensures.row

pub returns-in-GetMessage-clause-row : goal.returns-in-GetMessage-clause-row
returns-in-GetMessage-clause-row g c =
    rw c.in-GetMessage.is
    (quiet_call c.args.fixed.now.shapes.now c.args.fixed.now.cwd.now c.args.fixed.now.thread calls.GetMessage (take c.args.count c.args.frames.now.newest.operands) c.args.permissions.now c.args.heap.now c.quiet-in-GetMessage.result c.args.heap.now (λ s. message s (take c.args.count c.args.frames.now.newest.operands)) c.get_message.result c.quiet-in-GetMessage.ensures.ran c.quiet-in-GetMessage.ensures.told
    (is_message _ c.args.fixed.now.cwd.now c.args.fixed.now.thread (take c.args.count c.args.frames.now.newest.operands)) c.get_message.ensures)

pub returns-in_ok-ran-in-String-clause-row : goal.returns-in_ok-ran-in-String-clause-row
returns-in_ok-ran-in-String-clause-row g c =
    rw c.in-String.is
    (quiet_call c.args.fixed.now.shapes.now c.args.fixed.now.cwd.now c.args.fixed.now.thread (calls.String c.in-String.call) (take c.args.count c.args.frames.now.newest.operands) c.args.permissions.now c.args.heap.now c.quiet-in-String.result c.string.new.heap (λ s. string s c.in-String.call (take c.args.count c.args.frames.now.newest.operands)) c.in_ok-ran-in-String.ran c.quiet-in-String.ensures.ran c.quiet-in-String.ensures.told
    (is_string _ c.args.fixed.now.cwd.now c.args.fixed.now.thread (take c.args.count c.args.frames.now.newest.operands) c.in-String.call) (c.in_ok-ran-in-String.ensures.row c.args.fixed.now.shapes.now))

pub returns-in_ok-ran-in-String-clause-held : goal.returns-in_ok-ran-in-String-clause-held
returns-in_ok-ran-in-String-clause-held g c p =
    keeps p c.args.fixed.now.shapes.now (λ s. string s c.in-String.call (take c.args.count c.args.frames.now.newest.operands)) c.args.heap.now c.string.new.heap c.in_ok-ran-in-String.ran [] c.args.permissions.now (c.in_ok-ran-in-String.ensures.row c.args.fixed.now.shapes.now)

pub returns-in_ok-ran-in-Builder-clause-row : goal.returns-in_ok-ran-in-Builder-clause-row
returns-in_ok-ran-in-Builder-clause-row g c =
    rw c.in-Builder.is
    (quiet_call c.args.fixed.now.shapes.now c.args.fixed.now.cwd.now c.args.fixed.now.thread (calls.Builder c.in-Builder.call) (take c.args.count c.args.frames.now.newest.operands) c.args.permissions.now c.args.heap.now c.quiet-in-Builder.result c.builder.new.heap (λ s. builder s c.in-Builder.call (take c.args.count c.args.frames.now.newest.operands)) c.in_ok-ran-in-Builder.ran c.quiet-in-Builder.ensures.ran c.quiet-in-Builder.ensures.told
    (is_builder _ c.args.fixed.now.cwd.now c.args.fixed.now.thread (take c.args.count c.args.frames.now.newest.operands) c.in-Builder.call) (c.in_ok-ran-in-Builder.ensures.row c.args.fixed.now.shapes.now))

pub returns-in_ok-ran-in-Builder-clause-held : goal.returns-in_ok-ran-in-Builder-clause-held
returns-in_ok-ran-in-Builder-clause-held g c p =
    keeps p c.args.fixed.now.shapes.now (λ s. builder s c.in-Builder.call (take c.args.count c.args.frames.now.newest.operands)) c.args.heap.now c.builder.new.heap c.in_ok-ran-in-Builder.ran [] c.args.permissions.now (c.in_ok-ran-in-Builder.ensures.row c.args.fixed.now.shapes.now)

pub returns-in_ok-ran-in-PermissionInit-clause-row : goal.returns-in_ok-ran-in-PermissionInit-clause-row
returns-in_ok-ran-in-PermissionInit-clause-row g c =
    rw c.in-PermissionInit.is
    (permission_call _ c.args.fixed.now.shapes.now c.args.fixed.now.cwd.now c.args.fixed.now.thread c.in-PermissionInit.init (take c.args.count c.args.frames.now.newest.operands) c.args.permissions.now c.permission_init.new.permissions c.args.heap.now c.permission_init.new.heap c.quiet-in-PermissionInit.result c.in_ok-ran-in-PermissionInit.ran
    c.quiet-in-PermissionInit.ensures.ran c.quiet-in-PermissionInit.ensures.told c.in_ok-ran-in-PermissionInit.ensures.row)

pub returns-in-PrintEnd-clause-row : goal.returns-in-PrintEnd-clause-row
returns-in-PrintEnd-clause-row g c =
    rw c.in-PrintEnd.is
    (as_call c.args.fixed.now.shapes.now c.args.fixed.now.cwd.now c.args.fixed.now.thread calls.PrintEnd (take c.args.count c.args.frames.now.newest.operands) c.args.permissions.now c.args.heap.now c.print_nothing.result c.args.heap.now (λ s. print_end s c.args.fixed.now.thread (take c.args.count c.args.frames.now.newest.operands)) (is_line _ c.args.fixed.now.cwd.now c.args.fixed.now.thread (take c.args.count c.args.frames.now.newest.operands))
    (λ p things constants. c.print_nothing.ensures (store_by p c.args.fixed.now.shapes.now things constants c.args.heap.now)))

pub returns-in-Print-clause-row : goal.returns-in-Print-clause-row
returns-in-Print-clause-row g c =
    rw c.in-Print.is
    (if_call c.print_value.result c.args.fixed.now.shapes.now c.args.fixed.now.cwd.now c.args.fixed.now.thread (calls.Print c.in-Print.piece) (take c.args.count c.args.frames.now.newest.operands) c.args.permissions.now c.args.heap.now (λ s. print s c.args.fixed.now.thread c.in-Print.piece (take c.args.count c.args.frames.now.newest.operands)) (is_print _ c.args.fixed.now.cwd.now c.args.fixed.now.thread (take c.args.count c.args.frames.now.newest.operands) c.in-Print.piece)
    c.print_value.ensures)

pub returns-in-Out-clause-row : goal.returns-in-Out-clause-row
returns-in-Out-clause-row g c =
    rw c.in-Out.is (no_call _ c.args.fixed.now.shapes.now c.args.fixed.now.cwd.now c.args.fixed.now.thread calls.Out (take c.args.count c.args.frames.now.newest.operands) c.args.permissions.now c.args.heap.now c.quiet-in-Out.result tt c.quiet-in-Out.ensures.ran c.quiet-in-Out.ensures.told)

pub returns-in-Run-clause-row : goal.returns-in-Run-clause-row
returns-in-Run-clause-row g c =
    rw c.in-Run.is (no_call _ c.args.fixed.now.shapes.now c.args.fixed.now.cwd.now c.args.fixed.now.thread (calls.Run c.in-Run.field-0) (take c.args.count c.args.frames.now.newest.operands) c.args.permissions.now c.args.heap.now c.quiet-in-Run.result tt c.quiet-in-Run.ensures.ran c.quiet-in-Run.ensures.told)

pub returns-in-RunAction-clause-row : goal.returns-in-RunAction-clause-row
returns-in-RunAction-clause-row g c =
    rw c.in-RunAction.is (no_call _ c.args.fixed.now.shapes.now c.args.fixed.now.cwd.now c.args.fixed.now.thread (calls.RunAction c.in-RunAction.field-0) (take c.args.count c.args.frames.now.newest.operands) c.args.permissions.now c.args.heap.now c.quiet-in-RunAction.result tt c.quiet-in-RunAction.ensures.ran c.quiet-in-RunAction.ensures.told)

pub returns-in-Thread-clause-row : goal.returns-in-Thread-clause-row
returns-in-Thread-clause-row g c =
    rw c.in-Thread.is (no_call _ c.args.fixed.now.shapes.now c.args.fixed.now.cwd.now c.args.fixed.now.thread (calls.Thread c.in-Thread.field-0) (take c.args.count c.args.frames.now.newest.operands) c.args.permissions.now c.args.heap.now c.quiet-in-Thread.result tt c.quiet-in-Thread.ensures.ran c.quiet-in-Thread.ensures.told)

pub returns-in-Controller-clause-row : goal.returns-in-Controller-clause-row
returns-in-Controller-clause-row g c =
    rw c.in-Controller.is (no_call _ c.args.fixed.now.shapes.now c.args.fixed.now.cwd.now c.args.fixed.now.thread (calls.Controller c.in-Controller.field-0) (take c.args.count c.args.frames.now.newest.operands) c.args.permissions.now c.args.heap.now c.quiet-in-Controller.result tt c.quiet-in-Controller.ensures.ran c.quiet-in-Controller.ensures.told)

pub returns-in-ContextCheck-clause-row : goal.returns-in-ContextCheck-clause-row
returns-in-ContextCheck-clause-row g c =
    rw c.in-ContextCheck.is (no_call _ c.args.fixed.now.shapes.now c.args.fixed.now.cwd.now c.args.fixed.now.thread calls.ContextCheck (take c.args.count c.args.frames.now.newest.operands) c.args.permissions.now c.args.heap.now c.quiet-in-ContextCheck.result tt c.quiet-in-ContextCheck.ensures.ran c.quiet-in-ContextCheck.ensures.told)

pub returns-in-Rt-clause-row : goal.returns-in-Rt-clause-row
returns-in-Rt-clause-row g c =
    rw c.in-Rt.is (no_call _ c.args.fixed.now.shapes.now c.args.fixed.now.cwd.now c.args.fixed.now.thread (calls.Rt c.in-Rt.field-0) (take c.args.count c.args.frames.now.newest.operands) c.args.permissions.now c.args.heap.now c.quiet-in-Rt.result tt c.quiet-in-Rt.ensures.ran c.quiet-in-Rt.ensures.told)
