use Rattle.std.proofs.Common.{◌≡◌}
use Rattle.jlib.specs.declared.calls.LibCall.TheVariants as calls
use Rattle.jlib.specs.declared.calls.RtCall.TheVariants as rt
use Rattle.jforms.proofs.jengine.advancing.call_library.Goals as goal

pub call_check-requires-clause-check : goal.call_check-requires-clause-check
call_check-requires-clause-check g c = rw c.in-Check.is at c.asking_of.ensures

pub call_snapshot-requires-clause-call : goal.call_snapshot-requires-clause-call
call_snapshot-requires-clause-call g c = rw c.in-Snapshot.is at c.asking_of.ensures

pub call_privileged-requires-clause-call : goal.call_privileged-requires-clause-call
call_privileged-requires-clause-call g c = rw c.in-Privileged.is at c.asking_of.ensures

pub call_silent-requires-clause-free : goal.call_silent-requires-clause-free
call_silent-requires-clause-free g c = rw c.in-Nothing.is at c.asking_of.ensures

-- call_kept_check

pub call_kept_check-requires-clause-known : goal.call_kept_check-requires-clause-known
call_kept_check-requires-clause-known g c =
    let is : c.args.call ≡ calls.ContextCheck = rw c.in-ContextCheck.is at c.asking_of.ensures in
    rw is at c.requires.known

pub returns-in-ContextCheck-clause-answered : goal.returns-in-ContextCheck-clause-answered
returns-in-ContextCheck-clause-answered g c =
    let is : c.args.call ≡ calls.ContextCheck = rw c.in-ContextCheck.is at c.asking_of.ensures in
    rw is c.call_kept_check.ensures.answered

pub returns-in-ContextCheck-clause-quiet : goal.returns-in-ContextCheck-clause-quiet
returns-in-ContextCheck-clause-quiet g c =
    let is : c.args.call ≡ calls.ContextCheck = rw c.in-ContextCheck.is at c.asking_of.ensures in
    rw is c.call_kept_check.ensures.quiet

pub returns-in-ContextCheck-clause-once : goal.returns-in-ContextCheck-clause-once
returns-in-ContextCheck-clause-once g c =
    let is : c.args.call ≡ calls.ContextCheck = rw c.in-ContextCheck.is at c.asking_of.ensures in
    rw is c.call_kept_check.ensures.once

-- call_enter

pub call_enter-requires-clause-known : goal.call_enter-requires-clause-known
call_enter-requires-clause-known g c =
    let is : c.args.call ≡ calls.Rt rt.Enter = rw c.in-Enter.is at c.asking_of.ensures in
    rw is at c.requires.known

pub returns-in-Enter-clause-answered : goal.returns-in-Enter-clause-answered
returns-in-Enter-clause-answered g c =
    let is : c.args.call ≡ calls.Rt rt.Enter = rw c.in-Enter.is at c.asking_of.ensures in
    rw is c.call_enter.ensures.answered

pub returns-in-Enter-clause-quiet : goal.returns-in-Enter-clause-quiet
returns-in-Enter-clause-quiet g c =
    let is : c.args.call ≡ calls.Rt rt.Enter = rw c.in-Enter.is at c.asking_of.ensures in
    rw is c.call_enter.ensures.quiet

pub returns-in-Enter-clause-once : goal.returns-in-Enter-clause-once
returns-in-Enter-clause-once g c =
    let is : c.args.call ≡ calls.Rt rt.Enter = rw c.in-Enter.is at c.asking_of.ensures in
    rw is c.call_enter.ensures.once

-- call_thread

pub call_thread-requires-clause-known : goal.call_thread-requires-clause-known
call_thread-requires-clause-known g c =
    let is : c.args.call ≡ calls.Thread c.in-Thread.c = rw c.in-Thread.is at c.asking_of.ensures in
    rw is at c.requires.known

pub returns-in-Thread-clause-answered : goal.returns-in-Thread-clause-answered
returns-in-Thread-clause-answered g c =
    let is : c.args.call ≡ calls.Thread c.in-Thread.c = rw c.in-Thread.is at c.asking_of.ensures in
    rw is c.call_thread.ensures.answered

pub returns-in-Thread-clause-quiet : goal.returns-in-Thread-clause-quiet
returns-in-Thread-clause-quiet g c =
    let is : c.args.call ≡ calls.Thread c.in-Thread.c = rw c.in-Thread.is at c.asking_of.ensures in
    rw is c.call_thread.ensures.quiet

pub returns-in-Thread-clause-once : goal.returns-in-Thread-clause-once
returns-in-Thread-clause-once g c =
    let is : c.args.call ≡ calls.Thread c.in-Thread.c = rw c.in-Thread.is at c.asking_of.ensures in
    rw is c.call_thread.ensures.once
