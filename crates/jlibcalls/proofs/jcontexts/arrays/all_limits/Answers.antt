use Rattle.std.proofs.Common.{Some, None, arith, refl, subst}
use Rattle.jlibcalls.specs.jcontexts.LimitPermissions.{LimitIs}
use Rattle.jlibcalls.proofs.JcontextsProofs.PrivilegeLimits.{at_last, found_none, found_null, found_one}
use Rattle.jlibcalls.proofs.jcontexts.arrays.all_limits.Goals as goal

pub returns-in-Stuck : goal.returns-in-Stuck
returns-in-Stuck c =
    found_none c.args.permissions.now c.args.heap.now c.args.of c.args.o c.loop-i.limits c.loop-i.i (omega (arith, c.loop-i-test.true, c.len-i-end.ensures)) c.loop-i.invariant
    (subst (λ v. LimitIs c.args.permissions.now c.args.heap.now v None) c.cell.ensures c.in-Stuck.ensures)

pub returns-in-Null : goal.returns-in-Null
returns-in-Null c =
    found_null c.args.permissions.now c.args.heap.now c.args.of c.args.o c.loop-i.limits c.loop-i.i (omega (arith, c.loop-i-test.true, c.len-i-end.ensures)) c.loop-i.invariant
    (subst (λ v. LimitIs c.args.permissions.now c.args.heap.now v (Some None)) c.cell.ensures c.in-Null.ensures)

pub loop-i-preserved : goal.loop-i-preserved
loop-i-preserved c =
    found_one c.args.permissions.now c.args.heap.now c.args.of c.args.o c.loop-i.limits c.add.new.limits c.loop-i.i _ c.in-One.one.now
    (omega (arith, c.loop-i-test.true, c.len-i-end.ensures)) refl c.in_ok-add-in-One.ensures c.loop-i.invariant
    (subst (λ v. LimitIs c.args.permissions.now c.args.heap.now v (Some (Some c.in-One.one.now))) c.cell.ensures c.in-One.ensures)

pub returns : goal.returns
returns c =
    at_last c.args.permissions.now c.args.heap.now c.args.of c.args.o c.loop-i.limits c.loop-i.i (omega (arith, c.loop-i-test.false, c.len-i-end.ensures)) c.loop-i.invariant
