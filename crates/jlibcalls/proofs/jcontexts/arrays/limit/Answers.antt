use Rattle.std.proofs.Common.{◌∙◌, Some, ap, subst, sym}
use Rattle.jruntime.specs.jstate.HeapMeanings.{place_in}
use Rattle.jlibcalls.specs.jcontexts.LimitPermissions.{LimitIs}
use Rattle.jlibcalls.proofs.JcontextsProofs.PrivilegeLimits.{one_limits}
use Rattle.jlibcalls.proofs.jcontexts.arrays.limit.Goals as goal

pub returns-in-Some : goal.returns-in-Some
returns-in-Some c =
    subst (λ v. LimitIs c.args.permissions.now c.args.heap.now v (Some (Some c.in-Some.one.now))) (sym c.in-Ref.is)
    (one_limits c.heap_laws.ensures.each c.args.permissions.now c.args.heap.now c.in-Ref.o c.in-Some.one.now c.if-o-eq0.false
    (c.in-Some.ensures ∙ ap (place_in c.args.permissions.now) c.permission_place.ensures))
