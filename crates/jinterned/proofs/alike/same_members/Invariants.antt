use Rattle.std.proofs.Common.{◌≡◌, drop}
use Rattle.jperm.specs.Permissions.{equal}
use Rattle.jinterned.specs.InternedContexts.{pairwise}
use Rattle.jinterned.proofs.alike.same_members.Given as goal

abbrev pub invariant-loop-i : goal.invariant-loop-i
invariant-loop-i l = pairwise equal (drop l.i l.a) (drop l.i l.b) ≡ pairwise equal l.a l.b
