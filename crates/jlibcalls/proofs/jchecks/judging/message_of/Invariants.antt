use Rattle.std.proofs.Common.{◌≡◌, ◌++◌, drop}
use Rattle.std.specs.List.{flat_map}
use Rattle.jperm.specs.PermissionTexts.{parts}
use Rattle.jsemantics.specs.jmachine.Security.{denial_message}
use Rattle.jlibcalls.proofs.jchecks.judging.message_of.Given as goal

abbrev pub invariant-loop-at : goal.invariant-loop-at
invariant-loop-at l = l.units.items ++ flat_map (λ part. part) (drop l.at (parts l.asked)) ≡ denial_message l.asked
