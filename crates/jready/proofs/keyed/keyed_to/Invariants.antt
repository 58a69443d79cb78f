use Rattle.std.proofs.Common.{◌≡◌, drop, map}
use Rattle.jresolution.specs.juses.InternedInstructions.{keyed_as}
use Rattle.jsemantics.specs.jmachine.BasicInstructions.{case_of}
use Rattle.jready.proofs.keyed.keyed_to.Given as goal

abbrev pub invariant-loop-one : goal.invariant-loop-one
invariant-loop-one l = case_of l.key (map keyed_as (drop l.one-index l.keys)) l.other ≡ case_of l.key (map keyed_as l.keys) l.other
