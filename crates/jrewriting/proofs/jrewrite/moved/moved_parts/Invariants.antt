use Rattle.std.proofs.Common.{◌≡◌, drop, map, take}
use Rattle.jground.specs.jbase.FirstFaults.{first_along}
use Rattle.jmoveclass.specs.ClassLimits.{class_limit}
use Rattle.jmoveclass.specs.MovedClasses.{moved_part}
use Rattle.jrewriting.specs.jrewrite.RewrittenPrograms.{at_class, limits, seen_part}
use Rattle.jrewriting.proofs.jrewrite.moved.moved_parts.Given as goal

abbrev pub invariant-loop-i : goal.invariant-loop-i
invariant-loop-i l = record {
  parts : map seen_part l.parts ≡ map (moved_part l.p) (take l.i l.p.parts);
  limits : first_along (λ i part. at_class i (class_limit l.p part.domain part.class)) l.i (drop l.i l.p.parts) ≡ limits l.p;
}
