-- What calls come to in a program and in the moved one.
use Rattle.std.proofs.Common.{◌≡◌, None}
use Rattle.jresolution.specs.jprogram.ProgramClasses.{Program}
use Rattle.jtyping.specs.jwelltyped.VerifierTests.{WellTyped}
use Rattle.jrewriting.specs.jrewrite.LinkageLaws.{IsLinked}
use Rattle.jrewriting.specs.jrewrite.RewrittenPrograms.{limits, moved}
use Rattle.jrewriting.proofs.JrewriteProofs.MemberPhase.{all_moving}
use Rattle.jrewriting.proofs.JrewriteProofs.PlainPrograms.{is_plain}
use Rattle.jsimulation_laws.specs.relation.ProgramRelation.{SameCalls}
use Rattle.jmoved_laws.proofs.NamesProofs.AccessMethods.{asks_so, controller_itself, rt_itself}
use Rattle.jmoved_laws.proofs.NamesProofs.CallOutcomes.{call_alone, call_handed, call_to_alone, call_to_handed}
use Rattle.jmoved_laws.proofs.NamesProofs.Classes.{ordered}
use Rattle.jmoved_laws.proofs.NamesProofs.RunMethods.{actions_so, runs_so}

pub calls_stay : (p : Program) → IsLinked p → WellTyped p → limits p ≡ None → SameCalls p (moved p)
calls_stay p linked well few =
    let is = is_plain p linked in
    let all = all_moving p linked well few in
    record {
      handed = λ m at s by c operands t k calling w. call_handed p linked well few m at s by c operands t calling k w;
      to_handed = λ m at s by c operands t to calling w e. call_to_handed p linked well few m at s by c operands t calling w to e;
      alone = λ m at s by c operands t calling w. call_alone p linked well few m at s by c operands t calling w;
      to_alone = λ m at s by c operands t to calling w e. call_to_alone p linked well few m at s by c operands t calling w to e;
      asks = asks_so p linked;
      controller = controller_itself p;
      rt = rt_itself (moved p);
      actions = λ full x. actions_so p is (ordered p is) linked.links all full x;
      runs = λ full x. runs_so p is (ordered p is) linked.links all full x;
    }
