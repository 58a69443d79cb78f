use Rattle.std.proofs.Common.{◌≤◌, List, length, ap, arith, subst}
use Rattle.std.specs.List.{AllByRecursion}
use Rattle.std.proofs.lemmas.List.{take_all}
use Rattle.jresolution.specs.declared.jprogram.part.CodePart.{CodePart}
use Rattle.jrewriting.proofs.JrewriteProofs.MovedParts.{IsFile, file_at}
use Rattle.jtasks.proofs.jstages.linking.are_classes.Goals as goal

pub returns : goal.returns
returns c =
    let parts = c.args.program.now.parts in
    let all : length parts ≤ c.loop-part.part-index = omega (arith, ap length c.parts-part-items.ensures.same, c.loop-part-test.false) in
    let good = subst (λ (xs : List CodePart). AllByRecursion IsFile xs) (take_all c.loop-part.part-index parts all) c.loop-part.invariant in
    record { parts = c.parts-part-items.ensures.links.parts; files = λ i part at. file_at parts i part good at }
