use Rattle.std.proofs.Common.{◌≤◌, List, length, ap, arith, subst}
use Rattle.std.specs.List.{AllByRecursion}
use Rattle.std.proofs.lemmas.List.{take_all}
use Rattle.jresolution.specs.declared.jprogram.part.CodePart.{CodePart}
use Rattle.jlinking.specs.jlink.ProgramFiles.{IsFile}
use Rattle.jlinking.proofs.JlinkProofs.FittingClassFiles.{file_at}
use Rattle.jlinking.proofs.jlink.files.are_files.Goals as goal

pub returns : goal.returns
returns c i part at =
    let parts = c.args.p.now.parts in
    let all : length parts ≤ c.loop-part.part-index = omega (arith, ap length c.parts-part-items.ensures.same, c.loop-part-test.false) in
    file_at parts i part (subst (λ (xs : List CodePart). AllByRecursion IsFile xs) (take_all c.loop-part.part-index parts all) c.loop-part.invariant) at
