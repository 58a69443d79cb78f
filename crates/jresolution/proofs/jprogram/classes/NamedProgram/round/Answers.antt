use Rattle.std.proofs.Common.{List, ap, length, arith}
use Rattle.jresolution.specs.declared.jprogram.part.CodePart.{CodePart}
use Rattle.jresolution.proofs.JprogramProofs.ImplementationRows.{round_end, round_next}
use Rattle.jresolution.proofs.jprogram.classes.NamedProgram.round.Goals as goal

pub loop-j-preserved : goal.loop-j-preserved
loop-j-preserved c = round_next c.args.self.now _ c.loop-j.j c.loop-j.rows c.settle.new.rows c.loop-j.invariant c.in_ok-settle.ensures.rows c.in_ok-settle.ensures.kept c.in_ok-settle.ensures.made

pub returns-clause-made : goal.returns-clause-made
returns-clause-made c =
    let size = ap (λ (xs : List CodePart). length xs) c.parts-j-end.ensures.same in
    let le = c.loop-j-test.false in
    round_end c.args.self.now _ c.loop-j.j c.loop-j.rows c.loop-j.invariant (omega (arith, size, le))
