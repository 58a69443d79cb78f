-- The side of a program that was linked and checked.
use Rattle.std.proofs.Common.{◌≡◌, ◌∙◌, Ok, Option, Some, None, ap, sym}
use Rattle.std.specs.Prelude.{List}
use Rattle.jlib.specs.declared.side.Side.{Side}
use Rattle.jresolution.specs.declared.jprogram.fault.LinkFault.{LinkFault}
use Rattle.jresolution.specs.declared.jprogram.part.CodePart.{CodePart}
use Rattle.jresolution.specs.jprogram.ProgramClasses.{Program, program}
use Rattle.jlinking.specs.jlink.LinkedPrograms.{link_fault}
use Rattle.jtasks.specs.jstages.CheckStage.{checked}
use Rattle.jtasks.specs.jstages.LinkStage.{linked, unless_broken}
use Rattle.jtasks.proofs.JtaskProofs.Mains.{checked_is}

broken_is : (p q : Program) (o : Option LinkFault) → unless_broken p o ≡ Ok q → p ≡ q
broken_is p q None e = let x = e in cc
broken_is p q (Some fault) e = absurd (let x = e in cc)

pub linked_is : (p q : Program) → linked p ≡ Ok q → p ≡ q
unfolding linked
linked_is p q e = broken_is p q (link_fault p) e

pub on_side : (side : Side) (parts : List CodePart) (p q : Program) → linked (program side parts) ≡ Ok p → checked p ≡ Ok q → q.side ≡ side
on_side side parts p q first second = ap (λ (x : Program). x.side) (sym (linked_is (program side parts) p first ∙ checked_is p q second))
