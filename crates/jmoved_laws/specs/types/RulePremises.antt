-- What the rule asks of a program.
use Rattle.std.specs.Prelude.{◌≡◌}
use Rattle.jtypes.specs.TypeFrames.{Frame}
use Rattle.jresolution.specs.declared.jprogram.member.Member.{Member}
use Rattle.jresolution.specs.jprogram.ProgramClasses.{Program, tree}
use Rattle.jresolution.specs.juses.IndexedInstructions.{Instruction}
use Rattle.jtyping.specs.jrule.InstructionContext.{Here}
use Rattle.jtyping.specs.jrule.TypingRule.{is_own, rule}

-- in both programs the same fields are those that an `<init>` may write before it calls another
abbrev pub SameOwners : Program → Program → Here → Type 0
SameOwners p q here = (m : Member) → is_own q here.is_init here.class m ≡ is_own p here.is_init here.class m

-- Of a program the rule asks which class stands below which, and which class declares a field.
abbrev pub AsksTree : Type 0
AsksTree = (p q : Program) (here : Here) (i : Instruction) (f : Frame) → tree q ≡ tree p → SameOwners p q here → rule q here i f ≡ rule p here i f
