-- The typing rule: the frame behind an instruction, or none where the frame before it doesn't serve (JVMS 4.10.1.9).
use Rattle.std.specs.Prelude.{Bool, ◌&&◌, Option}
use Rattle.std.specs.Str.{bytes_eq}
use Rattle.jtypes.specs.declared.vtype.Name.{Name}
use Rattle.jtypes.specs.TypeFrames.{Frame}
use Rattle.jresolution.specs.declared.jprogram.member.Member.{Member}
use Rattle.jresolution.specs.jprogram.ProgramClasses.{Program, tree}
use Rattle.jresolution.specs.jprogram.MemberResolution.{owner_of}
use Rattle.jresolution.specs.declared.juses.meaning.InvokeKind.{InvokeKind}
use Rattle.jresolution.specs.declared.juses.meaning.InvokeKind.TheVariants as how
use Rattle.jresolution.specs.juses.IndexedInstructions.{Instruction, Simple, Local, Stack, Jump, Switch, Return, Throw, Array, Used}
use Rattle.jresolution.specs.juses.InstructionMeanings as meanings
use Rattle.jresolution.specs.juses.InstructionMeanings.{CallMeaning, Meaning}
use Rattle.jtyping.specs.jrule.ArrayRule.{array}
use Rattle.jtyping.specs.jrule.InstructionContext.{Here}
use Rattle.jtyping.specs.jrule.LocalRule.{local}
use Rattle.jtyping.specs.jrule.StackMoveRule.{move}
use Rattle.jtyping.specs.jrule.ObjectRule.{init, make}
use Rattle.jtyping.specs.jrule.StackOperands.{exchanged}
use Rattle.jtyping.specs.jrule.BasicRule.{jump, leave, simple}
use Rattle.jtyping.specs.ProofNames.{switch, throw}
use Rattle.jtyping.specs.jrule.PoolEffects.{exchange}

-- an `<init>` may write the fields that its class declares before another is called on `this`, whatever class the reference names
abbrev pub is_own : Program → Bool → Name → Member → Bool
is_own p is_init this m = is_init && bytes_eq (owner_of p m) this.0

-- what the table of exchanges says
abbrev pub by_table : Program → Here → Meaning → Frame → Option Frame
by_table p here m = exchanged (tree p) here.max_stack (exchange (is_own p here.is_init here.class) here.class m)

abbrev pub called : Program → Here → InvokeKind → CallMeaning → Frame → Option Frame
called p here x c = elim x [ how.Init ↦ init (tree p) here c | by ↦ by_table p here (meanings.Call by c) ]

abbrev pub used : Program → Here → Meaning → Frame → Option Frame
used p here = elim [ meanings.Call by c ↦ called p here by c | meanings.Make c ↦ make here.max_stack here.at | m ↦ by_table p here m ]

unfoldable pub rule : Program → Here → Instruction → Frame → Option Frame
rule p here (Simple s) f = simple (tree p) here.max_stack s f
rule p here (Local form) f = local here.max_stack form f
rule p here (Stack s) f = move here.max_stack s f
rule p here (Jump test to) f = jump (tree p) test f
rule p here (Switch cases other) f = switch (tree p) f
rule p here (Return kind) f = leave (tree p) here.is_init here.returns kind f
rule p here Throw f = throw (tree p) f
rule p here (Array form) f = array (tree p) here.max_stack form f
rule p here (Used m) f = used p here m f
