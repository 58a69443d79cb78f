-- The rule by the form of an instruction and the pool of its class, wherever the instruction leads.
use Rattle.std.specs.Prelude.{◌≡◌, ℕ, List, Option, Some, None}
use Rattle.jparts.specs.declared.jpool.entry.Entry.{Entry}
use Rattle.jparts.specs.declared.jcode.op.Placed.{Placed}
use Rattle.jparts.specs.declared.jcode.op.Switch.{Switch}
use Rattle.jparts.specs.declared.jcode.op_form.OpForm.{OpForm}
use Rattle.jparts.specs.declared.jcode.op_form.OpForm.TheVariants as forms
use Rattle.jparts.specs.declared.jcode.op_form.ArrayForm.{ArrayForm}
use Rattle.jparts.specs.declared.jcode.op_form.ArrayForm.TheVariants as arrays
use Rattle.jtypes.specs.TypeFrames.{Frame}
use Rattle.jresolution.specs.jprogram.ProgramClasses.{Program, tree}
use Rattle.jresolution.specs.juses.IndexedInstructions as instructions
use Rattle.jresolution.specs.juses.IndexedInstructions.{Instruction}
use Rattle.jresolution.specs.juses.InstructionMeanings.{Meaning, array_meant, meant}
use Rattle.jtyping.specs.jrule.ArrayRule.{array}
use Rattle.jtyping.specs.jrule.InstructionContext.{Here}
use Rattle.jtyping.specs.jrule.LocalRule.{local}
use Rattle.jtyping.specs.jrule.StackMoveRule.{move}
use Rattle.jtyping.specs.jrule.TypingRule.{rule, used}
use Rattle.jtyping.specs.jrule.BasicRule.{flow, simple}

abbrev pub by_meaning : Program → Here → Option Meaning → Frame → Option Frame
by_meaning p here x f = elim x [ None ↦ None | Some m ↦ used p here m f ]

-- an array of references is made by an entry of the pool
abbrev pub by_array : Program → Here → List Entry → ArrayForm → Frame → Option Frame
by_array p here pool = elim [ arrays.NewRef i ↦ by_meaning p here (array_meant p pool i) | form ↦ array (tree p) here.max_stack form ]

unfoldable pub by_form : {S : Type 0} → Program → Here → List Entry → OpForm S → Frame → Option Frame
by_form p here pool (forms.Simple form) = simple (tree p) here.max_stack form
by_form p here pool (forms.Local form) = local here.max_stack form
by_form p here pool (forms.Stack form) = move here.max_stack form
by_form p here pool (forms.Flow form) = flow (tree p) here.is_init here.returns form
by_form p here pool (forms.Array form) = by_array p here pool form
by_form p here pool (forms.Pool form) = by_meaning p here (meant p pool form)

-- what an instruction does is what its form does
abbrev pub IsByForm : Program → Type 0
IsByForm p = (here : Here) (pool : List Entry) (ops : List Placed) (at : ℕ) (form : OpForm Switch) (i : Instruction) (f : Frame) →
    instructions.by_form p pool ops at form ≡ Some i → rule p here i f ≡ by_form p here pool form f
