-- Further locals behind those of a frame, and more room on the stack.
use Rattle.std.specs.Prelude.{◌≡◌, ℕ, ◌≤◌, Bool, true, false, List, ◌++◌, Some}
use Rattle.std.specs.List.{list_any}
use Rattle.jparts.specs.declared.jpool.entry.Entry.{Entry}
use Rattle.jparts.specs.declared.jcode.op_form.OpForm.{OpForm}
use Rattle.jtypes.specs.declared.vtype.VType.{VType}
use Rattle.jtypes.specs.declared.vtype.VType.TheVariants.{UninitThis, Uninit}
use Rattle.jtypes.specs.TypeFrames.{Frame}
use Rattle.jresolution.specs.jprogram.ProgramClasses.{Program}
use Rattle.jtyping.specs.jrule.FormRules.{by_form}
use Rattle.jtyping.specs.jrule.InstructionContext.{Here}

-- the same place, with so much room on the stack
abbrev pub roomy : ℕ → Here → Here
roomy most h = record {
  class = h.class;
  above = h.above;
  is_init = h.is_init;
  returns = h.returns;
  max_stack = most;
  at = h.at;
  covered = h.covered;
  makes = h.makes;
}

abbrev pub with_more : List VType → Frame → Frame
with_more more f = record { locals = f.locals ++ more; stack = f.stack; flag = f.flag }

-- an object before its `<init>`
abbrev pub is_unready : VType → Bool
is_unready UninitThis = true
is_unready (Uninit o) = true
is_unready a = false

-- Where the rule gives a frame, it gives the same one with further locals, and with as much room on the stack or more. Of the further ones
-- none is an object before its `<init>`: `new` and `<init>` change each copy of such an object, wherever it is.
abbrev pub LooksNoFurther : (S : Type 0) → Program → Type 0
LooksNoFurther S p = (here : Here) (most : ℕ) (pool : List Entry) (form : OpForm S) (f g : Frame) (more : List VType) →
    here.max_stack ≤ most → list_any is_unready more ≡ false →
    by_form p here pool form f ≡ Some g → by_form p (roomy most here) pool form (with_more more f) ≡ Some (with_more more g)
