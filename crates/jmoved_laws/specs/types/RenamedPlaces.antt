-- Frames whose `new`s stand at other places.
use Rattle.std.specs.Prelude.{◌≡◌, ◌==◌, ℕ, List, map, Option, Some, option_map}
use Rattle.jparts.specs.declared.jpool.entry.Entry.{Entry}
use Rattle.jparts.specs.declared.jcode.op_form.OpForm.{OpForm}
use Rattle.jtypes.specs.declared.vtype.Name.{Name}
use Rattle.jtypes.specs.declared.vtype.VType.{VType}
use Rattle.jtypes.specs.declared.vtype.VType.TheVariants.{Uninit}
use Rattle.jtypes.specs.TypeFrames.{Frame}
use Rattle.jresolution.specs.jprogram.ProgramClasses.{Program}
use Rattle.jtyping.specs.jrule.FormRules.{by_form}
use Rattle.jtyping.specs.jrule.InstructionContext.{Here}

-- ---- what frames name

-- a type whose `new` stands where its old place went
abbrev pub renamed_type : (ℕ → ℕ) → VType → VType
renamed_type to (Uninit o) = Uninit (to o)
renamed_type to a = a

abbrev pub renamed : (ℕ → ℕ) → Frame → Frame
renamed to f = record { locals = map (renamed_type to) f.locals; stack = map (renamed_type to) f.stack; flag = f.flag }

-- no other place went where this one did
abbrev pub IsApart : (ℕ → ℕ) → ℕ → Type 0
IsApart to at = (o : ℕ) → (to o == to at) ≡ (o == at)

-- ---- where instructions stand

-- What the `new`s of a method make, by their old places and by those where they went.
pub record Renames (to : ℕ → ℕ) (old new : ℕ → Option Name) : Type 0 where
  pub stays : (o : ℕ) → new (to o) ≡ old o
  pub apart : (o : ℕ) (c : Name) → old o ≡ Some c → IsApart to o

-- the place of an instruction that went elsewhere, among `new`s that make these
abbrev pub gone : (ℕ → ℕ) → (ℕ → Option Name) → Here → Here
gone to makes h = record {
  class = h.class;
  above = h.above;
  is_init = h.is_init;
  returns = h.returns;
  max_stack = h.max_stack;
  at = to h.at;
  covered = h.covered;
  makes = makes;
}

-- ---- a law

-- Where all instructions of a method go elsewhere the rule gives the same frames, whose `new`s went with them.
abbrev pub GoesAlong : (S : Type 0) → Program → Type 0
GoesAlong S p = (to : ℕ → ℕ) (makes : ℕ → Option Name) (here : Here) (pool : List Entry) (form : OpForm S) (f : Frame)
    → Renames to here.makes makes → IsApart to here.at
    → by_form p (gone to makes here) pool form (renamed to f) ≡ option_map (renamed to) (by_form p here pool form f)
