-- What fits what where a machine runs, by what fits as programs are checked.
use Rattle.std.specs.Prelude.{◌≡◌, ℕ, List, true, ⊤}
use Rattle.jtypes.specs.declared.vtype.VType.{VType}
use Rattle.jtypes.specs.declared.vtype.VType.TheVariants as types
use Rattle.jtypes.specs.Assignability as checked
use Rattle.jresolution.specs.jprogram.ProgramClasses.{Program, find, holds, implements, is_interface, tree}
use Rattle.jresolution.specs.jprogram.OrderedPrograms.{StandsInOrder}
use Rattle.jsemantics.specs.jmachine.World.{fits, is_instance, world}

-- a type that values have
abbrev pub IsValueType : VType → Type 0
IsValueType types.Top = ⊥
IsValueType types.UninitThis = ⊥
IsValueType (types.Uninit o) = ⊥
IsValueType t = ⊤

-- What fits, where a machine runs, a type that fits another as programs are checked, fits that one where a machine runs.
abbrev pub FitsAfter : Type 0
FitsAfter = (p : Program) (a b c : VType) → StandsInOrder p → IsValueType a → fits (world p) a b ≡ true → checked.fits (tree p) b c ≡ true
    → fits (world p) a c ≡ true

-- What a class implements is an interface.
abbrev pub ImplementsFaces : Type 0
ImplementsFaces = (p : Program) (c d : List ℕ) → StandsInOrder p → implements p c d ≡ true → holds is_interface (find p d) ≡ true

-- What is one of a type, as casts and stores into arrays ask, fits it.
abbrev pub InstanceFits : Type 0
InstanceFits = (p : Program) (a b : VType) → StandsInOrder p → is_instance (world p) a b ≡ true → fits (world p) a b ≡ true
