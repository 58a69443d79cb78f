-- Strings that are made: string constants, and others.
use Rattle.std.specs.Prelude.{◌≡◌, ◌≤◌, ◌<◌, ℕ, List, [], ◌∷◌, ◌++◌, length, Option, Some, None}
use Rattle.jvalues.specs.declared.jops.value.Value.TheVariants.{Ref}
use Rattle.jresolution.specs.juses.InstructionMeanings as meanings
use Rattle.jsemantics.specs.jmachine.MachineStates.{cells_of}
use Rattle.jsemantics.specs.jmachine.ObjectInstructions.{push, units_of}
use Rattle.jsemantics.specs.jmachine.HeapObjects.{Text}
use Rattle.jsemantics.specs.jmachine.Store.{Store, constant_at, next_number, paid, with_made}
use Rattle.jrows.specs.jtexts.TextCallOutcomes.{Comes, leaves}
use Rattle.jrows.specs.declared.jtexts.ran.Ran.{Ran}
use Rattle.jrows.specs.declared.jtexts.ran.Ran.TheVariants as rans

-- A string of these units was made, and this is its number; or the cells for it aren't left, and nothing has changed.
abbrev pub MakesText : List ℕ → Store ℕ → Option ℕ → Store ℕ → Type 0
MakesText units s None t = (s.left < cells_of (length units)) × (t ≡ s)
MakesText units s (Some o) t =
    (cells_of (length units) ≤ s.left) × (o ≡ next_number s) × (t ≡ paid (cells_of (length units)) (with_made s (Text (Some units))))

-- what a load came to by the object of the constant, where there was room for it
abbrev pub loaded : Option ℕ → Ran
loaded None = rans.Full
loaded (Some o) = rans.Gave (Ref o)

-- the constants behind a load that made one of these units
abbrev pub constants_with : Option ℕ → List ℕ → List (List ℕ × ℕ) → List (List ℕ × ℕ)
constants_with None units constants = constants
constants_with (Some o) units constants = constants ++ (units, o) ∷ []

-- The load of a constant that was made gives its object.
abbrev pub LoadsKnown : Type 0 → Type 0
LoadsKnown E = (s : Store ℕ) (bytes : List ℕ) (o : ℕ) → constant_at s.constants (units_of bytes) ≡ Some o
    → Comes {E = E} s (push s (meanings.Text bytes) []) (leaves (loaded (Some o)) [] s)
