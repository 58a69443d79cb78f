-- What is kept of a program's own classes, so that walks upwards and comparisons of classes look at no names.
use Rattle.std.specs.Prelude.{◌≡◌, ℕ, List, Some, option_map, slice_get}
use Rattle.jresolution.specs.declared.jprogram.lines.At.{At}
use Rattle.jresolution.specs.declared.jprogram.lines.Line.{Line}
use Rattle.jresolution.specs.declared.jprogram.part.ClassRef.TheVariants as refs
use Rattle.jresolution.specs.jprogram.ProgramClasses.{Program, find, name_at, place_of, super_at}
use Rattle.jresolution.specs.jprogram.FoundClasses.{seen}

-- the first place of a class's name, and the class above it
pub record IsLine (p : Program) (i : ℕ) (x : Line) : Type 0 where
  pub first : x.first ≡ place_of p.parts (name_at p (refs.User i))
  pub above : x.above ≡ super_at p (refs.User i)

-- what is kept is right
abbrev pub AreLines : Program → List Line → Type 0
AreLines p lines = (i : ℕ) (x : Line) → slice_get lines i ≡ Some x → IsLine p i x

-- a name, with the class of this name
abbrev pub IsAt : Program → At → Type 0
IsAt p at = option_map seen at.class ≡ find p at.name.now
