-- What is kept of a program's own classes, so that types are compared without a look at names.
use Rattle.std.specs.Prelude.{◌≡◌, ℕ, List, length, Some, slice_get}
use Rattle.jresolution.specs.declared.jprogram.part.ClassRef.{ClassRef}
use Rattle.jresolution.specs.declared.jprogram.part.ClassRef.TheVariants as refs
use Rattle.jresolution.specs.jprogram.ProgramClasses.{Program, super_at, tree}
use Rattle.jresolution.specs.juses.InternedTypes.{class_named}
use Rattle.jserving.specs.declared.jfits.lines.Line.{Line}

-- the class above a class, and whether it is an interface
pub record IsLine (p : Program) (c : ClassRef) (x : Line) : Type 0 where
  pub above : x.above ≡ super_at p c
  pub face : x.is_interface ≡ (tree p).is_interface (class_named p c)

-- those of the first classes
pub record AreLinesTo (p : Program) (lines : List Line) (n : ℕ) : Type 0 where
  pub count : length lines ≡ n
  pub each : (i : ℕ) (x : Line) → slice_get lines i ≡ Some x → IsLine p (refs.User i) x

abbrev pub AreLines : Program → List Line → Type 0
AreLines p lines = AreLinesTo p lines (length p.parts)
