-- How types are compared where a machine runs: as they fit, or as casts and stores into arrays ask whether an object is one of a type.
use Rattle.std.specs.Prelude.{Bool, false, ◌||◌}
use Rattle.jtypes.specs.declared.vtype.Name.{Name}
use Rattle.jtypes.specs.declared.vtype.VType.{VType}
use Rattle.jtypes.specs.Assignability.{fits_where, is_above_arrays}
use Rattle.jtypes.specs.ClassTrees.{Tree}
use Rattle.jresolution.specs.jprogram.ProgramClasses.{Program, implements, tree}
use Rattle.jserving.specs.declared.jfits.fitting.Asked.{Asked}
use Rattle.jserving.specs.declared.jfits.fitting.Asked.TheVariants as asked

-- which class stands below which: an object is one of an interface that its class has, and fits every interface
abbrev pub tree_by : Program → Asked → Tree
tree_by p asked.Fits = tree p
tree_by p asked.IsOne = record { is_interface = λ c. false; extends = λ c d. (tree p).extends c d || implements p c.0 d.0 }

-- what every array fits, or is one of
abbrev pub above_by : Program → Asked → Name → Bool
above_by p asked.Fits = λ c. is_above_arrays c || (tree p).is_interface c
above_by p asked.IsOne = is_above_arrays

-- a value of the first type may stand where one of the second is wanted
abbrev pub fits : Program → VType → VType → Bool
fits p = fits_where (above_by p asked.Fits) (tree_by p asked.Fits)

-- an object of the first type is one of the second (JVMS 6.5: checkcast, instanceof, aastore)
abbrev pub is_instance : Program → VType → VType → Bool
is_instance p = fits_where (above_by p asked.IsOne) (tree_by p asked.IsOne)
