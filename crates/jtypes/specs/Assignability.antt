-- Which verification type fits which (JVMS 4.10.1.2). What every array fits is a parameter, `above`: in a program as it is checked
-- these are the three classes and interfaces below, and where a machine runs, each interface besides.
use Rattle.std.specs.Prelude.{ℕ, zero, suc, Bool, true, false, ◌||◌, ◌==◌, codes}
use Rattle.std.specs.Str.{bytes_eq}
use Rattle.jtypes.specs.declared.vtype.Name.{Name}
use Rattle.jtypes.specs.declared.vtype.Element.{Element}
use Rattle.jtypes.specs.declared.vtype.Element.TheVariants as elements
use Rattle.jtypes.specs.declared.vtype.VType.{VType}
use Rattle.jtypes.specs.declared.vtype.VType.TheVariants.{Top, Int, Long, Null, UninitThis, Uninit, Object, Array, Ctx}
use Rattle.jtypes.specs.ClassTrees.{Tree}

-- every array fits these, as programs are checked
abbrev pub is_above_arrays : Name → Bool
is_above_arrays c = bytes_eq c.0 (codes "java/lang/Object") || bytes_eq c.0 (codes "java/lang/Cloneable")
    || bytes_eq c.0 (codes "java/io/Serializable")

-- an interface is taken as `java/lang/Object` is: every object fits it
abbrev pub class_fits : Tree → Name → Name → Bool
class_fits t c d = t.is_interface d || t.extends c d

-- an element alone fits another
abbrev pub element_fits : Tree → Element → Element → Bool
element_fits t elements.Boolean elements.Boolean = true
element_fits t elements.Char elements.Char = true
element_fits t elements.Byte elements.Byte = true
element_fits t elements.Short elements.Short = true
element_fits t elements.Int elements.Int = true
element_fits t elements.Long elements.Long = true
element_fits t (elements.Class c) (elements.Class d) = class_fits t c d
element_fits t x y = false

-- An array fits another where what it holds fits what the other holds. Each is given by its dimensions and its element, and so is
-- what it holds, with one dimension less. An element alone has none: where the descent ends it is what an array holds, and no type of
-- an array has so few.
unfoldable pub array_fits : (Name → Bool) → Tree → ℕ → Element → ℕ → Element → Bool
array_fits above t zero x zero y = element_fits t x y
array_fits above t zero x (suc e) y = false
array_fits above t (suc d) x zero y = elim y [ elements.Class c ↦ above c | _ ↦ false ]
array_fits above t (suc d) x (suc e) y = array_fits above t d x e y

-- A value of the first type may stand where one of the second is wanted.
abbrev pub fits_where : (Name → Bool) → Tree → VType → VType → Bool
fits_where above t a Top = true
fits_where above t Int Int = true
fits_where above t Long Long = true
fits_where above t Null Null = true
fits_where above t UninitThis UninitThis = true
fits_where above t (Uninit o) (Uninit p) = o == p
fits_where above t Ctx Ctx = true
fits_where above t Null (Object d) = true
fits_where above t Null (Array b) = true
fits_where above t (Object c) (Object d) = class_fits t c d
fits_where above t (Array a) (Object d) = above d
fits_where above t (Array a) (Array b) = array_fits above t a.depth a.element b.depth b.element
fits_where above t a b = false

abbrev pub fits : Tree → VType → VType → Bool
fits = fits_where is_above_arrays
