-- Verification types by number, and what they stand for: types by the names of classes (JVMS 4.10.1.2).
use Rattle.jtypes.specs.declared.vtype.Name.{Name}
use Rattle.jtypes.specs.declared.vtype.Element.{Element}
use Rattle.jtypes.specs.declared.vtype.Element.TheVariants as elements
use Rattle.jtypes.specs.declared.vtype.ArrayType.{ArrayType}
use Rattle.jtypes.specs.declared.vtype.VType.{VType}
use Rattle.jtypes.specs.declared.vtype.VType.TheVariants as types
use Rattle.jresolution.specs.declared.jprogram.part.ClassRef.{ClassRef}
use Rattle.jresolution.specs.jprogram.ProgramClasses.{Program, name_at}
use Rattle.jresolution.specs.declared.juses.types.ElementRef.{ElementRef}
use Rattle.jresolution.specs.declared.juses.types.ElementRef.TheVariants as held
use Rattle.jresolution.specs.declared.juses.types.ArrayRef.{ArrayRef}
use Rattle.jresolution.specs.declared.juses.types.TypeRef.{TypeRef}
use Rattle.jresolution.specs.declared.juses.types.TypeRef.TheVariants as refs

abbrev pub class_named : Program → ClassRef → Name
class_named p c = record { 0 = name_at p c }

abbrev pub element_named : Program → ElementRef → Element
element_named p held.Boolean = elements.Boolean
element_named p held.Char = elements.Char
element_named p held.Byte = elements.Byte
element_named p held.Short = elements.Short
element_named p held.Int = elements.Int
element_named p held.Long = elements.Long
element_named p (held.Class c) = elements.Class (class_named p c)

abbrev pub array_named : Program → ArrayRef → ArrayType
array_named p a = record { depth = a.depth; element = element_named p a.element }

-- the type that a number stands for
abbrev pub named : Program → TypeRef → VType
named p refs.Top = types.Top
named p refs.Int = types.Int
named p refs.Long = types.Long
named p refs.Null = types.Null
named p refs.UninitThis = types.UninitThis
named p (refs.Uninit at) = types.Uninit at
named p (refs.Object c) = types.Object (class_named p c)
named p (refs.Array a) = types.Array (array_named p a)
named p refs.Ctx = types.Ctx
