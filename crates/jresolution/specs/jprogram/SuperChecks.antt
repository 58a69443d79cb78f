-- The second phase of linking: what classes extend and list.
use Rattle.std.specs.Prelude.{ℕ, Bool, true, false, ◌&&◌, ◌||◌, not, List, length, Option, Some, None, is_some}
use Rattle.std.specs.List.{list_any}
use Rattle.std.specs.Str.{bytes_eq}
use Rattle.jground.specs.jbase.FirstFaults.{fault_if, first_along, or_else}
use Rattle.jclass.specs.declared.class.ClassParts.{ClassParts}
use Rattle.jresolution.specs.declared.jprogram.fault.LinkKind.{LinkKind}
use Rattle.jresolution.specs.declared.jprogram.fault.LinkKind.TheVariants.{BadSuper, Circular, NoClass}
use Rattle.jresolution.specs.declared.jprogram.fault.LinkFault.{LinkFault}
use Rattle.jresolution.specs.declared.jprogram.part.CodePart.{CodePart}
use Rattle.jresolution.specs.jprogram.ClassFileParts as parts
use Rattle.jresolution.specs.jprogram.ClassFileParts.{class_text, super_name, this_name}
use Rattle.jresolution.specs.jprogram.ProgramClasses.{Program, find, holds, is_closed, is_interface, known, object, reaches}
use Rattle.jresolution.specs.jprogram.NameChecks.{in_class}

-- ---- what isn't there

abbrev pub is_missing : Program → List ℕ → Bool
is_missing p name = not (is_some (find p name))

abbrev pub face_missing : Program → ClassParts → Bool
face_missing p c = list_any (λ i. is_missing p (class_text c.pool i)) c.interfaces

-- no superclass, or it or an interface isn't found
unfoldable pub missing_test : Program → ClassParts → Option LinkKind
missing_test p c = fault_if ((elim (super_name c) [ None ↦ true | Some name ↦ is_missing p name ]) || face_missing p c) NoClass

-- ---- what may not stand above

abbrev pub super_barred : Program → Option (List ℕ) → Bool
super_barred p = elim [ None ↦ true | Some name ↦ holds (λ s. is_closed s || is_interface s) (find p name) ]

abbrev pub lists_a_class : Program → ClassParts → Bool
lists_a_class p c = list_any (λ i. not (holds is_interface (find p (class_text c.pool i)))) c.interfaces

abbrev pub is_object : Option (List ℕ) → Bool
is_object = elim [ None ↦ false | Some name ↦ bytes_eq name object ]

-- the superclass may not be extended, or a class is listed, or an interface extends another class than Object
unfoldable pub super_test : Program → ClassParts → Option LinkKind
super_test p c =
    fault_if (super_barred p (super_name c) || (lists_a_class p c || (parts.is_interface c.flags && not (is_object (super_name c))))) BadSuper

-- ---- circles

-- the class stands above itself
unfoldable pub circle_test : Program → ClassParts → Option LinkKind
circle_test p c = fault_if (reaches p (length (known p)) (this_name c) (this_name c)) Circular

-- ---- the phase

abbrev pub supers_test : Program → CodePart → Option LinkKind
supers_test p part = or_else (missing_test p part.class) (or_else (super_test p part.class) (circle_test p part.class))

unfoldable pub supers_fault : Program → Option LinkFault
supers_fault p = first_along (λ i part. in_class i (supers_test p part)) 0 p.parts
