-- Classes by number: what the number of a class that is found names is that class.
use Rattle.std.proofs.Common.{◌≡◌, ℕ, true, List, Option, Some, None, sym, ap, ◌∙◌}
use Rattle.std.specs.Prelude.{option_map, slice_get}
use Rattle.jlib.specs.declared.classes.LibClass.{LibClass}
use Rattle.jlib.specs.LibraryClasses as library
use Rattle.jlib.proofs.LibraryLookup.{class_found}
use Rattle.jresolution.specs.declared.jprogram.part.ClassRef.{ClassRef}
use Rattle.jresolution.specs.declared.jprogram.part.ClassRef.TheVariants as refs
use Rattle.jresolution.specs.declared.jprogram.part.CodePart.{CodePart}
use Rattle.jresolution.specs.jprogram.ClassFileParts.{this_name}
use Rattle.jresolution.specs.jprogram.ProgramClasses.{Program, User, find, name_at, ref_of, named}
use Rattle.jresolution.specs.jprogram.ImplementedInterfaces.{IsNumber}
use Rattle.jresolution.specs.jprogram.OrderedPrograms.{StandsInOrder}
use Rattle.jresolution.proofs.JprogramProofs.InterfaceSearch.{some_is}
use Rattle.jresolution.proofs.JprogramProofs.ImplementationRows.{found_part, own_place}
use Rattle.jresolution.proofs.JprogramProofs.ClassHeights.{Libs, Nowhere, Stands, Users, lib_find, not_taken, stands}

no_class : (r : ClassRef) → None ≡ Some r → ⊥
no_class r e = cc

name_from : (p : Program) (name : List ℕ) (r : ClassRef) → Stands p name → option_map ref_of (find p name) ≡ Some r → name_at p r ≡ name
name_from p name r (Users i part at called is) e =
    ap (name_at p) (sym (some_is (refs.User i) r (sym (ap (option_map ref_of) is) ∙ e))) ∙ ap (λ (o : Option CodePart). named (option_map (λ (x : CodePart). User i x.class) o)) at ∙ called
name_from p name r (Libs l known is) e = ap (name_at p) (sym (some_is (refs.Lib l) r (sym (ap (option_map ref_of) is) ∙ e))) ∙ (class_found p.side name l known).0
name_from p name r (Nowhere none) e = absurd (no_class r (sym (ap (option_map ref_of) none) ∙ e))

pub number_name : (p : Program) (name : List ℕ) (r : ClassRef) → option_map ref_of (find p name) ≡ Some r → name_at p r ≡ name
number_name p name r e = name_from p name r (stands p name) e

pub number_found : (p : Program) (name : List ℕ) (r : ClassRef) → option_map ref_of (find p name) ≡ Some r → IsNumber p r
number_found p name r e = ap (λ (n : List ℕ). option_map ref_of (find p n)) (number_name p name r e) ∙ e

pub own_number : (p : Program) (i : ℕ) (part : CodePart) → StandsInOrder p → slice_get p.parts i ≡ Some part → option_map ref_of (find p (this_name part.class)) ≡ Some (refs.User i)
own_number p i part good at = ap (option_map ref_of) (found_part p good (this_name part.class) i part (own_place p good i part at) at)

pub library_number : (p : Program) (c : LibClass) → StandsInOrder p → library.stands_on p.side c ≡ true → option_map ref_of (find p (library.name_of c)) ≡ Some (refs.Lib c)
library_number p c good on = ap (option_map ref_of) (lib_find p (not_taken p good) c on)
