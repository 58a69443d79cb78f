-- What linking forbids a method that a class declares.
use Rattle.std.proofs.Common.{◌≡◌, ℕ, Bool, true, false, List, Some, ap, sym, ◌∙◌}
use Rattle.std.specs.Prelude.{slice_get, take, if◌then◌else◌}
use Rattle.std.specs.List.{AllByRecursion, list_any}
use Rattle.jground.proofs.JbaseProofs.Firsts.{none_fails, none_of}
use Rattle.jclass.specs.declared.class.ClassParts.{ClassParts}
use Rattle.jclass.specs.declared.class.MemberInfo.{MemberInfo}
use Rattle.jlib.specs.LibraryMembers.{fixes}
use Rattle.jlib.specs.LibraryClasses as library
use Rattle.jlinking.specs.jmembers.MemberDeclarations.{again_test, at_member, fields_fault, final_test, is_fixed, library_test, members_fault, method_left_out_test, method_test, methods_fault, names_above, types_test}
use Rattle.jlinking.specs.ProofNames.{class_fault, is_fixed_at}
use Rattle.jresolution.specs.declared.jprogram.fault.LinkKind.TheVariants.{OverridesLibrary}
use Rattle.jresolution.specs.declared.jprogram.part.CodePart.{CodePart}
use Rattle.jresolution.specs.jprogram.ProgramClasses.{Program, onward, up}
use Rattle.jresolution.specs.jprogram.ClassFileParts.{is_interface, member_desc, member_name, super_name}
use Rattle.jresolution.proofs.JprogramProofs.ClassHeights.{any_none, fault_none}
use Rattle.jlinking.specs.jlink.LinkedPrograms.{Links}
use Rattle.jrewriting.proofs.JrewriteProofs.MovableClasses.{at_none, members_none}

-- no opened class that counts has a concrete method of its name and descriptor
pub not_fixed_at : (p : Program) (i k : ℕ) (part : CodePart) (m : MemberInfo) → Links p → slice_get p.parts i ≡ Some part → slice_get part.class.methods k ≡ Some m → is_fixed p part.class (member_name part.class m) (member_desc part.class m) ≡ false
unfolding members_fault methods_fault library_test
not_fixed_at p i k part m links at there =
    let c = part.class in
    let class = none_fails (λ j x. class_fault p j x.class) p.parts i part (members_none p links.rules) at in
    let methods = none_of (methods_fault p i c) (fields_fault p i c) class in
    let test = at_none i k (method_test p i c (take k c.methods) k m) (none_fails (λ j x. at_member i j (method_test p i c (take j c.methods) j x)) c.methods k m methods.0 there) in
    let one = none_of (again_test c (take k c.methods) m) _ test in
    let two = none_of (method_left_out_test p.side c m) _ one.1 in
    let three = none_of (types_test p c m) _ two.1 in
    let four = none_of (library_test p c m) (final_test p i c k m) three.1 in
    fault_none (is_fixed p c (member_name c m) (member_desc c m)) OverridesLibrary four.0

-- of an interface, or of a class
pub face_fixed : (p : Program) (c : ClassParts) (name desc : List ℕ) → is_interface c.flags ≡ true → is_fixed p c name desc ≡ false → list_any (fixes name desc) library.open_classes ≡ false
face_fixed p c name desc face e = sym (ap (λ (b : Bool). if b then list_any (fixes name desc) library.open_classes else list_any (is_fixed_at p name desc) (names_above p c)) face) ∙ e

pub class_fixed : (p : Program) (c : ClassParts) (name desc : List ℕ) → is_interface c.flags ≡ false → is_fixed p c name desc ≡ false → AllByRecursion (λ x. is_fixed_at p name desc x ≡ false) (onward (up p) (super_name c))
class_fixed p c name desc face e =
    any_none (is_fixed_at p name desc) (onward (up p) (super_name c))
    (sym (ap (λ (b : Bool). if b then list_any (fixes name desc) library.open_classes else list_any (is_fixed_at p name desc) (names_above p c)) face) ∙ e)
