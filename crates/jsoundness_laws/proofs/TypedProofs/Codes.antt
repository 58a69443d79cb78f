-- What is selected of the library has code.
use Rattle.std.proofs.Common.{◌≡◌, Bool, true, false, Some, None, refl, sym, ap, ◌∙◌}
use Rattle.std.specs.Prelude.{if◌then◌else◌}
use Rattle.jlib.specs.declared.calls.LibCall.{LibCall}
use Rattle.jlib.specs.LibraryClasses as library
use Rattle.jlib.specs.LibraryMembers as library_calls
use Rattle.jresolution.specs.declared.jprogram.member.Member.{Member}
use Rattle.jresolution.specs.declared.jprogram.member.Member.TheVariants.{Field, Method, LibField, LibMethod}
use Rattle.jresolution.specs.declared.jprogram.member.MethodId.{MethodId}
use Rattle.jresolution.specs.declared.jprogram.member.Selected.{Selected}
use Rattle.jresolution.specs.declared.jprogram.member.Selected.TheVariants as selected
use Rattle.jresolution.specs.jprogram.ProgramClasses as classes
use Rattle.jresolution.specs.jprogram.MemberResolution.{desc_of, first_by, is_abstract, methods_along, name_of, name_of_id, select}
use Rattle.jsoundness_laws.specs.typed.ProgressLaws.{HasCode, ItselfHasCode, SelectedHasCode}

of_user : (b : Bool) (m : Member) (n : MethodId) (call : LibCall) → (if b then selected.Abstract m else selected.Method n) ≡ selected.Lib call → ⊥
of_user true m n call e = cc
of_user false m n call e = cc

same_call : (a b : LibCall) → selected.Lib a ≡ selected.Lib b → a ≡ b
same_call a b e = cc

of_library : (b : Bool) (m : Member) (a call : LibCall) → library.is_interface (library_calls.owner a) ≡ b → (if b then selected.Abstract m else selected.Lib a) ≡ selected.Lib call → HasCode call
of_library true m a call is e = absurd (cc)
of_library false m a call is e = ap (λ x. library.is_interface (library_calls.owner x)) (sym (same_call a call e)) ∙ is

pub itself_coded : ItselfHasCode
unfolding is_abstract
itself_coded p None call e = absurd (cc)
itself_coded p (Some (Field i j)) call e = absurd (cc)
itself_coded p (Some LibField) call e = absurd (cc)
itself_coded p (Some (Method m)) call e = absurd (of_user (is_abstract p (Method m)) (Method m) m call e)
itself_coded p (Some (LibMethod m)) call e = of_library (library.is_interface (library_calls.owner m)) (LibMethod m) m call refl e

pub selected_coded : SelectedHasCode
unfolding select
selected_coded p on m kind call e = itself_coded p (first_by p kind m (methods_along p (name_of p m) (desc_of p m) (classes.up p (name_of_id p on)))) call e
