-- The name and the descriptor of a member that is handed a context, in a program and in the moved one.
use Rattle.std.proofs.Common.{◌≡◌, ℕ, true, List, [], ◌∷◌, ◌++◌, Option, Some, None, refl, ap, sym, ◌∙◌}
use Rattle.std.specs.Prelude.{codes}
use Rattle.jparts.specs.declared.jpool.descriptor.Descriptor.TheVariants as descriptors
use Rattle.jparts.specs.declared.jpool.descriptor.FieldType.{FieldType}
use Rattle.jparts.specs.declared.jpool.entry.Entry.TheVariants.{Unused, Utf8}
use Rattle.jparts.specs.jpool.Descriptors.{base_at, class_at, closing_at, descriptor_of, descriptor_text, field_of, method_of, params_at, return_at, slots_of, type_at}
use Rattle.jparts.specs.jpool.ClassNames.{is_class_name}
use Rattle.jparts.specs.jpool.ConstantPools.{utf8_at}
use Rattle.jclass.specs.declared.access.Access.{Access}
use Rattle.jclass.specs.declared.class.ClassParts.{ClassParts}
use Rattle.jclass.specs.declared.class.MemberInfo.{MemberInfo}
use Rattle.jlib.specs.declared.side.Side.TheVariants.{Passing, Source}
use Rattle.jlib.specs.declared.calls.LibCall.{LibCall}
use Rattle.jlib.specs.declared.calls.LibCall.TheVariants as call
use Rattle.jlib.specs.declared.calls.ThreadCall.TheVariants as thread
use Rattle.jlib.specs.LibraryMembers as library
use Rattle.jmove.specs.PoolAdditions.{context_type, moved_descriptor}
use Rattle.jresolution.specs.declared.jprogram.member.Member.{Member}
use Rattle.jresolution.specs.declared.jprogram.member.Member.TheVariants.{LibMethod, Method}
use Rattle.jresolution.specs.declared.jprogram.member.MethodId.{MethodId}
use Rattle.jresolution.specs.jprogram.ProgramClasses.{Program}
use Rattle.jresolution.specs.jprogram.MemberResolution.{desc_of, method_at, name_of}
use Rattle.jresolution.specs.jprogram.ClassFileParts.{member_desc, or_empty}
use Rattle.jlinking.proofs.JlinkProofs.MethodSelection.{first_called}
use Rattle.jmoveclass.specs.MovedMembers.{new_desc}
use Rattle.jrewriting.specs.jrewrite.RewrittenPrograms.{moved}
use Rattle.jrewriting.proofs.JrewriteProofs.FinalOverrides.{AllMoving}
use Rattle.jrewriting.proofs.JrewriteProofs.HierarchyPhases.{IsPlain}
use Rattle.jsimulation_laws.specs.relation.InstructionExpansion.{moved_member, passing}
use Rattle.jmoved_laws.specs.names.MovedLookUps.{library_handed}
use Rattle.jmoved_laws.proofs.NamesProofs.CallSelection.{MovedText}
use Rattle.jmoved_laws.proofs.NamesProofs.LibraryOverrides.{user_found}
use Rattle.jmoved_laws.proofs.NamesProofs.Twins.{Declared, declared, moved_desc, old_desc, same_name}

-- what is asked of it
pub record Spoken (p : Program) (m : Member) : Type 0 where
  pub text : MovedText (desc_of p m) (desc_of (moved p) (moved_member m))
  pub named : name_of (moved p) (moved_member m) ≡ name_of p m

-- ---- a user's

pub user_spoken : (p : Program) → IsPlain p → AllMoving p → (m : MethodId) → Declared p m → Spoken p (Method m)
user_spoken p is all m k = record {
  text = record {
    class = k.part.class;
    method = k.method;
    facts = k.moving.facts k.method (m.method, k.there);
    old_is = sym (old_desc p is m k);
    new_is = sym (moved_desc p is m k);
  };
  named = same_name p is m k;
}

pub found_declared : (p : Program) → AllMoving p → (name desc c : List ℕ) (m : MethodId) → method_at p name desc c ≡ Some (Method m) → Declared p m
found_declared p all name desc c m e =
    let u = user_found p name desc c m e in
    let x = first_called u.part.class name desc u.part.class.methods m.method u.first in
    declared p all m u.part x.0 u.at x.1

-- ---- the library's

abbrev no_flags : Access
no_flags = record { 0 = 0 }

-- a class that has this text
abbrev text_class : List ℕ → ClassParts
text_class t = record { minor = 0; major = 0; pool = Unused ∷ Utf8 t ∷ []; flags = no_flags; this_class = 0; super_class = 0; interfaces = []; fields = []; methods = []; attributes = [] }

abbrev text_method : MemberInfo
text_method = record { flags = no_flags; name = 1; desc = 1; attributes = [] }

text_is : (t : List ℕ) → member_desc (text_class t) text_method ≡ t
unfolding utf8_at
text_is t = refl

pub text_of : (old new : List ℕ) (ps : List FieldType) (ret : Option FieldType) → descriptor_of old ≡ Some (descriptors.Method ps ret) → or_empty (moved_descriptor old) ≡ new → descriptor_of new ≡ Some (descriptors.Method (ps ++ context_type ∷ []) ret) → MovedText old new
text_of old new ps ret old_is new_is longer =
    let is : new_desc (text_class old) text_method ≡ new = ap (λ (t : List ℕ). or_empty (moved_descriptor t)) (text_is old) ∙ new_is in
    record {
      class = text_class old;
      method = text_method;
      facts = record { ps = ps; ret = ret; old = ap descriptor_of (text_is old) ∙ old_is; new = ap descriptor_of is ∙ longer };
      old_is = text_is old;
      new_is = is;
    }

abbrev object_type : FieldType
object_type = record { depth = 0; base = 76; class = codes "java/lang/Object" }

abbrev runnable_type : FieldType
runnable_type = record { depth = 0; base = 76; class = codes "java/lang/Runnable" }

lib_text : (y : LibCall) → library_handed y ≡ true → library.call_stands_on Source y ≡ true → MovedText (library.desc_of y) (library.desc_of (passing y))
unfolding moved_descriptor descriptor_of descriptor_text method_of field_of params_at closing_at type_at base_at class_at return_at slots_of is_class_name
lib_text (call.Run Source) h on = text_of (codes "()V") (codes "(Lsps/Ctx;)V") [] None refl refl refl
lib_text (call.RunAction Source) h on = text_of (codes "()Ljava/lang/Object;") (codes "(Lsps/Ctx;)Ljava/lang/Object;") [] (Some object_type) refl refl refl
lib_text (call.Thread (thread.Init Source)) h on = text_of (codes "(Ljava/lang/Runnable;)V") (codes "(Ljava/lang/Runnable;Lsps/Ctx;)V") (runnable_type ∷ []) None refl refl refl
lib_text y h on = absurd cc

lib_name : (y : LibCall) → library.name_of_call (passing y) ≡ library.name_of_call y
lib_name (call.Run Source) = refl
lib_name (call.Run Passing) = refl
lib_name (call.RunAction Source) = refl
lib_name (call.RunAction Passing) = refl
lib_name (call.Thread (thread.Init Source)) = refl
lib_name (call.Thread (thread.Init Passing)) = refl
lib_name y = refl

pub lib_spoken : (p : Program) (y : LibCall) → library_handed y ≡ true → library.call_stands_on Source y ≡ true → Spoken p (LibMethod y)
unfolding desc_of name_of
lib_spoken p y h on = record { text = lib_text y h on; named = lib_name y }
