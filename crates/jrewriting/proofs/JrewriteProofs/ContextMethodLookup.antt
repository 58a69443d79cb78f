-- Methods that are handed a context are found in the moved program where they were, by their new descriptors.
use Rattle.std.proofs.Common.{◌≡◌, ℕ, Bool, true, false, List, Option, Some, None, refl, ap, sym, ◌∙◌, subst}
use Rattle.std.specs.Prelude.{option_and_then, option_map, codes, if◌then◌else◌}
use Rattle.std.specs.List.{position}
use Rattle.jparts.specs.jpool.Descriptors.{base_at, class_at, closing_at, descriptor_of, descriptor_text, field_of, method_of, params_at, return_at, slots_of, type_at}
use Rattle.jparts.specs.jpool.ClassNames.{is_class_name}
use Rattle.jclass.specs.declared.class.ClassParts.{ClassParts}
use Rattle.jclass.specs.declared.class.MemberInfo.{MemberInfo}
use Rattle.jlib.specs.declared.side.Side.{Side}
use Rattle.jlib.specs.declared.side.Side.TheVariants.{Passing, Source}
use Rattle.jlib.specs.declared.classes.LibClass.{LibClass}
use Rattle.jlib.specs.declared.calls.LibCall.{LibCall}
use Rattle.jlib.specs.declared.calls.LibCall.TheVariants as call
use Rattle.jlib.specs.declared.calls.ThreadCall.TheVariants as thread
use Rattle.jlib.specs.LibraryMembers.{call_stands_on, desc_of, is_field, member_named, name_of_call, owner}
use Rattle.jlib.specs.LibraryClasses as library_classes
use Rattle.jlib.proofs.LibraryLookup.{call_found, call_only}
use Rattle.jmove.specs.PoolAdditions.{moved_descriptor}
use Rattle.jresolution.specs.declared.jprogram.member.Member.{Member}
use Rattle.jresolution.specs.declared.jprogram.member.Member.TheVariants.{Field, LibField, LibMethod, Method}
use Rattle.jresolution.specs.jprogram.ProgramClasses.{Class, Lib, Program, User, find}
use Rattle.jresolution.specs.jprogram.MemberResolution.{lib_method, method_at, method_id, method_in}
use Rattle.jresolution.specs.jprogram.NameChecks.{is_reserved}
use Rattle.jresolution.specs.jprogram.ClassFileParts.{is_called, member_desc, or_empty}
use Rattle.jmoveclass.specs.MovedMembers.{new_desc}
use Rattle.jrewriting.proofs.JmoveclassLawsProofs.MovedMethods.{Alike}
use Rattle.jrewriting.specs.jrewrite.RewrittenPrograms.{moved}
use Rattle.jrewriting.proofs.JrewriteProofs.DeclarationChecks.{Facts, Moving}
use Rattle.jrewriting.proofs.JrewriteProofs.ClassLookup.{SameFound}
use Rattle.jrewriting.proofs.JrewriteProofs.FinalOverrides.{AllMoving, Likewise, OptSub, at_sub, moved_side, position_same}
use Rattle.jrewriting.proofs.JrewriteProofs.MemberResolution.{Finds, Is}
use Rattle.jrewriting.proofs.JrewriteProofs.HierarchyPhases.{IsPlain, same}

-- both `run` and Thread's constructor
abbrev pub is_run : LibCall → Bool
is_run (call.Run side) = true
is_run (call.RunAction side) = true
is_run (call.Thread (thread.Init side)) = true
is_run _ = false

-- what is handed a context where it is called
abbrev pub changed : Member → Bool
changed (Method m) = true
changed (LibMethod m) = is_run m
changed (Field i j) = false
changed LibField = false

-- both `run` and Thread's constructor as the passing side has them
abbrev pub run_form : LibCall → LibCall
run_form (call.Run side) = call.Run Passing
run_form (call.RunAction side) = call.RunAction Passing
run_form (call.Thread (thread.Init side)) = call.Thread (thread.Init Passing)
run_form m = m

abbrev pub form_of : Member → Member
form_of (LibMethod m) = LibMethod (run_form m)
form_of x = x

-- a member of the moved program is a member's form there
pub record IsForm (p : Program) (x y : Member) : Type 0 where
  pub form : y ≡ form_of x
  pub like : Likewise p x y

-- ---- the library's

run_desc : or_empty (moved_descriptor (codes "()V")) ≡ codes "(Lsps/Ctx;)V"
unfolding moved_descriptor descriptor_of descriptor_text method_of field_of params_at closing_at type_at base_at class_at return_at slots_of is_class_name
run_desc = refl

action_desc : or_empty (moved_descriptor (codes "()Ljava/lang/Object;")) ≡ codes "(Lsps/Ctx;)Ljava/lang/Object;"
unfolding moved_descriptor descriptor_of descriptor_text method_of field_of params_at closing_at type_at base_at class_at return_at slots_of is_class_name
action_desc = refl

thread_desc : or_empty (moved_descriptor (codes "(Ljava/lang/Runnable;)V")) ≡ codes "(Ljava/lang/Runnable;Lsps/Ctx;)V"
unfolding moved_descriptor descriptor_of descriptor_text method_of field_of params_at closing_at type_at base_at class_at return_at slots_of is_class_name
thread_desc = refl

passing_at : (n : LibCall) (class name desc : List ℕ) → call_stands_on Passing n ≡ true → library_classes.name_of (owner n) ≡ class → name_of_call n ≡ name → desc_of n ≡ desc → member_named Passing class name desc ≡ Some n
passing_at n class name desc on c s d = rw (sym c, sym s, sym d) (call_only Passing n on)

abbrev held : Option LibCall → Option Member
held o = option_and_then lib_method o

there_by : (n : LibCall) (class name desc : List ℕ) → is_field n ≡ false → member_named Passing class name desc ≡ Some n → held (member_named Passing class name desc) ≡ Some (LibMethod n)
there_by n class name desc none at = rw (at, none) refl

new_text : (desc old new : List ℕ) → old ≡ desc → or_empty (moved_descriptor old) ≡ new → new ≡ or_empty (moved_descriptor desc)
new_text desc old new e is = sym is ∙ ap (λ (t : List ℕ). or_empty (moved_descriptor t)) e

run_there : (m : LibCall) (class name desc : List ℕ) → is_run m ≡ true → call_stands_on Source m ≡ true → library_classes.name_of (owner m) ≡ class → name_of_call m ≡ name → desc_of m ≡ desc
    → held (member_named Passing class name (or_empty (moved_descriptor desc))) ≡ Some (LibMethod (run_form m))
run_there (call.Run Source) class name desc h on c s d =
    let new = or_empty (moved_descriptor desc) in
    there_by (call.Run Passing) class name new refl (passing_at (call.Run Passing) class name new refl c s (new_text desc (codes "()V") (codes "(Lsps/Ctx;)V") d run_desc))
run_there (call.RunAction Source) class name desc h on c s d =
    let new = or_empty (moved_descriptor desc) in
    there_by (call.RunAction Passing) class name new refl (passing_at (call.RunAction Passing) class name new refl c s (new_text desc (codes "()Ljava/lang/Object;") (codes "(Lsps/Ctx;)Ljava/lang/Object;") d action_desc))
run_there (call.Thread (thread.Init Source)) class name desc h on c s d =
    let new = or_empty (moved_descriptor desc) in
    there_by (call.Thread (thread.Init Passing)) class name new refl
    (passing_at (call.Thread (thread.Init Passing)) class name new refl c s (new_text desc (codes "(Ljava/lang/Runnable;)V") (codes "(Ljava/lang/Runnable;Lsps/Ctx;)V") d thread_desc))
run_there (call.Run Passing) class name desc h on c s d = absurd cc
run_there (call.RunAction Passing) class name desc h on c s d = absurd cc
run_there (call.Thread (thread.Init Passing)) class name desc h on c s d = absurd cc
run_there (call.Thread thread.Start) class name desc h on c s d = absurd cc
run_there (call.Thread thread.Join) class name desc h on c s d = absurd cc
run_there (call.Thread thread.Yield) class name desc h on c s d = absurd cc
run_there (call.Controller one) class name desc h on c s d = absurd cc
run_there call.ObjectInit class name desc h on c s d = absurd cc
run_there (call.ThrownInit t i) class name desc h on c s d = absurd cc
run_there call.AccessControlInit class name desc h on c s d = absurd cc
run_there call.GetMessage class name desc h on c s d = absurd cc
run_there (call.String one) class name desc h on c s d = absurd cc
run_there (call.Builder one) class name desc h on c s d = absurd cc
run_there call.Out class name desc h on c s d = absurd cc
run_there call.PrintEnd class name desc h on c s d = absurd cc
run_there (call.Print one) class name desc h on c s d = absurd cc
run_there call.ContextCheck class name desc h on c s d = absurd cc
run_there (call.PermissionInit one) class name desc h on c s d = absurd cc
run_there (call.Rt one) class name desc h on c s d = absurd cc

pub method_is : (b : Bool) (m : LibCall) (x : Member) → (if b then None else Some (LibMethod m)) ≡ Some x → LibMethod m ≡ x
method_is true m x h = absurd cc
method_is false m x h = cc

lib_there : (class name desc : List ℕ) (o : Option LibCall) (x : Member) → member_named Source class name desc ≡ o → held o ≡ Some x → changed x ≡ true → held (member_named Passing class name (or_empty (moved_descriptor desc))) ≡ Some (form_of x)
lib_there class name desc None x a e h = absurd cc
lib_there class name desc (Some m) x a e h =
    let f = call_found Source class name desc m a in
    let is = method_is (is_field m) m x e in
    run_there m class name desc (ap changed is ∙ h) f.3 f.0 f.1 f.2 ∙ ap (λ (y : Member). Some (form_of y)) is

in_lib : (p : Program) → p.side ≡ Source → (o : ClassParts) (m : MemberInfo) (c d : LibClass) → c ≡ d → (name : List ℕ) (x : Member) → method_in p.side (Lib c) name (member_desc o m) ≡ Some x → changed x ≡ true
    → method_in (moved p).side (Lib d) name (new_desc o m) ≡ Some (form_of x)
in_lib p source o m c d e name x h k =
    let class = library_classes.name_of c in
    ap (λ (s : Side). method_in s (Lib d) name (new_desc o m)) (moved_side p)
    ∙ ap (λ (y : LibClass). method_in Passing (Lib y) name (new_desc o m)) (sym e)
    ∙ lib_there class name (member_desc o m) (member_named Source class name (member_desc o m)) x refl (ap (λ (s : Side). method_in s (Lib c) name (member_desc o m)) (sym source) ∙ h) k

-- ---- users'

some_form : (i j : ℕ) → i ≡ j → (o q : Option ℕ) → q ≡ o → (x : Member) → option_map (λ k. Method (method_id i k)) o ≡ Some x → option_map (λ k. Method (method_id j k)) q ≡ Some (form_of x)
some_form i j e None q h x k = absurd cc
some_form i j e (Some n) q h x k =
    let is : Method (method_id i n) ≡ x = cc in
    ap (option_map (λ k. Method (method_id j k))) h ∙ ap (λ (l : ℕ). Some (Method (method_id l n))) (sym e) ∙ ap (λ (y : Member). Some (form_of y)) is

in_user : (i j : ℕ) → i ≡ j → (o c d : ClassParts) (m : MemberInfo) (name : List ℕ) (x : Member) → Facts o m → Moving c d → Alike c d.pool c.methods d.methods
    → option_map (λ k. Method (method_id i k)) (position (is_called c name (member_desc o m)) c.methods) ≡ Some x
    → option_map (λ k. Method (method_id j k)) (position (is_called d name (new_desc o m)) d.methods) ≡ Some (form_of x)
in_user i j e o c d m name x f k all h =
    some_form i j e (position (is_called c name (member_desc o m)) c.methods) (position (is_called d name (new_desc o m)) d.methods) (position_same c d o m name k all f) x h

-- ---- what is found

found_there : (p : Program) → IsPlain p → AllMoving p → (o : ClassParts) (m : MemberInfo) (name : List ℕ) → Facts o m → (a b : Option Class) (x : Member) → SameFound p a b → option_and_then (λ c. method_in p.side c name (member_desc o m)) a ≡ Some x
    → changed x ≡ true → option_and_then (λ c. method_in (moved p).side c name (new_desc o m)) b ≡ Some (form_of x)
found_there p is all o m name f None None x h e k = absurd cc
found_there p is all o m name f (Some (User i c)) (Some (User j d)) x h e k = let one = all i c d h.1 in in_user i j h.0 o c d m name x f one.0 one.1 e
found_there p is all o m name f (Some (Lib c)) (Some (Lib d)) x h e k = in_lib p is.source o m c d h name x e k
found_there p is all o m name f None (Some d) x h e k = absurd h
found_there p is all o m name f (Some (User i c)) None x h e k = absurd h
found_there p is all o m name f (Some (Lib c)) None x h e k = absurd h
found_there p is all o m name f (Some (User i c)) (Some (Lib d)) x h e k = absurd h
found_there p is all o m name f (Some (Lib c)) (Some (User j d)) x h e k = absurd h

none_of_sub : (p : Program) (o q : Option Member) → OptSub p o q → o ≡ None → q ≡ None
none_of_sub p o None h e = refl
none_of_sub p None (Some y) h e = absurd h
none_of_sub p (Some x) (Some y) h e = absurd cc

some_of_sub : (p : Program) (o q : Option Member) → OptSub p o q → (x : Member) → o ≡ Some x → q ≡ Some (form_of x) → Is (IsForm p) x q
some_of_sub p o None h x e k = absurd cc
some_of_sub p None (Some y) h x e k = absurd h
some_of_sub p (Some z) (Some y) h x e k =
    let is : z ≡ x = cc in
    let form : y ≡ form_of x = cc in
    record { other = y; is = refl; like = record { form = form; like = subst (λ (w : Member). Likewise p w y) is h } }

pub methods_changed : (p : Program) → IsPlain p → AllMoving p → (o : ClassParts) (m : MemberInfo) (name : List ℕ) → Facts o m → (class : List ℕ) → is_reserved class ≡ false
    → Finds (IsForm p) changed (method_at p name (member_desc o m) class) (method_at (moved p) name (new_desc o m) class)
methods_changed p is all o m name f class plain =
    let sub = at_sub p is all o m name f class plain in
    record {
      none = λ e. none_of_sub p (method_at p name (member_desc o m) class) (method_at (moved p) name (new_desc o m) class) sub e;
      some = λ x e k. some_of_sub p (method_at p name (member_desc o m) class) (method_at (moved p) name (new_desc o m) class) sub x e
          (found_there p is all o m name f (find p class) (find (moved p) class) x (same p is class plain) e k);
    }
