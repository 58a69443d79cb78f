-- In a program that breaks no limit each method that is called has room for one more parameter.
use Rattle.std.proofs.Common.{◌≡◌, ℕ, ◌+◌, ◌≤◌, Bool, true, false, List, [], Option, Some, None, refl, ap, sym, ◌∙◌, subst, arith}
use Rattle.std.specs.Prelude.{IsTrue, nat_le, option_and_then, option_map, slice_get, if◌then◌else◌}
use Rattle.std.specs.Str.{bytes_eq}
use Rattle.std.proofs.lemmas.Bool.{leb-true}
use Rattle.jground.specs.jbase.FirstFaults.{first_some, or_else}
use Rattle.jground.proofs.JbaseProofs.Firsts.{none_fails}
use Rattle.jparts.specs.declared.jpool.descriptor.Descriptor.{Descriptor}
use Rattle.jparts.specs.declared.jpool.descriptor.Descriptor.TheVariants as descriptors
use Rattle.jparts.specs.declared.jpool.descriptor.FieldType.{FieldType}
use Rattle.jparts.specs.declared.jpool.entry.Entry.{Entry}
use Rattle.jparts.specs.declared.jpool.entry.Entry.TheVariants.{Unused, Utf8, Integer, Float, Long, Double, Class, Str, Field, Method, InterfaceMethod, NameAndType, MethodHandle, MethodType, InvokeDynamic}
use Rattle.jparts.specs.jpool.Descriptors.{base_at, class_at, closing_at, descriptor_of, field_of, method_of, params_at, return_at, slots_of, type_at}
use Rattle.jparts.specs.jpool.ClassNames.{is_class_name}
use Rattle.jparts.specs.jpool.ConstantPools.{name_and_type_at, utf8_at}
use Rattle.jclass.specs.declared.class.ClassParts.{ClassParts}
use Rattle.jclass.specs.declared.class.MemberInfo.{MemberInfo}
use Rattle.jclass.specs.Class.{class_file}
use Rattle.jclass.specs.FileContents.{IsIn}
use Rattle.jlib.specs.declared.calls.ControllerCall.TheVariants as controller
use Rattle.jlib.specs.declared.calls.LibCall.{LibCall}
use Rattle.jlib.specs.declared.calls.LibCall.TheVariants as calls
use Rattle.jlib.specs.declared.calls.ThreadCall.TheVariants as thread
use Rattle.jlib.specs.declared.side.Side.TheVariants.{Passing, Source}
use Rattle.jlib.specs.LibraryMembers as library
use Rattle.jmove.specs.declared.method.Expand.TheVariants as kinds
use Rattle.jmove.specs.declared.naming.Reference.{Reference}
use Rattle.jmove.specs.PoolAdditions.{reference_at, reference_by, reference_in}
use Rattle.jresolution.specs.declared.jprogram.member.Member.{Member}
use Rattle.jresolution.specs.declared.jprogram.member.Member.TheVariants as members
use Rattle.jresolution.specs.declared.jprogram.member.MethodId.{MethodId}
use Rattle.jresolution.specs.declared.jprogram.part.CodePart.{CodePart}
use Rattle.jresolution.specs.jprogram.ProgramClasses.{Program, superinterfaces, up}
use Rattle.jresolution.specs.jprogram.MemberResolution.{desc_in, desc_of, init, looked_up, method_at, referred, resolve_method}
use Rattle.jresolution.specs.jprogram.ClassFileParts.{class_text, or_empty, text}
use Rattle.jlinking.proofs.JlinkProofs.PresentValues.{first_in}
use Rattle.jlinking.proofs.JlinkProofs.MethodSelection.{method_called}
use Rattle.jmoveclass.specs.declared.limit.Limit.{Limit}
use Rattle.jmoveclass.specs.EntryLocals.{params_in, params_of, slots}
use Rattle.jmoveclass.specs.ProofNames.{this_slots}
use Rattle.jmoveclass.specs.CallExpansion.{calling}
use Rattle.jmoveclass.specs.ClassLimits.{class_limit}
use Rattle.jrewriting.specs.jmoveclass_laws.MovedFiles.{HaveRoom}
use Rattle.jrewriting.proofs.JmoveclassLawsProofs.Methods.{few_slots, has_none}
use Rattle.jrewriting.specs.jrewrite.RewrittenPrograms.{at_class, limits}

-- ---- what a reference stands for has its descriptor

pub either : {A P : Type 0} (a b : Option A) (x : A) → or_else a b ≡ Some x → (a ≡ Some x → P) → (b ≡ Some x → P) → P
either None b x e one two = two e
either (Some y) b x e one two = one e

chosen : {A P : Type 0} (c : Bool) (a b : Option A) (x : A) → (if c then a else b) ≡ Some x → (a ≡ Some x → P) → (b ≡ Some x → P) → P
chosen true a b x e one two = one e
chosen false a b x e one two = two e

along : {P : Type 0} (f : List ℕ → Option Member) (names : List (List ℕ)) (x : Member) → first_some f names ≡ Some x → ((c : List ℕ) → f c ≡ Some x → P) → P
along f names x e h =
    let r = first_in f names x e in
    h r.0 r.2

pub resolved_desc : (p : Program) (class name desc : List ℕ) (x : Member) → resolve_method p class name desc ≡ Some x → desc_of p x ≡ desc
unfolding resolve_method
resolved_desc p class name desc x e =
    let here : (c : List ℕ) → method_at p name desc c ≡ Some x → desc_of p x ≡ desc = λ c at. (method_called p name desc c x at).1 in
    chosen (bytes_eq name init) (method_at p name desc class) (or_else (first_some (method_at p name desc) (up p class)) (first_some (λ c. first_some (method_at p name desc) (superinterfaces p c)) (up p class))) x e
    (λ own. here class own)
    (λ others. either (first_some (method_at p name desc) (up p class)) (first_some (λ c. first_some (method_at p name desc) (superinterfaces p c)) (up p class)) x others
    (λ above. along (method_at p name desc) (up p class) x above (λ c at. here c at))
    (λ over. along (λ c. first_some (method_at p name desc) (superinterfaces p c)) (up p class) x over (λ c at. along (method_at p name desc) (superinterfaces p c) x at (λ i it. here i it))))

-- ---- users' methods

-- each method of a part has a slot left
abbrev pub AllFew : Program → Type 0
AllFew p = (i : ℕ) (part : CodePart) (m : MemberInfo) → slice_get p.parts i ≡ Some part → IsIn m part.class.methods → slots part.class m ≤ 254

place_none : (i : ℕ) (o : Option Limit) → at_class i o ≡ None → o ≡ None
place_none i None h = refl
place_none i (Some limit) h = absurd cc

pub class_none : (p : Program) (i : ℕ) (part : CodePart) → limits p ≡ None → slice_get p.parts i ≡ Some part → class_limit p part.domain part.class ≡ None
unfolding limits
class_none p i part none at = place_none i (class_limit p part.domain part.class) (none_fails (λ j x. at_class j (class_limit p x.domain x.class)) p.parts i part none at)

pub all_few : (p : Program) → limits p ≡ None → ((i : ℕ) (part : CodePart) → slice_get p.parts i ≡ Some part → IsTrue (class_file.fits part.class)) → AllFew p
all_few p none files i part m at there = few_slots p part.class m (files i part at) there (has_none p part.domain part.class (class_none p i part none at))

empty_none : {P : Type 0} (d : Descriptor) → descriptor_of [] ≡ Some d → P
unfolding descriptor_of
empty_none d h = absurd cc

pub of_empty : {P : Type 0} (t : List ℕ) (d : Descriptor) → [] ≡ t → descriptor_of t ≡ Some d → P
of_empty t d e h = empty_none d (ap descriptor_of e ∙ h)

user_in : (p : Program) → AllFew p → (i j : ℕ) (part : CodePart) (o : Option MemberInfo) (t : List ℕ) (ps : List FieldType) (ret : Option FieldType) → slice_get p.parts i ≡ Some part → slice_get part.class.methods j ≡ o
    → desc_in (option_map (λ m. (part.class, m)) o) ≡ t → descriptor_of t ≡ Some (descriptors.Method ps ret) → slots_of ps ≤ 254
user_in p few i j part None t ps ret at there e is = of_empty t (descriptors.Method ps ret) e is
user_in p few i j part (Some m) t ps ret at there e is =
    let params : params_of part.class m ≡ ps = ap params_in (ap descriptor_of e ∙ is) in
    let count : slots_of (params_of part.class m) ≡ slots_of ps = ap slots_of params in
    let all : slots part.class m ≡ slots_of (params_of part.class m) + this_slots m = refl in
    let most : slots part.class m ≤ 254 = few i part m at (j, there) in
    omega arith

user_by : (p : Program) → AllFew p → (i j : ℕ) (o : Option CodePart) (t : List ℕ) (ps : List FieldType) (ret : Option FieldType) → slice_get p.parts i ≡ o
    → desc_in (option_and_then (λ c. option_map (λ m. (c, m)) (slice_get c.methods j)) (option_map (λ part. part.class) o)) ≡ t → descriptor_of t ≡ Some (descriptors.Method ps ret) → slots_of ps ≤ 254
user_by p few i j None t ps ret at e is = of_empty t (descriptors.Method ps ret) e is
user_by p few i j (Some part) t ps ret at e is = user_in p few i j part (slice_get part.class.methods j) t ps ret at refl e is

user_room : (p : Program) → AllFew p → (m : MethodId) (t : List ℕ) (ps : List FieldType) (ret : Option FieldType) → desc_of p (members.Method m) ≡ t → descriptor_of t ≡ Some (descriptors.Method ps ret) → slots_of ps ≤ 254
unfolding desc_of
user_room p few m t ps ret e is = user_by p few m.class m.method (slice_get p.parts m.class) t ps ret refl e is

-- ---- the library's

abbrev is_few : Option Descriptor → Bool
is_few (Some (descriptors.Method ps ret)) = nat_le (slots_of ps) 254
is_few _ = true

few_is : (o : Option Descriptor) (ps : List FieldType) (ret : Option FieldType) → o ≡ Some (descriptors.Method ps ret) → IsTrue (is_few o) → slots_of ps ≤ 254
few_is o ps ret e h = leb-true (slots_of ps) 254 (subst (λ (x : Option Descriptor). IsTrue (is_few x)) e h)

library_few : (n : ℕ) (m : LibCall) → calling n (Some (members.LibMethod m)) ≡ kinds.Call n → IsTrue (is_few (descriptor_of (library.desc_of m)))
unfolding descriptor_of method_of field_of params_at closing_at type_at base_at class_at return_at slots_of is_class_name
library_few n (calls.Run Source) h = refl
library_few n (calls.Run Passing) h = refl
library_few n (calls.RunAction Source) h = refl
library_few n (calls.RunAction Passing) h = refl
library_few n (calls.Thread (thread.Init Source)) h = refl
library_few n (calls.Thread (thread.Init Passing)) h = refl
library_few n (calls.Thread thread.Start) h = absurd cc
library_few n (calls.Thread thread.Join) h = absurd cc
library_few n (calls.Thread thread.Yield) h = absurd cc
library_few n (calls.Controller controller.Check) h = absurd cc
library_few n (calls.Controller controller.Snapshot) h = absurd cc
library_few n (calls.Controller controller.Privileged) h = absurd cc
library_few n (calls.Controller controller.PrivilegedWith) h = absurd cc
library_few n (calls.Controller controller.PrivilegedLimited) h = absurd cc
library_few n calls.ObjectInit h = absurd cc
library_few n (calls.ThrownInit t i) h = absurd cc
library_few n calls.AccessControlInit h = absurd cc
library_few n calls.GetMessage h = absurd cc
library_few n (calls.String one) h = absurd cc
library_few n (calls.Builder one) h = absurd cc
library_few n calls.Out h = absurd cc
library_few n calls.PrintEnd h = absurd cc
library_few n (calls.Print piece) h = absurd cc
library_few n calls.ContextCheck h = absurd cc
library_few n (calls.PermissionInit one) h = absurd cc
library_few n (calls.Rt one) h = absurd cc

pub library_desc : (p : Program) (m : LibCall) → desc_of p (members.LibMethod m) ≡ library.desc_of m
unfolding desc_of
library_desc p m = refl

-- ---- what is called

pub called_room : (p : Program) → AllFew p → (n : ℕ) (x : Member) (t : List ℕ) (ps : List FieldType) (ret : Option FieldType) → calling n (Some x) ≡ kinds.Call n → desc_of p x ≡ t → descriptor_of t ≡ Some (descriptors.Method ps ret) → slots_of ps ≤ 254
called_room p few n (members.Method m) t ps ret h e is = user_room p few m t ps ret e is
called_room p few n (members.LibMethod m) t ps ret h e is =
    few_is (descriptor_of (library.desc_of m)) ps ret (ap descriptor_of (sym (library_desc p m) ∙ e) ∙ is) (library_few n m h)
called_room p few n (members.Field i j) t ps ret h e is = absurd cc
called_room p few n members.LibField t ps ret h e is = absurd cc

member_room : (p : Program) → AllFew p → (n : ℕ) (o : Option Member) (class name desc t : List ℕ) (ps : List FieldType) (ret : Option FieldType) → resolve_method p class name desc ≡ o → calling n o ≡ kinds.Call n → desc ≡ t
    → descriptor_of t ≡ Some (descriptors.Method ps ret) → slots_of ps ≤ 254
member_room p few n None class name desc t ps ret at h e is = absurd cc
member_room p few n (Some x) class name desc t ps ret at h e is = called_room p few n x t ps ret h (resolved_desc p class name desc x at ∙ e) is

two_room : (p : Program) → AllFew p → (pool : List Entry) (n : ℕ) (interface : Bool) (class : ℕ) (o : Option (ℕ × ℕ)) (r : Reference) (t : List ℕ) (ps : List FieldType) (ret : Option FieldType) → reference_by interface class o ≡ Some r
    → calling n (option_and_then (looked_up pool class (resolve_method p)) o) ≡ kinds.Call n → utf8_at pool r.descriptor ≡ Some t → descriptor_of t ≡ Some (descriptors.Method ps ret) → slots_of ps ≤ 254
two_room p few pool n interface class None r t ps ret at h there is = absurd cc
two_room p few pool n interface class (Some x) r t ps ret at h there is =
    let made : Reference = record { interface = interface; class = class; name = x.0; descriptor = x.1 } in
    let same : made ≡ r = cc in
    let desc : x.1 ≡ r.descriptor = ap (λ (y : Reference). y.descriptor) same in
    member_room p few n (resolve_method p (class_text pool class) (text pool x.0) (text pool x.1)) (class_text pool class) (text pool x.0) (text pool x.1) t ps ret refl h
    (ap (λ (i : ℕ). or_empty (utf8_at pool i)) desc ∙ ap or_empty there) is

entry_room : (p : Program) → AllFew p → (pool : List Entry) (n : ℕ) (e : Option Entry) (r : Reference) (t : List ℕ) (ps : List FieldType) (ret : Option FieldType) → reference_in pool e ≡ Some r → calling n (referred p pool e) ≡ kinds.Call n
    → utf8_at pool r.descriptor ≡ Some t → descriptor_of t ≡ Some (descriptors.Method ps ret) → slots_of ps ≤ 254
entry_room p few pool n (Some (Method class both)) r t ps ret at h there is = two_room p few pool n false class (name_and_type_at pool both) r t ps ret at h there is
entry_room p few pool n (Some (InterfaceMethod class both)) r t ps ret at h there is = two_room p few pool n true class (name_and_type_at pool both) r t ps ret at h there is
entry_room p few pool n None r t ps ret at h there is = absurd cc
entry_room p few pool n (Some Unused) r t ps ret at h there is = absurd cc
entry_room p few pool n (Some (Utf8 x)) r t ps ret at h there is = absurd cc
entry_room p few pool n (Some (Integer x)) r t ps ret at h there is = absurd cc
entry_room p few pool n (Some (Float x)) r t ps ret at h there is = absurd cc
entry_room p few pool n (Some (Long x)) r t ps ret at h there is = absurd cc
entry_room p few pool n (Some (Double x)) r t ps ret at h there is = absurd cc
entry_room p few pool n (Some (Class x)) r t ps ret at h there is = absurd cc
entry_room p few pool n (Some (Str x)) r t ps ret at h there is = absurd cc
entry_room p few pool n (Some (Field c d)) r t ps ret at h there is = absurd cc
entry_room p few pool n (Some (NameAndType m d)) r t ps ret at h there is = absurd cc
entry_room p few pool n (Some (MethodHandle k m)) r t ps ret at h there is = absurd cc
entry_room p few pool n (Some (MethodType d)) r t ps ret at h there is = absurd cc
entry_room p few pool n (Some (InvokeDynamic k d)) r t ps ret at h there is = absurd cc

-- each call that is handed a context has room for it
pub have_room : (p : Program) (c : ClassParts) → AllFew p → HaveRoom p c
unfolding reference_at
have_room p c few n h r t ps ret at there is = entry_room p few c.pool n (slice_get c.pool n) r t ps ret at h there is
