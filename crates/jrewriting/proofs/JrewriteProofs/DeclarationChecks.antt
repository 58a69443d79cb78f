-- What a moved class declares breaks no rule of the third phase of linking, but for final methods above it, which aren't looked at here.
use Rattle.std.proofs.Common.{◌≡◌, ℕ, suc, Bool, true, false, ◌&&◌, List, [], ◌∷◌, ◌++◌, Option, Some, None, refl, ap, sym, ◌∙◌, inl, inr}
use Rattle.std.specs.Prelude.{IsTrue, slice_get, codes, ◌||◌, if◌then◌else◌}
use Rattle.std.specs.List.{list_any}
use Rattle.std.specs.Str.{bytes_eq}
use Rattle.std.proofs.lemmas.Bool.{cases_Bool}
use Rattle.std.proofs.lemmas.List.{append_cancel_right}
use Rattle.std.proofs.lemmas.Slice.Eq.{bytes_eq-Decides}
use Rattle.jground.specs.jbase.FirstFaults.{fault_if}
use Rattle.jparts.specs.declared.jpool.descriptor.Descriptor.{Descriptor}
use Rattle.jparts.specs.declared.jpool.descriptor.Descriptor.TheVariants as descriptors
use Rattle.jparts.specs.declared.jpool.descriptor.FieldType.{FieldType}
use Rattle.jparts.specs.declared.jpool.entry.Entry.{Entry}
use Rattle.jparts.specs.jpool.Descriptors.{base_at, class_at, closing_at, descriptor_of, descriptor_text, field_of, is_class_sign, method_of, params_at, return_at, slots_of, type_at}
use Rattle.jparts.specs.jpool.ClassNames.{is_class_name}
use Rattle.jparts.specs.jpool.ConstantPools.{is_utf8}
use Rattle.jparts.proofs.JpoolProofs.DescriptorTexts.{descriptor_take}
use Rattle.jclass.specs.declared.access.Access.{Access}
use Rattle.jclass.specs.declared.class.ClassParts.{ClassParts}
use Rattle.jclass.specs.declared.class.MemberInfo.{MemberInfo}
use Rattle.jclass.specs.FileContents.{IsIn}
use Rattle.jlib.specs.declared.side.Side.TheVariants.{Passing, Source}
use Rattle.jlib.specs.declared.classes.LibClass.{LibClass}
use Rattle.jlib.specs.declared.calls.ThrownInit.TheVariants as given
use Rattle.jlib.specs.declared.calls.PrintedType.TheVariants as piece
use Rattle.jlib.specs.declared.calls.StringCall.TheVariants as string
use Rattle.jlib.specs.declared.calls.BuilderCall.TheVariants as builder
use Rattle.jlib.specs.declared.calls.ThreadCall.TheVariants as thread
use Rattle.jlib.specs.declared.calls.ControllerCall.TheVariants as controller
use Rattle.jlib.specs.declared.calls.PermissionInit.TheVariants as init
use Rattle.jlib.specs.declared.calls.RtCall.TheVariants as rt
use Rattle.jlib.specs.declared.calls.LibCall.{LibCall}
use Rattle.jlib.specs.declared.calls.LibCall.TheVariants as call
use Rattle.jlib.specs.LibraryMembers as library
use Rattle.jlib.specs.LibraryMembers.{desc_of, fixes, is_concrete, members, name_of_call}
use Rattle.jlib.specs.LibraryClasses.{is_open, open_classes}
use Rattle.jlinking.specs.jmembers.MemberDeclarations.{is_fixed, is_fixed_by, names_above, desc_left_out, desc_missing, is_again, is_native, is_synchronized, is_too_long, method_left_out, param_left_out, text_left_out, text_missing, type_missing}
use Rattle.jlinking.specs.ProofNames.{is_fixed_at, return_left_out, return_missing}
use Rattle.jresolution.specs.jprogram.UnsupportedTypes.{is_context}
use Rattle.jmove.specs.PoolAdditions.{IsFront, context_type, moved_descriptor}
use Rattle.jresolution.specs.jprogram.ProgramClasses.{Class, Lib, Program, User, find}
use Rattle.jresolution.specs.jprogram.NameChecks.{desc_reserved, text_reserved, type_reserved}
use Rattle.jresolution.specs.jprogram.ProofNames.{return_reserved}
use Rattle.jresolution.specs.jprogram.ClassFileParts.{has_code, is_called, is_interface, member_desc, member_name, or_empty, text}
use Rattle.jresolution.specs.jprogram.SuperChecks.{is_missing}
use Rattle.jmoveclass.specs.MovedMembers.{new_desc}
use Rattle.jmoveclass.proofs.PoolStability.{same_text}
use Rattle.jrewriting.proofs.JmoveclassLawsProofs.MovedMethods.{Alike, Like}
use Rattle.jrewriting.specs.jrewrite.RewrittenPrograms.{moved}
use Rattle.jrewriting.proofs.JrewriteProofs.HierarchyPhases.{IsPlain, missing_name}

-- ---- texts

pub differ : {P : Type 0} → true ≡ false → P
differ h = absurd cc

pub text_same : (pool whole : List Entry) → IsFront pool whole → (i : ℕ) → IsTrue (is_utf8 pool i) → text whole i ≡ text pool i
text_same pool whole f i h = ap or_empty (same_text pool whole f i h)

same_eq : (a b x y : List ℕ) → (a ≡ b → x ≡ y) → (x ≡ y → a ≡ b) → bytes_eq a b ≡ bytes_eq x y
same_eq a b x y forth back = elim (cases_Bool (bytes_eq a b)) [
  | inl hit ↦ hit ∙ sym ((bytes_eq-Decides x y).1 (forth ((bytes_eq-Decides a b).0 hit)))
  | inr miss ↦ elim (cases_Bool (bytes_eq x y)) [
    | inl hit ↦ differ (sym ((bytes_eq-Decides a b).1 (back ((bytes_eq-Decides x y).0 hit))) ∙ miss)
    | inr other ↦ miss ∙ sym other
  ]
]

-- ---- descriptors

-- a method's types, before and after
pub record Facts (c : ClassParts) (m : MemberInfo) : Type 0 where
  pub ps : List FieldType
  pub ret : Option FieldType
  pub old : descriptor_of (member_desc c m) ≡ Some (descriptors.Method ps ret)
  pub new : descriptor_of (new_desc c m) ≡ Some (descriptors.Method (ps ++ context_type ∷ []) ret)

-- new descriptors are one where the old ones are
pub desc_same : (c d : ClassParts) (m n : MemberInfo) → Facts c m → Facts d n → bytes_eq (new_desc c m) (new_desc d n) ≡ bytes_eq (member_desc c m) (member_desc d n)
desc_same c d m n f g = same_eq (new_desc c m) (new_desc d n) (member_desc c m) (member_desc d n)
    (λ e. (
    let read : Some (descriptors.Method (f.ps ++ context_type ∷ []) f.ret) ≡ Some (descriptors.Method (g.ps ++ context_type ∷ []) g.ret) = sym f.new ∙ ap descriptor_of e ∙ g.new in
    let longer_same : f.ps ++ context_type ∷ [] ≡ g.ps ++ context_type ∷ [] = cc in
    let ret : f.ret ≡ g.ret = cc in
    let ps : f.ps ≡ g.ps = append_cancel_right f.ps g.ps (context_type ∷ []) longer_same in
    (descriptor_take (member_desc c m) (descriptors.Method f.ps f.ret) f.old).1
    ∙ ap (λ (l : List FieldType). descriptor_text (descriptors.Method l f.ret)) ps
    ∙ ap (λ (r : Option FieldType). descriptor_text (descriptors.Method g.ps r)) ret
    ∙ sym (descriptor_take (member_desc d n) (descriptors.Method g.ps g.ret) g.old).1))
    (λ e. ap (λ (t : List ℕ). or_empty (moved_descriptor t)) e)

-- ---- twice

-- what is known of a moved class
pub record Moving (c d : ClassParts) : Type 0 where
  pub front : IsFront c.pool d.pool
  pub facts : (m : MemberInfo) → IsIn m c.methods → Facts c m
  pub named : (m : MemberInfo) → IsIn m c.methods → IsTrue (is_utf8 c.pool m.name)

pub name_same : (c d : ClassParts) (m n : MemberInfo) → Moving c d → IsIn m c.methods → Like c d.pool m n → member_name d n ≡ member_name c m
name_same c d m n k is like = ap (text d.pool) like.name ∙ text_same c.pool d.pool k.front m.name (k.named m is)

pub desc_is : (c d : ClassParts) (m n : MemberInfo) → Like c d.pool m n → member_desc d n ≡ new_desc c m
desc_is c d m n like = ap or_empty like.desc

-- of two methods of the class
called_same : (c d : ClassParts) (x m y n : MemberInfo) → Moving c d → IsIn x c.methods → IsIn m c.methods → Like c d.pool x y → Like c d.pool m n
    → is_called d (member_name d n) (member_desc d n) y ≡ is_called c (member_name c m) (member_desc c m) x
called_same c d x m y n k at is one other =
    let named : bytes_eq (member_name d y) (member_name d n) ≡ bytes_eq (member_name c x) (member_name c m) =
    ap (λ (t : List ℕ). bytes_eq t (member_name d n)) (name_same c d x y k at one) ∙ ap (bytes_eq (member_name c x)) (name_same c d m n k is other) in
    let typed : bytes_eq (member_desc d y) (member_desc d n) ≡ bytes_eq (member_desc c x) (member_desc c m) =
    ap (λ (t : List ℕ). bytes_eq t (member_desc d n)) (desc_is c d x y one) ∙ ap (bytes_eq (new_desc c x)) (desc_is c d m n other) ∙ desc_same c c x m (k.facts x at) (k.facts m is) in
    ap (λ (b : Bool). b && bytes_eq (member_desc d y) (member_desc d n)) named ∙ ap (λ (b : Bool). bytes_eq (member_name c x) (member_name c m) && b) typed

pub again_same : (c d : ClassParts) (xs ys : List MemberInfo) (m n : MemberInfo) → Moving c d → ((i : ℕ) (x : MemberInfo) → slice_get xs i ≡ Some x → IsIn x c.methods) → Alike c d.pool xs ys → IsIn m c.methods → Like c d.pool m n
    → is_again d ys n ≡ is_again c xs m
again_same c d [] [] m n k sub all is like = refl
again_same c d [] (y ∷ ys) m n k sub all is like = absurd all
again_same c d (x ∷ xs) [] m n k sub all is like = absurd all
again_same c d (x ∷ xs) (y ∷ ys) m n k sub all is like =
    rw (called_same c d x m y n k (sub 0 x refl) is all.0 like, again_same c d xs ys m n k (λ i z at. sub (suc i) z at) all.1 is like) refl

-- ---- left out

pub first_false : (a b : Bool) → (a || b) ≡ false → a ≡ false
first_false true b h = absurd cc
first_false false b h = refl

pub second_false : (a b : Bool) → (a || b) ≡ false → b ≡ false
second_false true b h = absurd cc
second_false false b h = h

pub or_join : (a b : Bool) → a ≡ false → b ≡ false → (a || b) ≡ false
or_join true b h k = absurd cc
or_join false b h k = k

any_join : (f : FieldType → Bool) (ps qs : List FieldType) → list_any f ps ≡ false → list_any f qs ≡ false → list_any f (ps ++ qs) ≡ false
any_join f [] qs h k = k
any_join f (p ∷ ps) qs h k = or_join (f p) (list_any f (ps ++ qs)) (first_false (f p) (list_any f ps) h) (any_join f ps qs (second_false (f p) (list_any f ps) h) k)

context_kept : list_any param_left_out (context_type ∷ []) ≡ false
context_kept = refl

pub desc_kept : (c : ClassParts) (m : MemberInfo) → Facts c m → text_left_out (member_desc c m) ≡ false → text_left_out (new_desc c m) ≡ false
unfolding text_left_out
desc_kept c m f h =
    let old : (list_any param_left_out f.ps || return_left_out f.ret) ≡ false = sym (ap desc_left_out f.old) ∙ h in
    ap desc_left_out f.new ∙ or_join (list_any param_left_out (f.ps ++ context_type ∷ [])) (return_left_out f.ret)
    (any_join param_left_out f.ps (context_type ∷ []) (first_false (list_any param_left_out f.ps) (return_left_out f.ret) old) context_kept) (second_false (list_any param_left_out f.ps) (return_left_out f.ret) old)

pub no_again : {F : Type 0} (b : Bool) (fault : F) → fault_if b fault ≡ None → b ≡ false
no_again true fault h = absurd cc
no_again false fault h = refl

pub no_fault : {F : Type 0} (b : Bool) (fault : F) → b ≡ false → fault_if b fault ≡ None
no_fault true fault h = absurd cc
no_fault false fault h = refl

-- what a method isn't, it isn't where it is moved
pub left_same : (c d : ClassParts) (m n : MemberInfo) → Moving c d → d.flags ≡ c.flags → IsIn m c.methods → Like c d.pool m n → method_left_out Source c m ≡ false → method_left_out Passing d n ≡ false
left_same c d m n k flags is like h =
    let long = is_too_long Source (member_desc c m) in
    let coded = (is_interface c.flags && has_code m) || long in
    let locked = is_synchronized m.flags || coded in
    let others = is_native m.flags || locked in
    let one = first_false (bytes_eq (member_name c m) (codes "<clinit>")) others h in
    let a = second_false (bytes_eq (member_name c m) (codes "<clinit>")) others h in
    let two = first_false (is_native m.flags) locked a in
    let b = second_false (is_native m.flags) locked a in
    let three = first_false (is_synchronized m.flags) coded b in
    let four = first_false (is_interface c.flags && has_code m) long (second_false (is_synchronized m.flags) coded b) in
    let coded_now : (is_interface d.flags && has_code n) ≡ false = ap (λ (f : Access). is_interface f && has_code n) flags ∙ ap (λ (x : Bool). is_interface c.flags && x) like.code ∙ four in
    or_join (bytes_eq (member_name d n) (codes "<clinit>")) (is_native n.flags || (is_synchronized n.flags || ((is_interface d.flags && has_code n) || false)))
    (ap (λ (t : List ℕ). bytes_eq t (codes "<clinit>")) (name_same c d m n k is like) ∙ one)
    (or_join (is_native n.flags) (is_synchronized n.flags || ((is_interface d.flags && has_code n) || false)) (ap is_native like.flags ∙ two)
    (or_join (is_synchronized n.flags) ((is_interface d.flags && has_code n) || false) (ap is_synchronized like.flags ∙ three)
    (or_join (is_interface d.flags && has_code n) false coded_now refl)))

-- ---- classes that are missing

pub type_same : (p : Program) → IsPlain p → (t : FieldType) → type_reserved t ≡ false → type_missing (moved p) t ≡ type_missing p t
type_same p is t plain = ap (λ (b : Bool). is_class_sign t.base && b) (missing_name p is t.class plain)

pub types_there : (p : Program) → IsPlain p → (ts : List FieldType) → list_any type_reserved ts ≡ false → list_any (type_missing p) ts ≡ false → list_any (type_missing (moved p)) ts ≡ false
types_there p is [] plain h = refl
types_there p is (t ∷ ts) plain h =
    or_join (type_missing (moved p) t) (list_any (type_missing (moved p)) ts) (type_same p is t (first_false (type_reserved t) (list_any type_reserved ts) plain) ∙ first_false (type_missing p t) (list_any (type_missing p) ts) h)
    (types_there p is ts (second_false (type_reserved t) (list_any type_reserved ts) plain) (second_false (type_missing p t) (list_any (type_missing p) ts) h))

pub return_there : (p : Program) → IsPlain p → (ret : Option FieldType) → return_reserved ret ≡ false → return_missing p ret ≡ false → return_missing (moved p) ret ≡ false
return_there p is None plain h = refl
return_there p is (Some t) plain h = type_same p is t plain ∙ h

pub types_stay : (p : Program) → IsPlain p → is_missing (moved p) context_type.class ≡ false → (c : ClassParts) (m : MemberInfo) → Facts c m → text_reserved (member_desc c m) ≡ false → text_missing p (member_desc c m) ≡ false → text_missing (moved p) (new_desc c m) ≡ false
unfolding text_missing text_reserved
types_stay p is context c m f plain h =
    let old : (list_any (type_missing p) f.ps || return_missing p f.ret) ≡ false = sym (ap (desc_missing p) f.old) ∙ h in
    let kept : (list_any type_reserved f.ps || return_reserved f.ret) ≡ false = sym (ap desc_reserved f.old) ∙ plain in
    let last : type_missing (moved p) context_type ≡ false = ap (λ (b : Bool). is_class_sign context_type.base && b) context in
    ap (desc_missing (moved p)) f.new ∙ or_join (list_any (type_missing (moved p)) (f.ps ++ context_type ∷ [])) (return_missing (moved p) f.ret)
    (any_join (type_missing (moved p)) f.ps (context_type ∷ []) (types_there p is f.ps (first_false (list_any type_reserved f.ps) (return_reserved f.ret) kept) (first_false (list_any (type_missing p) f.ps) (return_missing p f.ret) old))
    (or_join (type_missing (moved p) context_type) false last refl))
    (return_there p is f.ret (second_false (list_any type_reserved f.ps) (return_reserved f.ret) kept) (second_false (list_any (type_missing p) f.ps) (return_missing p f.ret) old))

-- ---- methods that the library fixes

abbrev pub last_is : Bool → List FieldType → Bool
last_is b [] = b
last_is b (t ∷ ts) = last_is (is_context t) ts

-- the last parameter is a context
abbrev pub ends_so : Option Descriptor → Bool
ends_so (Some (descriptors.Method ps ret)) = last_is false ps
ends_so _ = false

last_context : (b : Bool) (ps : List FieldType) → last_is b (ps ++ context_type ∷ []) ≡ true
last_context b [] = refl
last_context b (p ∷ ps) = last_context (is_context p) ps

-- no method of the library that has code is handed one
none_ends : (m : LibCall) → (is_concrete m && ends_so (descriptor_of (desc_of m))) ≡ false
unfolding descriptor_of method_of field_of params_at closing_at type_at base_at class_at return_at slots_of is_class_name
none_ends call.ObjectInit = refl
none_ends (call.ThrownInit one given.Message) = refl
none_ends (call.ThrownInit one given.Nothing) = refl
none_ends call.AccessControlInit = refl
none_ends call.GetMessage = refl
none_ends (call.String string.Length) = refl
none_ends (call.String string.CharAt) = refl
none_ends (call.String string.Equals) = refl
none_ends (call.String string.Concat) = refl
none_ends (call.Builder builder.Init) = refl
none_ends (call.Builder builder.InitText) = refl
none_ends (call.Builder (builder.Append piece.Int)) = refl
none_ends (call.Builder (builder.Append piece.Long)) = refl
none_ends (call.Builder (builder.Append piece.Char)) = refl
none_ends (call.Builder (builder.Append piece.Bool)) = refl
none_ends (call.Builder (builder.Append piece.Text)) = refl
none_ends (call.Builder builder.ToString) = refl
none_ends call.Out = refl
none_ends call.PrintEnd = refl
none_ends (call.Print piece.Int) = refl
none_ends (call.Print piece.Long) = refl
none_ends (call.Print piece.Char) = refl
none_ends (call.Print piece.Bool) = refl
none_ends (call.Print piece.Text) = refl
none_ends (call.Run Source) = refl
none_ends (call.Run Passing) = refl
none_ends (call.Thread (thread.Init Source)) = refl
none_ends (call.Thread (thread.Init Passing)) = refl
none_ends (call.Thread thread.Start) = refl
none_ends (call.Thread thread.Join) = refl
none_ends (call.Thread thread.Yield) = refl
none_ends (call.RunAction Source) = refl
none_ends (call.RunAction Passing) = refl
none_ends (call.Controller controller.Check) = refl
none_ends (call.Controller controller.Snapshot) = refl
none_ends (call.Controller controller.Privileged) = refl
none_ends (call.Controller controller.PrivilegedWith) = refl
none_ends (call.Controller controller.PrivilegedLimited) = refl
none_ends call.ContextCheck = refl
none_ends (call.PermissionInit init.All) = refl
none_ends (call.PermissionInit init.Runtime) = refl
none_ends (call.PermissionInit init.RuntimeActions) = refl
none_ends (call.PermissionInit init.Security) = refl
none_ends (call.PermissionInit init.SecurityActions) = refl
none_ends (call.PermissionInit init.Property) = refl
none_ends (call.PermissionInit init.File) = refl
none_ends (call.Rt rt.Enter) = refl
none_ends (call.Rt rt.Check) = refl
none_ends (call.Rt rt.Snapshot) = refl
none_ends (call.Rt rt.Privileged) = refl
none_ends (call.Rt rt.PrivilegedWith) = refl
none_ends (call.Rt rt.PrivilegedLimited) = refl

and_first : (a b c : Bool) → (a && b) ≡ false → b ≡ true → (a && c) ≡ false
and_first true b c h k = differ (sym k ∙ h)
and_first false b c h k = refl

and_last : (a b c : Bool) → c ≡ false → (a && (b && c)) ≡ false
and_last true true c h = h
and_last true false c h = refl
and_last false b c h = refl

none_fixed : (name desc : List ℕ) → ends_so (descriptor_of desc) ≡ true → (m : LibCall) → (is_concrete m && library.is_called name desc m) ≡ false
none_fixed name desc ends m = elim (cases_Bool (bytes_eq desc (desc_of m))) [
  | inl hit ↦ and_first (is_concrete m) (ends_so (descriptor_of (desc_of m))) (library.is_called name desc m) (none_ends m) (sym (ap (λ (t : List ℕ). ends_so (descriptor_of t)) ((bytes_eq-Decides desc (desc_of m)).0 hit)) ∙ ends)
  | inr miss ↦ and_last (is_concrete m) (bytes_eq name (name_of_call m)) (bytes_eq desc (desc_of m)) miss
]

any_none : {A : Type 0} (f : A → Bool) (xs : List A) → ((x : A) → f x ≡ false) → list_any f xs ≡ false
any_none f [] h = refl
any_none f (x ∷ xs) h = or_join (f x) (list_any f xs) (h x) (any_none f xs h)

pub and_none : (a b : Bool) → b ≡ false → (a && b) ≡ false
and_none true b h = h
and_none false b h = refl

class_free : (name desc : List ℕ) → ends_so (descriptor_of desc) ≡ true → (c : LibClass) → fixes name desc c ≡ false
class_free name desc ends c = and_none (is_open c) (list_any (λ m. is_concrete m && library.is_called name desc m) (members c)) (any_none (λ m. is_concrete m && library.is_called name desc m) (members c) (none_fixed name desc ends))

found_free : (name desc : List ℕ) → ends_so (descriptor_of desc) ≡ true → (o : Option Class) → is_fixed_by name desc o ≡ false
found_free name desc ends None = refl
found_free name desc ends (Some (User i c)) = refl
found_free name desc ends (Some (Lib c)) = class_free name desc ends c

either_free : (b x y : Bool) → x ≡ false → y ≡ false → (if b then x else y) ≡ false
either_free true x y h k = h
either_free false x y h k = k

pub not_fixed : (p : Program) (c : ClassParts) (name desc : List ℕ) → ends_so (descriptor_of desc) ≡ true → is_fixed p c name desc ≡ false
not_fixed p c name desc ends =
    either_free (is_interface c.flags) (list_any (fixes name desc) open_classes) (list_any (is_fixed_at p name desc) (names_above p c))
    (any_none (fixes name desc) open_classes (class_free name desc ends)) (any_none (is_fixed_at p name desc) (names_above p c) (λ n. found_free name desc ends (find p n)))

pub new_ends : (c : ClassParts) (m : MemberInfo) → Facts c m → ends_so (descriptor_of (new_desc c m)) ≡ true
new_ends c m f = ap ends_so f.new ∙ last_context false f.ps
