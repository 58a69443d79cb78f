-- The classes that the frames of a method take over with its parameters: moved frames may name them.
use Rattle.std.proofs.Common.{◌≡◌, ℕ, zero, suc, ◌+◌, Bool, true, false, ◌&&◌, not, List, [], ◌∷◌, ◌++◌, length, Option, Some, None, refl, ap, sym, ◌∙◌, subst, inl, inr}
use Rattle.std.specs.Prelude.{IsTrue, is_some, option_map, slice_get, nat_lt, replicate, codes, ◌||◌, ◌==◌, ◌^◌, if◌then◌else◌}
use Rattle.std.specs.List.{list_all, list_any, onto_first, position_from, slice_split}
use Rattle.std.specs.Str.{byte, bytes_eq}
use Rattle.std.proofs.lemmas.Bool.{cases_Bool}
use Rattle.std.proofs.lemmas.Iterator.Adapters.{position_from-zero}
use Rattle.std.proofs.lemmas.Slice.Eq.{bytes_eq-Decides}
use Rattle.jground.specs.jbase.FirstFaults.{fault_if, or_else}
use Rattle.jground.proofs.JformatProofs.ReadingSteps.{first_true, second_true}
use Rattle.jparts.specs.declared.jpool.descriptor.Descriptor.{Descriptor}
use Rattle.jparts.specs.declared.jpool.descriptor.Descriptor.TheVariants as descriptors
use Rattle.jparts.specs.declared.jpool.descriptor.FieldType.{FieldType}
use Rattle.jparts.specs.jpool.Descriptors.{base_at, class_at, closing_at, descriptor_of, descriptor_text, field_of, is_base, is_class_sign, is_type, is_well_formed, method_of, params_at, return_at, slots_of, type_at, type_text}
use Rattle.jparts.specs.jpool.ClassNames.{is_class_name, is_part, is_slash}
use Rattle.jparts.specs.jpool.ConstantPools.{class_name_at}
use Rattle.jparts.proofs.JpoolProofs.DescriptorTexts.{descriptor_again, descriptor_take}
use Rattle.jclass.specs.declared.class.ClassParts.{ClassParts}
use Rattle.jclass.specs.declared.class.MemberInfo.{MemberInfo}
use Rattle.jclass.specs.FlagRules.{names_class, is_plain_class}
use Rattle.jclass.specs.FileContents.{IsIn}
use Rattle.jlinking.specs.jmembers.MemberDeclarations.{desc_left_out, desc_missing, param_left_out, text_left_out, text_missing, type_missing}
use Rattle.jlinking.specs.ProofNames.{return_left_out, return_missing}
use Rattle.jresolution.specs.declared.jprogram.fault.LinkKind.{LinkKind}
use Rattle.jresolution.specs.declared.jprogram.fault.LinkKind.TheVariants.{NoClass, NotAccessible}
use Rattle.jresolution.specs.declared.jprogram.part.CodePart.{CodePart}
use Rattle.jresolution.specs.jprogram.ProgramClasses.{Program, User, find, found_at, place_of}
use Rattle.jresolution.specs.jprogram.MemberResolution.{may_name}
use Rattle.jresolution.specs.jprogram.ProofNames.{is_public_at, return_reserved}
use Rattle.jresolution.specs.jprogram.NameChecks.{desc_reserved, member_reserved, text_reserved, type_reserved}
use Rattle.jresolution.specs.jprogram.ClassFileParts.{member_desc, or_empty, package_of, same_package, this_name}
use Rattle.jresolution.specs.jprogram.SuperChecks.{is_missing}
use Rattle.jlinking.specs.jreferring.ClassNameAccess.{array_or, class_test, class_type, is_array, type_named, type_test}
use Rattle.jlinking.specs.jreferring.ClassEntryUses.{class_use, is_barred_array}
use Rattle.jresolution.specs.jprogram.UnsupportedTypes.{is_context, is_floating}
use Rattle.jmoveclass.specs.EntryLocals.{class_name, is_reference, params_in, params_of}
use Rattle.jmoveclass.proofs.MethodContents.{is_method_of}
use Rattle.jrewriting.proofs.JmoveclassLawsProofs.Texts.{good_types}
use Rattle.jrewriting.specs.jrewrite.LinkageLaws.{IsLinked}
use Rattle.jrewriting.specs.jrewrite.RewrittenPrograms.{moved}
use Rattle.jrewriting.proofs.JrewriteProofs.DeclarationChecks.{differ, first_false, no_fault, second_false}
use Rattle.jrewriting.proofs.JrewriteProofs.ClassLookup.{Named}
use Rattle.jrewriting.proofs.JrewriteProofs.ParameterAccess.{may_name_type}
use Rattle.jrewriting.proofs.JrewriteProofs.FrameItems.{Holds}
use Rattle.jrewriting.proofs.JrewriteProofs.MemberPhase.{any_at, none_or, place_there}
use Rattle.jrewriting.proofs.JrewriteProofs.MovableClasses.{tested_at}
use Rattle.jrewriting.proofs.JrewriteProofs.PlainPrograms.{is_plain}
use Rattle.jrewriting.proofs.JrewriteProofs.Security.{IsPassing, context_lib, type_open}
use Rattle.jrewriting.proofs.JrewriteProofs.HierarchyPhases.{IsPlain, missing_name, plain_at, text_plain}
use Rattle.jrewriting.proofs.JrewriteProofs.SupertypeChains.{type_test_same}

-- ---- the types that class entries name

onto_bracket : (ps : List (List ℕ)) → list_all is_part (onto_first 91 ps) ≡ false
onto_bracket [] = refl
onto_bracket (p ∷ ps) = refl

-- no name of a class begins with a bracket
no_bracket : (rest : List ℕ) → is_class_name (91 ∷ rest) ≡ false
unfolding is_class_name
no_bracket rest = onto_bracket (slice_split is_slash rest)

deep_begins : (n : ℕ) (back : List ℕ) → nat_lt 0 n ≡ true → (rest : List ℕ) × (replicate n (byte "[") ++ back ≡ 91 ∷ rest)
deep_begins zero back h = absurd cc
deep_begins (suc n) back h = (replicate n (byte "[") ++ back, refl)

array_text : (t : FieldType) → is_array t ≡ true → (rest : List ℕ) × (descriptor_text (descriptors.Field t) ≡ 91 ∷ rest)
unfolding descriptor_text
array_text t h = deep_begins t.depth _ h

not_array : (name : List ℕ) (t : FieldType) → is_class_name name ≡ true → descriptor_of name ≡ Some (descriptors.Field t) → is_array t ≡ true → true ≡ false
not_array name t good e h =
    let text = array_text t h in
    sym good ∙ ap is_class_name ((descriptor_take name (descriptors.Field t) e).1 ∙ text.1) ∙ no_bracket text.0

field_by : (name : List ℕ) (t : FieldType) (b : Bool) → is_array t ≡ b → is_class_name name ≡ true → descriptor_of name ≡ Some (descriptors.Field t) → (if b then t else class_type name) ≡ class_type name
field_by name t true e good h = differ (not_array name t good h e)
field_by name t false e good h = refl

class_by : (name : List ℕ) (d : Option Descriptor) → is_class_name name ≡ true → descriptor_of name ≡ d → array_or name d ≡ class_type name
class_by name None good e = refl
class_by name (Some (descriptors.Method ps ret)) good e = refl
class_by name (Some (descriptors.Field t)) good e = field_by name t (is_array t) refl good e

-- a class's name names it
pub class_named : (name : List ℕ) → is_class_name name ≡ true → type_named name ≡ class_type name
unfolding type_named
class_named name good = class_by name (descriptor_of name) good refl

well : (t : FieldType) → IsTrue (is_type t) → IsTrue (is_well_formed (descriptors.Field t))
unfolding is_well_formed
well t h = h

text_read : (t : FieldType) → IsTrue (is_type t) → descriptor_of (type_text t) ≡ Some (descriptors.Field t)
unfolding descriptor_text
text_read t h = descriptor_again (descriptors.Field t) (well t h)

-- an array's descriptor names it
pub array_named : (t : FieldType) → IsTrue (is_type t) → is_array t ≡ true → type_named (type_text t) ≡ t
unfolding type_named
array_named t good h = ap (array_or (type_text t)) (text_read t good) ∙ ap (λ (b : Bool). if b then t else class_type (type_text t)) h

-- ---- what may stand in a frame

-- a class of this name may stand in a frame, seen from a class
abbrev pub Fits : Program → List ℕ → List ℕ → Type 0
Fits q from name = ((class_use q from name).names ≡ None) × ((class_use q from name).barred_item ≡ false)

fits_by : (q : Program) (from name : List ℕ) (t : FieldType) → type_named name ≡ t → type_test q from t ≡ None → is_barred_array t ≡ false → Fits q from name
fits_by q from name t e h k = (ap (type_test q from) e ∙ h, ap is_barred_array e ∙ k)

class_unbarred : (name : List ℕ) → is_barred_array (class_type name) ≡ false
unfolding is_barred_array
class_unbarred name = refl

class_tested : (q : Program) (from name : List ℕ) → type_test q from (class_type name) ≡ class_test q from name
unfolding type_test
class_tested q from name = refl

pub fits_class : (q : Program) (from name : List ℕ) → is_class_name name ≡ true → class_test q from name ≡ None → Fits q from name
fits_class q from name good h = fits_by q from name (class_type name) (class_named name good) (class_tested q from name ∙ h) (class_unbarred name)

context_unbarred : is_barred_array (type_named (codes "sps/Ctx")) ≡ false
unfolding is_barred_array type_named descriptor_of method_of field_of params_at closing_at type_at base_at class_at return_at slots_of is_class_name
context_unbarred = refl

-- the class of contexts may stand in a frame
pub context_fits : (q : Program) → IsPassing q → (from : List ℕ) → Fits q from (codes "sps/Ctx")
context_fits q is from = (type_open q is from (type_named (codes "sps/Ctx")) context_lib, context_unbarred)

-- ---- parameters

-- what is known of a parameter
record Good (p : Program) (from : List ℕ) (t : FieldType) : Type 0 where
  pub formed : IsTrue (is_type t)
  pub kept : param_left_out t ≡ false
  pub here : type_missing p t ≡ false
  pub plain : type_reserved t ≡ false
  pub may : may_name_type p from t ≡ true

test_if : (b missing may : Bool) (x y : LinkKind) → (b && missing) ≡ false → (not b || may) ≡ true → (if b then or_else (fault_if missing x) (fault_if (not may) y) else None) ≡ None
test_if true true may x y h k = absurd cc
test_if true false true x y h k = refl
test_if true false false x y h k = absurd cc
test_if false missing may x y h k = refl

tested : (p : Program) (from : List ℕ) (t : FieldType) → Good p from t → type_test p from t ≡ None
unfolding type_test class_test
tested p from t g = test_if (is_class_sign t.base) (is_missing p t.class) (may_name p from t.class) NoClass NotAccessible g.here g.may

unbarred_by : (a c f : Bool) → (f || (c && a)) ≡ false → (a && (c || f)) ≡ false
unbarred_by true true true h = absurd cc
unbarred_by true true false h = absurd cc
unbarred_by true false true h = absurd cc
unbarred_by true false false h = refl
unbarred_by false c f h = refl

unbarred : (t : FieldType) → param_left_out t ≡ false → is_barred_array t ≡ false
unfolding is_barred_array
unbarred t h = unbarred_by (is_array t) (is_context t) (is_floating t) h

sign_name : (t : FieldType) → IsTrue (is_type t) → is_class_sign t.base ≡ true → is_class_name t.class ≡ true
sign_name t good sign =
    let named : IsTrue (if is_class_sign t.base then is_class_name t.class else is_base t.base && length t.class == 0) = second_true (nat_lt t.depth (2 ^ 32)) _ good in
    rw sign at named

sign_test : (q : Program) (from : List ℕ) (t : FieldType) → is_class_sign t.base ≡ true → type_test q from t ≡ None → class_test q from t.class ≡ None
unfolding type_test
sign_test q from t sign h = ap (λ (b : Bool). if b then class_test q from t.class else None) (sym sign) ∙ h

param_by : (q : Program) (from : List ℕ) (t : FieldType) (b : Bool) → nat_lt 0 t.depth ≡ b → IsTrue (is_type t) → param_left_out t ≡ false → type_test q from t ≡ None → (b || is_class_sign t.base) ≡ true → Fits q from (if b then type_text t else t.class)
param_by q from t true e good kept h r = fits_by q from (type_text t) t (array_named t good e) h (unbarred t kept)
param_by q from t false e good kept h r = fits_class q from t.class (sign_name t good r) (sign_test q from t r h)

param_fits : (p : Program) → IsPlain p → (from : List ℕ) (t : FieldType) → Good p from t → is_reference t ≡ true → Fits (moved p) from (class_name t)
param_fits p is from t g r = param_by (moved p) from t (nat_lt 0 t.depth) refl g.formed g.kept (type_test_same p is from t g.plain ∙ tested p from t g) r

params_fit : (p : Program) → IsPlain p → (from : List ℕ) (ts : List FieldType) → IsTrue (list_all is_type ts) → list_any param_left_out ts ≡ false → list_any (type_missing p) ts ≡ false → list_any type_reserved ts ≡ false → IsTrue (list_all (may_name_type p from) ts)
    → Holds (Fits (moved p) from) ts
params_fit p is from [] good kept here plain may = tt
params_fit p is from (t ∷ ts) good kept here plain may =
    let one : Good p from t = record {
      formed = first_true (is_type t) (list_all is_type ts) good;
      kept = first_false (param_left_out t) (list_any param_left_out ts) kept;
      here = first_false (type_missing p t) (list_any (type_missing p) ts) here;
      plain = first_false (type_reserved t) (list_any type_reserved ts) plain;
      may = first_true (may_name_type p from t) (list_all (may_name_type p from) ts) may;
    } in (
      param_fits p is from t one,
      params_fit p is from ts (second_true (is_type t) (list_all is_type ts) good) (second_false (param_left_out t) (list_any param_left_out ts) kept) (second_false (type_missing p t) (list_any (type_missing p) ts) here)
          (second_false (type_reserved t) (list_any type_reserved ts) plain) (second_true (may_name_type p from t) (list_all (may_name_type p from) ts) may),
    )

method_by : (p : Program) → IsPlain p → (from text : List ℕ) (ts ps : List FieldType) (ret : Option FieldType) → ts ≡ ps → descriptor_of text ≡ Some (descriptors.Method ps ret) → text_left_out text ≡ false → text_missing p text ≡ false → text_reserved text ≡ false
    → IsTrue (list_all (may_name_type p from) ts) → Holds (Fits (moved p) from) ts
unfolding text_left_out text_missing text_reserved
method_by p is from text ts ps ret same e kept here plain may =
    let out : (list_any param_left_out ps || return_left_out ret) ≡ false = sym (ap desc_left_out e) ∙ kept in
    let there : (list_any (type_missing p) ps || return_missing p ret) ≡ false = sym (ap (desc_missing p) e) ∙ here in
    let free : (list_any type_reserved ps || return_reserved ret) ≡ false = sym (ap desc_reserved e) ∙ plain in
    subst (Holds (Fits (moved p) from)) (sym same)
    (params_fit p is from ps (good_types text ps ret e).0 (first_false (list_any param_left_out ps) (return_left_out ret) out) (first_false (list_any (type_missing p) ps) (return_missing p ret) there)
    (first_false (list_any type_reserved ps) (return_reserved ret) free) (subst (λ (us : List FieldType). IsTrue (list_all (may_name_type p from) us)) same may))

-- no name in a method's descriptor is reserved
pub desc_free : (p : Program) → IsLinked p → (i : ℕ) (part : CodePart) (m : MemberInfo) → slice_get p.parts i ≡ Some part → IsIn m part.class.methods → text_reserved (member_desc part.class m) ≡ false
desc_free p is i part m at there =
    let c = part.class in
    let plain = plain_at p (is_plain p is) i part at in
    any_at (member_reserved c) c.methods there.0 m (first_false (list_any (member_reserved c) c.methods) _ (second_false _ _ plain.kept)) there.1

-- the classes of a method's parameters may stand in its moved frames, where its class may name them
pub method_fits : (p : Program) → IsLinked p → (i : ℕ) (part : CodePart) (m : MemberInfo) → slice_get p.parts i ≡ Some part → IsIn m part.class.methods → IsTrue (list_all (may_name_type p (this_name part.class)) (params_of part.class m))
    → Holds (Fits (moved p) (this_name part.class)) (params_of part.class m)
method_fits p is i part m at there may =
    let c = part.class in
    let d = is_method_of c m (is.files i part at) there in
    let t = tested_at p i there.0 part m is.links at there.1 in
    let free = desc_free p is i part m at there in
    method_by p (is_plain p is) (this_name c) (member_desc c m) (params_of c m) d.params d.ret (ap params_in d.is) d.is t.kept t.here free may

-- ---- `this`

found_from : (f : CodePart → Bool) (n : ℕ) (xs : List CodePart) (i : ℕ) (x : CodePart) → slice_get xs i ≡ Some x → f x ≡ true → is_some (position_from f n xs) ≡ true
found_from f n [] i x at h = absurd cc
found_from f n (y ∷ ys) zero x at h =
    let same : y ≡ x = cc in
    ap (λ (b : Bool). is_some (if b then Some n else position_from f (n + 1) ys)) (ap f same ∙ h)
found_from f n (y ∷ ys) (suc i) x at h = elim (cases_Bool (f y)) [
  | inl hit ↦ ap (λ (b : Bool). is_some (if b then Some n else position_from f (n + 1) ys)) hit
  | inr miss ↦ ap (λ (b : Bool). is_some (if b then Some n else position_from f (n + 1) ys)) miss ∙ found_from f (n + 1) ys i x at h
]

itself : (name : List ℕ) → bytes_eq name name ≡ true
itself name = (bytes_eq-Decides name name).1 refl

user_there : (p : Program) (name : List ℕ) (o : Option ℕ) → place_of p.parts name ≡ o → is_some o ≡ true → is_some (found_at p name o) ≡ true
user_there p name None e h = absurd cc
user_there p name (Some j) e h = let r = place_there p.parts name j e in ap (λ (x : Option CodePart). is_some (option_map (λ part. User j part.class) x)) r.1

this_there : (p : Program) (i : ℕ) (part : CodePart) → slice_get p.parts i ≡ Some part → is_missing p (this_name part.class) ≡ false
unfolding find place_of
this_there p i part at =
    let name = this_name part.class in
    let f : CodePart → Bool = λ x. bytes_eq (this_name x.class) name in
    let found : is_some (place_of p.parts name) ≡ true = ap is_some (position_from-zero f p.parts) ∙ found_from f 0 p.parts i part at (itself name) in
    ap not (user_there p name (place_of p.parts name) refl found)

plain_class : (o : Option (List ℕ)) → IsTrue (is_plain_class o) → is_class_name (or_empty o) ≡ true
plain_class None h = absurd cc
plain_class (Some name) h = h

this_class : (c : ClassParts) → Named c → is_class_name (this_name c) ≡ true
unfolding names_class
this_class c n = plain_class (class_name_at c.pool c.this_class) n.this

or_right : (a b : Bool) → b ≡ true → (a || b) ≡ true
or_right true b h = refl
or_right false b h = h

open_here : (q : Program) (name : List ℕ) → may_name q name name ≡ true
unfolding may_name
open_here q name = or_right (is_public_at q name) (same_package name name) (itself (package_of name))

-- a class may stand in its own frames
pub this_fits : (p : Program) → IsLinked p → (i : ℕ) (part : CodePart) → slice_get p.parts i ≡ Some part → Fits (moved p) (this_name part.class) (this_name part.class)
unfolding class_test
this_fits p is i part at =
    let name = this_name part.class in
    let plainly = is_plain p is in
    let x = plain_at p plainly i part at in
    let here = missing_name p plainly name (text_plain part.class part.class.this_class x.kept x.named.this) ∙ this_there p i part at in
    fits_class (moved p) name name (this_class part.class x.named)
    (none_or (fault_if (is_missing (moved p) name) NoClass) (fault_if (not (may_name (moved p) name name)) NotAccessible) (no_fault (is_missing (moved p) name) NoClass here)
    (no_fault (not (may_name (moved p) name name)) NotAccessible (ap not (open_here (moved p) name))))
