-- The members of a program that links and whose parts are class files have descriptors of their kinds, without float and double.
use Rattle.std.proofs.Common.{◌≡◌, ℕ, Bool, true, false, ◌||◌, not, List, [], ◌∷◌, take, length, ◌+◌, Option, Some, None, refl, sym, ap, subst, ◌∙◌}
use Rattle.std.specs.Prelude.{option_and_then, option_map, slice_get, if◌then◌else◌}
use Rattle.std.specs.List.{list_any, position}
use Rattle.std.specs.Option.{IsSome}
use Rattle.std.specs.Str.{bytes_eq}
use Rattle.std.proofs.lemmas.Bool.{and_parts, or_parts}
use Rattle.std.proofs.lemmas.Slice.Eq.{bytes_eq-Decides}
use Rattle.jground.specs.jbase.FirstFaults.{first_some, or_else}
use Rattle.jground.proofs.JbaseProofs.Firsts.{none_fails, none_of}
use Rattle.jparts.specs.declared.jpool.descriptor.Descriptor.{Descriptor}
use Rattle.jparts.specs.declared.jpool.descriptor.FieldType.{FieldType}
use Rattle.jparts.specs.jpool.Descriptors.{descriptor_of, descriptor_text, field, field_of, is_opening, is_well_formed, method, method_of, params_at, returned}
use Rattle.jparts.proofs.JpoolProofs.DescriptorTexts.{descriptor_again, field_take}
use Rattle.jclass.specs.declared.class.ClassParts.{ClassParts}
use Rattle.jclass.specs.declared.class.MemberInfo.{MemberInfo}
use Rattle.jlib.specs.declared.calls.LibCall.{LibCall}
use Rattle.jlib.specs.LibraryMembers as library_calls
use Rattle.jlib.specs.LibraryClasses as library
use Rattle.jlib.proofs.LibraryLookup.{call_found}
use Rattle.jresolution.specs.declared.jprogram.fault.LinkKind.{LinkKind}
use Rattle.jresolution.specs.declared.jprogram.fault.LinkKind.TheVariants.{LeftOut}
use Rattle.jresolution.specs.declared.jprogram.member.Member.{Member}
use Rattle.jresolution.specs.declared.jprogram.member.Member.TheVariants.{Field, LibField, LibMethod, Method}
use Rattle.jresolution.specs.declared.jprogram.part.CodePart.{CodePart}
use Rattle.jresolution.specs.jprogram.ClassFileParts.{is_called, member_desc, member_name}
use Rattle.jresolution.specs.jprogram.ProgramClasses.{Class, Lib, Program, User, find, found_at, place_of, superinterfaces, up}
use Rattle.jresolution.specs.jprogram.MemberResolution.{field_at, field_in, init, lib_field, lib_method, method_at, method_id, method_in, resolve_field, resolve_method}
use Rattle.jresolution.specs.jprogram.NameChecks.{naming_fault}
use Rattle.jresolution.specs.jprogram.SuperChecks.{supers_fault}
use Rattle.jlinking.specs.jmembers.MemberDeclarations.{again_test, at_member, desc_left_out, field_left_out, field_left_out_test, field_test, fields_fault, members_fault, method_left_out, method_left_out_test, method_test, methods_fault, param_left_out, text_left_out, types_test}
use Rattle.jlinking.specs.ProofNames.{class_fault, return_left_out}
use Rattle.jresolution.specs.jprogram.UnsupportedTypes.{is_context, is_floating}
use Rattle.jlinking.specs.jreferring.CodeChecks.{code_fault}
use Rattle.jlinking.specs.jlink.ProgramFiles.{AreFiles}
use Rattle.jlinking.specs.jlink.LinkedPrograms.{Links, link_fault}
use Rattle.jlinking.specs.jlink.SoundDescriptors.{IsFieldText, IsMethodText, gives_float, is_sound_field, is_sound_method}
use Rattle.jlinking.proofs.JlinkProofs.FittingClassFiles.{field_desc, method_desc}
use Rattle.jlinking.proofs.JlinkProofs.PresentValues.{first_in, has_some, map_is, then_is}
use Rattle.jlinking.proofs.JlinkProofs.LibraryDescriptors.{field_sound, method_sound}
use Rattle.jlinking.proofs.JlinkProofs.MethodSelection.{first_called}
use Rattle.jlinking.proofs.JlinkProofs.ResolvedReferences.{third_none}
use Rattle.jlinking.proofs.JlinkProofs.DescriptorTypes.{no_fault}

-- ---- descriptors of their kinds

method_by : (o : Bool) (m : Option (List FieldType × Option FieldType)) (f : Option Descriptor) → IsSome (if o then m else None) → (x : List FieldType × Option FieldType) × ((if o then option_map method (if o then m else None) else f) ≡ Some (method x))
method_by true None f h = absurd cc
method_by true (Some x) f h = (x, refl)
method_by false m f h = absurd cc

of_method : (text : List ℕ) → IsSome (method_of text) → (x : List FieldType × Option FieldType) × (descriptor_of text ≡ Some (method x))
unfolding descriptor_of method_of
of_method [] h = absurd cc
of_method (b ∷ rest) h = method_by (is_opening b) (option_and_then returned (params_at (length rest) rest)) (option_map field (field_of (b ∷ rest))) h

of_field : (text : List ℕ) → IsSome (field_of text) → (t : FieldType) × (descriptor_of text ≡ Some (field t))
unfolding is_well_formed descriptor_text
of_field text h =
    let t = has_some (field_of text) h in
    let took = field_take text t.0 t.1 in
    (t.0, ap descriptor_of took.1 ∙ descriptor_again (field t.0) took.0)

-- ---- what is left out

neither : (a b : Bool) → a ≡ false → b ≡ false → (a || b) ≡ false
neither a b one two = rw (one, two) refl

params_float : (ts : List FieldType) → list_any param_left_out ts ≡ false → list_any is_floating ts ≡ false
params_float [] e = refl
params_float (t ∷ ts) e =
    let both = or_parts (param_left_out t) (list_any param_left_out ts) e in
    let one : is_floating t ≡ false = (or_parts (is_floating t) _ both.0).0 in
    let rest : list_any is_floating ts ≡ false = params_float ts both.1 in
    neither (is_floating t) (list_any is_floating ts) one rest

return_float : (ret : Option FieldType) → return_left_out ret ≡ false → gives_float ret ≡ false
return_float None e = refl
return_float (Some t) e = (or_parts (is_floating t) (is_context t) e).0

method_text : (desc : List ℕ) → IsSome (method_of desc) → text_left_out desc ≡ false → IsMethodText desc
unfolding text_left_out
method_text desc has left =
    let d = of_method desc has in
    let out : desc_left_out (Some (method d.0)) ≡ false = sym (ap desc_left_out d.1) ∙ left in
    let both = or_parts (list_any param_left_out d.0.0) (return_left_out d.0.1) out in
    let params = params_float d.0.0 both.0 in
    let ret = return_float d.0.1 both.1 in
    let sound : is_sound_method (Some (method d.0)) ≡ true = ap not (neither (list_any is_floating d.0.0) (gives_float d.0.1) params ret) in
    ap is_sound_method d.1 ∙ sound

field_text : (desc : List ℕ) → IsSome (field_of desc) → text_left_out desc ≡ false → IsFieldText desc
unfolding text_left_out
field_text desc has left =
    let d = of_field desc has in
    let out : desc_left_out (Some (field d.0)) ≡ false = sym (ap desc_left_out d.1) ∙ left in
    let float : is_floating d.0 ≡ false = (or_parts (is_floating d.0) (is_context d.0) out).0 in
    let sound : is_sound_field (Some (field d.0)) ≡ true = ap not float in
    ap is_sound_field d.1 ∙ sound

-- ---- what a user's class declares

members_none : (p : Program) → link_fault p ≡ None → members_fault p ≡ None
unfolding link_fault
members_none p e = (none_of (members_fault p) (code_fault p) (third_none (naming_fault p) (supers_fault p) (or_else (members_fault p) (code_fault p)) e)).0

class_none : (p : Program) (i : ℕ) (part : CodePart) → Links p → slice_get p.parts i ≡ Some part → class_fault p i part.class ≡ None
unfolding members_fault
class_none p i part links at = none_fails (λ (i : ℕ) (part : CodePart). class_fault p i part.class) p.parts i part (members_none p links.rules) at

at_none : (i k : ℕ) (o : Option LinkKind) → at_member i k o ≡ None → o ≡ None
at_none i k None e = refl
at_none i k (Some kind) e = absurd cc

-- the second of several tests
second_none : (a b c : Option LinkKind) → or_else a (or_else b c) ≡ None → b ≡ None
second_none a b c e = (none_of b c ((none_of a (or_else b c) e).1)).0

method_kept : (p : Program) (i : ℕ) (c : ClassParts) (k : ℕ) (m : MemberInfo) → class_fault p i c ≡ None → slice_get c.methods k ≡ Some m → text_left_out (member_desc c m) ≡ false
unfolding methods_fault method_left_out_test
method_kept p i c k m none at =
    let all = (none_of (methods_fault p i c) (fields_fault p i c) none).0 in
    let one = at_none i k (method_test p i c (take k c.methods) k m) (none_fails (λ (k : ℕ) (m : MemberInfo). at_member i k (method_test p i c (take k c.methods) k m)) c.methods k m all at) in
    let left = second_none (again_test c (take k c.methods) m) (method_left_out_test p.side c m) _ one in
    (or_parts (method_left_out p.side c m) (text_left_out (member_desc c m)) (no_fault (method_left_out p.side c m || text_left_out (member_desc c m)) LeftOut left)).1

field_out : (p : Program) (i : ℕ) (c : ClassParts) (k : ℕ) (m : MemberInfo) → class_fault p i c ≡ None → slice_get c.fields k ≡ Some m → (field_left_out c m || text_left_out (member_desc c m)) ≡ false
unfolding fields_fault field_left_out_test
field_out p i c k m none at =
    let all = (none_of (methods_fault p i c) (fields_fault p i c) none).1 in
    let one = at_none i (length c.methods + k) (field_test p c (take k c.fields) m) (none_fails (λ (k : ℕ) (m : MemberInfo). at_member i (length c.methods + k) (field_test p c (take k c.fields) m)) c.fields k m all at) in
    let left = second_none (again_test c (take k c.fields) m) (field_left_out_test c m) (types_test p c m) one in
    no_fault (field_left_out c m || text_left_out (member_desc c m)) LeftOut left

field_kept : (p : Program) (i : ℕ) (c : ClassParts) (k : ℕ) (m : MemberInfo) → class_fault p i c ≡ None → slice_get c.fields k ≡ Some m → text_left_out (member_desc c m) ≡ false
field_kept p i c k m none at = (or_parts (field_left_out c m) (text_left_out (member_desc c m)) (field_out p i c k m none at)).1

-- an interface has no field of objects
pub field_placed : (p : Program) → Links p → (i : ℕ) (part : CodePart) (k : ℕ) (m : MemberInfo) → slice_get p.parts i ≡ Some part → slice_get part.class.fields k ≡ Some m → field_left_out part.class m ≡ false
field_placed p links i part k m stands at =
    (or_parts (field_left_out part.class m) (text_left_out (member_desc part.class m)) (field_out p i part.class k m (class_none p i part links stands) at)).0

user_method : (p : Program) → Links p → AreFiles p → (i : ℕ) (part : CodePart) (k : ℕ) (m : MemberInfo) → slice_get p.parts i ≡ Some part → slice_get part.class.methods k ≡ Some m → IsMethodText (member_desc part.class m)
user_method p links files i part k m stands at =
    method_text (member_desc part.class m) (method_desc part.class m (files i part stands) (k, at)) (method_kept p i part.class k m (class_none p i part links stands) at)

user_field : (p : Program) → Links p → AreFiles p → (i : ℕ) (part : CodePart) (k : ℕ) (m : MemberInfo) → slice_get p.parts i ≡ Some part → slice_get part.class.fields k ≡ Some m → IsFieldText (member_desc part.class m)
user_field p links files i part k m stands at =
    field_text (member_desc part.class m) (field_desc part.class m (files i part stands) (k, at)) (field_kept p i part.class k m (class_none p i part links stands) at)

-- ---- what the class of a name declares

-- a user's class stands at its place
abbrev Stands : Program → Class → Type 0
Stands p (User i c) = (part : CodePart) × (slice_get p.parts i ≡ Some part) × (part.class ≡ c)
Stands p (Lib c) = Unit {0}

stands_by : (p : Program) (class : List ℕ) (o : Option ℕ) (c : Class) → found_at p class o ≡ Some c → Stands p c
stands_by p class None c e =
    let r = map_is Lib (library.class_named p.side class) c e in
    subst (Stands p) r.2 tt
stands_by p class (Some i) c e =
    let r = map_is (λ part. User i part.class) (slice_get p.parts i) c e in
    subst (Stands p) r.2 (r.0, r.1, refl)

stands : (p : Program) (class : List ℕ) (c : Class) → find p class ≡ Some c → Stands p c
unfolding find
stands p class c e = stands_by p class (place_of p.parts class) c e

called_desc : (c : ClassParts) (name desc : List ℕ) (m : MemberInfo) → is_called c name desc m ≡ true → member_desc c m ≡ desc
called_desc c name desc m e = (bytes_eq-Decides (member_desc c m) desc).0 ((and_parts (bytes_eq (member_name c m) name) (bytes_eq (member_desc c m) desc) e).1)

method_of_user : (p : Program) → Links p → AreFiles p → (name desc : List ℕ) (i : ℕ) (part : CodePart) (c : ClassParts) (x : Member) → slice_get p.parts i ≡ Some part → part.class ≡ c → method_in p.side (User i c) name desc ≡ Some x → IsMethodText desc
method_of_user p links files name desc i part c x at same e =
    let j = map_is (λ j. Method (method_id i j)) (position (is_called c name desc) c.methods) x e in
    let m = first_called c name desc c.methods j.0 j.1 in
    let there : slice_get part.class.methods j.0 ≡ Some m.0 = ap (λ (d : ClassParts). slice_get d.methods j.0) same ∙ m.1 in
    let own : member_desc part.class m.0 ≡ desc = ap (λ (d : ClassParts). member_desc d m.0) same ∙ called_desc c name desc m.0 m.2 in
    subst IsMethodText own (user_method p links files i part j.0 m.0 at there)

field_of_user : (p : Program) → Links p → AreFiles p → (name desc : List ℕ) (i : ℕ) (part : CodePart) (c : ClassParts) (x : Member) → slice_get p.parts i ≡ Some part → part.class ≡ c → field_in p.side (User i c) name desc ≡ Some x → IsFieldText desc
field_of_user p links files name desc i part c x at same e =
    let j = map_is (λ j. Field i j) (position (is_called c name desc) c.fields) x e in
    let m = first_called c name desc c.fields j.0 j.1 in
    let there : slice_get part.class.fields j.0 ≡ Some m.0 = ap (λ (d : ClassParts). slice_get d.fields j.0) same ∙ m.1 in
    let own : member_desc part.class m.0 ≡ desc = ap (λ (d : ClassParts). member_desc d m.0) same ∙ called_desc c name desc m.0 m.2 in
    subst IsFieldText own (user_field p links files i part j.0 m.0 at there)

when_method : (m : LibCall) (x : Member) (b : Bool) → (if b then None else Some (LibMethod m)) ≡ Some x → b ≡ false
when_method m x true e = absurd cc
when_method m x false e = refl

when_field : (x : Member) (b : Bool) → (if b then Some LibField else None) ≡ Some x → b ≡ true
when_field x true e = refl
when_field x false e = absurd cc

method_in_class : (p : Program) → Links p → AreFiles p → (name desc : List ℕ) (c : Class) (x : Member) → Stands p c → method_in p.side c name desc ≡ Some x → IsMethodText desc
method_in_class p links files name desc (User i c) x at e = method_of_user p links files name desc i at.0 c x at.1 at.2 e
method_in_class p links files name desc (Lib c) x at e =
    let m = then_is lib_method (library_calls.member_named p.side (library.name_of c) name desc) x e in
    let found = call_found p.side (library.name_of c) name desc m.0 m.1 in
    subst IsMethodText found.2 (method_sound m.0 (when_method m.0 x (library_calls.is_field m.0) m.2))

field_in_class : (p : Program) → Links p → AreFiles p → (name desc : List ℕ) (c : Class) (x : Member) → Stands p c → field_in p.side c name desc ≡ Some x → IsFieldText desc
field_in_class p links files name desc (User i c) x at e = field_of_user p links files name desc i at.0 c x at.1 at.2 e
field_in_class p links files name desc (Lib c) x at e =
    let m = then_is lib_field (library_calls.member_named p.side (library.name_of c) name desc) x e in
    let found = call_found p.side (library.name_of c) name desc m.0 m.1 in
    subst IsFieldText found.2 (field_sound m.0 (when_field x (library_calls.is_field m.0) m.2))

method_named : (p : Program) → Links p → AreFiles p → (name desc class : List ℕ) (x : Member) → method_at p name desc class ≡ Some x → IsMethodText desc
method_named p links files name desc class x e =
    let c = then_is (λ c. method_in p.side c name desc) (find p class) x e in
    method_in_class p links files name desc c.0 x (stands p class c.0 c.1) c.2

field_named : (p : Program) → Links p → AreFiles p → (name desc class : List ℕ) (x : Member) → field_at p name desc class ≡ Some x → IsFieldText desc
field_named p links files name desc class x e =
    let c = then_is (λ c. field_in p.side c name desc) (find p class) x e in
    field_in_class p links files name desc c.0 x (stands p class c.0 c.1) c.2

-- ---- what a reference stands for

either : {A P : Type 0} (a b : Option A) (x : A) → or_else a b ≡ Some x → (a ≡ Some x → P) → (b ≡ Some x → P) → P
either None b x e one two = two e
either (Some y) b x e one two = one e

chosen : {A P : Type 0} (c : Bool) (a b : Option A) (x : A) → (if c then a else b) ≡ Some x → (a ≡ Some x → P) → (b ≡ Some x → P) → P
chosen true a b x e one two = one e
chosen false a b x e one two = two e

along : {P : Type 0} (f : List ℕ → Option Member) (names : List (List ℕ)) (x : Member) → first_some f names ≡ Some x → ((c : List ℕ) → f c ≡ Some x → P) → P
along f names x e h =
    let r = first_in f names x e in
    h r.0 r.2

pub method_resolved : (p : Program) → Links p → AreFiles p → (class name desc : List ℕ) (x : Member) → resolve_method p class name desc ≡ Some x → IsMethodText desc
unfolding resolve_method
method_resolved p links files class name desc x e =
    let here = method_named p links files name desc in
    chosen (bytes_eq name init) (method_at p name desc class) (or_else (first_some (method_at p name desc) (up p class)) (first_some (λ c. first_some (method_at p name desc) (superinterfaces p c)) (up p class))) x e
    (λ own. here class x own)
    (λ others. either (first_some (method_at p name desc) (up p class)) (first_some (λ c. first_some (method_at p name desc) (superinterfaces p c)) (up p class)) x others
    (λ above. along (method_at p name desc) (up p class) x above (λ c at. here c x at))
    (λ over. along (λ c. first_some (method_at p name desc) (superinterfaces p c)) (up p class) x over (λ c at. along (method_at p name desc) (superinterfaces p c) x at (λ i it. here i x it))))

pub field_resolved : (p : Program) → Links p → AreFiles p → (class name desc : List ℕ) (x : Member) → resolve_field p class name desc ≡ Some x → IsFieldText desc
unfolding resolve_field
field_resolved p links files class name desc x e =
    let here = field_named p links files name desc in
    along (λ c. or_else (field_at p name desc c) (first_some (field_at p name desc) (superinterfaces p c))) (up p class) x e
    (λ c at. either (field_at p name desc c) (first_some (field_at p name desc) (superinterfaces p c)) x at
    (λ own. here c x own)
    (λ over. along (field_at p name desc) (superinterfaces p c) x over (λ i it. here i x it)))
