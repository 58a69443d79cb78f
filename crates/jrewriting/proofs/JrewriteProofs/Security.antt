-- The methods of `sps/Rt` may be called from each class of the passing side.
use Rattle.std.proofs.Common.{◌≡◌, ℕ, suc, ◌+◌, Bool, true, false, ◌&&◌, not, List, [], ◌∷◌, get_or, length, Option, Some, None, refl, ap, sym, ◌∙◌, arith}
use Rattle.std.specs.Prelude.{is_some, option_and_then, option_map, slice_get, codes, ◌||◌, if◌then◌else◌}
use Rattle.std.specs.List.{list_all}
use Rattle.std.specs.Str.{bytes_eq}
use Rattle.std.proofs.lemmas.List.Quantifiers.{position-Some}
use Rattle.std.proofs.lemmas.Option.{slice_get-get_or}
use Rattle.std.proofs.lemmas.Slice.Eq.{bytes_eq-Decides}
use Rattle.jground.specs.jbase.FirstFaults.{fault_if, first_some, or_else}
use Rattle.jground.proofs.JbaseProofs.Firsts.{none_fails, none_of}
use Rattle.jground.proofs.JformatProofs.ReadingSteps.{first_true, second_true}
use Rattle.jparts.specs.declared.jpool.descriptor.Descriptor.{Descriptor}
use Rattle.jparts.specs.declared.jpool.descriptor.Descriptor.TheVariants as descriptors
use Rattle.jparts.specs.declared.jpool.descriptor.FieldType.{FieldType}
use Rattle.jparts.specs.jpool.Descriptors.{base_at, class_at, closing_at, descriptor_of, field_of, is_class_sign, method_of, params_at, return_at, slots_of, type_at}
use Rattle.jparts.specs.jpool.ClassNames.{is_class_name}
use Rattle.jparts.specs.declared.jcode.names.CallOp.TheVariants as callops
use Rattle.jlib.specs.declared.side.Side.{Side}
use Rattle.jlib.specs.declared.side.Side.TheVariants.{Passing}
use Rattle.jlib.specs.declared.classes.LibClass.{LibClass}
use Rattle.jlib.specs.declared.classes.LibClass.TheVariants as lib
use Rattle.jlib.specs.declared.calls.LibCall.TheVariants as call
use Rattle.jlib.specs.declared.calls.RtCall.{RtCall}
use Rattle.jlib.specs.declared.calls.RtCall.TheVariants as rt
use Rattle.jlib.specs.LibraryClasses.{class_named}
use Rattle.jlib.proofs.LibraryLookup.{call_only, class_only}
use Rattle.jmove.specs.declared.naming.Security.{Security}
use Rattle.jmove.specs.declared.naming.Security.TheVariants.{Enter, Check, Snapshot, Privileged, PrivilegedWith, PrivilegedLimited}
use Rattle.jmove.specs.PoolAdditions.{security_name, security_type}
use Rattle.jresolution.specs.declared.jprogram.fault.LinkKind.{LinkKind}
use Rattle.jresolution.specs.declared.jprogram.fault.LinkKind.TheVariants.{BadUse, LeftOut, NoClass, NotAccessible, Twice}
use Rattle.jresolution.specs.declared.jprogram.member.Member.{Member}
use Rattle.jresolution.specs.declared.jprogram.member.Member.TheVariants.{LibMethod}
use Rattle.jresolution.specs.declared.jprogram.part.CodePart.{CodePart}
use Rattle.jresolution.specs.jprogram.ProgramClasses.{Class, Lib, Program, above_name, chain, find, found_at, holds, is_interface, is_public, known, onward, place_of, superinterfaces, up}
use Rattle.jresolution.specs.jprogram.MemberResolution.{init, is_static, lib_method, may_name, may_use, method_at, method_in, reach_of, resolve_method}
use Rattle.jresolution.specs.jprogram.NameChecks.{in_class, naming_fault, naming_test, reserved_test, stands_before, taken_test}
use Rattle.jresolution.specs.jprogram.ClassFileParts.{same_package, this_name}
use Rattle.jresolution.specs.jprogram.SuperChecks.{is_missing}
use Rattle.jlinking.specs.declared.jreferring.judged.MemberFacts.{MemberFacts}
use Rattle.jlinking.specs.declared.jreferring.judged.MemberUse.{MemberUse}
use Rattle.jlinking.specs.declared.jreferring.judged.Sort.TheVariants as sort
use Rattle.jlinking.specs.jreferring.MemberLookUp.{named_use}
use Rattle.jlinking.specs.jreferring.ClassNameAccess.{class_test, desc_test, return_test, type_named, type_test}
use Rattle.jlinking.specs.jreferring.ReferenceUses.{access_test, call_left_out_test, call_test, call_use_test, called_test, facts_of, is_enter, member_use}
use Rattle.jlinking.specs.ProofNames.{is_barred}
use Rattle.jresolution.proofs.JprogramProofs.ClassHeights.{in_none}
use Rattle.jrewriting.proofs.JrewriteProofs.DeclarationChecks.{differ, first_false, no_again, no_fault, or_join}
use Rattle.jrewriting.proofs.JrewriteProofs.MemberPhase.{none_or}

-- ---- classes of the library, on the passing side

-- a program of the passing side whose names are good
pub record IsPassing (q : Program) : Type 0 where
  pub side : q.side ≡ Passing
  pub names : naming_fault q ≡ None

place_named : (ps : List CodePart) (name : List ℕ) (i : ℕ) → place_of ps name ≡ Some i → (part : CodePart) × (slice_get ps i ≡ Some part) × (bytes_eq (this_name part.class) name ≡ true)
unfolding place_of
place_named [] name i e = absurd cc
place_named (x ∷ ps) name i e =
    let at = position-Some (λ part. bytes_eq (this_name part.class) name) (x ∷ ps) i x e in
    (get_or (x ∷ ps) i x, slice_get-get_or (x ∷ ps) i x at.0, at.1)

not_taken : (q : Program) → IsPassing q → (i : ℕ) (part : CodePart) → slice_get q.parts i ≡ Some part → is_some (class_named Passing (this_name part.class)) ≡ false
unfolding naming_fault taken_test
not_taken q is i part at =
    let test = in_none i (naming_test q i part) (none_fails (λ j x. in_class j (naming_test q j x)) q.parts i part is.names at) in
    let taken = (none_of (reserved_test q part.class) (taken_test q i part.class) test).1 in
    ap (λ (s : Side). is_some (class_named s (this_name part.class))) (sym is.side)
    ∙ first_false (is_some (class_named q.side (this_name part.class))) (stands_before q.parts i (this_name part.class)) (no_again (is_some (class_named q.side (this_name part.class)) || stands_before q.parts i (this_name part.class)) Twice taken)

no_place_by : (q : Program) → IsPassing q → (name : List ℕ) (o : Option ℕ) → place_of q.parts name ≡ o → is_some (class_named Passing name) ≡ true → o ≡ None
no_place_by q is name None e h = refl
no_place_by q is name (Some i) e h =
    let r = place_named q.parts name i e in
    let same = (bytes_eq-Decides (this_name r.0.class) name).0 r.2 in
    differ (sym h ∙ ap (λ (n : List ℕ). is_some (class_named Passing n)) (sym same) ∙ not_taken q is i r.0 r.1)

pub find_lib : (q : Program) → IsPassing q → (name : List ℕ) (c : LibClass) → class_named Passing name ≡ Some c → find q name ≡ Some (Lib c)
unfolding find
find_lib q is name c at =
    ap (found_at q name) (no_place_by q is name (place_of q.parts name) refl (ap is_some at))
    ∙ ap (λ (s : Side). option_map Lib (class_named s name)) is.side ∙ ap (option_map Lib) at

class_open : (q : Program) → IsPassing q → (from name : List ℕ) (o : Option LibClass) → class_named Passing name ≡ o → is_some o ≡ true → class_test q from name ≡ None
unfolding class_test may_name
class_open q is from name None at h = absurd cc
class_open q is from name (Some c) at h =
    let f = find_lib q is name c at in
    none_or (fault_if (is_missing q name) NoClass) (fault_if (not (holds is_public (find q name) || same_package from name)) NotAccessible)
    (no_fault (is_missing q name) NoClass (ap (λ (o : Option Class). not (is_some o)) f))
    (no_fault (not (holds is_public (find q name) || same_package from name)) NotAccessible (ap (λ (o : Option Class). not (holds is_public o || same_package from name)) f))

abbrev pub type_lib : FieldType → Bool
type_lib t = not (is_class_sign t.base) || is_some (class_named Passing t.class)

abbrev return_lib : Option FieldType → Bool
return_lib None = true
return_lib (Some t) = type_lib t

abbrev desc_lib : Option Descriptor → Bool
desc_lib (Some (descriptors.Method ps ret)) = list_all type_lib ps && return_lib ret
desc_lib (Some (descriptors.Field t)) = false
desc_lib None = false

open_if : (b c : Bool) (o : Option LinkKind) → (not b || c) ≡ true → (c ≡ true → o ≡ None) → (if b then o else None) ≡ None
open_if true c o h k = k h
open_if false c o h k = refl

pub type_open : (q : Program) → IsPassing q → (from : List ℕ) (t : FieldType) → type_lib t ≡ true → type_test q from t ≡ None
unfolding type_test
type_open q is from t h = open_if (is_class_sign t.base) (is_some (class_named Passing t.class)) (class_test q from t.class) h (class_open q is from t.class (class_named Passing t.class) refl)

types_open : (q : Program) → IsPassing q → (from : List ℕ) (ts : List FieldType) → list_all type_lib ts ≡ true → first_some (type_test q from) ts ≡ None
unfolding first_some
types_open q is from [] h = refl
types_open q is from (t ∷ ts) h =
    none_or (type_test q from t) (first_some (type_test q from) ts) (type_open q is from t (first_true (type_lib t) (list_all type_lib ts) h)) (types_open q is from ts (second_true (type_lib t) (list_all type_lib ts) h))

return_open : (q : Program) → IsPassing q → (from : List ℕ) (ret : Option FieldType) → return_lib ret ≡ true → return_test q from ret ≡ None
return_open q is from None h = refl
return_open q is from (Some t) h = type_open q is from t h

desc_open : (q : Program) → IsPassing q → (from : List ℕ) (d : Option Descriptor) → desc_lib d ≡ true → desc_test q from d ≡ None
desc_open q is from None h = absurd cc
desc_open q is from (Some (descriptors.Field t)) h = absurd cc
desc_open q is from (Some (descriptors.Method ps ret)) h =
    none_or (first_some (type_test q from) ps) (return_test q from ret) (types_open q is from ps (first_true (list_all type_lib ps) (return_lib ret) h)) (return_open q is from ret (second_true (list_all type_lib ps) (return_lib ret) h))

-- ---- what the six methods name

security_lib : (m : Security) → desc_lib (descriptor_of (security_type m)) ≡ true
unfolding descriptor_of method_of field_of params_at closing_at type_at base_at class_at return_at slots_of is_class_name
security_lib Enter = refl
security_lib Check = refl
security_lib Snapshot = refl
security_lib Privileged = refl
security_lib PrivilegedWith = refl
security_lib PrivilegedLimited = refl

rt_lib : type_lib (type_named (codes "sps/Rt")) ≡ true
unfolding type_named descriptor_of method_of field_of params_at closing_at type_at base_at class_at return_at slots_of is_class_name
rt_lib = refl

pub context_lib : type_lib (type_named (codes "sps/Ctx")) ≡ true
unfolding type_named descriptor_of method_of field_of params_at closing_at type_at base_at class_at return_at slots_of is_class_name
context_lib = refl

rt_barred : (m : Security) → is_barred (type_named (codes "sps/Rt")) (is_enter (codes "sps/Rt") (security_name m) (security_type m)) (descriptor_of (security_type m)) ≡ false
unfolding type_named descriptor_of method_of field_of params_at closing_at type_at base_at class_at return_at slots_of is_class_name
rt_barred Enter = refl
rt_barred Check = refl
rt_barred Snapshot = refl
rt_barred Privileged = refl
rt_barred PrivilegedWith = refl
rt_barred PrivilegedLimited = refl

pub no_init : (m : Security) → bytes_eq (security_name m) init ≡ false
no_init Enter = refl
no_init Check = refl
no_init Snapshot = refl
no_init Privileged = refl
no_init PrivilegedWith = refl
no_init PrivilegedLimited = refl

-- ---- the method that is found

abbrev pub rt_of : Security → RtCall
rt_of Enter = rt.Enter
rt_of Check = rt.Check
rt_of Snapshot = rt.Snapshot
rt_of Privileged = rt.Privileged
rt_of PrivilegedWith = rt.PrivilegedWith
rt_of PrivilegedLimited = rt.PrivilegedLimited

abbrev pub found : Security → Member
found m = LibMethod (call.Rt (rt_of m))

declared : (m : Security) → method_in Passing (Lib lib.Rt) (security_name m) (security_type m) ≡ Some (found m)
declared Enter = ap (option_and_then lib_method) (call_only Passing (call.Rt rt.Enter) refl)
declared Check = ap (option_and_then lib_method) (call_only Passing (call.Rt rt.Check) refl)
declared Snapshot = ap (option_and_then lib_method) (call_only Passing (call.Rt rt.Snapshot) refl)
declared Privileged = ap (option_and_then lib_method) (call_only Passing (call.Rt rt.Privileged) refl)
declared PrivilegedWith = ap (option_and_then lib_method) (call_only Passing (call.Rt rt.PrivilegedWith) refl)
declared PrivilegedLimited = ap (option_and_then lib_method) (call_only Passing (call.Rt rt.PrivilegedLimited) refl)

rt_found : (q : Program) → IsPassing q → find q (codes "sps/Rt") ≡ Some (Lib lib.Rt)
rt_found q is = find_lib q is (codes "sps/Rt") lib.Rt (class_only Passing lib.Rt refl)

rt_at : (q : Program) → IsPassing q → (m : Security) → method_at q (security_name m) (security_type m) (codes "sps/Rt") ≡ Some (found m)
rt_at q is m =
    ap (option_and_then (λ c. method_in q.side c (security_name m) (security_type m))) (rt_found q is)
    ∙ ap (λ (s : Side). method_in s (Lib lib.Rt) (security_name m) (security_type m)) is.side ∙ declared m

next_is : (n : ℕ) → n + 1 ≡ suc n
next_is n = omega arith

chain_begins : (q : Program) (n : ℕ) (c : List ℕ) → chain q (n + 1) c ≡ c ∷ onward (chain q n) (above_name q c)
unfolding chain
chain_begins q n c = ap (λ (k : ℕ). chain q k c) (next_is n)

first_of_all : (f : List ℕ → Option Member) (c : List ℕ) (rest : List (List ℕ)) (x : Member) → f c ≡ Some x → first_some f (c ∷ rest) ≡ Some x
unfolding first_some
first_of_all f c rest x e = ap (λ (o : Option Member). or_else o (first_some f rest)) e

resolves : (q : Program) (class name desc : List ℕ) (x : Member) → bytes_eq name init ≡ false → method_at q name desc class ≡ Some x → resolve_method q class name desc ≡ Some x
unfolding resolve_method
resolves q class name desc x no_init at =
    let f = method_at q name desc in
    let over = first_some (λ c. first_some f (superinterfaces q c)) (up q class) in
    ap (λ (b : Bool). if b then f class else or_else (first_some f (up q class)) over) no_init
    ∙ ap (λ (o : Option Member). or_else o over) (ap (first_some f) (chain_begins q (length (known q)) class) ∙ first_of_all f class (onward (chain q (length (known q))) (above_name q class)) x at)

pub security_found : (q : Program) → IsPassing q → (m : Security) → resolve_method q (codes "sps/Rt") (security_name m) (security_type m) ≡ Some (found m)
security_found q is m = resolves q (codes "sps/Rt") (security_name m) (security_type m) (found m) (no_init m) (rt_at q is m)

-- ---- the call

may_be_used : (q : Program) (m : Security) (from : List ℕ) → may_use q from (found m) ≡ true
unfolding may_use reach_of
may_be_used q m from = refl

stands_alone : (q : Program) (m : Security) → is_static q (found m) ≡ true
unfolding is_static
stands_alone q Enter = refl
stands_alone q Check = refl
stands_alone q Snapshot = refl
stands_alone q Privileged = refl
stands_alone q PrivilegedWith = refl
stands_alone q PrivilegedLimited = refl

-- a use of a reference that may be called
record MayCall (u : MemberUse) : Type 0 where
  pub names : u.names ≡ None
  pub barred : u.barred ≡ false
  pub of_class : u.of_interface ≡ false
  pub crossed : u.crossed ≡ false
  pub init : u.init ≡ false
  pub facts : MemberFacts
  pub member : u.member ≡ Some facts
  pub allowed : facts.allowed ≡ true
  pub static : facts.is_static ≡ true

not_is : (b : Bool) → b ≡ true → not b ≡ false
not_is true h = refl
not_is false h = absurd cc

may_call : (u : MemberUse) → MayCall u → call_test callops.Static u ≡ None
may_call u k =
    none_or u.names _ k.names
    (none_or (call_left_out_test callops.Static u) (called_test callops.Static u u.member) (no_fault (u.barred || u.of_interface) LeftOut (or_join u.barred u.of_interface k.barred k.of_class))
    (ap (called_test callops.Static u) k.member ∙
    none_or (access_test false k.facts) (call_use_test callops.Static u k.facts)
    (no_fault (not k.facts.allowed || false) NotAccessible (or_join (not k.facts.allowed) false (not_is k.facts.allowed k.allowed) refl))
    (no_fault (not k.facts.is_static || (u.crossed || u.init)) BadUse (or_join (not k.facts.is_static) (u.crossed || u.init) (not_is k.facts.is_static k.static) (or_join u.crossed u.init k.crossed k.init)))))

-- each class may call it
pub security_call : (q : Program) → IsPassing q → (from : List ℕ) (m : Security) → call_test callops.Static (named_use q from sort.Method (codes "sps/Rt") (security_name m) (security_type m)) ≡ None
unfolding named_use
security_call q is from m =
    let owner = codes "sps/Rt" in
    let at = security_found q is m in
    may_call (member_use q from sort.Method (resolve_method q owner (security_name m) (security_type m)) owner (security_name m) (security_type m)) (record {
      names = none_or (type_test q from (type_named owner)) (desc_test q from (descriptor_of (security_type m))) (type_open q is from (type_named owner) rt_lib) (desc_open q is from (descriptor_of (security_type m)) (security_lib m));
      barred = rt_barred m;
      of_class = refl;
      crossed = ap (holds is_interface) (rt_found q is);
      init = no_init m;
      facts = facts_of q from (found m);
      member = ap (option_map (facts_of q from)) at;
      allowed = may_be_used q m from;
      static = stands_alone q m;
    })
