-- What linking says of a program besides: its methods have code, which begins with an instruction, of which each means something.
use Rattle.std.proofs.Common.{◌≡◌, ◌<◌, ℕ, zero, suc, arith, Bool, true, false, ◌&&◌, ◌||◌, List, [], ◌∷◌, length, take, Option, Some, None, refl, sym, ap, ◌∙◌}
use Rattle.std.specs.Prelude.{IsTrue, is_some, option_and_then, option_map, slice_get}
use Rattle.std.specs.List.{AllByRecursion}
use Rattle.std.specs.Option.{IsSome}
use Rattle.std.specs.Str.{bytes_eq}
use Rattle.std.specs.Prelude.{codes}
use Rattle.std.proofs.lemmas.Bool.{or_parts}
use Rattle.jground.specs.jbase.FirstFaults.{or_else}
use Rattle.jground.proofs.JbaseProofs.Firsts.{none_fails, none_of}
use Rattle.jparts.specs.declared.jcode.op.Placed.{Placed}
use Rattle.jclass.specs.Class.{class_file}
use Rattle.jclass.specs.FlagRules.{has_no_code}
use Rattle.jclass.specs.FileContents.{HasCode}
use Rattle.jclass.specs.declared.class.ClassParts.{ClassParts}
use Rattle.jclass.specs.declared.class.MemberInfo.{MemberInfo}
use Rattle.jtypes.specs.declared.vtype.Name.{Name}
use Rattle.jtypes.specs.declared.vtype.VType.{VType}
use Rattle.jtypes.specs.declared.vtype.VType.TheVariants as types
use Rattle.jresolution.specs.declared.jprogram.fault.LinkKind.{LinkKind}
use Rattle.jresolution.specs.declared.jprogram.fault.LinkKind.TheVariants.{LeftOut}
use Rattle.jresolution.specs.declared.jprogram.member.MethodId.{MethodId}
use Rattle.jresolution.specs.declared.jprogram.part.CodePart.{CodePart}
use Rattle.jresolution.specs.jprogram.ProgramClasses.{Program}
use Rattle.jresolution.specs.jprogram.MemberResolution.{is_init}
use Rattle.jresolution.specs.jprogram.NameChecks.{naming_fault}
use Rattle.jresolution.specs.jprogram.SuperChecks.{supers_fault}
use Rattle.jresolution.specs.jprogram.ClassFileParts as parts
use Rattle.jresolution.specs.jprogram.ClassFileParts.{code_of, has_code, member_desc, member_name}
use Rattle.jresolution.specs.juses.IndexedInstructions.{body_in, code_at, instruction}
use Rattle.jresolution.specs.juses.DescriptorTypes.{Called, Held, Typed, Untyped, name, typed}
use Rattle.jlinking.specs.jmembers.MemberDeclarations.{again_test, at_member, fields_fault, final_test, is_native, is_synchronized, is_too_long, library_test, members_fault, method_left_out, method_left_out_test, method_test, methods_fault, text_left_out, types_test}
use Rattle.jlinking.specs.ProofNames.{class_fault}
use Rattle.jlinking.specs.jreferring.CodeChecks.{code_fault}
use Rattle.jlinking.specs.jlink.ProgramFiles.{AreFiles}
use Rattle.jlinking.specs.jlink.LinkedPrograms.{Links, link_fault}
use Rattle.jlinking.proofs.JlinkProofs.CodeMeanings as coded
use Rattle.jlinking.proofs.JlinkProofs.FittingClassFiles as filed
use Rattle.jlinking.proofs.JlinkProofs.ResolvedReferences.{third_none}
use Rattle.jlinking.proofs.JlinkProofs.DescriptorTypes.{no_fault}
use Rattle.jtyping.specs.jwelltyped.MethodPremises.{params_of, receiver}
use Rattle.jsoundness_laws.specs.typed.TypedCalls.{AllHaveCode, Coded, IsParameter, method}
use Rattle.jsoundness_laws.specs.typed.RuntimeAssignability.{IsValueType}
use Rattle.jsoundness_laws.proofs.TypedProofs.Dimensions.{IsNamed, IsTypedNamed, all_append, all_reversed_by, typed_named}
use Rattle.jsoundness_laws.proofs.ProgressProofs.ClassFileMethods.{code_begins, method_has_code}

-- ---- lists

inside : {A : Type 0} (xs : List A) (n : ℕ) (x : A) → slice_get xs n ≡ Some x → n < length xs
inside [] n x e = absurd (cc)
inside (y ∷ xs) zero x e = omega arith
inside (y ∷ xs) (suc n) x e = let lt = inside xs n x e in omega (arith, lt)

pub all_of : {A : Type 0} (P : A → Type 0) (xs : List A) → ((n : ℕ) (x : A) → slice_get xs n ≡ Some x → P x) → AllByRecursion P xs
all_of P [] h = tt
all_of P (x ∷ xs) h = (h 0 x refl, all_of P xs (λ n x e. h (suc n) x e))

-- ---- parameters

no_top : (t : VType) → IsValueType t → IsParameter t
no_top types.Top h = absurd h
no_top types.Int h = refl
no_top types.Long h = refl
no_top types.Null h = refl
no_top types.UninitThis h = refl
no_top (types.Uninit o) h = refl
no_top (types.Object c) h = refl
no_top (types.Array a) h = refl
no_top types.Ctx h = refl

named_params : (ts : List VType) → AllByRecursion IsNamed ts → AllByRecursion IsParameter ts
named_params [] h = tt
named_params (t ∷ ts) h = (no_top t h.0.0, named_params ts h.1)

said_params : (p : Program) (t : Typed) → IsTypedNamed p t → AllByRecursion IsParameter (params_of t)
said_params p Untyped h = tt
said_params p (Held t) h = tt
said_params p (Called params ret) h = all_reversed_by IsParameter params (named_params params h.0)

this_param : (static begins : Bool) (class : Name) → AllByRecursion IsParameter (receiver static begins class)
this_param true begins class = tt
this_param false true class = (refl, tt)
this_param false false class = (refl, tt)

pub params_are : (p : Program) (m : MethodId) (x : Coded p m) → AllByRecursion IsParameter (method p m x).params
params_are p m x =
    let begins = is_init x.part.class x.info in
    let class = name (parts.this_name x.part.class) in
    let said = typed p (member_desc x.part.class x.info) in
    all_append IsParameter (receiver (parts.is_static x.info.flags) begins class) (params_of said)
    (this_param (parts.is_static x.info.flags) begins class) (said_params p said (typed_named p (member_desc x.part.class x.info)))

-- ---- what is left out

members_none : (p : Program) → link_fault p ≡ None → members_fault p ≡ None
unfolding link_fault
members_none p e = (none_of (members_fault p) (code_fault p) (third_none (naming_fault p) (supers_fault p) (or_else (members_fault p) (code_fault p)) e)).0

pub class_none : (p : Program) (i : ℕ) (part : CodePart) → Links p → slice_get p.parts i ≡ Some part → class_fault p i part.class ≡ None
unfolding members_fault
class_none p i part links at = none_fails (λ (i : ℕ) (part : CodePart). class_fault p i part.class) p.parts i part (members_none p links.rules) at

pub at_none : (i k : ℕ) (o : Option LinkKind) → at_member i k o ≡ None → o ≡ None
at_none i k None e = refl
at_none i k (Some kind) e = absurd (cc)

pub second_none : (a b c : Option LinkKind) → or_else a (or_else b c) ≡ None → b ≡ None
second_none a b c e = (none_of b c ((none_of a (or_else b c) e).1)).0

method_kept : (p : Program) (i : ℕ) (c : ClassParts) (k : ℕ) (m : MemberInfo) → class_fault p i c ≡ None → slice_get c.methods k ≡ Some m → method_left_out p.side c m ≡ false
unfolding methods_fault method_left_out_test
method_kept p i c k m none at =
    let all = (none_of (methods_fault p i c) (fields_fault p i c) none).0 in
    let one = at_none i k (method_test p i c (take k c.methods) k m)
    (none_fails (λ (k : ℕ) (m : MemberInfo). at_member i k (method_test p i c (take k c.methods) k m)) c.methods k m all at) in
    let left =
    second_none (again_test c (take k c.methods) m) (method_left_out_test p.side c m) (or_else (types_test p c m) (or_else (library_test p c m) (final_test p i c k m))) one in
    (or_parts (method_left_out p.side c m) (text_left_out (member_desc c m)) (no_fault (method_left_out p.side c m || text_left_out (member_desc c m)) LeftOut left)).0

no_native : (p : Program) (c : ClassParts) (m : MemberInfo) → method_left_out p.side c m ≡ false → is_native m.flags ≡ false
no_native p c m e =
    let rest = is_synchronized m.flags || ((parts.is_interface c.flags && has_code m) || is_too_long p.side (member_desc c m)) in
    (or_parts (is_native m.flags) rest (or_parts (bytes_eq (member_name c m) (codes "<clinit>")) (is_native m.flags || rest) e).1).0

either_no : (a b : Bool) → a ≡ false → b ≡ false → a || b ≡ false
either_no true b e h = absurd (cc)
either_no false b e h = h

-- ---- code

module _ (p : Program) (links : Links p) (files : AreFiles p) where
  pub have_code : AllHaveCode p
  unfolding has_no_code
  have_code m part info stands declared concrete =
      method_has_code part.class info (files m.class part stands) (m.method, declared)
      (either_no (parts.is_abstract info.flags) (is_native info.flags) concrete
      (no_native p part.class info (method_kept p m.class part.class m.method info (class_none p m.class part links stands) declared)))

  code_in : (m : MethodId) (x : Coded p m) → HasCode x.part.class x.body
  code_in m x = filed.has_code x.part.class x.info x.body (files m.class x.part x.stands) (m.method, x.declared) x.code

  pub begins : (m : MethodId) (x : Coded p m) → IsSome (slice_get x.body.ops 0)
  begins m x = code_begins x.part.class x.body (code_in m x)

  code_is : (m : MethodId) (x : Coded p m) → code_at p m ≡ Some x.body
  code_is m x =
      ap (λ (o : Option CodePart). option_and_then (λ (c : ClassParts). body_in c m.method) (option_map (λ part. part.class) o)) x.stands
      ∙ ap (λ (o : Option MemberInfo). option_and_then code_of o) x.declared ∙ x.code

  pub means : (m : MethodId) (x : Coded p m) (n : ℕ) (o : Placed) → slice_get x.body.ops n ≡ Some o → IsSome (instruction p x.part.class.pool x.body.ops o)
  means m x n o at =
      let r : coded.IsCoded p m x.body = record { part = x.part; stands = x.stands; method = x.info; declared = x.declared; coded = x.code } in
      let same = coded.at_code p m x.body n r ∙ ap (option_and_then (instruction p x.part.class.pool x.body.ops)) at in
      sym (ap is_some same) ∙ coded.means p m x.body n links files (code_is m x) (inside x.body.ops n o at)

  pub parts_fit : AllByRecursion (λ (part : CodePart). IsTrue (class_file.fits part.class)) p.parts
  parts_fit = all_of (λ (part : CodePart). IsTrue (class_file.fits part.class)) p.parts files
