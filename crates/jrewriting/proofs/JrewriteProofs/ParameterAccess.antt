-- What a method is handed. A class of a program that links may name the classes of the parameters of its methods that have frames, and so may the
-- moved class, which is handed a context besides.
use Rattle.std.proofs.Common.{◌≡◌, ℕ, Bool, true, false, ◌&&◌, not, List, [], ◌∷◌, ◌++◌, length, Option, Some, None, refl, ap, sym, ◌∙◌, subst, arith}
use Rattle.std.specs.Prelude.{IsTrue, nat_lt, ◌||◌, if◌then◌else◌}
use Rattle.std.specs.List.{list_all, list_any}
use Rattle.std.proofs.lemmas.Bool.{lt-ltb}
use Rattle.jground.specs.jbase.FirstFaults.{fault_if, first_some, or_else}
use Rattle.jground.proofs.JbaseProofs.Firsts.{none_of}
use Rattle.jparts.specs.declared.jpool.descriptor.Descriptor.{Descriptor}
use Rattle.jparts.specs.declared.jpool.descriptor.Descriptor.TheVariants as descriptors
use Rattle.jparts.specs.declared.jpool.descriptor.FieldType.{FieldType}
use Rattle.jparts.specs.jpool.Descriptors.{descriptor_of, is_class_sign}
use Rattle.jclass.specs.declared.class.ClassParts.{ClassParts}
use Rattle.jclass.specs.declared.class.CodeAttribute.{CodeAttribute}
use Rattle.jclass.specs.declared.class.CodeAttribute.TheVariants as code
use Rattle.jclass.specs.declared.class.CodeBody.{CodeBody}
use Rattle.jclass.specs.declared.class.MemberInfo.{MemberInfo}
use Rattle.jparts.specs.declared.jmaps.types.FullFrame.{FullFrame}
use Rattle.jparts.specs.declared.jmaps.types.RawFrame.{RawFrame}
use Rattle.jmove.specs.PoolAdditions.{context_type}
use Rattle.jresolution.specs.declared.jprogram.fault.LinkKind.{LinkKind}
use Rattle.jresolution.specs.declared.jprogram.fault.LinkKind.TheVariants.{NoClass, NotAccessible}
use Rattle.jresolution.specs.jprogram.ProgramClasses.{Program}
use Rattle.jresolution.specs.jprogram.MemberResolution.{may_name}
use Rattle.jresolution.specs.jprogram.NameChecks.{desc_reserved, text_reserved, type_reserved}
use Rattle.jresolution.specs.jprogram.ProofNames.{return_reserved}
use Rattle.jresolution.specs.jprogram.ClassFileParts.{member_desc, this_name}
use Rattle.jresolution.specs.jprogram.SuperChecks.{is_missing}
use Rattle.jlinking.specs.jreferring.InitialFrames.{first_frame_test, has_frames}
use Rattle.jlinking.specs.jreferring.ClassNameAccess.{class_test, params_test, type_test}
use Rattle.jmoveclass.specs.EntryLocals.{params_in, params_of}
use Rattle.jmoveclass.specs.MovedMembers.{moved_maps, new_desc}
use Rattle.jmoveclass.specs.ProofNames.{or_no_frames}
use Rattle.jrewriting.specs.jrewrite.RewrittenPrograms.{moved}
use Rattle.jrewriting.proofs.JrewriteProofs.DeclarationChecks.{Facts, first_false}
use Rattle.jrewriting.proofs.JrewriteProofs.MemberPhase.{none_or}
use Rattle.jrewriting.proofs.JrewriteProofs.Security.{IsPassing, type_lib, type_open}
use Rattle.jrewriting.proofs.JrewriteProofs.HierarchyPhases.{IsPlain}
use Rattle.jrewriting.proofs.JrewriteProofs.SupertypeChains.{types_test_same}
use Rattle.jclass.specs.CodeFormat.{maps_of, frames_in}

-- ---- frames that are written

-- a class may name the class of a type
abbrev pub may_name_type : Program → List ℕ → FieldType → Bool
may_name_type p from t = not (is_class_sign t.base) || may_name p from t.class

-- the types of the parameters, where there are frames
abbrev pub taken_over : ClassParts → MemberInfo → List RawFrame → List FieldType
taken_over c m [] = []
taken_over c m (f ∷ fs) = params_of c m

pub or_left : (a b : Bool) → a ≡ true → (a || b) ≡ true
or_left true b h = refl
or_left false b h = absurd cc

some_frames : (gs : List RawFrame) (f : RawFrame) (fs : List RawFrame) → gs ≡ f ∷ fs → nat_lt 0 (length gs) ≡ true
some_frames [] f fs e = absurd cc
some_frames (g ∷ gs) f fs e = lt-ltb 0 (length (g ∷ gs)) (omega arith)

frames_there : (xs : List CodeAttribute) (f : RawFrame) (fs : List RawFrame) → or_no_frames (first_some maps_of xs) ≡ f ∷ fs → list_any has_frames xs ≡ true
unfolding first_some
frames_there [] f fs e = absurd cc
frames_there (code.Maps name gs ∷ xs) f fs e = or_left (nat_lt 0 (length gs)) (list_any has_frames xs) (some_frames gs f fs e)
frames_there (code.Raw name bytes ∷ xs) f fs e = frames_there xs f fs e

-- where there are frames, the parameters are tested
tested : (p : Program) (from desc : List ℕ) (b : CodeBody) (f : RawFrame) (fs : List RawFrame) → frames_in b ≡ f ∷ fs → first_frame_test p from desc b.attributes ≡ None → params_test p from (descriptor_of desc) ≡ None
unfolding first_frame_test
tested p from desc b f fs e h = ap (λ (x : Bool). if x then params_test p from (descriptor_of desc) else None) (sym (frames_there b.attributes f fs e)) ∙ h

-- ---- what may be named

both_true : (a b : Bool) → IsTrue a → IsTrue b → IsTrue (a && b)
both_true true b h k = k
both_true false b h k = absurd cc

may_if : (b missing may : Bool) (x y : LinkKind) → (if b then or_else (fault_if missing x) (fault_if (not may) y) else None) ≡ None → IsTrue (not b || may)
may_if true true may x y h = absurd cc
may_if true false true x y h = refl
may_if true false false x y h = absurd cc
may_if false missing may x y h = refl

type_may : (p : Program) (from : List ℕ) (t : FieldType) → type_test p from t ≡ None → IsTrue (may_name_type p from t)
unfolding type_test class_test
type_may p from t h = may_if (is_class_sign t.base) (is_missing p t.class) (may_name p from t.class) NoClass NotAccessible h

types_may : (p : Program) (from : List ℕ) (ts : List FieldType) → first_some (type_test p from) ts ≡ None → IsTrue (list_all (may_name_type p from) ts)
unfolding first_some
types_may p from [] h = refl
types_may p from (t ∷ ts) h =
    let a = none_of (type_test p from t) (first_some (type_test p from) ts) h in
    both_true (may_name_type p from t) (list_all (may_name_type p from) ts) (type_may p from t a.0) (types_may p from ts a.1)

params_may : (p : Program) (from : List ℕ) (d : Option Descriptor) → params_test p from d ≡ None → IsTrue (list_all (may_name_type p from) (params_in d))
params_may p from None h = refl
params_may p from (Some (descriptors.Field t)) h = refl
params_may p from (Some (descriptors.Method ps ret)) h = types_may p from ps h

may_by : (p : Program) (c : ClassParts) (m : MemberInfo) (b : CodeBody) (gs : List RawFrame) → frames_in b ≡ gs → first_frame_test p (this_name c) (member_desc c m) b.attributes ≡ None → IsTrue (list_all (may_name_type p (this_name c)) (taken_over c m gs))
may_by p c m b [] e h = refl
may_by p c m b (f ∷ fs) e h = params_may p (this_name c) (descriptor_of (member_desc c m)) (tested p (this_name c) (member_desc c m) b f fs e h)

-- where no test of a code fails, the class may name what its frames take over
pub may_take : (p : Program) (c : ClassParts) (m : MemberInfo) (b : CodeBody) → first_frame_test p (this_name c) (member_desc c m) b.attributes ≡ None → IsTrue (list_all (may_name_type p (this_name c)) (taken_over c m (frames_in b)))
may_take p c m b h = may_by p c m b (frames_in b) refl h

-- ---- the moved method

one_more : (q : Program) (from : List ℕ) (ts : List FieldType) (t : FieldType) → first_some (type_test q from) ts ≡ None → type_test q from t ≡ None → first_some (type_test q from) (ts ++ t ∷ []) ≡ None
unfolding first_some
one_more q from [] t h k = none_or (type_test q from t) None k refl
one_more q from (x ∷ ts) t h k =
    let a = none_of (type_test q from x) (first_some (type_test q from) ts) h in
    none_or (type_test q from x) (first_some (type_test q from) (ts ++ t ∷ [])) a.0 (one_more q from ts t a.1 k)

context_there : type_lib context_type ≡ true
context_there = refl

params_stay : (p : Program) → IsPlain p → IsPassing (moved p) → (from : List ℕ) (c : ClassParts) (m : MemberInfo) → Facts c m → text_reserved (member_desc c m) ≡ false → params_test p from (descriptor_of (member_desc c m)) ≡ None
    → params_test (moved p) from (descriptor_of (new_desc c m)) ≡ None
unfolding text_reserved
params_stay p is passing from c m f plain h =
    let free : (list_any type_reserved f.ps || return_reserved f.ret) ≡ false = sym (ap desc_reserved f.old) ∙ plain in
    let old : first_some (type_test p from) f.ps ≡ None = sym (ap (params_test p from) f.old) ∙ h in
    let new = types_test_same p is from f.ps (first_false (list_any type_reserved f.ps) (return_reserved f.ret) free) ∙ old in
    ap (params_test (moved p) from) f.new ∙ one_more (moved p) from f.ps context_type new (type_open (moved p) passing from context_type context_there)

-- where a method has frames, the classes of its parameters may be named
abbrev pub Handed : Program → List ℕ → List ℕ → List RawFrame → Type 0
Handed q from desc [] = Unit {0}
Handed q from desc (f ∷ fs) = params_test q from (descriptor_of desc) ≡ None

handed_by : (p : Program) → IsPlain p → IsPassing (moved p) → (c : ClassParts) (m : MemberInfo) (b : CodeBody) → Facts c m → text_reserved (member_desc c m) ≡ false → (gs : List RawFrame) → frames_in b ≡ gs
    → first_frame_test p (this_name c) (member_desc c m) b.attributes ≡ None → Handed (moved p) (this_name c) (new_desc c m) gs
handed_by p is passing c m b f plain [] e h = tt
handed_by p is passing c m b f plain (g ∷ gs) e h = params_stay p is passing (this_name c) c m f plain (tested p (this_name c) (member_desc c m) b g gs e h)

pub handed : (p : Program) → IsPlain p → IsPassing (moved p) → (c : ClassParts) (m : MemberInfo) (b : CodeBody) → Facts c m → text_reserved (member_desc c m) ≡ false
    → first_frame_test p (this_name c) (member_desc c m) b.attributes ≡ None → Handed (moved p) (this_name c) (new_desc c m) (frames_in b)
handed p is passing c m b f plain h = handed_by p is passing c m b f plain (frames_in b) refl h

-- ---- its frames

none_if : (b : Bool) (o : Option LinkKind) → o ≡ None → (if b then o else None) ≡ None
none_if true o h = h
none_if false o h = refl

-- the frame that it begins with, where it has as many as the method or fewer
pub first_good : (q : Program) (from desc : List ℕ) (fs : List RawFrame) (gs : List FullFrame) (name : Option ℕ) → (fs ≡ [] → gs ≡ []) → Handed q from desc fs → first_frame_test q from desc (moved_maps gs name) ≡ None
unfolding first_frame_test
first_good q from desc [] gs name e h = subst (λ (x : List FullFrame). first_frame_test q from desc (moved_maps x name) ≡ None) (sym (e refl)) refl
first_good q from desc (f ∷ fs) gs name e h = none_if (list_any has_frames (moved_maps gs name)) (params_test q from (descriptor_of desc)) h
