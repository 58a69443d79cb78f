-- The third phase of linking finds nothing in the moved program.
use Rattle.std.proofs.Common.{◌≡◌, ℕ, zero, suc, ◌+◌, ◌≤◌, Bool, true, false, ◌&&◌, not, List, [], ◌∷◌, length, take, Option, Some, None, refl, ap, sym, ◌∙◌, subst, arith}
use Rattle.std.specs.Prelude.{IsTrue, is_some, option_map, slice_get, ◌||◌}
use Rattle.std.specs.List.{list_all, list_any}
use Rattle.std.specs.Str.{bytes_eq}
use Rattle.std.proofs.lemmas.List.Quantifiers.{position-Some}
use Rattle.std.proofs.lemmas.Option.{slice_get-get_or}
use Rattle.jground.specs.jbase.FirstFaults.{first_along, or_else}
use Rattle.jground.proofs.JbaseProofs.Firsts.{all_pass, none_fails, none_of}
use Rattle.jground.specs.jformat.BodyFormats.{counted}
use Rattle.jground.specs.jformat.Format.{is_good, ◌·◌}
use Rattle.jground.proofs.JformatProofs.ReadingSteps.{first_true, second_true}
use Rattle.jparts.specs.declared.jpool.descriptor.Descriptor.{Descriptor}
use Rattle.jparts.specs.declared.jpool.descriptor.Descriptor.TheVariants as descriptors
use Rattle.jparts.specs.declared.jpool.entry.Entry.{Entry}
use Rattle.jparts.specs.jpool.Descriptors.{descriptor_of, is_field_descriptor, slots_of}
use Rattle.jparts.specs.jpool.ConstantPools.{is_utf8, utf8_at}
use Rattle.jparts.proofs.JpoolProofs.PoolLaws.{at_index}
use Rattle.jclass.specs.declared.class.ClassParts.{ClassParts}
use Rattle.jclass.specs.declared.class.MemberInfo.{MemberInfo}
use Rattle.jclass.specs.Attributes.{text_index}
use Rattle.jclass.specs.IndexFormats.{access, index, u2}
use Rattle.jclass.specs.Class.{class_file, tail}
use Rattle.jclass.specs.MemberFormat as formats
use Rattle.jclass.specs.MemberFormat.{codes_fault, method_attribute, method_parts}
use Rattle.jclass.specs.ProofNames.{names_of}
use Rattle.jclass.specs.FlagRules.{descriptor_fault, field_descriptor, method_descriptor, names_class, names_super}
use Rattle.jclass.specs.FileContents.{IsIn}
use Rattle.jlib.specs.declared.classes.LibClass.TheVariants as lib
use Rattle.jlib.specs.declared.side.Side.TheVariants.{Passing, Source}
use Rattle.jlib.proofs.LibraryLookup.{class_only}
use Rattle.jlinking.specs.jmembers.MemberDeclarations.{again_test, at_member, desc_missing, field_left_out, field_left_out_test, field_test, fields_fault, final_test, is_again, is_fixed, library_test, members_fault, method_left_out, method_left_out_test, method_test, methods_above, methods_fault, overrides_final, text_left_out, text_missing, type_missing, types_test}
use Rattle.jlinking.specs.ProofNames.{class_fault, return_missing}
use Rattle.jmove.specs.PoolAdditions.{IsFront, context_type}
use Rattle.jresolution.specs.declared.jprogram.fault.LinkKind.{LinkKind}
use Rattle.jresolution.specs.declared.jprogram.fault.LinkKind.TheVariants.{FinalMethod, LeftOut, NoClass, OverridesLibrary, Twice}
use Rattle.jresolution.specs.declared.jprogram.member.Member.TheVariants.{Method}
use Rattle.jresolution.specs.declared.jprogram.part.CodePart.{CodePart}
use Rattle.jresolution.specs.jprogram.ProgramClasses.{Lib, Program, User, find, found_at, place_of}
use Rattle.jresolution.specs.jprogram.MemberResolution.{init, method_id}
use Rattle.jresolution.specs.jprogram.NameChecks.{desc_reserved, entry_reserved, member_reserved, names_reserved, text_reserved, type_reserved}
use Rattle.jresolution.specs.jprogram.ProofNames.{return_reserved}
use Rattle.jresolution.specs.jprogram.ClassFileParts.{is_called, is_interface, is_static, member_desc, member_name, or_empty, super_name, this_name}
use Rattle.jresolution.specs.jprogram.SuperChecks.{is_missing}
use Rattle.jtyping.specs.jwelltyped.VerifierTests.{WellTyped}
use Rattle.jmoveclass.specs.EntryLocals.{params_in, params_of, slots}
use Rattle.jmoveclass.specs.ProofNames.{this_slots}
use Rattle.jmoveclass.specs.MovedMembers.{new_desc}
use Rattle.jmoveclass.specs.MovedClasses.{moved_class}
use Rattle.jmoveclass.proofs.PoolStability.{text_utf8}
use Rattle.jmoveclass.proofs.DemandPreservation.{text_of_index}
use Rattle.jmoveclass.proofs.MethodContents.{class_tail, is_method_of, method_fits}
use Rattle.jrewriting.proofs.JmoveclassLawsProofs.MovedMethods.{Alike, Like, members_alike}
use Rattle.jrewriting.proofs.JmoveclassLawsProofs.Texts.{longer, longer_well, moved_is}
use Rattle.jrewriting.specs.jrewrite.LinkageLaws.{IsLinked}
use Rattle.jrewriting.specs.jrewrite.RewrittenPrograms.{limits, moved}
use Rattle.jrewriting.proofs.JrewriteProofs.DeclarationChecks.{Facts, Moving, again_same, desc_is, desc_kept, first_false, left_same, name_same, new_ends, no_again, no_fault, not_fixed, or_join, return_there, second_false, text_same, type_same, types_stay, types_there}
use Rattle.jrewriting.proofs.JrewriteProofs.ClassFileParts.{can_be_file}
use Rattle.jrewriting.proofs.JrewriteProofs.ClassLookup.{above_same, place_same, pool_front}
use Rattle.jrewriting.proofs.JrewriteProofs.MovableClasses.{at_none, members_none}
use Rattle.jrewriting.proofs.JrewriteProofs.FinalOverrides.{AllMoving, above_sub, member_likewise, moved_at, none_final}
use Rattle.jrewriting.proofs.JrewriteProofs.PlainPrograms.{is_plain}
use Rattle.jrewriting.proofs.JrewriteProofs.ParameterSlots.{all_few}
use Rattle.jrewriting.proofs.JrewriteProofs.HierarchyPhases.{IsPlain, part_of_moved, plain_above, plain_at}

-- ---- what is known of methods

facts_of : (c : ClassParts) (m : MemberInfo) → IsTrue (class_file.fits c) → IsIn m c.methods → slots c m ≤ 254 → Facts c m
facts_of c m fit there few =
    let d = is_method_of c m fit there in
    let params : params_of c m ≡ d.params = ap params_in d.is in
    let same : slots_of (params_of c m) ≡ slots_of d.params = ap slots_of params in
    let all : slots c m ≡ slots_of (params_of c m) + this_slots m = refl in
    let is : new_desc c m ≡ longer d.params d.ret = ap or_empty (moved_is (member_desc c m) d.params d.ret d.is) in
    record { ps = d.params; ret = d.ret; old = d.is; new = ap descriptor_of is ∙ longer_well (member_desc c m) d.params d.ret d.is (omega arith) }

method_name : (pool : List Entry) (m : MemberInfo) → IsTrue ((formats.method pool).fits m) → IsTrue (is_utf8 pool m.name)
unfolding formats.method method_parts
method_name pool m fit =
    let a = first_true ((method_parts pool).fits m) (is_good (codes_fault pool (names_of m))) fit in
    let b = second_true (access.fits m.flags) ((text_index pool · method_descriptor pool m.flags · counted u2 (method_attribute pool)).fits (m.name, (m.desc, m.attributes))) a in
    text_of_index pool m.name (first_true ((text_index pool).fits m.name) ((method_descriptor pool m.flags · counted u2 (method_attribute pool)).fits (m.desc, m.attributes)) b)

pub moving_of : (p : Program) → IsLinked p → WellTyped p → limits p ≡ None → (i : ℕ) (part : CodePart) → slice_get p.parts i ≡ Some part
    → Moving part.class (moved_class p part.domain part.class) × Alike part.class (moved_class p part.domain part.class).pool part.class.methods (moved_class p part.domain part.class).methods
moving_of p is typed none i part at =
    let c = part.class in
    let fit = is.files i part at in
    let few = all_few p none is.files in (
      record {
        front = pool_front p part.domain c;
        facts = λ m there. facts_of c m fit there (few i part m at there);
        named = λ m there. method_name c.pool m (method_fits c m fit there);
      },
      members_alike p part.domain c (can_be_file p is typed none i part at),
    )

pub all_moving : (p : Program) → IsLinked p → WellTyped p → limits p ≡ None → AllMoving p
all_moving p is typed none i c d h =
    subst (λ (y : ClassParts). Moving c y × Alike c y.pool c.methods y.methods) h.there
    (subst (λ (x : ClassParts). Moving x (moved_class p h.part.domain h.part.class) × Alike x (moved_class p h.part.domain h.part.class).pool x.methods (moved_class p h.part.domain h.part.class).methods) h.here (moving_of p is typed none i h.part h.at))

-- ---- contexts are there

pub place_there : (ps : List CodePart) (name : List ℕ) (i : ℕ) → place_of ps name ≡ Some i → (part : CodePart) × (slice_get ps i ≡ Some part)
unfolding place_of
place_there [] name i e = absurd cc
place_there (x ∷ ps) name i e =
    let at = position-Some (λ part. bytes_eq (this_name part.class) name) (x ∷ ps) i x e in
    (_, slice_get-get_or (x ∷ ps) i x at.0)

context_by : (p : Program) (o : Option ℕ) → place_of p.parts context_type.class ≡ o → is_some (found_at (moved p) context_type.class o) ≡ true
unfolding moved
context_by p None e = ap (λ o. is_some (option_map Lib o)) (class_only Passing lib.Ctx refl)
context_by p (Some i) e =
    let r = place_there p.parts context_type.class i e in
    ap (λ o. is_some (option_map (λ part. User i part.class) o)) (moved_at p i r.0 r.1)

pub context_there : (p : Program) → IsPlain p → is_missing (moved p) context_type.class ≡ false
unfolding find moved
context_there p is = ap not (ap (λ o. is_some (found_at (moved p) context_type.class o)) (place_same p context_type.class p.parts is.all) ∙ context_by p (place_of p.parts context_type.class) refl)

-- ---- methods

none_at : (i k : ℕ) (o : Option LinkKind) → o ≡ None → at_member i k o ≡ None
none_at i k None h = refl
none_at i k (Some kind) h = absurd cc

pub none_or : {F : Type 0} (a b : Option F) → a ≡ None → b ≡ None → or_else a b ≡ None
none_or None b h k = k
none_or (Some x) b h k = absurd cc

and_step : (a b c : Bool) → (a && b) ≡ false → (b ≡ false → c ≡ false) → (a && c) ≡ false
and_step true b c h f = f h
and_step false b c h f = refl

-- the old method of a moved one, with those in front of it
record Back (c d : ClassParts) (xs ys : List MemberInfo) (k : ℕ) (n : MemberInfo) : Type 0 where
  pub old : MemberInfo
  pub at : slice_get xs k ≡ Some old
  pub like : Like c d.pool old n
  pub before : Alike c d.pool (take k xs) (take k ys)

back_at : (c d : ClassParts) (xs ys : List MemberInfo) (k : ℕ) (n : MemberInfo) → Alike c d.pool xs ys → slice_get ys k ≡ Some n → Back c d xs ys k n
back_at c d [] [] k n all at = absurd cc
back_at c d [] (y ∷ ys) k n all at = absurd all
back_at c d (x ∷ xs) [] k n all at = absurd all
back_at c d (x ∷ xs) (y ∷ ys) zero n all at = let same : y ≡ n = cc in record { old = x; at = refl; like = subst (Like c d.pool x) same all.0; before = tt }
back_at c d (x ∷ xs) (y ∷ ys) (suc k) n all at = let r = back_at c d xs ys k n all.1 at in record { old = r.old; at = r.at; like = r.like; before = (all.0, r.before) }

take_in : (xs : List MemberInfo) (k i : ℕ) (x : MemberInfo) → slice_get (take k xs) i ≡ Some x → slice_get xs i ≡ Some x
take_in xs zero i x h = absurd cc
take_in [] (suc k) i x h = absurd cc
take_in (y ∷ ys) (suc k) zero x h = h
take_in (y ∷ ys) (suc k) (suc i) x h = take_in ys k i x h

pub any_at : {A : Type 0} (f : A → Bool) (xs : List A) (i : ℕ) (x : A) → list_any f xs ≡ false → slice_get xs i ≡ Some x → f x ≡ false
any_at f [] i x h at = absurd cc
any_at f (y ∷ ys) zero x h at = let same : y ≡ x = cc in subst (λ z. f z ≡ false) same (first_false (f y) (list_any f ys) h)
any_at f (y ∷ ys) (suc i) x h at = any_at f ys i x (second_false (f y) (list_any f ys) h) at

-- a class of the program, and the moved one
pub record Here (p : Program) (i : ℕ) (part : CodePart) (d : ClassParts) : Type 0 where
  pub at : slice_get p.parts i ≡ Some part
  pub flags : d.flags ≡ part.class.flags
  pub above : super_name d ≡ super_name part.class
  pub moving : Moving part.class d
  pub alike : Alike part.class d.pool part.class.methods d.methods

pub method_good : (p : Program) → IsPlain p → AllMoving p → (i : ℕ) (part : CodePart) (d : ClassParts) → Here p i part d → methods_fault p i part.class ≡ None → (k : ℕ) (n : MemberInfo) → slice_get d.methods k ≡ Some n
    → method_test (moved p) i d (take k d.methods) k n ≡ None
unfolding methods_fault again_test method_left_out_test types_test library_test final_test moved
method_good p is all i part d here old k n at =
    let c = part.class in
    let r = back_at c d c.methods d.methods k n here.alike at in
    let m = r.old in
    let in_class : IsIn m c.methods = (k, r.at) in
    let f = here.moving.facts m in_class in
    let plain = plain_at p is i part here.at in
    let name : member_name d n ≡ member_name c m = name_same c d m n here.moving in_class r.like in
    let desc : member_desc d n ≡ new_desc c m = desc_is c d m n r.like in
    let test = at_none i k (method_test p i c (take k c.methods) k m) (none_fails (λ j x. at_member i j (method_test p i c (take j c.methods) j x)) c.methods k m old r.at) in
    let t1 = none_of (again_test c (take k c.methods) m) _ test in
    let t2 = none_of (method_left_out_test p.side c m) _ t1.1 in
    let t3 = none_of (types_test p c m) _ t2.1 in
    let t4 = none_of (library_test p c m) (final_test p i c k m) t3.1 in
    let again = again_same c d (take k c.methods) (take k d.methods) m n here.moving (λ j x there. (j, take_in c.methods k j x there)) r.before in_class r.like ∙ no_again (is_again c (take k c.methods) m) Twice t1.0 in
    let out = no_again (method_left_out p.side c m || text_left_out (member_desc c m)) LeftOut t2.0 in
    let left_old : method_left_out Source c m ≡ false = ap (λ side. method_left_out side c m) (sym is.source) ∙ first_false (method_left_out p.side c m) (text_left_out (member_desc c m)) out in
    let left = left_same c d m n here.moving here.flags in_class r.like left_old in
    let kept = ap text_left_out desc ∙ desc_kept c m f (second_false (method_left_out p.side c m) (text_left_out (member_desc c m)) out) in
    let reserved : text_reserved (member_desc c m) ≡ false = any_at (member_reserved c) c.methods k m (first_false (list_any (member_reserved c) c.methods) _ (second_false _ _ plain.kept)) r.at in
    let types = ap (text_missing (moved p)) desc ∙ types_stay p is (context_there p is) c m f reserved (no_again (text_missing p (member_desc c m)) NoClass t3.0) in
    let fixed = ap (λ t. is_fixed (moved p) d (member_name d n) t) desc ∙ not_fixed (moved p) d (member_name d n) (new_desc c m) (new_ends c m f) in
    let final_old = no_again (not (bytes_eq (member_name c m) init) && overrides_final p (Method (method_id i k)) [] (methods_above p c (member_name c m) (member_desc c m))) FinalMethod t4.1 in
    let sub = above_sub p is all c d c m (member_name c m) f here.above (plain_above c plain) in
    let final_new = and_step (not (bytes_eq (member_name c m) init)) (overrides_final p (Method (method_id i k)) [] (methods_above p c (member_name c m) (member_desc c m))) (overrides_final (moved p) (Method (method_id i k)) [] (methods_above (moved p) d (member_name c m) (new_desc c m))) final_old
    (none_final p (methods_above p c (member_name c m) (member_desc c m)) (methods_above (moved p) d (member_name c m) (new_desc c m)) sub (Method (method_id i k)) (Method (method_id i k)) (member_likewise p is all i k part m here.at r.at)) in
    none_or (again_test d (take k d.methods) n) _ (no_fault (is_again d (take k d.methods) n) Twice again)
    (none_or (method_left_out_test (moved p).side d n) _ (no_fault (method_left_out Passing d n || text_left_out (member_desc d n)) LeftOut (or_join (method_left_out Passing d n) (text_left_out (member_desc d n)) left kept))
    (none_or (types_test (moved p) d n) _ (no_fault (text_missing (moved p) (member_desc d n)) NoClass types)
    (none_or (library_test (moved p) d n) (final_test (moved p) i d k n) (no_fault (is_fixed (moved p) d (member_name d n) (member_desc d n)) OverridesLibrary fixed)
    (rw (name, desc) (no_fault (not (bytes_eq (member_name c m) init) && overrides_final (moved p) (Method (method_id i k)) [] (methods_above (moved p) d (member_name c m) (new_desc c m))) FinalMethod final_new)))))

-- ---- fields

desc_there : (p : Program) → IsPlain p → (o : Option Descriptor) → desc_reserved o ≡ false → desc_missing p o ≡ false → desc_missing (moved p) o ≡ false
desc_there p is None plain h = refl
desc_there p is (Some (descriptors.Field t)) plain h = type_same p is t plain ∙ h
desc_there p is (Some (descriptors.Method ps ret)) plain h =
    or_join (list_any (type_missing (moved p)) ps) (return_missing (moved p) ret)
    (types_there p is ps (first_false (list_any type_reserved ps) (return_reserved ret) plain) (first_false (list_any (type_missing p) ps) (return_missing p ret) h))
    (return_there p is ret (second_false (list_any type_reserved ps) (return_reserved ret) plain) (second_false (list_any (type_missing p) ps) (return_missing p ret) h))

-- the texts of a field
pub record Texts (c d : ClassParts) (m : MemberInfo) : Type 0 where
  pub name : member_name d m ≡ member_name c m
  pub desc : member_desc d m ≡ member_desc c m

utf8_some : (pool : List Entry) (i : ℕ) (o : Option (List ℕ)) → utf8_at pool i ≡ o → IsTrue (is_good (descriptor_fault is_field_descriptor o)) → IsTrue (is_utf8 pool i)
utf8_some pool i None e h = absurd cc
utf8_some pool i (Some t) e h = text_utf8 pool i t e

pub field_texts : (c d : ClassParts) (m : MemberInfo) → IsFront c.pool d.pool → IsTrue ((formats.field c.pool).fits m) → Texts c d m
unfolding formats.field field_descriptor
field_texts c d m front fit =
    let a = second_true (access.fits m.flags) _ fit in
    let b = second_true ((text_index c.pool).fits m.name) _ a in
    let desc = first_true ((field_descriptor c.pool).fits m.desc) _ b in
    record {
      name = text_same c.pool d.pool front m.name (text_of_index c.pool m.name (first_true ((text_index c.pool).fits m.name) _ a));
      desc = text_same c.pool d.pool front m.desc (utf8_some c.pool m.desc (utf8_at c.pool m.desc) refl (second_true (u2.fits m.desc) (is_good (descriptor_fault is_field_descriptor (utf8_at c.pool m.desc))) desc));
    }

pub class_fields : (c : ClassParts) → IsTrue (class_file.fits c) → IsTrue (list_all (formats.field c.pool).fits c.fields)
unfolding tail
class_fields c fit =
    let a = second_true (access.fits c.flags) _ (class_tail c fit) in
    let b = second_true ((index (names_class c.pool)).fits c.this_class) _ a in
    let e = second_true ((index (names_super c.pool)).fits c.super_class) _ b in
    let g = second_true ((counted u2 (index (names_class c.pool))).fits c.interfaces) _ e in
    first_true (list_all (formats.field c.pool).fits c.fields) (u2.fits (length c.fields)) (first_true ((counted u2 (formats.field c.pool)).fits c.fields) _ g)

again_field : (c d : ClassParts) (xs : List MemberInfo) (m : MemberInfo) → ((i : ℕ) (x : MemberInfo) → slice_get xs i ≡ Some x → Texts c d x) → Texts c d m → is_again d xs m ≡ is_again c xs m
again_field c d [] m sub t = refl
again_field c d (x ∷ xs) m sub t =
    let one = sub 0 x refl in
    let called : is_called d (member_name d m) (member_desc d m) x ≡ is_called c (member_name c m) (member_desc c m) x = rw (one.name, one.desc, t.name, t.desc) refl in
    rw (called, again_field c d xs m (λ i y at. sub (suc i) y at) t) refl

field_good : (p : Program) → IsPlain p → (part : CodePart) (d : ClassParts) → d.flags ≡ part.class.flags → ((x : MemberInfo) → IsIn x part.class.fields → Texts part.class d x) → names_reserved part.class ≡ false → (k : ℕ) (m : MemberInfo) → slice_get part.class.fields k ≡ Some m
    → field_test p part.class (take k part.class.fields) m ≡ None → field_test (moved p) d (take k part.class.fields) m ≡ None
unfolding again_test field_left_out_test types_test text_missing text_reserved
field_good p is part d flags texts kept k m at old =
    let c = part.class in
    let t = texts m (k, at) in
    let t1 = none_of (again_test c (take k c.fields) m) _ old in
    let t2 = none_of (field_left_out_test c m) (types_test p c m) t1.1 in
    let out = no_again (field_left_out c m || text_left_out (member_desc c m)) LeftOut t2.0 in
    let again = again_field c d (take k c.fields) m (λ i x there. texts x (i, take_in c.fields k i x there)) t ∙ no_again (is_again c (take k c.fields) m) Twice t1.0 in
    let left : field_left_out d m ≡ false = ap (λ f. is_interface f && not (is_static m.flags)) flags ∙ first_false (field_left_out c m) (text_left_out (member_desc c m)) out in
    let text = ap text_left_out t.desc ∙ second_false (field_left_out c m) (text_left_out (member_desc c m)) out in
    let reserved : desc_reserved (descriptor_of (member_desc c m)) ≡ false = any_at (member_reserved c) c.fields k m (second_false (list_any (member_reserved c) c.methods) (list_any (member_reserved c) c.fields) (second_false (list_any (entry_reserved c.pool) c.pool) _ kept)) at in
    let types = ap (λ x. desc_missing (moved p) (descriptor_of x)) t.desc ∙ desc_there p is (descriptor_of (member_desc c m)) reserved (no_again (text_missing p (member_desc c m)) NoClass t2.1) in
    none_or (again_test d (take k c.fields) m) _ (no_fault (is_again d (take k c.fields) m) Twice again)
    (none_or (field_left_out_test d m) (types_test (moved p) d m) (no_fault (field_left_out d m || text_left_out (member_desc d m)) LeftOut (or_join (field_left_out d m) (text_left_out (member_desc d m)) left text))
    (no_fault (text_missing (moved p) (member_desc d m)) NoClass types))

-- ---- the phase

pub fields_same : (p : Program) (domain : ℕ) (c : ClassParts) → (moved_class p domain c).fields ≡ c.fields
unfolding moved_class
fields_same p domain c = refl

pub flags_kept : (p : Program) (domain : ℕ) (c : ClassParts) → (moved_class p domain c).flags ≡ c.flags
unfolding moved_class
flags_kept p domain c = refl

fields_none : (p : Program) → IsPlain p → (i : ℕ) (part : CodePart) (d : ClassParts) → d.flags ≡ part.class.flags → d.fields ≡ part.class.fields → IsTrue (class_file.fits part.class) → IsFront part.class.pool d.pool → names_reserved part.class ≡ false
    → fields_fault p i part.class ≡ None → fields_fault (moved p) i d ≡ None
unfolding fields_fault
fields_none p is i part d flags same fit front kept old =
    let c = part.class in
    let texts : (x : MemberInfo) → IsIn x c.fields → Texts c d x = λ x there. field_texts c d x front (at_index (formats.field c.pool).fits c.fields there.0 x (class_fields c fit) there.1) in
    subst (λ (fs : List MemberInfo). first_along (λ k m. at_member i (length d.methods + k) (field_test (moved p) d (take k fs) m)) 0 fs ≡ None) (sym same) (all_pass (λ k m. at_member i (length d.methods + k) (field_test (moved p) d (take k c.fields) m)) c.fields (λ k m at.
    none_at i (length d.methods + k) (field_test (moved p) d (take k c.fields) m) (field_good p is part d flags texts kept k m at
    (at_none i (length c.methods + k) (field_test p c (take k c.fields) m) (none_fails (λ j x. at_member i (length c.methods + j) (field_test p c (take j c.fields) x)) c.fields k m old at)))))

class_good : (p : Program) → IsLinked p → WellTyped p → limits p ≡ None → (i : ℕ) (part : CodePart) → slice_get p.parts i ≡ Some part → class_fault (moved p) i (moved_class p part.domain part.class) ≡ None
unfolding members_fault methods_fault
class_good p is typed none i part at =
    let c = part.class in
    let d = moved_class p part.domain part.class in
    let plain = is_plain p is in
    let x = plain_at p plain i part at in
    let old = none_fails (λ j y. class_fault p j y.class) p.parts i part (members_none p is.links.rules) at in
    let both_old = none_of (methods_fault p i c) (fields_fault p i c) old in
    let k = moving_of p is typed none i part at in
    let here : Here p i part d = record { at = at; flags = flags_kept p part.domain c; above = above_same p part.domain c x.named; moving = k.0; alike = k.1 } in
    none_or (methods_fault (moved p) i d) (fields_fault (moved p) i d)
    (all_pass (λ j n. at_member i j (method_test (moved p) i d (take j d.methods) j n)) d.methods (λ j n there.
    none_at i j (method_test (moved p) i d (take j d.methods) j n) (method_good p plain (all_moving p is typed none) i part d here both_old.0 j n there)))
    (fields_none p plain i part d (flags_kept p part.domain c) (fields_same p part.domain c) (is.files i part at) (pool_front p part.domain c) x.kept both_old.1)

pub members_stay : (p : Program) → IsLinked p → WellTyped p → limits p ≡ None → members_fault (moved p) ≡ None
unfolding members_fault
members_stay p is typed none = all_pass (λ i part. class_fault (moved p) i part.class) (moved p).parts (λ i y at.
    let f = part_of_moved p i y at in
    subst (λ (z : CodePart). class_fault (moved p) i z.class ≡ None) f.is (class_good p is typed none i f.part f.at))
