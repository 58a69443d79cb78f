-- Each member of a program and what it is in the moved program: a user's is itself, and one of the library that is handed a context is its passing
-- form.
use Rattle.std.proofs.Common.{◌≡◌, ℕ, zero, suc, List, [], ◌∷◌, Option, Some, None, refl, ap, sym, ◌∙◌}
use Rattle.std.specs.Prelude.{option_and_then, option_map, slice_get}
use Rattle.jclass.specs.declared.class.ClassParts.{ClassParts}
use Rattle.jclass.specs.declared.class.MemberInfo.{MemberInfo}
use Rattle.jlib.specs.declared.calls.LibCall.{LibCall}
use Rattle.jlib.specs.declared.calls.LibCall.TheVariants as call
use Rattle.jlib.specs.declared.calls.ThreadCall.TheVariants as thread
use Rattle.jlib.specs.declared.side.Side.TheVariants.{Passing, Source}
use Rattle.jresolution.specs.declared.jprogram.member.Member.{Member}
use Rattle.jresolution.specs.declared.jprogram.member.Member.TheVariants.{Field, LibField, LibMethod, Method}
use Rattle.jresolution.specs.declared.jprogram.member.MethodId.{MethodId}
use Rattle.jresolution.specs.declared.jprogram.part.CodePart.{CodePart}
use Rattle.jresolution.specs.jprogram.ProgramClasses.{Program}
use Rattle.jresolution.specs.jprogram.MemberResolution.{desc_in, desc_of, info_of, is_abstract, is_final, is_static, name_in, name_of, owner_of, reach_in, reach_of, user_is, owner_in}
use Rattle.jresolution.specs.jprogram.ClassFileParts as parts
use Rattle.jresolution.specs.jprogram.ClassFileParts.{member_desc, this_name}
use Rattle.jmoveclass.specs.MovedMembers.{new_desc}
use Rattle.jmoveclass.specs.MovedClasses.{moved_class, moved_part}
use Rattle.jrewriting.proofs.JmoveclassLawsProofs.MovedMethods.{Alike, Like}
use Rattle.jrewriting.specs.jrewrite.RewrittenPrograms.{moved}
use Rattle.jrewriting.proofs.JrewriteProofs.DeclarationChecks.{Moving, desc_is, name_same}
use Rattle.jrewriting.proofs.JrewriteProofs.ClassLookup.{named_at, part_moved, this_same}
use Rattle.jrewriting.proofs.JrewriteProofs.MemberPhase.{fields_same}
use Rattle.jrewriting.proofs.JrewriteProofs.FinalOverrides.{AllMoving, Likewise, info_is, moved_at, pair_at, user_likewise}
use Rattle.jrewriting.proofs.JrewriteProofs.HierarchyPhases.{IsPlain}
use Rattle.jsimulation_laws.specs.relation.InstructionExpansion.{moved_member, passing}

-- what calls and fields ask of a member
pub record Twin (p : Program) (x y : Member) : Type 0 where
  pub like : Likewise p x y
  pub abstract : is_abstract (moved p) y ≡ is_abstract p x

-- ---- of the library

pub lib_twin : (p : Program) (x : LibCall) → Twin p (LibMethod x) (LibMethod x)
unfolding is_static is_final reach_of owner_of is_abstract
lib_twin p x = record { like = record { static = refl; final = refl; reach = refl; owner = refl }; abstract = refl }

pub passing_twin : (p : Program) (x : LibCall) → Twin p (LibMethod x) (LibMethod (passing x))
unfolding is_static is_final reach_of owner_of is_abstract
passing_twin p (call.Run Source) = record { like = record { static = refl; final = refl; reach = refl; owner = refl }; abstract = refl }
passing_twin p (call.Run Passing) = record { like = record { static = refl; final = refl; reach = refl; owner = refl }; abstract = refl }
passing_twin p (call.RunAction Source) = record { like = record { static = refl; final = refl; reach = refl; owner = refl }; abstract = refl }
passing_twin p (call.RunAction Passing) = record { like = record { static = refl; final = refl; reach = refl; owner = refl }; abstract = refl }
passing_twin p (call.Thread (thread.Init Source)) = record { like = record { static = refl; final = refl; reach = refl; owner = refl }; abstract = refl }
passing_twin p (call.Thread (thread.Init Passing)) = record { like = record { static = refl; final = refl; reach = refl; owner = refl }; abstract = refl }
passing_twin p x = record { like = record { static = refl; final = refl; reach = refl; owner = refl }; abstract = refl }

pub field_twin : (p : Program) → Twin p LibField LibField
unfolding is_static is_final reach_of owner_of is_abstract
field_twin p = record { like = record { static = refl; final = refl; reach = refl; owner = refl }; abstract = refl }

-- ---- users' methods

-- a user's method and the moved one
pub record Declared (p : Program) (m : MethodId) : Type 0 where
  pub part : CodePart
  pub at : slice_get p.parts m.class ≡ Some part
  pub method : MemberInfo
  pub there : slice_get part.class.methods m.method ≡ Some method
  pub new : MemberInfo
  pub moved_there : slice_get (moved_class p part.domain part.class).methods m.method ≡ Some new
  pub like : Like part.class (moved_class p part.domain part.class).pool method new
  pub moving : Moving part.class (moved_class p part.domain part.class)

pub declared : (p : Program) → AllMoving p → (m : MethodId) (part : CodePart) (x : MemberInfo) → slice_get p.parts m.class ≡ Some part → slice_get part.class.methods m.method ≡ Some x → Declared p m
declared p all m part x at there =
    let c = part.class in
    let d = moved_class p part.domain part.class in
    let k = all m.class c d (record { part = part; at = at; here = refl; there = refl }) in
    let y = pair_at c d c.methods d.methods m.method k.1 x there in
    record { part = part; at = at; method = x; there = there; new = y.0; moved_there = y.1.0; like = y.1.1; moving = k.0 }

module _ (p : Program) (is : IsPlain p) (m : MethodId) (k : Declared p m) where
  old_info : info_of p (Method m) ≡ Some (k.part.class, k.method)
  old_info = info_is p m.class m.method k.part k.method k.at k.there

  new_info : info_of (moved p) (Method m) ≡ Some (moved_class p k.part.domain k.part.class, k.new)
  new_info = info_is (moved p) m.class m.method (moved_part p k.part) k.new (moved_at p m.class k.part k.at) k.moved_there

  pub declared_twin : Twin p (Method m) (Method m)
  unfolding is_abstract
  declared_twin = record {
    like = user_likewise p m.class m.method k.part.class (moved_class p k.part.domain k.part.class) k.method k.new old_info new_info k.like.flags (this_same p k.part.domain k.part.class (named_at p.parts m.class k.part is.all k.at));
    abstract = ap (user_is (λ one. parts.is_abstract one.flags)) new_info ∙ ap parts.is_abstract k.like.flags ∙ sym (ap (user_is (λ one. parts.is_abstract one.flags)) old_info);
  }

  -- its name
  pub same_name : name_of (moved p) (Method m) ≡ name_of p (Method m)
  unfolding name_of
  same_name = ap name_in new_info ∙ name_same k.part.class (moved_class p k.part.domain k.part.class) k.method k.new k.moving (m.method, k.there) k.like ∙ sym (ap name_in old_info)

  -- its descriptors, before and after
  pub old_desc : desc_of p (Method m) ≡ member_desc k.part.class k.method
  unfolding desc_of
  old_desc = ap desc_in old_info

  pub moved_desc : desc_of (moved p) (Method m) ≡ new_desc k.part.class k.method
  unfolding desc_of
  moved_desc = ap desc_in new_info ∙ desc_is k.part.class (moved_class p k.part.domain k.part.class) k.method k.new k.like

-- ---- what isn't there

pub none_pair : (c d : ClassParts) (xs ys : List MemberInfo) (j : ℕ) → Alike c d.pool xs ys → slice_get xs j ≡ None → slice_get ys j ≡ None
none_pair c d [] [] j all e = refl
none_pair c d [] (y ∷ ys) j all e = absurd all
none_pair c d (x ∷ xs) [] j all e = absurd all
none_pair c d (x ∷ xs) (y ∷ ys) zero all e = absurd cc
none_pair c d (x ∷ xs) (y ∷ ys) (suc j) all e = none_pair c d xs ys j all.1 e

missing_twin : (p : Program) (m : MethodId) → info_of p (Method m) ≡ None → info_of (moved p) (Method m) ≡ None → Twin p (Method m) (Method m)
unfolding is_static is_final reach_of owner_of is_abstract
missing_twin p m a b = record {
  like = record {
    static = ap (user_is (λ one. parts.is_static one.flags)) (b ∙ sym a);
    final = ap (user_is (λ one. parts.is_final one.flags)) (b ∙ sym a);
    reach = ap reach_in (b ∙ sym a);
    owner = ap owner_in (b ∙ sym a);
  };
  abstract = ap (user_is (λ one. parts.is_abstract one.flags)) (b ∙ sym a);
}

abbrev info_by : MethodId → Option CodePart → Option (ClassParts × MemberInfo)
info_by m o = option_and_then (λ c. option_map (λ x. (c, x)) (slice_get c.methods m.method)) (option_map (λ part. part.class) o)

twin_in : (p : Program) → IsPlain p → AllMoving p → (m : MethodId) (part : CodePart) (o : Option MemberInfo) → slice_get p.parts m.class ≡ Some part → slice_get part.class.methods m.method ≡ o → Twin p (Method m) (Method m)
twin_in p is all m part (Some x) at e = declared_twin p is m (declared p all m part x at e)
twin_in p is all m part None at e =
    let c = part.class in
    let d = moved_class p part.domain part.class in
    let k = all m.class c d (record { part = part; at = at; here = refl; there = refl }) in
    missing_twin p m (ap (info_by m) at ∙ ap (option_map (λ x. (c, x))) e)
    (ap (info_by m) (moved_at p m.class part at) ∙ ap (option_map (λ x. (d, x))) (none_pair c d c.methods d.methods m.method k.1 e))

twin_by : (p : Program) → IsPlain p → AllMoving p → (m : MethodId) (o : Option CodePart) → slice_get p.parts m.class ≡ o → Twin p (Method m) (Method m)
unfolding moved
twin_by p is all m (Some part) at = twin_in p is all m part (slice_get part.class.methods m.method) at refl
twin_by p is all m None at = missing_twin p m (ap (info_by m) at) (ap (info_by m) (part_moved p p.parts m.class ∙ ap (option_map (moved_part p)) at))

pub method_twin : (p : Program) → IsPlain p → AllMoving p → (m : MethodId) → Twin p (Method m) (Method m)
method_twin p is all m = twin_by p is all m (slice_get p.parts m.class) refl

-- ---- users' fields

abbrev field_by : ℕ → Option CodePart → Option (ClassParts × MemberInfo)
field_by j o = option_and_then (λ c. option_map (λ m. (c, m)) (slice_get c.fields j)) (option_map (λ part. part.class) o)

field_infos : (p : Program) (i j : ℕ) (c d : ClassParts) (a b : Option MemberInfo) → info_of p (Field i j) ≡ option_map (λ m. (c, m)) a → info_of (moved p) (Field i j) ≡ option_map (λ m. (d, m)) b → b ≡ a → this_name d ≡ this_name c → Twin p (Field i j) (Field i j)
unfolding is_static is_final reach_of owner_of is_abstract
field_infos p i j c d a b old new e named = record {
  like = record {
    static = tests (user_is (λ one. parts.is_static one.flags)) (λ m. refl);
    final = tests (user_is (λ one. parts.is_final one.flags)) (λ m. refl);
    reach = tests reach_in (λ m. refl);
    owner = tests owner_in (λ m. named);
  };
  abstract = tests (user_is (λ one. parts.is_abstract one.flags)) (λ m. refl);
}
  where
    tests : {A : Type 0} (f : Option (ClassParts × MemberInfo) → A) → ((m : MemberInfo) → f (Some (d, m)) ≡ f (Some (c, m))) → f (info_of (moved p) (Field i j)) ≡ f (info_of p (Field i j))
    tests f h = ap f new ∙ ap (λ (o : Option MemberInfo). f (option_map (λ m. (d, m)) o)) e ∙ by a ∙ sym (ap f old)
      where
        by : (o : Option MemberInfo) → f (option_map (λ m. (d, m)) o) ≡ f (option_map (λ m. (c, m)) o)
        by None = refl
        by (Some m) = h m

missing_field : (p : Program) (i j : ℕ) → info_of p (Field i j) ≡ None → info_of (moved p) (Field i j) ≡ None → Twin p (Field i j) (Field i j)
unfolding is_static is_final reach_of owner_of is_abstract
missing_field p i j a b = record {
  like = record {
    static = ap (user_is (λ one. parts.is_static one.flags)) (b ∙ sym a);
    final = ap (user_is (λ one. parts.is_final one.flags)) (b ∙ sym a);
    reach = ap reach_in (b ∙ sym a);
    owner = ap owner_in (b ∙ sym a);
  };
  abstract = ap (user_is (λ one. parts.is_abstract one.flags)) (b ∙ sym a);
}

field_by_part : (p : Program) → IsPlain p → (i j : ℕ) (o : Option CodePart) → slice_get p.parts i ≡ o → Twin p (Field i j) (Field i j)
unfolding moved
field_by_part p is i j (Some part) at =
    let c = part.class in
    let d = moved_class p part.domain part.class in
    field_infos p i j c d (slice_get c.fields j) (slice_get d.fields j) (ap (field_by j) at) (ap (field_by j) (moved_at p i part at))
    (ap (λ (fs : List MemberInfo). slice_get fs j) (fields_same p part.domain c)) (this_same p part.domain c (named_at p.parts i part is.all at))
field_by_part p is i j None at = missing_field p i j (ap (field_by j) at) (ap (field_by j) (part_moved p p.parts i ∙ ap (option_map (moved_part p)) at))

pub field_twin_at : (p : Program) → IsPlain p → (i j : ℕ) → Twin p (Field i j) (Field i j)
field_twin_at p is i j = field_by_part p is i j (slice_get p.parts i) refl

-- ---- all members

pub moved_twin : (p : Program) → IsPlain p → AllMoving p → (m : Member) → Twin p m (moved_member m)
moved_twin p is all (Method m) = method_twin p is all m
moved_twin p is all (Field i j) = field_twin_at p is i j
moved_twin p is all (LibMethod x) = passing_twin p x
moved_twin p is all LibField = field_twin p

pub same_twin : (p : Program) → IsPlain p → AllMoving p → (m : Member) → Twin p m m
same_twin p is all (Method m) = method_twin p is all m
same_twin p is all (Field i j) = field_twin_at p is i j
same_twin p is all (LibMethod x) = lib_twin p x
same_twin p is all LibField = field_twin p

-- ---- names

missing_name : (p : Program) (m : MethodId) → info_of p (Method m) ≡ None → info_of (moved p) (Method m) ≡ None → name_of (moved p) (Method m) ≡ name_of p (Method m)
unfolding name_of
missing_name p m a b = ap name_in (b ∙ sym a)

name_at_part : (p : Program) → IsPlain p → AllMoving p → (m : MethodId) (part : CodePart) (o : Option MemberInfo) → slice_get p.parts m.class ≡ Some part → slice_get part.class.methods m.method ≡ o → name_of (moved p) (Method m) ≡ name_of p (Method m)
name_at_part p is all m part (Some x) at e = same_name p is m (declared p all m part x at e)
name_at_part p is all m part None at e =
    let c = part.class in
    let d = moved_class p part.domain part.class in
    let k = all m.class c d (record { part = part; at = at; here = refl; there = refl }) in
    missing_name p m (ap (info_by m) at ∙ ap (option_map (λ x. (c, x))) e)
    (ap (info_by m) (moved_at p m.class part at) ∙ ap (option_map (λ x. (d, x))) (none_pair c d c.methods d.methods m.method k.1 e))

name_by : (p : Program) → IsPlain p → AllMoving p → (m : MethodId) (o : Option CodePart) → slice_get p.parts m.class ≡ o → name_of (moved p) (Method m) ≡ name_of p (Method m)
unfolding moved
name_by p is all m (Some part) at = name_at_part p is all m part (slice_get part.class.methods m.method) at refl
name_by p is all m None at = missing_name p m (ap (info_by m) at) (ap (info_by m) (part_moved p p.parts m.class ∙ ap (option_map (moved_part p)) at))

pub method_name : (p : Program) → IsPlain p → AllMoving p → (m : MethodId) → name_of (moved p) (Method m) ≡ name_of p (Method m)
method_name p is all m = name_by p is all m (slice_get p.parts m.class) refl
