-- Methods of a moved program, and the one with which a run begins.
use Rattle.std.proofs.Common.{◌≡◌, ℕ, Bool, true, false, ◌&&◌, not, List, [], ◌∷◌, Option, Some, None, refl, ap, sym, ◌∙◌}
use Rattle.std.specs.Prelude.{codes, get_or, is_some, option_and_then, option_map, slice_get}
use Rattle.std.specs.List.{position}
use Rattle.std.specs.Str.{bytes_eq}
use Rattle.std.proofs.lemmas.Bool.{and_parts}
use Rattle.std.proofs.lemmas.List.Quantifiers.{position-Some}
use Rattle.std.proofs.lemmas.Option.{slice_get-get_or}
use Rattle.jclass.specs.declared.class.ClassParts.{ClassParts}
use Rattle.jclass.specs.declared.class.CodeBody.{CodeBody}
use Rattle.jclass.specs.declared.class.MemberInfo.{MemberInfo}
use Rattle.jlib.specs.declared.side.Side.{Side}
use Rattle.jresolution.specs.declared.jprogram.member.Member.{Member}
use Rattle.jresolution.specs.declared.jprogram.member.Member.TheVariants.{Method}
use Rattle.jresolution.specs.declared.jprogram.member.MethodId.{MethodId}
use Rattle.jresolution.specs.declared.jprogram.part.CodePart.{CodePart}
use Rattle.jresolution.specs.jprogram.ProgramClasses.{Program}
use Rattle.jresolution.specs.jprogram.MemberResolution.{init, is_main, is_static, main_desc, main_of, method_id, name_of, owner_of}
use Rattle.jresolution.specs.jprogram.ProofNames.{main_in}
use Rattle.jresolution.specs.jprogram.ClassFileParts as parts
use Rattle.jresolution.specs.jprogram.ClassFileParts.{code_of}
use Rattle.jresolution.proofs.JprogramProofs.ClassHeights.{Stands, Users, Libs, Nowhere, stands}
use Rattle.jlinking.proofs.JlinkProofs.PresentValues.{map_is}
use Rattle.jresolution.specs.juses.IndexedInstructions.{body_in, code_at}
use Rattle.jsemantics.specs.jmachine.FrameOperations.{domain_in, domain_of}
use Rattle.jsemantics.specs.jmachine.MachineSteps.{own_fields}
use Rattle.jsemantics.specs.jmachine.World.{world}
use Rattle.jtyping.specs.jwelltyped.VerifierTests.{WellTyped}
use Rattle.jmoveclass.specs.MovedClasses.{moved_part}
use Rattle.jrewriting.specs.jrewrite.LinkageLaws.{IsLinked}
use Rattle.jrewriting.specs.jrewrite.RewrittenPrograms.{limits, moved}
use Rattle.jrewriting.proofs.JrewriteProofs.ClassLookup.{part_moved}
use Rattle.jrewriting.proofs.JrewriteProofs.MemberPhase.{all_moving}
use Rattle.jrewriting.proofs.JrewriteProofs.PlainPrograms.{is_plain}
use Rattle.jmoved_laws.proofs.NamesProofs.Classes.{ordered}
use Rattle.jmoved_laws.proofs.NamesProofs.OperandDispatch.{named_same}
use Rattle.jmoved_laws.proofs.NamesProofs.Twins.{method_name, same_twin}

-- ---- domains

part_domain : (p : Program) (o : Option CodePart) → domain_in (option_map (moved_part p) o) ≡ domain_in o
part_domain p None = refl
part_domain p (Some part) = refl

pub domain_same : (p : Program) (m : MethodId) → domain_of (moved p) m ≡ domain_of p m
unfolding moved
domain_same p m = ap domain_in (part_moved p p.parts m.class) ∙ part_domain p (slice_get p.parts m.class)

-- ---- fields that an `<init>` may write

pub own_same : (p : Program) → IsLinked p → WellTyped p → limits p ≡ None → (m : MethodId) (field : Member) → own_fields (moved p) m field ≡ own_fields p m field
own_same p linked well few m field =
    let is = is_plain p linked in
    let all = all_moving p linked well few in
    let q = moved p in
    ap (λ (n : List ℕ). (bytes_eq n init && not (is_static q (Method m))) && bytes_eq (owner_of q field) ((world q).named m.class).0) (method_name p is all m)
    ∙ ap (λ (b : Bool). (bytes_eq (name_of p (Method m)) init && not b) && bytes_eq (owner_of q field) ((world q).named m.class).0) (same_twin p is all (Method m)).like.static
    ∙ ap (λ (n : List ℕ). (bytes_eq (name_of p (Method m)) init && not (is_static p (Method m))) && bytes_eq n ((world q).named m.class).0) (same_twin p is all field).like.owner
    ∙ ap (λ (n : List ℕ). (bytes_eq (name_of p (Method m)) init && not (is_static p (Method m))) && bytes_eq (owner_of p field) n) (named_same p is (ordered p is) linked.links all m.class)

-- ---- the first method of a run

first_main : (side : Side) (c : ClassParts) (ms : List MemberInfo) (j : ℕ) → position (is_main side c) ms ≡ Some j → (x : MemberInfo) × (slice_get ms j ≡ Some x) × (is_main side c x ≡ true)
first_main side c [] j e = absurd cc
first_main side c (d ∷ ms) j e =
    let at = position-Some (is_main side c) (d ∷ ms) j d e in
    (get_or (d ∷ ms) j d, slice_get-get_or (d ∷ ms) j d at.0, at.1)

some_code : (o : Option CodeBody) → is_some o ≡ true → (body : CodeBody) × (o ≡ Some body)
some_code None h = absurd cc
some_code (Some body) h = (body, refl)

last_of : (a b c : Bool) → (a && b && c) ≡ true → c ≡ true
last_of true true c h = h
last_of true false c h = absurd cc
last_of false b c h = absurd cc

record IsMethodId (i j : ℕ) (m : MethodId) : Type 0 where
  class : m.class ≡ i
  method : m.method ≡ j

id_is : (i j : ℕ) (m : MethodId) → method_id i j ≡ m → IsMethodId i j m
id_is i j m e = record { class = ap (λ (x : MethodId). x.class) (sym e); method = ap (λ (x : MethodId). x.method) (sym e) }

user_main : (p : Program) (i : ℕ) (part : CodePart) (m : MethodId) → slice_get p.parts i ≡ Some part → option_map (method_id i) (position (is_main p.side part.class) part.class.methods) ≡ Some m → (body : CodeBody) × (code_at p m ≡ Some body)
user_main p i part m at e =
    let c = part.class in
    let r = map_is (method_id i) (position (is_main p.side c) c.methods) m e in
    let x = first_main p.side c c.methods r.0 r.1 in
    let one = x.0 in
    let test = and_parts (parts.is_called c (codes "main") (main_desc p.side) one) (parts.is_public_reach (parts.reach_of one.flags) && parts.is_static one.flags && parts.has_code one) x.2 in
    let code = some_code (code_of one) (last_of (parts.is_public_reach (parts.reach_of one.flags)) (parts.is_static one.flags) (parts.has_code one) test.1) in
    let id = id_is i r.0 m r.2 in (
      code.0,
      ap (λ (k : ℕ). option_and_then (λ d. body_in d m.method) (option_map (λ y. y.class) (slice_get p.parts k))) id.class
          ∙ ap (λ (o : Option CodePart). option_and_then (λ d. body_in d m.method) (option_map (λ y. y.class) o)) at
          ∙ ap (λ (k : ℕ). body_in c k) id.method
          ∙ ap (option_and_then code_of) x.1 ∙ code.1,
    )

pub main_coded : (p : Program) (name : List ℕ) (m : MethodId) → main_of p name ≡ Some m → (body : CodeBody) × (code_at p m ≡ Some body)
unfolding main_of
main_coded p name m e = by (stands p name)
  where
    by : Stands p name → (body : CodeBody) × (code_at p m ≡ Some body)
    by (Users i part at own is) = user_main p i part m at (sym (ap (main_in p.side) is) ∙ e)
    by (Libs l at is) = let no : None ≡ Some m = sym (ap (main_in p.side) is) ∙ e in absurd cc
    by (Nowhere none) = let no : None ≡ Some m = sym (ap (main_in p.side) none) ∙ e in absurd cc
