-- How many slots `main` and both `run` have, which are called without an instruction.
use Rattle.std.proofs.Common.{◌≡◌, ℕ, ◌+◌, Bool, true, false, ◌&&◌, get_or, List, [], ◌∷◌, Option, Some, None, refl, ap, sym, ◌∙◌, subst}
use Rattle.std.specs.Prelude.{codes, slice_get, if◌then◌else◌}
use Rattle.std.specs.List.{position}
use Rattle.std.specs.Str.{bytes_eq}
use Rattle.std.proofs.lemmas.List.Quantifiers.{position-Some}
use Rattle.std.proofs.lemmas.Option.{slice_get-get_or}
use Rattle.std.proofs.lemmas.Slice.Eq.{bytes_eq-Decides}
use Rattle.jground.proofs.JformatProofs.ReadingSteps.{first_true, second_true}
use Rattle.jparts.specs.declared.jpool.descriptor.Descriptor.TheVariants as descriptors
use Rattle.jparts.specs.jpool.Descriptors.{base_at, class_at, closing_at, descriptor_of, field_of, method_of, params_at, return_at, slots_of, type_at}
use Rattle.jparts.specs.jpool.ClassNames.{is_class_name}
use Rattle.jclass.specs.declared.class.MemberInfo.{MemberInfo}
use Rattle.jlib.specs.declared.side.Side.{Side}
use Rattle.jlib.specs.declared.side.Side.TheVariants.{Source}
use Rattle.jlib.specs.declared.calls.LibCall.TheVariants as calls
use Rattle.jmoveclass.specs.EntryLocals.{params_in}
use Rattle.jmoveclass.specs.ProofNames.{this_slots}
use Rattle.jresolution.specs.declared.jprogram.member.Member.TheVariants.{LibMethod}
use Rattle.jresolution.specs.declared.jprogram.member.MethodId.{MethodId}
use Rattle.jresolution.specs.declared.jprogram.part.CodePart.{CodePart}
use Rattle.jresolution.specs.jprogram.ProgramClasses.{Class, Lib, Program, User, find}
use Rattle.jresolution.specs.jprogram.MemberResolution.{is_main, main_desc, main_of, method_id}
use Rattle.jresolution.specs.jprogram.ProofNames.{main_in}
use Rattle.jresolution.specs.jprogram.ClassFileParts as parts
use Rattle.jresolution.specs.jprogram.ClassFileParts.{has_code, is_called, member_desc, member_name}
use Rattle.jresolution.proofs.JprogramProofs.ClassHeights.{Libs, Nowhere, Stands, Users, stands}
use Rattle.jlinking.proofs.JlinkProofs.PresentValues.{map_is}
use Rattle.jsemantics.specs.jmachine.CallTargets.{Pushes, by_interface}
use Rattle.jsemantics.specs.jmachine.HeapObjects.{Object}
use Rattle.jsemantics.specs.jmachine.PrivilegeActions.{run_action}
use Rattle.jsemantics.specs.jmachine.World.{world}
use Rattle.jrewriting.proofs.JrewriteProofs.FinalOverrides.{info_is}
use Rattle.jrewriting.proofs.JrewriteProofs.ParameterSlots.{library_desc}
use Rattle.jsimulation_laws.specs.relation.ProgramRelation.{run_of}
use Rattle.jmoved_laws.specs.code.SlotCounts.{MainFills, RunsFill, slots_at, slots_in}
use Rattle.jmoved_laws.proofs.CodeProofs.CallSlots.{interface_suits, suits_slots}

-- ---- `run`

action_says : descriptor_of (codes "()Ljava/lang/Object;") ≡ Some (descriptors.Method [] (Some (record { depth = 0; base = 76; class = codes "java/lang/Object" })))
unfolding descriptor_of method_of field_of params_at closing_at type_at base_at class_at return_at slots_of is_class_name
action_says = refl

run_says : descriptor_of (codes "()V") ≡ Some (descriptors.Method [] None)
unfolding descriptor_of method_of field_of params_at closing_at type_at base_at class_at return_at slots_of is_class_name
run_says = refl

pub action_slots : {K : Type 0} (p : Program) (full : Bool) (x : Object K) (callee : MethodId) → by_interface (world p) full (run_action Source) x ≡ Pushes callee → slots_at p callee ≡ 1
unfolding slots_of
action_slots p full x callee h =
    let m = LibMethod (calls.RunAction Source) in
    suits_slots p m callee false (interface_suits p full (run_action Source) x callee h) [] _ (ap descriptor_of (library_desc p (calls.RunAction Source)) ∙ action_says)

pub run_slots : {K : Type 0} (p : Program) (full : Bool) (x : Object K) (callee : MethodId) → by_interface (world p) full (run_of Source) x ≡ Pushes callee → slots_at p callee ≡ 1
unfolding slots_of
run_slots p full x callee h = suits_slots p (LibMethod (calls.Run Source)) callee false (interface_suits p full (run_of Source) x callee h) [] None (ap descriptor_of (library_desc p (calls.Run Source)) ∙ run_says)

-- ---- `main`

main_says : slots_of (params_in (descriptor_of (main_desc Source))) ≡ 1
unfolding descriptor_of method_of field_of params_at closing_at type_at base_at class_at return_at slots_of is_class_name
main_says = refl

abbrev this_by : Bool → ℕ
this_by b = if b then 0 else 1

main_at : (p : Program) (i : ℕ) (part : CodePart) (j : ℕ) → slice_get p.parts i ≡ Some part → position (is_main Source part.class) part.class.methods ≡ Some j → slots_at p (method_id i j) ≡ 1
main_at p i part j at h = by part.class.methods refl h
  where
    of : (x : MemberInfo) → slice_get part.class.methods j ≡ Some x → is_main Source part.class x ≡ true → slots_at p (method_id i j) ≡ 1
    of x there is =
        let c = part.class in
        let called = first_true (is_called c (codes "main") (main_desc Source) x) _ is in
        let shown = parts.is_public_reach (parts.reach_of x.flags) && parts.is_static x.flags in
        let rest = second_true (is_called c (codes "main") (main_desc Source) x) (shown && has_code x) is in
        let both = first_true shown (has_code x) rest in
        let static = second_true (parts.is_public_reach (parts.reach_of x.flags)) (parts.is_static x.flags) both in
        let desc = (bytes_eq-Decides (member_desc c x) (main_desc Source)).0 (second_true (bytes_eq (member_name c x) (codes "main")) (bytes_eq (member_desc c x) (main_desc Source)) called) in
        ap slots_in (info_is p i j part x at there) ∙ ap (λ (t : List ℕ). slots_of (params_in (descriptor_of t)) + this_slots x) desc ∙ ap (λ (n : ℕ). n + this_slots x) main_says ∙ ap (λ (b : Bool). 1 + this_by b) static

    by : (ms : List MemberInfo) → part.class.methods ≡ ms → position (is_main Source part.class) ms ≡ Some j → slots_at p (method_id i j) ≡ 1
    by [] e h = absurd cc
    by (d ∷ ms) e h =
        let x = position-Some (is_main Source part.class) (d ∷ ms) j d h in
        of (get_or (d ∷ ms) j d) (ap (λ (l : List MemberInfo). slice_get l j) e ∙ slice_get-get_or (d ∷ ms) j d x.0) x.1

pub main_is : (p : Program) (name : List ℕ) (m : MethodId) → p.side ≡ Source → main_of p name ≡ Some m → slots_at p m ≡ 1
unfolding main_of
main_is p name m source h = by (stands p name)
  where
    here : (o : Option Class) → find p name ≡ o → main_in Source o ≡ Some m
    here o e = sym (ap (λ (s : Side). main_in s o) source) ∙ sym (ap (main_in p.side) e) ∙ h

    by : Stands p name → slots_at p m ≡ 1
    by (Users i part at own is) =
        let r = map_is (method_id i) (position (is_main Source part.class) part.class.methods) m (here (Some (User i part.class)) is) in
        subst (λ (x : MethodId). slots_at p x ≡ 1) r.2 (main_at p i part r.0 at r.1)
    by (Libs l named is) =
        let no : None ≡ Some m = here (Some (Lib l)) is in
        absurd cc
    by (Nowhere none) =
        let no : None ≡ Some m = here None none in
        absurd cc

-- ---- the laws

pub runs_fill : RunsFill
runs_fill p full x callee = (λ h. action_slots p full x callee h, λ h. run_slots p full x callee h)

pub main_fills : MainFills
main_fills p name m source h = main_is p name m source h
