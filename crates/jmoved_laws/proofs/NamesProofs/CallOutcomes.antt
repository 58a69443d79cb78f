-- What calls come to in a moved program.
use Rattle.std.proofs.Common.{◌≡◌, ℕ, zero, suc, Bool, true, false, List, [], ◌∷◌, Option, Some, None, refl, ap, sym, ◌∙◌, subst}
use Rattle.std.specs.Prelude.{option_and_then, option_map, slice_get, if◌then◌else◌}
use Rattle.jlib.specs.declared.side.Side.TheVariants.{Source}
use Rattle.jtypes.specs.declared.vtype.VType.TheVariants as types
use Rattle.jvalues.specs.declared.jops.value.Value.{Value}
use Rattle.jvalues.specs.declared.jops.value.Value.TheVariants.{Int, Long, Ref, Ctx}
use Rattle.jctx.specs.declared.item.Item.{Item}
use Rattle.jresolution.specs.declared.jprogram.member.MethodId.{MethodId}
use Rattle.jresolution.specs.declared.jprogram.part.CodePart.{CodePart}
use Rattle.jresolution.specs.jprogram.ProgramClasses.{Program}
use Rattle.jresolution.specs.jprogram.ClassFileParts.{this_name}
use Rattle.jresolution.specs.jprogram.OrderedPrograms.{StandsInOrder}
use Rattle.jresolution.specs.declared.juses.meaning.InvokeKind.{InvokeKind}
use Rattle.jresolution.specs.declared.juses.meaning.InvokeKind.TheVariants as how
use Rattle.jresolution.specs.juses.IndexedInstructions.{Instruction, Used, instruction_at}
use Rattle.jresolution.specs.juses.InstructionMeanings.{Call, CallMeaning}
use Rattle.jlinking.proofs.JlinkProofs.PresentValues.{then_is}
use Rattle.jtyping.specs.jrule.StackEffects.{Fits}
use Rattle.jsemantics.specs.jmachine.AccessQueries.{call_taken}
use Rattle.jsemantics.specs.jmachine.CallTargets.{Fails, Target, on_object, on_value, reached, receiver, target}
use Rattle.jsemantics.specs.ProofNames.{null_pointer}
use Rattle.jsemantics.specs.jmachine.HeapObjects.{Object, class_of}
use Rattle.jsemantics.specs.jmachine.TakenOperands.{Taken, serves}
use Rattle.jsemantics.specs.jmachine.InstructionSites.{Site}
use Rattle.jsemantics.specs.jmachine.MachineSteps.{fetched, is_followed, unless_last}
use Rattle.jsemantics.specs.jmachine.Store.{Store, object_at, object_of}
use Rattle.jsemantics.specs.jmachine.World.{World, fits, world}
use Rattle.jtyping.specs.jwelltyped.VerifierTests.{WellTyped}
use Rattle.jrewriting.specs.jrewrite.LinkageLaws.{IsLinked}
use Rattle.jrewriting.specs.jrewrite.RewrittenPrograms.{limits, moved}
use Rattle.jrewriting.proofs.JrewriteProofs.MemberPhase.{all_moving}
use Rattle.jrewriting.proofs.JrewriteProofs.PlainPrograms.{is_plain}
use Rattle.jrewriting.proofs.JrewriteProofs.FinalOverrides.{AllMoving}
use Rattle.jrewriting.proofs.JrewriteProofs.HierarchyPhases.{IsPlain}
use Rattle.jsimulation_laws.specs.relation.InstructionExpansion.{Alone, Handed, comes_alone, comes_handed, handed, moved_target, way_of}
use Rattle.jsimulation_laws.specs.relation.ProgramRelation.{Calling, there}
use Rattle.jmoved_laws.specs.names.ResolvedCalls.{IsResolvedCall}
use Rattle.jmoved_laws.specs.names.MovedLookUps.{is_handed}
use Rattle.jmoved_laws.proofs.NamesProofs.ContextFreeCalls.{object_alone}
use Rattle.jmoved_laws.proofs.NamesProofs.Classes.{ordered}
use Rattle.jmoved_laws.proofs.NamesProofs.ReceiverDispatch.{itself_moved, itself_same, reached_moved}
use Rattle.jmoved_laws.proofs.NamesProofs.OperandDispatch.{Serves, object_moved, on_in, on_same}
use Rattle.jmoved_laws.proofs.NamesProofs.DispatchContexts.{object_handed, object_quiet, static_handed, static_quiet}
use Rattle.jmoved_laws.proofs.NamesProofs.LinkedCalls.{CallSays, call_says}
use Rattle.jmoved_laws.proofs.NamesProofs.CallReceivers.{Received, object_fits, received}

-- ---- values

-- what comes of a value's object
and_then_map : {A B C : Type 0} (f : A → Option B) (g : A → Option C) (h : B → C) (o : Option A) → ((x : A) → o ≡ Some x → g x ≡ option_map h (f x)) → option_and_then g o ≡ option_map h (option_and_then f o)
and_then_map f g h None e = refl
and_then_map f g h (Some x) e = e x refl

and_then_same : {A B : Type 0} (f g : A → Option B) (o : Option A) → ((x : A) → o ≡ Some x → g x ≡ f x) → option_and_then g o ≡ option_and_then f o
and_then_same f g None e = refl
and_then_same f g (Some x) e = e x refl

map_moved : {A : Type 0} (f g : A → Target) (o : Option A) → ((x : A) → o ≡ Some x → g x ≡ moved_target (f x)) → option_map g o ≡ option_map moved_target (option_map f o)
map_moved f g None e = refl
map_moved f g (Some x) e = ap (λ (t : Target). Some t) (e x refl)

map_same : {A : Type 0} (f g : A → Target) (o : Option A) → ((x : A) → o ≡ Some x → g x ≡ f x) → option_map g o ≡ option_map f o
map_same f g None e = refl
map_same f g (Some x) e = ap (λ (t : Target). Some t) (e x refl)

module _ {K : Type 0} (at next : Site) (s : Store K) (by : InvokeKind) (c d : CallMeaning) where
  value_moved : (v : Value K) → ((x : Object K) → object_of s v ≡ Some x → on_object next by d x ≡ moved_target (on_object at by c x)) → on_value next s by d v ≡ option_map moved_target (on_value at s by c v)
  value_moved (Ref zero) h = refl
  value_moved (Ref (suc n)) h = map_moved (on_object at by c) (on_object next by d) (object_at s (suc n)) h
  value_moved (Int i) h = refl
  value_moved (Long i) h = refl
  value_moved (Ctx k) h = refl

  value_same : (v : Value K) → ((x : Object K) → object_of s v ≡ Some x → on_object next by d x ≡ on_object at by c x) → on_value next s by d v ≡ on_value at s by c v
  value_same (Ref zero) h = refl
  value_same (Ref (suc n)) h = map_same (on_object at by c) (on_object next by d) (object_at s (suc n)) h
  value_same (Int i) h = refl
  value_same (Long i) h = refl
  value_same (Ctx k) h = refl

-- a context is no object
behind_context : {K A : Type 0} (f : Value K → Option A) (k : K) (values : List (Value K)) → f (Ctx k) ≡ None → option_and_then f (receiver (Ctx k ∷ values)) ≡ option_and_then f (receiver values)
unfolding receiver
behind_context f k [] e = e
behind_context f k (v ∷ values) e = refl

-- ---- targets

abbrev is_static_call : InvokeKind → Bool
is_static_call how.Static = true
is_static_call by = false

target_on : {K : Type 0} (at : Site) (s : Store K) (by : InvokeKind) (c : CallMeaning) (values : List (Value K)) → is_static_call by ≡ false → target at s by c values ≡ option_and_then (on_value at s by c) (receiver values)
unfolding target
target_on at s how.Virtual c values h = refl
target_on at s how.Special c values h = refl
target_on at s how.Interface c values h = refl
target_on at s how.Init c values h = refl
target_on at s how.Static c values h = absurd cc

-- ---- what was fetched

said_if : (b : Bool) (i j : Instruction) → (if b then Some i else None) ≡ Some j → i ≡ j
said_if true i j h = cc
said_if false i j h = absurd cc

pub fetched_at : (p : Program) (m : MethodId) (n : ℕ) (i : Instruction) → fetched p m n ≡ Some i → instruction_at p m n ≡ Some i
unfolding fetched
fetched_at p m n i e =
    let r = then_is (unless_last p m n) (instruction_at p m n) i e in
    r.1 ∙ ap (λ (x : Instruction). Some x) (said_if (is_followed p m n r.0) r.0 i r.2)

-- ---- calls

module _ (p : Program) (linked : IsLinked p) (well : WellTyped p) (few : limits p ≡ None) where
  abbrev is : IsPlain p
  is = is_plain p linked

  abbrev good : StandsInOrder p
  good = ordered p is

  abbrev all : AllMoving p
  all = all_moving p linked well few

  module _ {K : Type 0} (at : Site) (s : Store K) (by : InvokeKind) (c : CallMeaning) (operands : List (Value K)) (t : Taken K) (part : CodePart) (stands : slice_get p.parts at.class ≡ Some part) (says : IsResolvedCall p (this_name part.class) by c)
      (same : at.world ≡ world p) (took : call_taken Source at s by c operands ≡ Some t) where
    -- what serves as the object fits
    serving : (w : World) (x : Object K) (v : Value K) → Received w s (Fits (types.Object c.owner)) t.values → receiver t.values ≡ Some v → object_of s v ≡ Some x → fits w (class_of w.named x) (types.Object c.owner) ≡ true
    serving w x v r is_v of =
        let both : Some r.value ≡ Some v = sym r.is ∙ is_v in
        let one : r.value ≡ v = cc in
        object_fits w s (types.Object c.owner) v x (ap (serves w s (Fits (types.Object c.owner))) (sym one) ∙ r.serves_it) of

    serves_by : (b : InvokeKind) → b ≡ by → (x : Object K) (v : Value K) → receiver t.values ≡ Some v → object_of s v ≡ Some x → Serves p is good linked.links all b c x
    serves_by how.Virtual e x v is_v of =
        let took_so : call_taken Source at s how.Virtual c operands ≡ Some t = ap (λ (b : InvokeKind). call_taken Source at s b c operands) e ∙ took in
        let fit = serving at.world x v (received at.world s c.params (Fits (types.Object c.owner)) operands t took_so) is_v of in
        subst (λ (w : World). fits w (class_of w.named x) (types.Object c.owner) ≡ true) same fit
    serves_by how.Special e x v is_v of = tt
    serves_by how.Interface e x v is_v of = tt
    serves_by how.Static e x v is_v of = tt
    serves_by how.Init e x v is_v of = tt

    old_on : (x : Object K) → on_object at by c x ≡ on_in (world p) at.class at.full by c x
    old_on x = on_same at by c x ∙ ap (λ (w : World). on_in w at.class at.full by c x) same

    object_to : way_of c.member ≡ Handed → (v : Value K) → receiver t.values ≡ Some v → (x : Object K) → object_of s v ≡ Some x → on_object (there (moved p) at) by (handed c) x ≡ moved_target (on_object at by c x)
    object_to w v is_v x of =
        on_same (there (moved p) at) by (handed c) x
        ∙ object_moved p is good linked.links all by at.class part c at.full x stands says w (serves_by by refl x v is_v of)
        ∙ ap moved_target (sym (old_on x))

    object_on : is_handed (way_of c.member) ≡ false → (v : Value K) → receiver t.values ≡ Some v → (x : Object K) → object_of s v ≡ Some x → on_object (there (moved p) at) by c x ≡ on_object at by c x
    object_on w v is_v x of =
        on_same (there (moved p) at) by c x
        ∙ object_alone p is good linked.links all by at.class part c at.full x stands says w (serves_by by refl x v is_v of)
        ∙ sym (old_on x)

    static_to : (k : K) (b : InvokeKind) → b ≡ by → is_static_call b ≡ true → target (there (moved p) at) s by (handed c) (Ctx k ∷ t.values) ≡ option_map moved_target (target at s by c t.values)
    unfolding target
    static_to k how.Static same_way h =
        ap (λ (b : InvokeKind). target (there (moved p) at) s b (handed c) (Ctx k ∷ t.values)) (sym same_way)
        ∙ ap (λ (x : Target). Some x) (ap (reached at.full) (itself_moved p is all c.member) ∙ reached_moved at.full ((world p).itself c.member) ∙ ap (λ (w : World). moved_target (reached at.full (w.itself c.member))) (sym same))
        ∙ ap (λ (b : InvokeKind). option_map moved_target (target at s b c t.values)) same_way
    static_to k how.Virtual same_way h = absurd cc
    static_to k how.Special same_way h = absurd cc
    static_to k how.Interface same_way h = absurd cc
    static_to k how.Init same_way h = absurd cc

    static_on : (b : InvokeKind) → b ≡ by → is_static_call b ≡ true → target (there (moved p) at) s by c t.values ≡ target at s by c t.values
    unfolding target
    static_on how.Static same_way h =
        ap (λ (b : InvokeKind). target (there (moved p) at) s b c t.values) (sym same_way)
        ∙ ap (λ (x : Target). Some x) (ap (reached at.full) (itself_same p is all c.member) ∙ ap (λ (w : World). reached at.full (w.itself c.member)) (sym same))
        ∙ ap (λ (b : InvokeKind). target at s b c t.values) same_way
    static_on how.Virtual same_way h = absurd cc
    static_on how.Special same_way h = absurd cc
    static_on how.Interface same_way h = absurd cc
    static_on how.Init same_way h = absurd cc

    handed_by : (b : Bool) → is_static_call by ≡ b → way_of c.member ≡ Handed → (k : K) → target (there (moved p) at) s by (handed c) (Ctx k ∷ t.values) ≡ option_map moved_target (target at s by c t.values)
    handed_by false e w k =
        target_on (there (moved p) at) s by (handed c) (Ctx k ∷ t.values) e
        ∙ behind_context (on_value (there (moved p) at) s by (handed c)) k t.values refl
        ∙ and_then_map (on_value at s by c) (on_value (there (moved p) at) s by (handed c)) moved_target (receiver t.values) (λ v is_v. value_moved at (there (moved p) at) s by c (handed c) v (object_to w v is_v))
        ∙ ap (option_map moved_target) (sym (target_on at s by c t.values e))
    handed_by true e w k = static_to k by refl e

    pub handed_to : way_of c.member ≡ Handed → (k : K) → target (there (moved p) at) s by (handed c) (Ctx k ∷ t.values) ≡ option_map moved_target (target at s by c t.values)
    handed_to w k = handed_by (is_static_call by) refl w k

    alone_by : (b : Bool) → is_static_call by ≡ b → is_handed (way_of c.member) ≡ false → target (there (moved p) at) s by c t.values ≡ target at s by c t.values
    alone_by false e w =
        target_on (there (moved p) at) s by c t.values e
        ∙ and_then_same (on_value at s by c) (on_value (there (moved p) at) s by c) (receiver t.values) (λ v is_v. value_same at (there (moved p) at) s by c c v (object_on w v is_v))
        ∙ sym (target_on at s by c t.values e)
    alone_by true e w = static_on by refl e

    pub alone_to : is_handed (way_of c.member) ≡ false → target (there (moved p) at) s by c t.values ≡ target at s by c t.values
    alone_to w = alone_by (is_static_call by) refl w

  -- ---- what a call comes to

  module _ {K : Type 0} (at : Site) (s : Store K) (by : InvokeKind) (c : CallMeaning) (operands : List (Value K)) (t : Taken K) (part : CodePart) (stands : slice_get p.parts at.class ≡ Some part) (says : IsResolvedCall p (this_name part.class) by c)
      (same : at.world ≡ world p) (took : call_taken Source at s by c operands ≡ Some t) (test : Target → Bool) (null : test (Fails null_pointer) ≡ true)
      (static : test (reached at.full ((world p).itself c.member)) ≡ true)
      (object : (x : Object K) → Serves p is good linked.links all by c x → test (on_in (world p) at.class at.full by c x) ≡ true) where
    map_test : (v : Value K) (o : Option (Object K)) (to : Target) → ((x : Object K) → o ≡ Some x → test (on_object at by c x) ≡ true) → option_map (on_object at by c) o ≡ Some to → test to ≡ true
    map_test v None to h e = absurd cc
    map_test v (Some x) to h e =
        let is_to : on_object at by c x ≡ to = cc in
        ap test (sym is_to) ∙ h x refl

    value_test : (v : Value K) (to : Target) → ((x : Object K) → object_of s v ≡ Some x → test (on_object at by c x) ≡ true) → on_value at s by c v ≡ Some to → test to ≡ true
    value_test (Ref zero) to h e =
        let is_to : Fails null_pointer ≡ to = cc in
        ap test (sym is_to) ∙ null
    value_test (Ref (suc n)) to h e = map_test (Ref (suc n)) (object_at s (suc n)) to h e
    value_test (Int i) to h e = absurd cc
    value_test (Long i) to h e = absurd cc
    value_test (Ctx k) to h e = absurd cc

    object_test : (v : Value K) → receiver t.values ≡ Some v → (x : Object K) → object_of s v ≡ Some x → test (on_object at by c x) ≡ true
    object_test v is_v x of = ap test (old_on at s by c operands t part stands says same took x) ∙ object x (serves_by at s by c operands t part stands says same took by refl x v is_v of)

    static_test : (b : InvokeKind) → b ≡ by → is_static_call b ≡ true → (to : Target) → target at s b c t.values ≡ Some to → test to ≡ true
    unfolding target
    static_test how.Static same_way h to e =
        let is_to : reached at.full (at.world.itself c.member) ≡ to = cc in
        ap test (sym is_to) ∙ ap (λ (w : World). test (reached at.full (w.itself c.member))) same ∙ static
    static_test how.Virtual same_way h to e = absurd cc
    static_test how.Special same_way h to e = absurd cc
    static_test how.Interface same_way h to e = absurd cc
    static_test how.Init same_way h to e = absurd cc

    test_by : (b : Bool) → is_static_call by ≡ b → (to : Target) → target at s by c t.values ≡ Some to → test to ≡ true
    test_by true h to e = static_test by refl h to e
    test_by false h to e =
        let r = then_is (on_value at s by c) (receiver t.values) to (sym (target_on at s by c t.values h) ∙ e) in
        value_test r.0 to (object_test r.0 r.1) r.2

    pub comes_test : (to : Target) → target at s by c t.values ≡ Some to → test to ≡ true
    comes_test to e = test_by (is_static_call by) refl to e

  -- ---- as an instruction calls

  module _ (m : MethodId) (at : Site) (s : Store (List Item)) (by : InvokeKind) (c : CallMeaning) (operands : List (Value (List Item))) (t : Taken (List Item)) (calling : Calling p m at s by c operands t) where
    says_at : CallSays p linked m by c
    says_at = call_says p linked m calling.number by c (fetched_at p m calling.number (Used (Call by c)) calling.is)

    stands_at : slice_get p.parts at.class ≡ Some says_at.part
    stands_at = ap (slice_get p.parts) calling.in_class ∙ says_at.at

    pub call_handed : (k : List Item) → way_of c.member ≡ Handed → target (there (moved p) at) s by (handed c) (Ctx k ∷ t.values) ≡ option_map moved_target (target at s by c t.values)
    call_handed k w = handed_to at s by c operands t says_at.part stands_at says_at.says calling.in_program calling.taken w k

    pub call_alone : way_of c.member ≡ Alone → target (there (moved p) at) s by c t.values ≡ target at s by c t.values
    call_alone w = alone_to at s by c operands t says_at.part stands_at says_at.says calling.in_program calling.taken (ap is_handed w)

    pub call_to_handed : way_of c.member ≡ Handed → (to : Target) → target at s by c t.values ≡ Some to → comes_handed to ≡ true
    call_to_handed w to e =
        comes_test at s by c operands t says_at.part stands_at says_at.says calling.in_program calling.taken comes_handed refl
        (static_handed p is good linked.links all (this_name says_at.part.class) by c at.full says_at.says w)
        (λ x h. object_handed p is good linked.links all by at.class says_at.part c at.full x stands_at says_at.says w h) to e

    pub call_to_alone : way_of c.member ≡ Alone → (to : Target) → target at s by c t.values ≡ Some to → comes_alone to ≡ true
    call_to_alone w to e =
        comes_test at s by c operands t says_at.part stands_at says_at.says calling.in_program calling.taken comes_alone refl
        (static_quiet p is good linked.links all (this_name says_at.part.class) by c at.full says_at.says w)
        (λ x h. object_quiet p is good linked.links all by at.class says_at.part c at.full x stands_at says_at.says w h) to e
