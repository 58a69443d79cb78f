-- Calls of an `<init>` in typed frames.
use Rattle.std.proofs.Common.{◌≡◌, ℕ, zero, suc, Bool, true, false, ◌&&◌, ◌||◌, ◌==◌, not, List, [], ◌∷◌, ◌++◌, length, drop, map, reverse, Option, Some, None, ◌⊎◌, inl, inr, refl, sym, ap, subst, arith, ◌∙◌}
use Rattle.std.specs.List.{AllByRecursion}
use Rattle.std.specs.Option.{option_to_list}
use Rattle.std.specs.Prelude.{option_and_then, option_map, slice_get, if◌then◌else◌}
use Rattle.std.specs.Str.{bytes_eq}
use Rattle.std.proofs.lemmas.List.{length-map, reverse-append, reverse-reverse}
use Rattle.jclass.specs.declared.class.CodeBody.{CodeBody}
use Rattle.jlib.specs.declared.calls.LibCall.{LibCall}
use Rattle.jlib.specs.declared.classes.LibClass.{LibClass}
use Rattle.jlib.specs.declared.classes.LibClass.TheVariants as lib
use Rattle.jlib.specs.LibraryMembers as library_calls
use Rattle.jlib.specs.LibraryClasses as library
use Rattle.jvalues.specs.declared.jops.value.Value.{Value}
use Rattle.jvalues.specs.declared.jops.value.Value.TheVariants.{Ref}
use Rattle.jtypes.specs.declared.vtype.Name.{Name}
use Rattle.jtypes.specs.declared.vtype.VType.{VType}
use Rattle.jtypes.specs.declared.vtype.VType.TheVariants as types
use Rattle.jtypes.specs.TypeFrames.{Frame}
use Rattle.jresolution.specs.declared.jprogram.member.Member.{Member}
use Rattle.jresolution.specs.declared.jprogram.member.Member.TheVariants.{LibMethod, Method}
use Rattle.jresolution.specs.declared.jprogram.member.MethodId.{MethodId}
use Rattle.jresolution.specs.declared.jprogram.member.Selected.{Selected}
use Rattle.jresolution.specs.declared.jprogram.member.Selected.TheVariants as selected
use Rattle.jresolution.specs.declared.jprogram.part.ClassRef.TheVariants as refs
use Rattle.jresolution.specs.declared.jprogram.part.CodePart.{CodePart}
use Rattle.jresolution.specs.jprogram.ProgramClasses.{Program, extends, name_at, tree}
use Rattle.jresolution.specs.jprogram.MemberResolution.{as_selected, desc_of, init, is_abstract, is_init, is_static, name_of}
use Rattle.jresolution.specs.jprogram.ClassFileParts as parts
use Rattle.jresolution.specs.jprogram.ClassFileParts.{code_of, member_desc, member_name, this_name}
use Rattle.jresolution.specs.jprogram.OrderedPrograms.{StandsInOrder}
use Rattle.jresolution.proofs.JprogramProofs.SuperclassOrder.{extends_itself}
use Rattle.jresolution.proofs.JprogramProofs.NameReachability as settling
use Rattle.jlinking.proofs.JlinkProofs.PresentValues.{has_some}
use Rattle.jresolution.specs.declared.juses.meaning.InvokeKind.TheVariants as how
use Rattle.jresolution.specs.juses.IndexedInstructions.{Used}
use Rattle.jresolution.specs.juses.InstructionMeanings as meanings
use Rattle.jresolution.specs.juses.InstructionMeanings.{CallMeaning}
use Rattle.jresolution.specs.juses.DescriptorTypes.{Called, name, typed}
use Rattle.jtyping.specs.declared.jrule.unready.Unready.{Unready}
use Rattle.jtyping.specs.declared.jrule.unready.Unready.TheVariants as unready
use Rattle.jtyping.specs.jrule.StackEffects.{Fits}
use Rattle.jtyping.specs.jrule.InstructionContext.{Here}
use Rattle.jtyping.specs.jrule.ObjectRule as rules
use Rattle.jtyping.specs.jrule.ObjectRule.{all_replaced, init_on, is_it, is_named, may_ready_this, same_name}
use Rattle.jtyping.specs.ProofNames.{init_of, replaced}
use Rattle.jtyping.specs.jrule.StackOperands.{below, given, taken as types_taken, with_stack}
use Rattle.jtyping.specs.jrule.TypingRule.{rule}
use Rattle.jtyping.specs.jrule.PoolEffects.{arguments}
use Rattle.jtyping.specs.jwelltyped.MethodPremises.{params_of, receiver as this_of}
use Rattle.jtyping.specs.jwelltyped.ProofNames.{return_of}
use Rattle.jsemantics.specs.jmachine.MachineStates.{FrameOf}
use Rattle.jsemantics.specs.jmachine.CallTargets.{Pushes, begun_on, init_taken, is_begun, may_begin, on_object, on_value, reached, receiver, target}
use Rattle.jsemantics.specs.jmachine.InstructionActions.{by_taken, call, called, doing, used}
use Rattle.jsemantics.specs.jmachine.FrameOperations.{with_operands}
use Rattle.jsemantics.specs.jmachine.HeapObjects.{Object, Instance, Thrown, Text, Builder, Piece, Permission, Context, Thread, Bare, Array, class_of}
use Rattle.jsemantics.specs.jmachine.TakenOperands.{taken}
use Rattle.jsemantics.specs.jmachine.Security.{Rules}
use Rattle.jsemantics.specs.jmachine.InstructionSites.{Site}
use Rattle.jsemantics.specs.jmachine.Store.{Store, object_at}
use Rattle.jsemantics.specs.jmachine.World.{World, fits, world}
use Rattle.jsoundness_laws.specs.typed.TypedCalls.{AllHaveCode, CanInit, Coded, InitsDo, IsAboveHere, IsBegunBy, IsGiven, IsInit, IsInitTarget, IsUsable, method, within}
use Rattle.jsoundness_laws.specs.typed.RuntimeAssignability.{IsValueType}
use Rattle.jsoundness_laws.specs.typed.TypedFrames.{AllHave, AllHold, Has, Holds, IsBelow, IsMade, News, Suits}
use Rattle.jsoundness_laws.specs.typed.StoreGrowth.{Grows}
use Rattle.jsoundness_laws.specs.typed.ProgressLaws.{HasCode, IsAt}
use Rattle.jsoundness_laws.specs.typed.TypedValues.{AllServe, AreOf, IsA, is_piece, is_whole, whole_type}
use Rattle.jresolution.proofs.JprogramProofs.ReservedNames.{lib_apart}
use Rattle.jsoundness_laws.proofs.TypedProofs.CallTargets.{have_all, have_last, receiver_is, some_member}
use Rattle.jsoundness_laws.proofs.TypedProofs.Codes.{itself_coded}
use Rattle.jsoundness_laws.proofs.TypedProofs.OperandExchange.{roomy}
use Rattle.jsoundness_laws.proofs.TypedProofs.SubtypeTransitivity.{fits_after, or_right, or_split}
use Rattle.jsoundness_laws.proofs.TypedProofs.StoreMonotonicity.{has_kept, serves_kept}
use Rattle.jsoundness_laws.proofs.TypedProofs.ValueKinds.{known_value, whole_class}
use Rattle.jsoundness_laws.proofs.TypedProofs.Orders.{in_order}
use Rattle.jsoundness_laws.proofs.TypedProofs.SelectedMethods.{IsOf, abstract_is, desc_is, method_there, name_is, selected_library, selected_member, static_is, user_name}
use Rattle.jsoundness_laws.proofs.TypedProofs.TakenOperands.{AreServed, below_drop, drop_next, took}
use Rattle.jsoundness_laws.proofs.TypedProofs.TypedCalls.{fit_served}

-- ---- the rule

some_is : {A : Type 0} (a b : A) → Some a ≡ Some b → a ≡ b
some_is a b e = cc

if_some : {A : Type 0} (b : Bool) (x y : A) → (if b then Some x else None) ≡ Some y → (b ≡ true) × (x ≡ y)
if_some true x y e = (refl, some_is x y e)
if_some false x y e = absurd (cc)

-- what is given stands on what is left
pub given_is : (most : ℕ) (ret : Option VType) (f g : Frame) → given most ret f ≡ Some g → (g.locals ≡ f.locals) × (g.stack ≡ (option_to_list ret ++ f.stack))
given_is most None f g e = let same = some_is f g e in (ap (λ (x : Frame). x.locals) (sym same), ap (λ (x : Frame). x.stack) (sym same))
given_is most (Some a) f g e = let same = roomy most f (a ∷ f.stack) g e in (ap (λ (x : Frame). x.locals) same, ap (λ (x : Frame). x.stack) same)

-- the object is new, or `this`
abbrev unready_type : Unready → VType
unready_type unready.This = types.UninitThis
unready_type (unready.New o) = types.Uninit o

abbrev MayReady : Here → Name → Unready → Type 0
MayReady here owner unready.This = may_ready_this here owner ≡ true
MayReady here owner (unready.New o) = is_named owner (here.makes o) ≡ true

abbrev class_by : Here → Name → Unready → Name
class_by here owner unready.This = here.class
class_by here owner (unready.New o) = owner

record Readies (here : Here) (owner : Name) (ret : Option VType) (locals stack : List VType) (behind : Frame) : Type 0 where
  it : Unready
  rest : List VType
  is : stack ≡ unready_type it ∷ rest
  may : MayReady here owner it
  locals_are : behind.locals ≡ all_replaced it (types.Object (class_by here owner it)) locals
  stack_is : behind.stack ≡ (option_to_list ret ++ all_replaced it (types.Object (class_by here owner it)) rest)

abbrev new_readied : ℕ → Name → Frame → List VType → Frame
new_readied o owner f stack = rules.readied (unready.New o) owner f.flag f.locals stack

abbrev this_readied : Name → Frame → List VType → Frame
this_readied class f stack = rules.readied unready.This class false f.locals stack

readies : (here : Here) (owner : Name) (ret : Option VType) (f behind : Frame) (stack : List VType) → option_and_then (given here.max_stack ret) (init_on here owner f stack) ≡ Some behind
    → Readies here owner ret f.locals stack behind
readies here owner ret f behind [] e = absurd (cc)
readies here owner ret f behind (types.Uninit o ∷ stack) e = go (is_named owner (here.makes o)) refl e
  where
    go : (b : Bool) → is_named owner (here.makes o) ≡ b → option_and_then (given here.max_stack ret) (if b then Some (new_readied o owner f stack) else None) ≡ Some behind → Readies here owner ret f.locals (types.Uninit o ∷ stack) behind
    go false is e = absurd (cc)
    go true is e = let x = given_is here.max_stack ret (new_readied o owner f stack) behind e in record { it = unready.New o; rest = stack; is = refl; may = is; locals_are = x.0; stack_is = x.1 }
readies here owner ret f behind (types.UninitThis ∷ stack) e = go (may_ready_this here owner) refl e
  where
    go : (b : Bool) → may_ready_this here owner ≡ b → option_and_then (given here.max_stack ret) (if b then Some (this_readied here.class f stack) else None) ≡ Some behind → Readies here owner ret f.locals (types.UninitThis ∷ stack) behind
    go false is e = absurd (cc)
    go true is e = let x = given_is here.max_stack ret (this_readied here.class f stack) behind e in record { it = unready.This; rest = stack; is = refl; may = is; locals_are = x.0; stack_is = x.1 }
readies here owner ret f behind (_ ∷ stack) e = absurd (cc)

-- its number
abbrev index : News → Unready → ℕ
index news unready.This = news.this
index news (unready.New o) = news.made o

-- ---- its copies are of its class

module _ {K : Type 0} (w : World) (s t : Store K) (grows : Grows w s t) (here : Here) (news : News) (it : Unready) (c : Name) where
  same_number : (o n : ℕ) → o == n ≡ true → o ≡ n
  same_number o n e = grind arith

  module _ (object : IsA w t (types.Object c) (Ref (index news it))) where
    new_copy : (o : ℕ) (v : Value K) → v ≡ Ref (index news it) → IsA w t (types.Object c) v
    new_copy o v e = subst (λ v. IsA w t (types.Object c) v) (sym e) object

    copy_is : (it : Unready) (a : VType) (v : Value K) → is_it it a ≡ true → Has w s here news a v → v ≡ Ref (index news it)
    copy_is unready.This types.UninitThis v e h = h.0
    copy_is unready.This _ v e h = absurd (cc)
    copy_is (unready.New o) (types.Uninit n) v e h = h.0 ∙ ap (λ o. Ref (news.made o)) (same_number n o e)
    copy_is (unready.New o) _ v e h = absurd (cc)

    has_ready : (a : VType) (v : Value K) → Has w s here news a v → Has w t here news (replaced it (types.Object c) a) v
    has_ready a v h = go (is_it it a) refl
      where
        go : (b : Bool) → is_it it a ≡ b → Has w t here news (if b then types.Object c else a) v
        go true e = subst (λ v. IsA w t (types.Object c) v) (sym (copy_is it a v e h)) object
        go false e = has_kept w s t grows here news a v h

    hold_ready : (a : VType) (y : Option (Value K)) → Holds w s here news a y → Holds w t here news (replaced it (types.Object c) a) y
    hold_ready a None h = ap (replaced it (types.Object c)) h ∙ top_stays it
      where
        top_stays : (it : Unready) → replaced it (types.Object c) types.Top ≡ types.Top
        top_stays unready.This = refl
        top_stays (unready.New o) = refl
    hold_ready a (Some v) h = has_ready a v h

    locals_ready : (ts : List VType) (ls : List (Option (Value K))) → AllHold w s here news ts ls → AllHold w t here news (all_replaced it (types.Object c) ts) ls
    locals_ready [] [] h = tt
    locals_ready [] (y ∷ ls) h = absurd h
    locals_ready (a ∷ ts) [] h = absurd h
    locals_ready (a ∷ ts) (y ∷ ls) h = (hold_ready a y h.0, locals_ready ts ls h.1)

    operands_ready : (ts : List VType) (vs : List (Value K)) → AllHave w s here news ts vs → AllHave w t here news (all_replaced it (types.Object c) ts) vs
    operands_ready [] [] h = tt
    operands_ready [] (v ∷ vs) h = absurd h
    operands_ready (a ∷ ts) [] h = absurd h
    operands_ready (a ∷ ts) (v ∷ vs) h = (has_ready a v h.0, operands_ready ts vs h.1)

-- ---- the object

abbrev name_in : VType → List ℕ
name_in (types.Object c) = c.0
name_in t = []

same_name_of : (a b : List ℕ) → types.Object (name a) ≡ types.Object (name b) → a ≡ b
same_name_of a b e = ap name_in e

whole_user : {K : Type 0} (p : Program) → StandsInOrder p → (i : ℕ) (part : CodePart) → slice_get p.parts i ≡ Some part → (x : Object K)
    → class_of (world p).named x ≡ types.Object (name (this_name part.class)) → is_whole x ≡ true
whole_user p good i part at (Instance class message fields) e = refl
whole_user p good i part at (Thrown l message) e = refl
whole_user p good i part at (Builder units) e = refl
whole_user p good i part at (Bare l) e = refl
whole_user p good i part at (Array a items) e = refl
whole_user p good i part at (Text units) e = absurd (lib_apart p good i part lib.String at (sym (same_name_of (library.name_of lib.String) (this_name part.class) e)))
whole_user p good i part at (Piece units) e = absurd (lib_apart p good i part lib.StringBuilder at (sym (same_name_of (library.name_of lib.StringBuilder) (this_name part.class) e)))
whole_user p good i part at (Permission l held) e = absurd (lib_apart p good i part (lib.Permission l) at (sym (same_name_of (library.name_of (lib.Permission l)) (this_name part.class) e)))
whole_user p good i part at (Context kept) e = absurd (lib_apart p good i part lib.AccessControlContext at (sym (same_name_of (library.name_of lib.AccessControlContext) (this_name part.class) e)))
whole_user p good i part at (Thread number) e = absurd (lib_apart p good i part lib.Thread at (sym (same_name_of (library.name_of lib.Thread) (this_name part.class) e)))

no_piece : {K : Type 0} (w : World) (s : Store K) (x : Object K) (t : VType) → whole_type w s (Some x) ≡ Some t → is_piece x ≡ false
no_piece w s (Piece units) t e = absurd (cc)
no_piece w s (Instance class message fields) t e = refl
no_piece w s (Thrown l message) t e = refl
no_piece w s (Text units) t e = refl
no_piece w s (Builder units) t e = refl
no_piece w s (Permission l held) t e = refl
no_piece w s (Context kept) t e = refl
no_piece w s (Thread number) t e = refl
no_piece w s (Bare l) t e = refl
no_piece w s (Array a items) t e = refl

module _ {K : Type 0} (p : Program) (good : StandsInOrder p) (s : Store K) (here : Here) where
  -- the object of a number, on which an `<init>` may be called
  record BegunOn (owner : Name) (n : ℕ) : Type 0 where
    number : ℕ
    is : n ≡ suc number
    object : Object K
    at : object_at s (suc number) ≡ Some object
    piece : is_piece object ≡ false
    class : (class_of (world p).named object ≡ types.Object owner) ⊎ IsA (world p) s (types.Object owner) (Ref (suc number))
    fit : fits (world p) (class_of (world p).named object) (types.Object owner) ≡ true

  fits_own : (c : Name) → fits (world p) (types.Object c) (types.Object c) ≡ true
  unfolding world
  fits_own c = or_right ((tree p).is_interface c) (extends p c.0 c.0) (extends_itself p c.0)

  begun_new : (owner : Name) (made : Option Name) → is_named owner made ≡ true → (n : ℕ) → IsMade (world p) s made n → BegunOn owner n
  begun_new owner None named n made = absurd made
  begun_new owner (Some c) named zero made = let no : None ≡ Some made.0 = made.1 in absurd (cc)
  begun_new owner (Some c) named (suc k) made =
      let same : types.Object c ≡ types.Object owner = ap (λ (n : List ℕ). types.Object (name n)) (sym (settling.name_is owner.0 c.0 named)) in
      let class : class_of (world p).named made.0 ≡ types.Object owner = made.2 ∙ same in record {
        number = k;
        is = refl;
        object = made.0;
        at = made.1;
        piece = made.3;
        class = inl class;
        fit = ap (λ t. fits (world p) t (types.Object owner)) class ∙ fits_own owner;
      }

  extends_named : (owner : Name) (above : Option Name) → ((d : Name) → above ≡ Some d → extends p here.class.0 d.0 ≡ true) → is_named owner above ≡ true → extends p here.class.0 owner.0 ≡ true
  extends_named owner None h e = absurd (cc)
  extends_named owner (Some d) h e = subst (λ (n : List ℕ). extends p here.class.0 n ≡ true) (sym (settling.name_is owner.0 d.0 e)) (h d refl)

  both : (a b : Bool) → a && b ≡ true → (a ≡ true) × (b ≡ true)
  both true b e = (refl, e)
  both false b e = absurd (cc)

  extends_owner : (owner : Name) → IsAboveHere p here → may_ready_this here owner ≡ true → extends p here.class.0 owner.0 ≡ true
  extends_owner owner above e =
      elim (or_split (same_name owner here.class) (is_named owner here.above) (both (not here.covered) (same_name owner here.class || is_named owner here.above) e).1) [
        | inl same ↦ subst (λ (n : List ℕ). extends p here.class.0 n ≡ true) (sym (settling.name_is owner.0 here.class.0 same)) (extends_itself p here.class.0)
        | inr far ↦ extends_named owner here.above above far
      ]

  wider : (owner : Name) → IsAboveHere p here → may_ready_this here owner ≡ true → (t : VType) → IsValueType t → fits (world p) t (types.Object here.class) ≡ true
      → fits (world p) t (types.Object owner) ≡ true
  unfolding world
  wider owner above may t value met =
      fits_after (tree p) (in_order p good) t (types.Object here.class) (types.Object owner) value met
      (or_right ((tree p).is_interface owner) (extends p here.class.0 owner.0) (extends_owner owner above may))

  begun_this : (owner : Name) → IsAboveHere p here → may_ready_this here owner ≡ true → (n : ℕ) → IsBelow (world p) s here.class n → BegunOn owner n
  begun_this owner above may zero h = absurd (h.1 refl)
  begun_this owner above may (suc k) h =
      let x = whole_class (world p) s (object_at s (suc k)) h.0.type h.0.is in
      let met = wider owner above may h.0.type (known_value (world p) s (Ref (suc k)) h.0.type h.0.is) h.0.met in record {
        number = k;
        is = refl;
        object = x.0;
        at = x.1;
        piece = no_piece (world p) s x.0 h.0.type (sym (ap (whole_type (world p) s) x.1) ∙ h.0.is);
        class = inr (record { type = h.0.type; is = h.0.is; met = met });
        fit = ap (λ t. fits (world p) t (types.Object owner)) (sym x.2) ∙ met;
      }

-- ---- what the call comes to

same_pushed : (a b : MethodId) → Pushes a ≡ Pushes b → a ≡ b
same_pushed a b e = cc

module _ {K : Type 0} (p : Program) (good : StandsInOrder p) (s : Store K) (coded : AllHaveCode p) (here : Here) (c : CallMeaning) (linked : IsInit p c) (given : List (Value K))
    (are : AreOf (world p) s c.params given) (n : ℕ) (begun : BegunOn p good s here c.owner n) where
  abbrev object : Value K
  object = Ref (suc begun.number)

  abbrev values : List (Value K)
  values = given ++ object ∷ []

  abbrev none : News
  none = record { made = λ o. 0; this = suc begun.number }

  -- the object may be used, where the class is a user's
  own_is : (i : ℕ) (part : CodePart) → slice_get p.parts i ≡ Some part → this_name part.class ≡ c.owner.0 → IsA (world p) s (types.Object (name (this_name part.class))) object
  own_is i part at same = elim begun.class [
    | inl class ↦ (
        let exact : class_of (world p).named begun.object ≡ types.Object (name (this_name part.class)) = class ∙ ap (λ (n : List ℕ). types.Object (name n)) (sym same) in
        let whole = whole_user p good i part at begun.object exact in
        let is : whole_type (world p) s (object_at s (suc begun.number)) ≡ Some (types.Object (name (this_name part.class))) =
        ap (whole_type (world p) s) begun.at ∙ ap (λ b. if b then Some (class_of (world p).named begun.object) else None) whole ∙ ap (λ t. Some t) exact in
        of_type (types.Object (name (this_name part.class))) is (fits_own p good s here (name (this_name part.class)))
        )
    | inr is ↦ subst (λ (n : List ℕ). IsA (world p) s (types.Object (name n)) object) (sym same) is
  ]
    where
      of_type : (t : VType) → whole_type (world p) s (object_at s (suc begun.number)) ≡ Some t → fits (world p) t (types.Object (name (this_name part.class))) ≡ true
          → IsA (world p) s (types.Object (name (this_name part.class))) object
      of_type t is met = record { type = t; is = is; met = met }

  module _ (m : MethodId) (member : c.member ≡ Method m) (concrete : is_abstract p (Method m) ≡ false) where
    there : IsOf p (name_at p (refs.User m.class)) m
    there = method_there p m (linked.there m member)

    class_is : this_name there.part.class ≡ c.owner.0
    class_is = sym (user_name p m.class there.part there.stands) ∙ linked.owned m member

    some_code : (body : CodeBody) × (code_of there.info ≡ Some body)
    some_code = has_some (code_of there.info) (coded m there.part there.info there.stands there.declared (sym (abstract_is p m there.part there.info there.stands there.declared) ∙ concrete))

    abbrev code_is : Coded p m
    code_is = record { part = there.part; info = there.info; body = some_code.0; stands = there.stands; declared = there.declared; code = some_code.1 }

    typed_is : typed p (member_desc there.part.class there.info) ≡ Called c.params c.ret
    typed_is = ap (typed p) (sym (desc_is p m there.part there.info there.stands there.declared) ∙ sym (ap (desc_of p) member)) ∙ linked.typed_as

    static_no : parts.is_static there.info.flags ≡ false
    static_no = sym (static_is p m there.part there.info there.stands there.declared) ∙ sym (ap (is_static p) member) ∙ linked.static

    is_begun_one : is_init there.part.class there.info ≡ true
    is_begun_one =
        ap (λ b. bytes_eq (member_name there.part.class there.info) init && not b) static_no
        ∙ ap (λ (n : List ℕ). bytes_eq n init && true) (sym (name_is p m there.part there.info there.stands there.declared) ∙ sym (ap (name_of p) member))
        ∙ ap (λ b. b && true) linked.named

    user_given : IsGiven p s m c.ret values
    user_given =
        let inside = within p (method p m code_is) in
        let params : (method p m code_is).params ≡ types.UninitThis ∷ reverse c.params =
        ap (λ b. this_of b (is_init there.part.class there.info) (name (this_name there.part.class)) ++ params_of (typed p (member_desc there.part.class there.info))) static_no
        ∙ ap (λ b. this_of false b (name (this_name there.part.class)) ++ params_of (typed p (member_desc there.part.class there.info))) is_begun_one
        ∙ ap (λ t. types.UninitThis ∷ params_of t) typed_is in
        let reversed : reverse (types.UninitThis ∷ reverse c.params) ≡ c.params ++ types.UninitThis ∷ [] =
        reverse-append (types.UninitThis ∷ []) (reverse c.params) ∙ ap (λ ts. ts ++ types.UninitThis ∷ []) (reverse-reverse c.params) in
        let this : Has (world p) s inside none types.UninitThis object = (refl, (own_is m.class there.part there.stands class_is, λ e. cc)) in
        record {
          coded = code_is;
          news = none;
          given = subst (λ ts. AllHave (world p) s inside none ts values) (sym (ap reverse params ∙ reversed))
              (have_last (world p) s inside none c.params given types.UninitThis object (have_all (world p) s inside none c.params given linked.dimensions are) this);
          returns = ap return_of typed_is;
        }

  lib_typed : (x : LibCall) → c.member ≡ LibMethod x → typed p (library_calls.desc_of x) ≡ Called c.params c.ret
  unfolding desc_of
  lib_typed x member = ap (typed p) (sym (ap (desc_of p) member)) ∙ linked.typed_as

  lib_begun : (x : LibCall) → c.member ≡ LibMethod x → HasCode x → IsBegunBy p s c.owner x c.ret values
  unfolding is_static name_of
  lib_begun x member code = record {
    code = code;
    own = linked.library x member;
    static = sym (ap (is_static p) member) ∙ linked.static;
    named = ap (λ (n : List ℕ). bytes_eq n init) (sym (ap (name_of p) member)) ∙ linked.named;
    params = c.params;
    typed_as = lib_typed x member;
    arguments = given;
    given = are;
    number = begun.number;
    is = refl;
    object = begun.object;
    at = begun.at;
    piece = begun.piece;
    class = begun.class;
  }

  reached_init : (full : Bool) (found : Selected) → ((m : MethodId) → found ≡ selected.Method m → IsGiven p s m c.ret values)
      → ((x : LibCall) → found ≡ selected.Lib x → IsBegunBy p s c.owner x c.ret values) → IsInitTarget p s c values (reached full found)
  reached_init true (selected.Method m) given run = tt
  reached_init false (selected.Method m) given run = given m refl
  reached_init full (selected.Lib x) given run = run x refl
  reached_init full (selected.Abstract m) given run = tt
  reached_init full selected.Missing given run = tt

  target_is : (full : Bool) → IsInitTarget p s c values (reached full (as_selected p (Some c.member)))
  target_is full = reached_init full (as_selected p (Some c.member))
      (λ m e.
      let found = selected_member p (Some c.member) m e in
      user_given m (some_member c.member (Method m) found.is) found.concrete)
      (λ x e. lib_begun x (some_member c.member (LibMethod x) (selected_library p (Some c.member) x e)) (itself_coded p (Some c.member) x e))

  pushes_method : (full : Bool) (found : Selected) (m : MethodId) → reached full found ≡ Pushes m → found ≡ selected.Method m
  pushes_method true (selected.Method x) m e = absurd (cc)
  pushes_method false (selected.Method x) m e = ap selected.Method (same_pushed x m e)
  pushes_method full (selected.Lib x) m e = absurd (cc)
  pushes_method full (selected.Abstract x) m e = absurd (cc)
  pushes_method full selected.Missing m e = absurd (cc)

  -- an object on which a user's `<init>` is called may be used
  usable_is : (full : Bool) (m : MethodId) → reached full (as_selected p (Some c.member)) ≡ Pushes m → IsA (world p) s (types.Object c.owner) object
  usable_is full m e =
      let found = selected_member p (Some c.member) m (pushes_method full (as_selected p (Some c.member)) m e) in
      let member = some_member c.member (Method m) found.is in
      subst (λ (n : List ℕ). IsA (world p) s (types.Object (name n)) object) (class_is m member found.concrete)
      (own_is m.class (there m member found.concrete).part (there m member found.concrete).stands (class_is m member found.concrete))

-- ---- all

module _ {K E : Type 0} (r : Rules K E) (at : Site) (own : Member → Bool) (s : Store K) (entries : List E) (inherited : Option K) (p : Program) (here : Here) (news : News) (c : CallMeaning)
    (shape behind : Frame) (f : FrameOf K E) (good : StandsInOrder p) (coded : AllHaveCode p) (place : IsAt p at own here) (above : IsAboveHere p here) (linked : IsInit p c)
    (suits : Suits (world p) s here news shape f) where
  params_served : (ts : List VType) → AllByRecursion IsValueType ts → AreServed (world p) s here news (tree p) (map Fits ts)
  params_served [] h = tt
  params_served (t ∷ ts) h = (fit_served p good s here news t h.0, params_served ts h.1)

  params_are : (ts : List VType) (vs : List (Value K)) → AllServe (world p) s (map Fits ts) vs → AreOf (world p) s ts vs
  params_are [] [] h = tt
  params_are [] (v ∷ vs) h = absurd h
  params_are (t ∷ ts) [] h = absurd h
  params_are (t ∷ ts) (v ∷ vs) h = (h.0, params_are ts vs h.1)

  begun_on_it : (it : Unready) → MayReady here c.owner it → (v : Value K) → Has (world p) s here news (unready_type it) v → (n : ℕ) × (v ≡ Ref n) × BegunOn p good s here c.owner n × (n ≡ index news it)
  begun_on_it unready.This may v h = (news.this, h.0, begun_this p good s here c.owner above may news.this h.1, refl)
  begun_on_it (unready.New o) may v h = (news.made o, h.0, begun_new p good s here c.owner (here.makes o) may (news.made o) h.1, refl)

  -- it may be taken
  may_be : (n : ℕ) → BegunOn p good s here c.owner n → may_begin (world p) s c.owner (Ref n) ≡ true
  may_be n b = subst (λ n. may_begin (world p) s c.owner (Ref n) ≡ true) (sym b.is) (ap (is_begun (world p) c.owner) b.at ∙ b.fit)

  -- where `this` is called on, it is of the frame's class
  usable_by : (it : Unready) (v : Value K) → Has (world p) s here news (unready_type it) v → IsA (world p) s (types.Object c.owner) (Ref (index news it))
      → IsA (world p) s (types.Object (class_by here c.owner it)) (Ref (index news it))
  usable_by unready.This v h is = h.1.0
  usable_by (unready.New o) v h is = is

  -- where the object may be used later on, it is of its class
  made_class : (n : ℕ) (made : Option Name) → is_named c.owner made ≡ true → IsMade (world p) s made n → (x : Object K) × (object_at s n ≡ Some x) × (class_of (world p).named x ≡ types.Object c.owner)
  made_class n None named h = absurd h
  made_class n (Some d) named h = (h.0, h.1, h.2 ∙ ap (λ (n : List ℕ). types.Object (name n)) (sym (settling.name_is c.owner.0 d.0 named)))

  later_is : (t : Store K) → Grows (world p) s t → (n : ℕ) (x : Object K) → object_at s n ≡ Some x → class_of (world p).named x ≡ types.Object c.owner → IsUsable t n
      → IsA (world p) t (types.Object c.owner) (Ref n)
  later_is t grows zero x there class w = absurd (cc)
  later_is t grows (suc n) x there class w =
      let y = grows (suc n) x there in
      let same : w.0 ≡ y.0 = some_is w.0 y.0 (sym w.1 ∙ y.1) in
      let of : class_of (world p).named w.0 ≡ types.Object c.owner = ap (λ x. class_of (world p).named x) same ∙ y.2.class ∙ class in
      record {
        type = types.Object c.owner;
        is = ap (whole_type (world p) t) w.1 ∙ ap (λ b. if b then Some (class_of (world p).named w.0) else None) w.2 ∙ ap (λ t. Some t) of;
        met = fits_own p good s here c.owner;
      }

  whole_by : (it : Unready) → MayReady here c.owner it → (v : Value K) → Has (world p) s here news (unready_type it) v → (t : Store K) → Grows (world p) s t → IsUsable t (index news it)
      → IsA (world p) t (types.Object (class_by here c.owner it)) (Ref (index news it))
  whole_by unready.This may v h t grows w = serves_kept (world p) s t grows _ (Ref news.this) h.1.0
  whole_by (unready.New o) may v h t grows w = let x = made_class (news.made o) (here.makes o) may h.1 in later_is t grows (news.made o) x.0 x.1 x.2 w

  reaches : (vs : List (Value K)) (v : Value K) → receiver vs ≡ Some v → (n : ℕ) → v ≡ Ref (suc n) → (x : Object K) → object_at s (suc n) ≡ Some x
      → target at s how.Init c vs ≡ Some (reached at.full (as_selected p (Some c.member)))
  unfolding target world
  reaches vs v last n is x there =
      ap (option_and_then (on_value at s how.Init c)) (last ∙ ap (λ v. Some v) is) ∙ ap (option_map (on_object at how.Init c)) there
      ∙ ap (λ (w : World). Some (reached at.full (w.itself c.member))) place.program

  abbrev Done : Type 0
  Done = CanInit r at own s entries inherited p here news c shape behind f

  -- with the arguments taken, and the object below them
  init_taken_does : (stack : List VType) → below (tree p) (map Fits c.params) shape.stack ≡ Some stack → Readies here c.owner c.ret shape.locals stack behind
      → doing r at own s entries inherited (Used (meanings.Call how.Init c)) f ≡ by_taken r at own s entries inherited f (init_taken at.world s c f.operands) (call r at own s entries inherited how.Init c)
      → Done
  unfolding init_taken
  init_taken_does stack is x unfolded =
      let have = took (world p) s here news (tree p) (map Fits c.params) (params_served c.params linked.values) shape.stack f.operands stack suits.operands is in
      split have.values have.under have.is (params_are c.params have.values have.serve) (subst (λ ts. AllHave (world p) s here news ts have.under) x.is have.fit)
    where
      left_is : drop (suc (length c.params)) shape.stack ≡ x.rest
      left_is =
          drop_next (length c.params) shape.stack (unready_type x.it) x.rest
          (ap (λ n. drop n shape.stack) (sym (length-map c.params Fits)) ∙ below_drop (tree p) (map Fits c.params) shape.stack stack is ∙ x.is)

      split : (given under : List (Value K)) → taken (world p) s (map Fits c.params) f.operands ≡ Some (record { values = given; below = under }) → AreOf (world p) s c.params given
          → AllHave (world p) s here news (unready_type x.it ∷ x.rest) under → Done
      split given [] took are fit = absurd fit
      split given (v ∷ under) took are fit =
          let b = begun_on_it x.it x.may v fit.0 in
          let may : may_begin (world p) s c.owner v ≡ true = ap (may_begin (world p) s c.owner) b.1 ∙ may_be b.0 b.2 in
          let values = given ++ v ∷ [] in
          let taken_is : init_taken at.world s c f.operands ≡ Some (record { values = values; below = under }) =
          ap (λ w. option_and_then (λ t. begun_on w s c.owner t.values t.below) (taken w s (map Fits c.params) f.operands)) place.program
          ∙ ap (option_and_then (λ t. begun_on (world p) s c.owner t.values t.below)) took ∙ ap (λ b. if b then Some (record { values = values; below = under }) else None) may in
          let object : v ≡ Ref (suc b.2.number) = b.1 ∙ ap (λ n. Ref n) b.2.is in
          let same : given ++ Ref (suc b.2.number) ∷ [] ≡ values = ap (λ v. given ++ v ∷ []) (sym object) in
          let comes = target_is p good s coded here c linked given are b.0 b.2 at.full in
          let target_comes : target at s how.Init c values ≡ Some (reached at.full (as_selected p (Some c.member))) = reaches values v (receiver_is given v) b.2.number object b.2.object b.2.at in
          record {
            values = values;
            under = under;
            left = subst (λ ts. AllHave (world p) s here news ts under) (sym left_is) fit.1;
            target = reached at.full (as_selected p (Some c.member));
            comes = subst (λ vs. IsInitTarget p s c vs (reached at.full (as_selected p (Some c.member)))) same comes;
            class = class_by here c.owner x.it;
            number = index news x.it;
            on = receiver_is given v ∙ ap (λ v. Some v) (b.1 ∙ ap (λ n. Ref n) b.3);
            whole = whole_by x.it x.may v fit.0;
            rest = all_replaced x.it (types.Object (class_by here c.owner x.it)) x.rest;
            stack = x.stack_is;
            ready = λ t grows is. (
              subst (λ ts. AllHold (world p) t here news ts f.locals) (sym x.locals_are)
                  (locals_ready (world p) s t grows here news x.it (class_by here c.owner x.it) is
                  shape.locals f.locals suits.locals),
              operands_ready (world p) s t grows here news x.it (class_by here c.owner x.it) is
                  x.rest under fit.1,
            );
            usable = λ m pushes. usable_by x.it v fit.0 (subst (λ n. IsA (world p) s (types.Object c.owner) (Ref n)) (sym b.2.is ∙ b.3) (usable_is p good s coded here c linked given are b.0 b.2 at.full m pushes));
            does = unfolded ∙ ap (λ o. by_taken r at own s entries inherited f o (call r at own s entries inherited how.Init c)) taken_is
                ∙ ap (λ t. option_map (λ row. record { frame = with_operands f under; row = row }) (option_and_then (called r at own s entries inherited values) t)) target_comes;
          }

  init_leaves : rules.init (tree p) here c shape ≡ Some behind
      → doing r at own s entries inherited (Used (meanings.Call how.Init c)) f ≡ by_taken r at own s entries inherited f (init_taken at.world s c f.operands) (call r at own s entries inherited how.Init c)
      → Done
  unfolding types_taken
  init_leaves h unfolded = go (below (tree p) (map Fits c.params) shape.stack) refl h
    where
      go : (o : Option (List VType)) → below (tree p) (map Fits c.params) shape.stack ≡ o
          → option_and_then (given here.max_stack c.ret) (option_and_then (init_of here c.owner) (option_map (with_stack shape) o)) ≡ Some behind → Done
      go None is e = absurd (cc)
      go (Some stack) is e = init_taken_does stack is (readies here c.owner c.ret (with_stack shape stack) behind stack e) unfolded

pub inits_do : (K E : Type 0) → InitsDo K E
unfolding rule doing used
inits_do K E r at own s entries inherited p here news c shape behind f good coded place above linked suits h =
    init_leaves r at own s entries inherited p here news c shape behind f good coded place above linked suits h refl
