-- What calls come to: with a context a user's method or what is handed one, without one neither.
use Rattle.std.proofs.Common.{◌≡◌, ℕ, Bool, true, false, not, List, [], ◌∷◌, Option, Some, None, refl, ap, sym, ◌∙◌}
use Rattle.std.specs.Prelude.{codes, slice_get, if◌then◌else◌}
use Rattle.std.specs.List.{AllByRecursion}
use Rattle.std.specs.Str.{bytes_eq}
use Rattle.std.proofs.lemmas.Slice.Eq.{bytes_eq-Decides}
use Rattle.jground.specs.jbase.FirstFaults.{fault_if, first_some, or_else}
use Rattle.jlib.specs.declared.classes.LibClass.{LibClass}
use Rattle.jlib.specs.declared.calls.LibCall.{LibCall}
use Rattle.jlib.specs.declared.side.Side.{Side}
use Rattle.jlib.specs.declared.side.Side.TheVariants.{Source}
use Rattle.jlib.specs.LibraryMembers as library
use Rattle.jtypes.specs.declared.vtype.VType.TheVariants as types
use Rattle.jresolution.specs.declared.jprogram.member.CallKind.{CallKind}
use Rattle.jresolution.specs.declared.jprogram.member.CallKind.TheVariants as kinds
use Rattle.jresolution.specs.declared.jprogram.member.ClassId.{ClassId}
use Rattle.jresolution.specs.declared.jprogram.member.Member.{Member}
use Rattle.jresolution.specs.declared.jprogram.member.Member.TheVariants.{Field, LibField, LibMethod, Method}
use Rattle.jresolution.specs.declared.jprogram.member.MethodId.{MethodId}
use Rattle.jresolution.specs.declared.jprogram.member.Selected.{Selected}
use Rattle.jresolution.specs.declared.jprogram.member.Selected.TheVariants as selected
use Rattle.jresolution.specs.declared.jprogram.part.ClassRef.{ClassRef}
use Rattle.jresolution.specs.declared.jprogram.part.ClassRef.TheVariants as refs
use Rattle.jresolution.specs.declared.jprogram.part.CodePart.{CodePart}
use Rattle.jresolution.specs.jprogram.ProgramClasses.{Program, extends, super_at, superinterfaces, up}
use Rattle.jresolution.specs.jprogram.MemberResolution.{as_selected, desc_of, first_by, init, is_abstract, is_static, method_at, methods_along, name_of, name_of_id, resolve_method, select}
use Rattle.jresolution.specs.jprogram.ClassFileParts.{this_name}
use Rattle.jresolution.specs.jprogram.OrderedPrograms.{StandsInOrder}
use Rattle.jresolution.proofs.JprogramProofs.NameReachability.{clash}
use Rattle.jlinking.specs.jlink.LinkedPrograms.{Links}
use Rattle.jresolution.specs.declared.juses.meaning.InvokeKind.{InvokeKind}
use Rattle.jresolution.specs.declared.juses.meaning.InvokeKind.TheVariants as how
use Rattle.jresolution.specs.juses.InstructionMeanings.{CallMeaning}
use Rattle.jsemantics.specs.jmachine.CallTargets.{Pushes, Target, by_interface, from_above, is_hidden, no_access, overflow, reached, special, unless, wrong_class}
use Rattle.jsemantics.specs.jmachine.HeapObjects.{Object, class_of, id_of}
use Rattle.jsemantics.specs.jmachine.World.{class_id, is_instance, world}
use Rattle.jrewriting.proofs.JrewriteProofs.FinalOverrides.{AllMoving}
use Rattle.jrewriting.proofs.JrewriteProofs.HierarchyPhases.{IsPlain}
use Rattle.jsimulation_laws.specs.relation.InstructionExpansion.{Alone, Handed, comes_alone, comes_handed, runs_alone, runs_handed, way_of}
use Rattle.jmoved_laws.specs.names.ResolvedCalls.{IsResolvedCall}
use Rattle.jmoved_laws.specs.names.ShadowedMethods.{IsClear, IsClearAt}
use Rattle.jmoved_laws.specs.names.MovedLookUps.{is_handed, library_handed}
use Rattle.jmoved_laws.proofs.NamesProofs.ContextFreeCalls.{IsAlone, alone_of, face_apart, object_extends}
use Rattle.jmoved_laws.proofs.NamesProofs.LibraryOverrides.{lib_found}
use Rattle.jmoved_laws.proofs.NamesProofs.ReceiverDispatch.{kind}
use Rattle.jmoved_laws.proofs.NamesProofs.OperandDispatch.{Serves, found_by, named_is, on_in, plain_by, super_extends, super_is}
use Rattle.jmoved_laws.proofs.NamesProofs.ContextCalls.{fits_below, has_below, meets_below}
use Rattle.jmoved_laws.proofs.NamesProofs.LibraryMembers.{alone_concrete, handed_name, instance_alone, run_handed, source_alone, source_handed}
use Rattle.jmoved_laws.proofs.NamesProofs.ChainLookup.{Meets, alone_stays}
use Rattle.jmoved_laws.proofs.NamesProofs.MethodResolution.{resolved_at}
use Rattle.jmoved_laws.proofs.NamesProofs.MemberSelection.{each_along, first_holds}
use Rattle.jmoved_laws.proofs.NamesProofs.ContextFreeLookup.{StaysAt}

-- ---- what is selected

abbrev is_selected_handed : Selected → Bool
is_selected_handed (selected.Lib x) = runs_handed x
is_selected_handed s = true

unless_handed : (o : Option LibClass) (t : Target) → comes_handed t ≡ true → comes_handed (unless o t) ≡ true
unless_handed None t e = e
unless_handed (Some c) t e = refl

reached_handed : (full : Bool) (s : Selected) → is_selected_handed s ≡ true → comes_handed (reached full s) ≡ true
reached_handed full (selected.Method m) e = unless_handed (fault_if full overflow) (Pushes m) refl
reached_handed full (selected.Lib x) e = e
reached_handed full (selected.Abstract m) e = refl
reached_handed full selected.Missing e = refl

code_handed : (b : Bool) (m : Member) (s : Selected) → is_selected_handed s ≡ true → is_selected_handed (if b then selected.Abstract m else s) ≡ true
code_handed true m s e = refl
code_handed false m s e = e

abbrev is_selected_alone : Selected → Bool
is_selected_alone (selected.Method m) = false
is_selected_alone (selected.Lib x) = runs_alone x
is_selected_alone s = true

unless_alone : (o : Option LibClass) (t : Target) → comes_alone t ≡ true → comes_alone (unless o t) ≡ true
unless_alone None t e = e
unless_alone (Some c) t e = refl

reached_alone : (full : Bool) (s : Selected) → is_selected_alone s ≡ true → comes_alone (reached full s) ≡ true
reached_alone full (selected.Method m) e = absurd cc
reached_alone full (selected.Lib x) e = e
reached_alone full (selected.Abstract m) e = refl
reached_alone full selected.Missing e = refl

code_alone : (b : Bool) (m : Member) (s : Selected) → is_selected_alone s ≡ true → is_selected_alone (if b then selected.Abstract m else s) ≡ true
code_alone true m s e = refl
code_alone false m s e = e

-- ---- where a member was found

-- what a class declares that is the library's is the side's
on_side : (p : Program) (is : IsPlain p) (name desc c : List ℕ) (y : LibCall) → method_at p name desc c ≡ Some (LibMethod y) → library.call_stands_on Source y ≡ true
on_side p is name desc c y e = ap (λ (s : Side). library.call_stands_on s y) (sym is.source) ∙ (lib_found p name desc c y e).on

resolved_on : (p : Program) (is : IsPlain p) (owner name desc : List ℕ) (y : LibCall) (b : Bool) → bytes_eq name init ≡ b → resolve_method p owner name desc ≡ Some (LibMethod y) → library.call_stands_on Source y ≡ true
unfolding resolve_method
resolved_on p is owner name desc y true begun e =
    let f = method_at p name desc in
    let rest = or_else (first_some f (up p owner)) (first_some (λ x. first_some f (superinterfaces p x)) (up p owner)) in
    on_side p is name desc owner y (sym (ap (λ (b : Bool). if b then f owner else rest) begun) ∙ e)
resolved_on p is owner name desc y false plain e = let r = resolved_at p owner name desc (LibMethod y) plain e in on_side p is name desc r.class y r.here

-- ---- with a context

module _ (p : Program) (is : IsPlain p) (good : StandsInOrder p) (links : Links p) (all : AllMoving p) where
  -- what was found is handed one, where it is the library's
  abbrev IsHandedThere : Member → Type 0
  IsHandedThere x = (y : LibCall) → x ≡ LibMethod y → runs_handed y ≡ true

  clear_there : (name desc c : List ℕ) → IsClearAt p name desc c → (m : Member) → method_at p name desc c ≡ Some m → IsHandedThere m
  clear_there name desc c clear m e y same =
      let there : method_at p name desc c ≡ Some (LibMethod y) = e ∙ ap (λ (x : Member). Some x) same in
      source_handed y (clear y there) (on_side p is name desc c y there)

  all_there : (name desc : List ℕ) (names : List (List ℕ)) → IsClear p name desc names → AllByRecursion (λ c. (m : Member) → method_at p name desc c ≡ Some m → IsHandedThere m) names
  all_there name desc [] clear = tt
  all_there name desc (c ∷ names) clear = (clear_there name desc c clear.0, all_there name desc names clear.1)

  as_handed : (o : Option Member) → ((x : Member) → o ≡ Some x → IsHandedThere x) → is_selected_handed (as_selected p o) ≡ true
  as_handed None h = refl
  as_handed (Some (Method m)) h = code_handed (is_abstract p (Method m)) (Method m) (selected.Method m) refl
  as_handed (Some (LibMethod y)) h = code_handed (is_abstract p (LibMethod y)) (LibMethod y) (selected.Lib y) (h (LibMethod y) refl y refl)
  as_handed (Some (Field i j)) h = refl
  as_handed (Some LibField) h = refl

  select_handed : (m : Member) (on : ClassId) (call : CallKind) → Meets p (name_of p m) (desc_of p m) (name_of_id p on) → is_selected_handed (select p on m call) ≡ true
  unfolding select
  select_handed m on call k =
      let names = up p (name_of_id p on) in
      let ms = methods_along p (name_of p m) (desc_of p m) names in
      as_handed (first_by p call m ms) (λ x e. (first_holds p IsHandedThere call m x ms (each_along p IsHandedThere (method_at p (name_of p m) (desc_of p m)) names (all_there (name_of p m) (desc_of p m) names k.clear)) e).0)

  itself_by : (m : Member) → way_of m ≡ Handed → ((y : LibCall) → m ≡ LibMethod y → library.call_stands_on Source y ≡ true) → is_selected_handed (as_selected p (Some m)) ≡ true
  itself_by (Method m) w on = code_handed (is_abstract p (Method m)) (Method m) (selected.Method m) refl
  itself_by (LibMethod y) w on = code_handed (is_abstract p (LibMethod y)) (LibMethod y) (selected.Lib y) (source_handed y (ap is_handed w) (on y refl))
  itself_by (Field i j) w on = refl
  itself_by LibField w on = refl

  member_on : (this : List ℕ) (by : InvokeKind) (c : CallMeaning) → IsResolvedCall p this by c → (y : LibCall) → c.member ≡ LibMethod y → library.call_stands_on Source y ≡ true
  member_on this by c says y e =
      resolved_on p is c.owner.0 (name_of p c.member) (desc_of p c.member) y (bytes_eq (name_of p c.member) init) refl (says.resolved ∙ ap (λ (m : Member). Some m) e)

  itself_handed : (this : List ℕ) (by : InvokeKind) (c : CallMeaning) → IsResolvedCall p this by c → way_of c.member ≡ Handed → is_selected_handed ((world p).itself c.member) ≡ true
  unfolding world
  itself_handed this by c says w = itself_by c.member w (member_on this by c says)

  test_handed : (b h : Bool) (t : Target) → (b ≡ true → comes_handed t ≡ true) → comes_handed (unless (or_else (fault_if (not b) wrong_class) (fault_if h no_access)) t) ≡ true
  test_handed false h t e = refl
  test_handed true h t e = unless_handed (fault_if h no_access) t (e refl)

  face_handed_to : {K : Type 0} (this : List ℕ) (c : CallMeaning) (full : Bool) (x : Object K) → IsResolvedCall p this how.Interface c → way_of c.member ≡ Handed → comes_handed (by_interface (world p) full c x) ≡ true
  unfolding world
  face_handed_to this c full x says w =
      test_handed (is_instance (world p) (class_of (world p).named x) (types.Object c.owner)) (is_hidden (world p) (select p (id_of x) c.member kinds.Interface)) (reached full (select p (id_of x) c.member kinds.Interface))
      (λ has. reached_handed full (select p (id_of x) c.member kinds.Interface) (select_handed c.member (id_of x) kinds.Interface
      (has_below p is good links all c.owner.0 says.plain c.member w (plain_by p is good links all how.Interface c this refl says) (found_by p is good links all how.Interface c this refl says) says.crossed x has (kind p x))))

  if_handed : (b : Bool) (s t : Selected) → is_selected_handed s ≡ true → (b ≡ false → is_selected_handed t ≡ true) → is_selected_handed (if b then s else t) ≡ true
  if_handed true s t e h = e
  if_handed false s t e h = h refl

  from_handed : (m : Member) (o : Option ClassRef) → ((r : ClassRef) → o ≡ Some r → is_selected_handed ((world p).select (class_id r) m kinds.Special) ≡ true) → is_selected_handed (from_above (world p) m o) ≡ true
  from_handed m None h = refl
  from_handed m (Some r) h = h r refl

  above_handed : (i : ℕ) (part : CodePart) (c : CallMeaning) → slice_get p.parts i ≡ Some part → IsResolvedCall p (this_name part.class) how.Special c → way_of c.member ≡ Handed → bytes_eq c.owner.0 (this_name part.class) ≡ false
      → (r : ClassRef) → super_at p (refs.User i) ≡ Some r → is_selected_handed ((world p).select (class_id r) c.member kinds.Special) ≡ true
  unfolding world
  above_handed i part c at says w apart r e =
      let ext = super_extends p good i part at c.owner.0 r e (says.upward refl) apart in
      select_handed c.member (class_id r) kinds.Special
      (meets_below p is good links all c.owner.0 says.plain c.member w (plain_by p is good links all how.Special c (this_name part.class) refl says) (found_by p is good links all how.Special c (this_name part.class) refl says) (name_of_id p (class_id r)) ext)

  special_handed : (i : ℕ) (part : CodePart) (c : CallMeaning) → slice_get p.parts i ≡ Some part → IsResolvedCall p (this_name part.class) how.Special c → way_of c.member ≡ Handed → is_selected_handed (special (world p) i c) ≡ true
  special_handed i part c at says w =
      if_handed (bytes_eq c.owner.0 ((world p).named i).0) ((world p).itself c.member) (from_above (world p) c.member ((world p).above i)) (itself_handed (this_name part.class) how.Special c says w)
      (λ apart. from_handed c.member ((world p).above i) (λ r e. above_handed i part c at says w (sym (ap (bytes_eq c.owner.0) (named_is p is good links all i part at)) ∙ apart) r (super_is p is good links all i r e)))

  virtual_handed : {K : Type 0} (this : List ℕ) (c : CallMeaning) (x : Object K) → IsResolvedCall p this how.Virtual c → way_of c.member ≡ Handed → Serves p is good links all how.Virtual c x → is_selected_handed ((world p).select (id_of x) c.member kinds.Virtual) ≡ true
  unfolding world
  virtual_handed this c x says w h =
      select_handed c.member (id_of x) kinds.Virtual
      (fits_below p is good links all c.owner.0 says.plain c.member w (plain_by p is good links all how.Virtual c this refl says) (found_by p is good links all how.Virtual c this refl says) says.crossed x h (kind p x))

  pub object_handed : {K : Type 0} (by : InvokeKind) (i : ℕ) (part : CodePart) (c : CallMeaning) (full : Bool) (x : Object K) → slice_get p.parts i ≡ Some part → IsResolvedCall p (this_name part.class) by c → way_of c.member ≡ Handed → Serves p is good links all by c x
      → comes_handed (on_in (world p) i full by c x) ≡ true
  object_handed how.Virtual i part c full x at says w h = reached_handed full ((world p).select (id_of x) c.member kinds.Virtual) (virtual_handed (this_name part.class) c x says w h)
  object_handed how.Interface i part c full x at says w h = face_handed_to (this_name part.class) c full x says w
  object_handed how.Special i part c full x at says w h = reached_handed full (special (world p) i c) (special_handed i part c at says w)
  object_handed how.Static i part c full x at says w h = reached_handed full ((world p).itself c.member) (itself_handed (this_name part.class) how.Static c says w)
  object_handed how.Init i part c full x at says w h = reached_handed full ((world p).itself c.member) (itself_handed (this_name part.class) how.Init c says w)

  pub static_handed : (this : List ℕ) (by : InvokeKind) (c : CallMeaning) (full : Bool) → IsResolvedCall p this by c → way_of c.member ≡ Handed → comes_handed (reached full ((world p).itself c.member)) ≡ true
  static_handed this by c full says w = reached_handed full ((world p).itself c.member) (itself_handed this by c says w)

-- ---- without one

module _ (p : Program) (is : IsPlain p) (good : StandsInOrder p) (links : Links p) (all : AllMoving p) where
  -- what was found is no user's, and has this name
  record IsOther (called : List ℕ) (x : Member) : Type 0 where
    no_user : (m : MethodId) → x ≡ Method m → false ≡ true
    named : (y : LibCall) → x ≡ LibMethod y → library.name_of_call y ≡ called

  other_there : (name desc c : List ℕ) → StaysAt p name desc c → (m : Member) → method_at p name desc c ≡ Some m → IsOther name m
  other_there name desc c stays m e = record {
    no_user = λ x same. stays.alone x (e ∙ ap (λ (y : Member). Some y) same);
    named = λ y same. (lib_found p name desc c y (e ∙ ap (λ (x : Member). Some x) same)).name_is;
  }

  others_there : (name desc : List ℕ) (names : List (List ℕ)) → AllByRecursion (StaysAt p name desc) names → AllByRecursion (λ c. (m : Member) → method_at p name desc c ≡ Some m → IsOther name m) names
  others_there name desc [] stays = tt
  others_there name desc (c ∷ names) stays = (other_there name desc c stays.0, others_there name desc names stays.1)

  -- which is handed none where another one of its name isn't
  not_run : (called : List ℕ) (y z : LibCall) (b : Bool) → library_handed z ≡ b → library.name_of_call z ≡ called → library.name_of_call y ≡ called → bytes_eq called init ≡ false → library_handed y ≡ false → library_handed z ≡ false
  not_run called y z false e zn yn plain alone = e
  not_run called y z true e zn yn plain alone =
      let run : called ≡ codes "run" = sym zn ∙ handed_name z e (ap (λ (n : List ℕ). bytes_eq n init) zn ∙ plain) in
      clash (library_handed y) (run_handed y ((bytes_eq-Decides (codes "run") (library.name_of_call y)).1 (sym (yn ∙ run)))) alone

  as_alone : (called : List ℕ) (y : LibCall) (o : Option Member) → library.name_of_call y ≡ called → bytes_eq called init ≡ false → library_handed y ≡ false → ((x : Member) → o ≡ Some x → IsOther called x × (is_static p x ≡ false)) → is_selected_alone (as_selected p o) ≡ true
  unfolding is_static
  as_alone called y None yn plain alone h = refl
  as_alone called y (Some (Method m)) yn plain alone h = let no = (h (Method m) refl).0.no_user m refl in absurd cc
  as_alone called y (Some (LibMethod z)) yn plain alone h =
      let one = h (LibMethod z) refl in
      code_alone (is_abstract p (LibMethod z)) (LibMethod z) (selected.Lib z) (instance_alone z one.1 (not_run called y z (library_handed z) refl (one.0.named z refl) yn plain alone))
  as_alone called y (Some (Field i j)) yn plain alone h = refl
  as_alone called y (Some LibField) yn plain alone h = refl

  select_alone : (y : LibCall) (on : ClassId) (call : CallKind) → bytes_eq (library.name_of_call y) init ≡ false → library_handed y ≡ false → AllByRecursion (StaysAt p (library.name_of_call y) (library.desc_of y)) (up p (name_of_id p on)) → is_selected_alone (select p on (LibMethod y) call) ≡ true
  unfolding select name_of desc_of
  select_alone y on call plain alone stays =
      let names = up p (name_of_id p on) in
      let ms = methods_along p (library.name_of_call y) (library.desc_of y) names in
      as_alone (library.name_of_call y) y (first_by p call (LibMethod y) ms) refl plain alone
      (λ x e. first_holds p (IsOther (library.name_of_call y)) call (LibMethod y) x ms (each_along p (IsOther (library.name_of_call y)) (method_at p (library.name_of_call y) (library.desc_of y)) names (others_there (library.name_of_call y) (library.desc_of y) names stays)) e)

  below_alone : (c : CallMeaning) (k : IsAlone p is good links all c c.owner.0) (on : ClassId) (call : CallKind) → extends p (name_of_id p on) c.owner.0 ≡ true → is_selected_alone (select p on c.member call) ≡ true
  below_alone c k on call ext =
      ap (λ (m : Member). is_selected_alone (select p on m call)) k.is_y
      ∙ select_alone k.y on call k.plain_name k.alone (alone_stays p is good links all k.y c.owner.0 k.alone (alone_concrete k.y k.static k.plain_name k.alone) k.plain_name k.resolved (name_of_id p on) ext)

  itself_quiet : (m : Member) → way_of m ≡ Alone → ((y : LibCall) → m ≡ LibMethod y → library.call_stands_on Source y ≡ true) → is_selected_alone (as_selected p (Some m)) ≡ true
  itself_quiet (Method m) w on = clash true refl (ap is_handed w)
  itself_quiet (LibMethod y) w on = code_alone (is_abstract p (LibMethod y)) (LibMethod y) (selected.Lib y) (source_alone y w (on y refl))
  itself_quiet (Field i j) w on = refl
  itself_quiet LibField w on = refl

  itself_alone : (this : List ℕ) (by : InvokeKind) (c : CallMeaning) → IsResolvedCall p this by c → way_of c.member ≡ Alone → is_selected_alone ((world p).itself c.member) ≡ true
  unfolding world
  itself_alone this by c says w = itself_quiet c.member w (member_on p is good links all this by c says)

  if_alone : (b : Bool) (s t : Selected) → is_selected_alone s ≡ true → (b ≡ false → is_selected_alone t ≡ true) → is_selected_alone (if b then s else t) ≡ true
  if_alone true s t e h = e
  if_alone false s t e h = h refl

  from_alone : (m : Member) (o : Option ClassRef) → ((r : ClassRef) → o ≡ Some r → is_selected_alone ((world p).select (class_id r) m kinds.Special) ≡ true) → is_selected_alone (from_above (world p) m o) ≡ true
  from_alone m None h = refl
  from_alone m (Some r) h = h r refl

  above_alone : (i : ℕ) (part : CodePart) (c : CallMeaning) → slice_get p.parts i ≡ Some part → IsResolvedCall p (this_name part.class) how.Special c → way_of c.member ≡ Alone → bytes_eq c.owner.0 (this_name part.class) ≡ false
      → (r : ClassRef) → super_at p (refs.User i) ≡ Some r → is_selected_alone ((world p).select (class_id r) c.member kinds.Special) ≡ true
  unfolding world
  above_alone i part c at says w apart r e =
      below_alone c (alone_of p is good links all (this_name part.class) how.Special c refl refl says (ap is_handed w)) (class_id r) kinds.Special (super_extends p good i part at c.owner.0 r e (says.upward refl) apart)

  special_alone : (i : ℕ) (part : CodePart) (c : CallMeaning) → slice_get p.parts i ≡ Some part → IsResolvedCall p (this_name part.class) how.Special c → way_of c.member ≡ Alone → is_selected_alone (special (world p) i c) ≡ true
  special_alone i part c at says w =
      if_alone (bytes_eq c.owner.0 ((world p).named i).0) ((world p).itself c.member) (from_above (world p) c.member ((world p).above i)) (itself_alone (this_name part.class) how.Special c says w)
      (λ apart. from_alone c.member ((world p).above i) (λ r e. above_alone i part c at says w (sym (ap (bytes_eq c.owner.0) (named_is p is good links all i part at)) ∙ apart) r (super_is p is good links all i r e)))

  virtual_alone : {K : Type 0} (this : List ℕ) (c : CallMeaning) (x : Object K) → IsResolvedCall p this how.Virtual c → way_of c.member ≡ Alone → Serves p is good links all how.Virtual c x → is_selected_alone ((world p).select (id_of x) c.member kinds.Virtual) ≡ true
  unfolding world
  virtual_alone this c x says w h =
      let k = alone_of p is good links all this how.Virtual c refl refl says (ap is_handed w) in
      below_alone c k (id_of x) kinds.Virtual (object_extends p is good links all k.y k.alone c.owner.0 says.plain k.plain_name k.static k.resolved x says.crossed h (kind p x))

  pub object_quiet : {K : Type 0} (by : InvokeKind) (i : ℕ) (part : CodePart) (c : CallMeaning) (full : Bool) (x : Object K) → slice_get p.parts i ≡ Some part → IsResolvedCall p (this_name part.class) by c → way_of c.member ≡ Alone → Serves p is good links all by c x
      → comes_alone (on_in (world p) i full by c x) ≡ true
  object_quiet how.Virtual i part c full x at says w h = reached_alone full ((world p).select (id_of x) c.member kinds.Virtual) (virtual_alone (this_name part.class) c x says w h)
  object_quiet how.Interface i part c full x at says w h = face_apart p is good links all (this_name part.class) c says (ap is_handed w)
  object_quiet how.Special i part c full x at says w h = reached_alone full (special (world p) i c) (special_alone i part c at says w)
  object_quiet how.Static i part c full x at says w h = reached_alone full ((world p).itself c.member) (itself_alone (this_name part.class) how.Static c says w)
  object_quiet how.Init i part c full x at says w h = reached_alone full ((world p).itself c.member) (itself_alone (this_name part.class) how.Init c says w)

  pub static_quiet : (this : List ℕ) (by : InvokeKind) (c : CallMeaning) (full : Bool) → IsResolvedCall p this by c → way_of c.member ≡ Alone → comes_alone (reached full ((world p).itself c.member)) ≡ true
  static_quiet this by c full says w = reached_alone full ((world p).itself c.member) (itself_alone this by c says w)
