-- A method to which a call comes has as many slots as the call's values take.
use Rattle.std.proofs.Common.{◌≡◌, ℕ, zero, suc, ◌+◌, Bool, true, false, not, List, [], ◌∷◌, ◌++◌, map, Option, Some, None, refl, ap, sym, ◌∙◌, subst, arith}
use Rattle.std.specs.Prelude.{option_and_then, option_map, if◌then◌else◌}
use Rattle.std.specs.List.{find}
use Rattle.std.specs.Str.{bytes_eq}
use Rattle.std.proofs.lemmas.List.{map-append}
use Rattle.jground.proofs.JformatProofs.ReadingSteps.{first_true}
use Rattle.jparts.specs.declared.jpool.descriptor.Descriptor.{Descriptor}
use Rattle.jparts.specs.declared.jpool.descriptor.Descriptor.TheVariants as descriptors
use Rattle.jparts.specs.declared.jpool.descriptor.FieldType.{FieldType}
use Rattle.jparts.specs.jpool.Descriptors.{descriptor_of, slots_of}
use Rattle.jclass.specs.declared.class.ClassParts.{ClassParts}
use Rattle.jclass.specs.declared.class.MemberInfo.{MemberInfo}
use Rattle.jlib.specs.declared.side.Side.TheVariants.{Source}
use Rattle.jlib.specs.declared.classes.LibClass.{LibClass}
use Rattle.jmoveclass.specs.EntryLocals.{params_in}
use Rattle.jmoveclass.specs.ProofNames.{this_slots}
use Rattle.jtypes.specs.declared.vtype.Name.{Name}
use Rattle.jtypes.specs.declared.vtype.VType.{VType}
use Rattle.jtypes.specs.declared.vtype.VType.TheVariants as types
use Rattle.jresolution.specs.declared.jprogram.member.CallKind.{CallKind}
use Rattle.jresolution.specs.declared.jprogram.member.CallKind.TheVariants as kinds
use Rattle.jresolution.specs.declared.jprogram.member.ClassId.{ClassId}
use Rattle.jresolution.specs.declared.jprogram.member.Member.{Member}
use Rattle.jresolution.specs.declared.jprogram.member.Member.TheVariants.{Field, LibField, LibMethod, Method}
use Rattle.jresolution.specs.declared.jprogram.member.MethodId.{MethodId}
use Rattle.jresolution.specs.declared.jprogram.member.Selected.{Selected}
use Rattle.jresolution.specs.declared.jprogram.member.Selected.TheVariants as selected
use Rattle.jresolution.specs.declared.jprogram.part.ClassRef.{ClassRef}
use Rattle.jresolution.specs.jprogram.ProgramClasses.{Program, up}
use Rattle.jresolution.specs.jprogram.MemberResolution.{as_selected, desc_in, desc_of, first_by, first_taking, info_of, is_abstract, is_static, methods_along, name_of, name_of_id, select, takes_call, user_is}
use Rattle.jresolution.specs.jprogram.ClassFileParts as parts
use Rattle.jvalues.specs.declared.jops.value.Value.{Value}
use Rattle.jvalues.specs.declared.jops.value.Value.TheVariants.{Int, Long, Ref, Ctx}
use Rattle.jresolution.specs.declared.juses.meaning.InvokeKind.{InvokeKind}
use Rattle.jresolution.specs.declared.juses.meaning.InvokeKind.TheVariants as how
use Rattle.jresolution.specs.juses.IndexedInstructions.{Used}
use Rattle.jresolution.specs.juses.InstructionMeanings as meanings
use Rattle.jresolution.specs.juses.InstructionMeanings.{CallMeaning}
use Rattle.jresolution.specs.juses.DescriptorTypes.{Called, typed}
use Rattle.jlinking.proofs.JlinkProofs.PresentValues.{map_is, then_is}
use Rattle.jlinking.proofs.JlinkProofs.MethodSelection.{selected_as}
use Rattle.jlinking.specs.jlink.SelectedMethods.{IsSelectedAs}
use Rattle.jtyping.specs.jrule.StackEffects.{Fits}
use Rattle.jtyping.specs.jrule.PoolEffects.{arguments}
use Rattle.jsemantics.specs.jmachine.AccessQueries.{call_taken}
use Rattle.jsemantics.specs.jmachine.CallTargets.{Pushes, Target, begun_on, by_interface, from_above, init_taken, may_begin, on_object, on_value, reached, receiver, special, target, unless}
use Rattle.jsemantics.specs.jmachine.FrameOperations.{places_of}
use Rattle.jsemantics.specs.jmachine.HeapObjects.{Object, id_of}
use Rattle.jsemantics.specs.jmachine.TakenOperands.{Taken, taken}
use Rattle.jsemantics.specs.jmachine.InstructionSites.{Site}
use Rattle.jsemantics.specs.jmachine.Store.{Store, object_of}
use Rattle.jsemantics.specs.jmachine.World.{World, class_id, world}
use Rattle.jrewriting.proofs.JrewriteProofs.ParameterSlots.{of_empty}
use Rattle.jmoved_laws.specs.names.ResolvedCalls.{calls_static}
use Rattle.jmoved_laws.proofs.NamesProofs.CallOutcomes.{fetched_at}
use Rattle.jmoved_laws.proofs.NamesProofs.LinkedCalls.{call_says}
use Rattle.jmoved_laws.specs.code.SlotCounts.{CallsFill, slots_at, slots_in}
use Rattle.jmoved_laws.proofs.CodeProofs.Slots.{AllDeclared, declared_append, places_total, says_types, taken_total, total, total_append, wides, wides_append, width}

-- ---- the method that is found

-- it has the descriptor of the one that is called, and is static or not
pub record Suits (p : Program) (m : Member) (callee : MethodId) (static : Bool) : Type 0 where
  pub desc : desc_of p (Method callee) ≡ desc_of p m
  pub is : is_static p (Method callee) ≡ static

taking_static : (p : Program) (r x : Member) (ms : List Member) → first_taking p r ms ≡ Some x → is_static p x ≡ false
unfolding first_taking
taking_static p r x [] h = absurd cc
taking_static p r x (m ∷ ms) h = by (is_static p m) refl (takes_call p r m ms) refl (λ e. taking_static p r x ms e) h
  where
    by : (s : Bool) → is_static p m ≡ s → (t : Bool) → takes_call p r m ms ≡ t → (first_taking p r ms ≡ Some x → is_static p x ≡ false) → (if t then Some m else first_taking p r ms) ≡ Some x → is_static p x ≡ false
    by false e true f more h = let same : m ≡ x = cc in ap (is_static p) (sym same) ∙ e
    by true e true f more h =
        let on : not (is_static p m) ≡ true = first_true (not (is_static p m)) _ f in
        let off : not true ≡ true = sym (ap not e) ∙ on in
        absurd cc
    by s e false f more h = more h

found_static : (p : Program) (x : Member) (ms : List Member) → find (λ m. not (is_static p m)) ms ≡ Some x → is_static p x ≡ false
found_static p x [] h = absurd cc
found_static p x (m ∷ ms) h = by (is_static p m) refl (λ e. found_static p x ms e) h
  where
    by : (s : Bool) → is_static p m ≡ s → (find (λ m. not (is_static p m)) ms ≡ Some x → is_static p x ≡ false) → (if not (is_static p m) then Some m else find (λ m. not (is_static p m)) ms) ≡ Some x → is_static p x ≡ false
    by false e more h =
        let one : Some m ≡ Some x = sym (ap (λ (b : Bool). if not b then Some m else find (λ m. not (is_static p m)) ms) e) ∙ h in
        let same : m ≡ x = cc in
        ap (is_static p) (sym same) ∙ e
    by true e more h = more (sym (ap (λ (b : Bool). if not b then Some m else find (λ m. not (is_static p m)) ms) e) ∙ h)

first_static : (p : Program) (call : CallKind) (r x : Member) (ms : List Member) → first_by p call r ms ≡ Some x → is_static p x ≡ false
first_static p kinds.Virtual r x ms h = taking_static p r x ms h
first_static p kinds.Interface r x ms h = found_static p x ms h
first_static p kinds.Special r x ms h = found_static p x ms h

coded_method : (b : Bool) (m : Member) (s : Selected) (x : MethodId) → (if b then selected.Abstract m else s) ≡ selected.Method x → s ≡ selected.Method x
coded_method true m s x h = absurd cc
coded_method false m s x h = h

method_of : (p : Program) (o : Option Member) (m : MethodId) → as_selected p o ≡ selected.Method m → o ≡ Some (Method m)
method_of p None m h = absurd cc
method_of p (Some (Method a)) m h =
    let one : selected.Method a ≡ selected.Method m = coded_method (is_abstract p (Method a)) (Method a) (selected.Method a) m h in
    let same : a ≡ m = cc in
    ap (λ (x : MethodId). Some (Method x)) same
method_of p (Some (LibMethod a)) m h =
    let one : selected.Lib a ≡ selected.Method m = coded_method (is_abstract p (LibMethod a)) (LibMethod a) (selected.Lib a) m h in
    absurd cc
method_of p (Some (Field i j)) m h = absurd cc
method_of p (Some LibField) m h = absurd cc

select_static : (p : Program) (on : ClassId) (m : Member) (call : CallKind) (x : MethodId) → select p on m call ≡ selected.Method x → is_static p (Method x) ≡ false
unfolding select
select_static p on m call x h =
    let ms = methods_along p (name_of p m) (desc_of p m) (up p (name_of_id p on)) in
    first_static p call m (Method x) ms (method_of p (first_by p call m ms) x h)

select_suits : (p : Program) (on : ClassId) (m : Member) (call : CallKind) (x : MethodId) → select p on m call ≡ selected.Method x → Suits p m x false
select_suits p on m call x h =
    let called = subst (IsSelectedAs p m) h (selected_as p on m call) in
    record { desc = called.1; is = select_static p on m call x h }

itself_suits : (p : Program) (m : Member) (x : MethodId) (static : Bool) → is_static p m ≡ static → as_selected p (Some m) ≡ selected.Method x → Suits p m x static
itself_suits p m x static e h =
    let one : Some m ≡ Some (Method x) = method_of p (Some m) x h in
    let same : m ≡ Method x = cc in
    record { desc = ap (desc_of p) (sym same); is = ap (is_static p) (sym same) ∙ e }

reached_is : (full : Bool) (s : Selected) (m : MethodId) → reached full s ≡ Pushes m → s ≡ selected.Method m
reached_is true (selected.Method a) m h = absurd cc
reached_is false (selected.Method a) m h = let same : a ≡ m = cc in ap (λ (x : MethodId). selected.Method x) same
reached_is full (selected.Lib call) m h = absurd cc
reached_is full (selected.Abstract a) m h = absurd cc
reached_is full selected.Missing m h = absurd cc

unless_is : (o : Option LibClass) (t : Target) (m : MethodId) → unless o t ≡ Pushes m → t ≡ Pushes m
unless_is None t m h = h
unless_is (Some c) t m h = absurd cc

-- ---- where a call comes to it

above_suits : (p : Program) (c : CallMeaning) (o : Option ClassRef) (m : MethodId) → from_above (world p) c.member o ≡ selected.Method m → Suits p c.member m false
unfolding world
above_suits p c None m h = absurd cc
above_suits p c (Some r) m h = select_suits p (class_id r) c.member kinds.Special m h

special_suits : (p : Program) (this : ℕ) (c : CallMeaning) (m : MethodId) → is_static p c.member ≡ false → (b : Bool) → (if b then as_selected p (Some c.member) else from_above (world p) c.member ((world p).above this)) ≡ selected.Method m → Suits p c.member m false
special_suits p this c m e true h = itself_suits p c.member m false e h
special_suits p this c m e false h = above_suits p c ((world p).above this) m h

module _ {K : Type 0} (p : Program) where
  pub interface_suits : (full : Bool) (c : CallMeaning) (x : Object K) (m : MethodId) → by_interface (world p) full c x ≡ Pushes m → Suits p c.member m false
  unfolding world
  interface_suits full c x m h = select_suits p (id_of x) c.member kinds.Interface m (reached_is full (select p (id_of x) c.member kinds.Interface) m (unless_is _ (reached full (select p (id_of x) c.member kinds.Interface)) m h))

  object_suits : (at : Site) → at.world ≡ world p → (by : InvokeKind) (c : CallMeaning) (x : Object K) (m : MethodId) → calls_static by ≡ false → is_static p c.member ≡ false → on_object at by c x ≡ Pushes m → Suits p c.member m false
  unfolding world
  object_suits at e how.Virtual c x m n s h =
      select_suits p (id_of x) c.member kinds.Virtual m (ap (λ (w : World). w.select (id_of x) c.member kinds.Virtual) (sym e) ∙ reached_is at.full (at.world.select (id_of x) c.member kinds.Virtual) m h)
  object_suits at e how.Interface c x m n s h = interface_suits at.full c x m (ap (λ (w : World). by_interface w at.full c x) (sym e) ∙ h)
  object_suits at e how.Special c x m n s h =
      special_suits p at.class c m s (bytes_eq c.owner.0 ((world p).named at.class).0) (ap (λ (w : World). special w at.class c) (sym e) ∙ reached_is at.full (special at.world at.class c) m h)
  object_suits at e how.Init c x m n s h = itself_suits p c.member m false s (ap (λ (w : World). w.itself c.member) (sym e) ∙ reached_is at.full (at.world.itself c.member) m h)
  object_suits at e how.Static c x m n s h = absurd cc

  map_suits : (at : Site) → at.world ≡ world p → (by : InvokeKind) (c : CallMeaning) (o : Option (Object K)) (m : MethodId) → calls_static by ≡ false → is_static p c.member ≡ false → option_map (on_object at by c) o ≡ Some (Pushes m) → Suits p c.member m false
  map_suits at e by c o m n s h =
      let r = map_is (on_object at by c) o (Pushes m) h in
      object_suits at e by c r.0 m n s r.2

  value_suits : (at : Site) (t : Store K) → at.world ≡ world p → (by : InvokeKind) (c : CallMeaning) (v : Value K) (m : MethodId) → calls_static by ≡ false → is_static p c.member ≡ false → on_value at t by c v ≡ Some (Pushes m) → Suits p c.member m false
  value_suits at t e by c (Ref zero) m n s h = absurd cc
  value_suits at t e by c (Ref (suc i)) m n s h = map_suits at e by c (object_of t (Ref (suc i))) m n s h
  value_suits at t e by c (Int x) m n s h = absurd cc
  value_suits at t e by c (Long x) m n s h = absurd cc
  value_suits at t e by c (Ctx k) m n s h = absurd cc

  receiver_suits : (at : Site) (t : Store K) → at.world ≡ world p → (by : InvokeKind) (c : CallMeaning) (values : List (Value K)) (m : MethodId) → calls_static by ≡ false → is_static p c.member ≡ false → option_and_then (on_value at t by c) (receiver values) ≡ Some (Pushes m)
      → Suits p c.member m false
  receiver_suits at t e by c values m n s h =
      let r = then_is (on_value at t by c) (receiver values) (Pushes m) h in
      value_suits at t e by c r.0 m n s r.2

  pub target_suits : (at : Site) (t : Store K) → at.world ≡ world p → (by : InvokeKind) (c : CallMeaning) (values : List (Value K)) (m : MethodId) → is_static p c.member ≡ calls_static by → target at t by c values ≡ Some (Pushes m) → Suits p c.member m (calls_static by)
  unfolding target world
  target_suits at t e how.Static c values m s h =
      let one : reached at.full (at.world.itself c.member) ≡ Pushes m = cc in
      itself_suits p c.member m true s (ap (λ (w : World). w.itself c.member) (sym e) ∙ reached_is at.full (at.world.itself c.member) m one)
  target_suits at t e how.Virtual c values m s h = receiver_suits at t e how.Virtual c values m refl s h
  target_suits at t e how.Special c values m s h = receiver_suits at t e how.Special c values m refl s h
  target_suits at t e how.Interface c values m s h = receiver_suits at t e how.Interface c values m refl s h
  target_suits at t e how.Init c values m s h = receiver_suits at t e how.Init c values m refl s h

-- ---- how many slots it has

abbrev this_of : Bool → ℕ
this_of static = if static then 0 else 1

slots_by : (o : Option (ClassParts × MemberInfo)) (ts : List FieldType) (ret : Option FieldType) (static : Bool) → descriptor_of (desc_in o) ≡ Some (descriptors.Method ts ret) → user_is (λ one. parts.is_static one.flags) o ≡ static → slots_in o ≡ slots_of ts + this_of static
slots_by None ts ret static d s = of_empty [] (descriptors.Method ts ret) refl d
slots_by (Some one) ts ret static d s = ap (λ (x : Option Descriptor). slots_of (params_in x) + this_slots one.1) d ∙ ap (λ (b : Bool). slots_of ts + (if b then 0 else 1)) s

pub suits_slots : (p : Program) (m : Member) (callee : MethodId) (static : Bool) → Suits p m callee static → (ts : List FieldType) (ret : Option FieldType) → descriptor_of (desc_of p m) ≡ Some (descriptors.Method ts ret) → slots_at p callee ≡ slots_of ts + this_of static
unfolding desc_of is_static
suits_slots p m callee static s ts ret d = slots_by (info_of p (Method callee)) ts ret static (ap descriptor_of s.desc ∙ d) s.is

-- ---- how many slots the values take

module _ {K : Type 0} where
  begin_wide : (w : World) (s : Store K) (owner : Name) (v : Value K) → may_begin w s owner v ≡ true → width v ≡ 1
  begin_wide w s owner (Ref n) h = refl
  begin_wide w s owner (Int x) h = refl
  begin_wide w s owner (Ctx k) h = refl
  begin_wide w s owner (Long x) h = absurd cc

  begun_total : (w : World) (s : Store K) (owner : Name) (values below : List (Value K)) (t : Taken K) → begun_on w s owner values below ≡ Some t → total t.values ≡ total values + 1
  begun_total w s owner values [] t h = absurd cc
  begun_total w s owner values (v ∷ below) t h = by (may_begin w s owner v) refl h
    where
      by : (b : Bool) → may_begin w s owner v ≡ b → (if b then Some (record { values = values ++ v ∷ []; below = below }) else None) ≡ Some t → total t.values ≡ total values + 1
      by true e h =
          let same : record { values = values ++ v ∷ []; below = below } ≡ t = cc in
          let one = begin_wide w s owner v e in
          ap (λ (x : Taken K). total x.values) (sym same) ∙ omega (arith, total_append values (v ∷ []), one)
      by false e h = absurd cc

  plain_total : (w : World) (s : Store K) (ps bs : List VType) (vs : List (Value K)) (t : Taken K) → AllDeclared ps → AllDeclared bs → taken w s (map Fits ps ++ map Fits bs) vs ≡ Some t → total t.values ≡ wides ps + wides bs
  plain_total w s ps bs vs t d e h =
      taken_total w s (ps ++ bs) vs t (declared_append ps bs d e) (ap (λ l. taken w s l vs) (map-append Fits ps bs) ∙ h) ∙ wides_append ps bs

  pub values_total : (at : Site) (s : Store K) (by : InvokeKind) (c : CallMeaning) (vs : List (Value K)) (t : Taken K) → AllDeclared c.params → call_taken Source at s by c vs ≡ Some t → total t.values ≡ wides c.params + this_of (calls_static by)
  unfolding init_taken
  values_total at s how.Init c vs t d h =
      let r = then_is (λ x. begun_on at.world s c.owner x.values x.below) (taken at.world s (arguments c) vs) t h in
      begun_total at.world s c.owner r.0.values r.0.below t r.2 ∙ ap (λ (n : ℕ). n + 1) (taken_total at.world s c.params vs r.0 d r.1)
  values_total at s how.Static c vs t d h = plain_total at.world s c.params [] vs t d tt h
  values_total at s how.Virtual c vs t d h = plain_total at.world s c.params (types.Object c.owner ∷ []) vs t d (refl, tt) h
  values_total at s how.Interface c vs t d h = plain_total at.world s c.params (types.Object c.owner ∷ []) vs t d (refl, tt) h
  values_total at s how.Special c vs t d h = plain_total at.world s c.params (types.Object (at.world.named at.class) ∷ []) vs t d (refl, tt) h

  -- a call's values and the method's slots
  pub filled : (p : Program) (at : Site) (s : Store K) → at.world ≡ world p → (by : InvokeKind) (c : CallMeaning) (vs : List (Value K)) (t : Taken K) (callee : MethodId) → is_static p c.member ≡ calls_static by → typed p (desc_of p c.member) ≡ Called c.params c.ret
      → call_taken Source at s by c vs ≡ Some t → target at s by c t.values ≡ Some (Pushes callee) → places_of t.values ≡ slots_at p callee
  filled p at s e by c vs t callee static said took to =
      let says = says_types p (desc_of p c.member) c.params c.ret said in
      let suits = target_suits p at s e by c t.values callee static to in
      places_total t.values
      ∙ values_total at s by c vs t says.declared took
      ∙ ap (λ (n : ℕ). n + this_of (calls_static by)) says.width
      ∙ sym (suits_slots p c.member callee (calls_static by) suits says.ts says.ret says.is)

pub calls_fill : CallsFill
calls_fill p is m callee at s by c operands t call to =
    let r = call_says p is m call.number by c (fetched_at p m call.number (Used (meanings.Call by c)) call.is) in
    filled p at s call.in_program by c operands t callee r.says.static r.says.types call.taken to
