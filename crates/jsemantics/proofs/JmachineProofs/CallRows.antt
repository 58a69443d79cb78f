-- What calls come to doesn't depend on what is kept.
use Rattle.std.proofs.Common.{◌≡◌, ◌∙◌, zero, suc, Bool, true, false, not, List, [], ◌∷◌, ◌++◌, Option, Some, None, option_map, refl, sym, ap}
use Rattle.std.specs.Prelude.{option_and_then, if◌then◌else◌}
use Rattle.jvalues.specs.declared.jops.value.Value.{Value}
use Rattle.jvalues.specs.declared.jops.value.Value.TheVariants.{Int, Long, Ref, Ctx}
use Rattle.jtypes.specs.declared.vtype.Name.{Name}
use Rattle.jtypes.specs.declared.vtype.VType.{VType}
use Rattle.jtypes.specs.declared.vtype.VType.TheVariants as types
use Rattle.jresolution.specs.declared.jprogram.member.CallKind.TheVariants as kinds
use Rattle.jresolution.specs.declared.jprogram.member.ClassId.{ClassId}
use Rattle.jresolution.specs.declared.juses.meaning.InvokeKind.{InvokeKind}
use Rattle.jresolution.specs.declared.juses.meaning.InvokeKind.TheVariants as how
use Rattle.jresolution.specs.juses.InstructionMeanings.{CallMeaning}
use Rattle.jtyping.specs.jrule.PoolEffects.{arguments}
use Rattle.jground.specs.jbase.FirstFaults.{fault_if, or_else}
use Rattle.jsemantics.specs.jmachine.CallTargets.{Target, begun_on, by_interface, init_taken, is_begun, is_hidden, may_begin, no_access, on_object, on_value, reached, receiver, target, unless, wrong_class}
use Rattle.jsemantics.specs.jmachine.StateMaps.{object_map, store_map, taken_map, value_map, values_map}
use Rattle.jsemantics.specs.jmachine.NaturalityLaws.{CallAlike, InitTakesAlike}
use Rattle.jsemantics.specs.jmachine.HeapObjects.{Object, class_of, id_of}
use Rattle.jsemantics.specs.jmachine.TakenOperands.{Taken, taken}
use Rattle.jsemantics.specs.jmachine.InstructionSites.{Site}
use Rattle.jsemantics.specs.jmachine.Store.{Store, object_at, object_of}
use Rattle.jsemantics.specs.jmachine.World.{World, fits, is_instance}
use Rattle.jsemantics.proofs.JmachineProofs.Stores.{class_alike, id_alike, named_alike}
use Rattle.jsemantics.proofs.JmachineProofs.Takes.{taken_alike}
use Rattle.std.proofs.lemmas.List.{map-append}

-- of what is looked at of an object, by the class at which its methods are looked for and by its type
abbrev by_both : World → Bool → CallMeaning → ClassId → VType → Target
by_both w full c on t =
    let found = w.select on c.member kinds.Interface in
    unless (or_else (fault_if (not (is_instance w t (types.Object c.owner))) wrong_class) (fault_if (is_hidden w found) no_access))
    (reached full found)

module _ {K L : Type 0} (f : K → L) where
  receiver_alike : (values : List (Value K)) → receiver (values_map f values) ≡ option_map (value_map f) (receiver values)
  unfolding receiver
  receiver_alike [] = refl
  receiver_alike (v ∷ []) = refl
  receiver_alike (v ∷ u ∷ rest) = receiver_alike (u ∷ rest)

  pub interface_alike : (w : World) (full : Bool) (c : CallMeaning) (x : Object K) → by_interface w full c x ≡ by_interface w full c (object_map f x)
  interface_alike w full c x = ap (λ (i : ClassId). by_both w full c i (class_of w.named x)) (id_alike f x) ∙ ap (by_both w full c (id_of (object_map f x))) (class_alike f w.named x)

  on_alike : (at : Site) (by : InvokeKind) (c : CallMeaning) (x : Object K) → on_object at by c x ≡ on_object at by c (object_map f x)
  on_alike at how.Virtual c x = ap (λ (i : ClassId). reached at.full (at.world.select i c.member kinds.Virtual)) (id_alike f x)
  on_alike at how.Interface c x = interface_alike at.world at.full c x
  on_alike at how.Special c x = refl
  on_alike at how.Static c x = refl
  on_alike at how.Init c x = refl

  found_alike : (at : Site) (by : InvokeKind) (c : CallMeaning) (o : Option (Object K)) → option_map (on_object at by c) o ≡ option_map (on_object at by c) (option_map (object_map f) o)
  found_alike at by c None = refl
  found_alike at by c (Some x) = ap Some (on_alike at by c x)

  named_called : (at : Site) (s : Store K) (by : InvokeKind) (c : CallMeaning) (v : Value K) → option_map (on_object at by c) (object_of s v) ≡ option_map (on_object at by c) (object_of (store_map f s) (value_map f v))
  named_called at s by c v = found_alike at by c (object_of s v) ∙ ap (λ (o : Option (Object L)). option_map (on_object at by c) o) (sym (named_alike f s v))

  value_alike : (at : Site) (s : Store K) (by : InvokeKind) (c : CallMeaning) (v : Value K) → on_value at s by c v ≡ on_value at (store_map f s) by c (value_map f v)
  value_alike at s by c (Ref zero) = refl
  value_alike at s by c (Ref (suc n)) = named_called at s by c (Ref (suc n))
  value_alike at s by c (Int x) = refl
  value_alike at s by c (Long x) = refl
  value_alike at s by c (Ctx k) = refl

  by_receiver : (at : Site) (s : Store K) (by : InvokeKind) (c : CallMeaning) (o : Option (Value K)) → option_and_then (on_value at s by c) o ≡ option_and_then (on_value at (store_map f s) by c) (option_map (value_map f) o)
  by_receiver at s by c None = refl
  by_receiver at s by c (Some v) = value_alike at s by c v

  on_receiver : (at : Site) (s : Store K) (by : InvokeKind) (c : CallMeaning) (values : List (Value K)) → option_and_then (on_value at s by c) (receiver values) ≡ option_and_then (on_value at (store_map f s) by c) (receiver (values_map f values))
  on_receiver at s by c values = by_receiver at s by c (receiver values) ∙ ap (λ (o : Option (Value L)). option_and_then (on_value at (store_map f s) by c) o) (sym (receiver_alike values))

  pub target_alike : (at : Site) (s : Store K) (by : InvokeKind) (c : CallMeaning) (values : List (Value K)) → target at s by c values ≡ target at (store_map f s) by c (values_map f values)
  unfolding target
  target_alike at s how.Static c values = refl
  target_alike at s how.Virtual c values = on_receiver at s how.Virtual c values
  target_alike at s how.Special c values = on_receiver at s how.Special c values
  target_alike at s how.Interface c values = on_receiver at s how.Interface c values
  target_alike at s how.Init c values = on_receiver at s how.Init c values

  -- ---- the operands of an `<init>`

  begun_alike : (w : World) (owner : Name) (o : Option (Object K)) → is_begun w owner o ≡ is_begun w owner (option_map (object_map f) o)
  begun_alike w owner None = refl
  begun_alike w owner (Some x) = ap (λ t. fits w t (types.Object owner)) (class_alike f w.named x)

  may_alike : (w : World) (s : Store K) (owner : Name) (v : Value K) → may_begin w s owner v ≡ may_begin w (store_map f s) owner (value_map f v)
  may_alike w s owner (Ref zero) = refl
  may_alike w s owner (Ref (suc n)) = begun_alike w owner (object_at s (suc n)) ∙ ap (is_begun w owner) (sym (named_alike f s (Ref (suc n))))
  may_alike w s owner (Int x) = refl
  may_alike w s owner (Long x) = refl
  may_alike w s owner (Ctx k) = refl

  abbrev if_begun : Bool → Taken L → Option (Taken L)
  if_begun b t = if b then Some t else None

  either_alike : (b : Bool) (t : Taken K) → option_map (taken_map f) (if b then Some t else None) ≡ if_begun b (taken_map f t)
  either_alike true t = refl
  either_alike false t = refl

  with_alike : (values : List (Value K)) (v : Value K) (operands : List (Value K)) → taken_map f (record { values = values ++ v ∷ []; below = operands }) ≡ record { values = values_map f values ++ value_map f v ∷ []; below = values_map f operands }
  with_alike values v operands = ap (λ (vs : List (Value L)). below_of vs) (map-append (value_map f) values (v ∷ []))
    where
      below_of : List (Value L) → Taken L
      below_of vs = record { values = vs; below = values_map f operands }

  on_begun : (w : World) (s : Store K) (owner : Name) (values operands : List (Value K)) → option_map (taken_map f) (begun_on w s owner values operands) ≡ begun_on w (store_map f s) owner (values_map f values) (values_map f operands)
  on_begun w s owner values [] = refl
  on_begun w s owner values (v ∷ operands) =
      either_alike (may_begin w s owner v) (record { values = values ++ v ∷ []; below = operands })
      ∙ ap (λ b. if_begun b (taken_map f (record { values = values ++ v ∷ []; below = operands }))) (may_alike w s owner v)
      ∙ ap (if_begun (may_begin w (store_map f s) owner (value_map f v))) (with_alike values v operands)

  on_taken : (w : World) (s : Store K) (owner : Name) (o : Option (Taken K)) → option_map (taken_map f) (option_and_then (λ t. begun_on w s owner t.values t.below) o) ≡ option_and_then (λ t. begun_on w (store_map f s) owner t.values t.below) (option_map (taken_map f) o)
  on_taken w s owner None = refl
  on_taken w s owner (Some t) = on_begun w s owner t.values t.below

  pub init_alike : (w : World) (s : Store K) (c : CallMeaning) (operands : List (Value K)) → option_map (taken_map f) (init_taken w s c operands) ≡ init_taken w (store_map f s) c (values_map f operands)
  unfolding init_taken
  init_alike w s c operands =
      on_taken w s c.owner (taken w s (arguments c) operands)
      ∙ ap (λ (o : Option (Taken L)). option_and_then (λ t. begun_on w (store_map f s) c.owner t.values t.below) o) (taken_alike f w s (arguments c) operands)

pub call_law : (K L : Type 0) → CallAlike K L
call_law K L f at s by c values = target_alike f at s by c values

pub init_law : (K L : Type 0) → InitTakesAlike K L
init_law K L f w s c operands = init_alike f w s c operands
