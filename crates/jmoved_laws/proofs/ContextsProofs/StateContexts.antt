-- Where each context of a state was made so that something holds of it, it holds of all that stand in the state.
use Rattle.std.proofs.Common.{List, [], ◌∷◌, ◌++◌, map, Option, Some, None, option_map}
use Rattle.std.specs.List.{AllByRecursion, flat_map}
use Rattle.std.specs.Option.{option_to_list}
use Rattle.jvalues.specs.declared.jops.value.Value.{Value}
use Rattle.jvalues.specs.declared.jops.value.Value.TheVariants.{Int, Long, Ref, Ctx}
use Rattle.jsemantics.specs.jmachine.MachineStates.{FrameOf, GuestOf, State}
use Rattle.jsemantics.specs.jmachine.StateMaps.{frame_map, frames_map, guest_map, locals_map, object_map, state_map, store_map, value_map, values_map}
use Rattle.jsemantics.specs.jmachine.HeapObjects.{Object, Instance, Thrown, Text, Builder, Piece, Permission, Context, Thread, Bare, Array}
use Rattle.jsemantics.specs.jmachine.Store.{Store}
use Rattle.jmoved_laws.specs.contexts.StateContexts.{contexts, of_frame, of_guest, of_local, of_object, of_store, of_value, of_values}
use Rattle.jmoved_laws.proofs.ContextsProofs.FrameInvariant.{all_both}

module _ {K L E F : Type 0} (f : K → L) (g : E → F) (P : L → Type 0) (holds : (k : K) → P (f k)) where
  abbrev All : List L → Type 0
  All ks = AllByRecursion P ks

  of_one : (v : Value K) → All (of_value (value_map f v))
  of_one (Int x) = tt
  of_one (Long x) = tt
  of_one (Ref n) = tt
  of_one (Ctx k) = (holds k, tt)

  of_all : (values : List (Value K)) → All (of_values (values_map f values))
  of_all [] = tt
  of_all (v ∷ values) = all_both P (of_value (value_map f v)) (of_values (values_map f values)) (of_one v) (of_all values)

  of_local_all : (v : Option (Value K)) → All (of_local (option_map (value_map f) v))
  of_local_all None = tt
  of_local_all (Some v) = of_one v

  of_locals : (locals : List (Option (Value K))) → All (flat_map of_local (locals_map f locals))
  of_locals [] = tt
  of_locals (v ∷ locals) = all_both P (of_local (option_map (value_map f) v)) (flat_map of_local (locals_map f locals)) (of_local_all v) (of_locals locals)

  of_kept : (o : Option K) → All (option_to_list (option_map f o))
  of_kept None = tt
  of_kept (Some k) = (holds k, tt)

  of_object_all : (x : Object K) → All (of_object (object_map f x))
  of_object_all (Instance class message fields) = of_all fields
  of_object_all (Thrown c message) = tt
  of_object_all (Text units) = tt
  of_object_all (Builder units) = tt
  of_object_all (Piece units) = tt
  of_object_all (Permission c held) = tt
  of_object_all (Context kept) = of_kept kept
  of_object_all (Thread number) = tt
  of_object_all (Bare c) = tt
  of_object_all (Array a items) = of_all items

  of_objects : (xs : List (Object K)) → All (flat_map of_object (map (object_map f) xs))
  of_objects [] = tt
  of_objects (x ∷ xs) = all_both P (of_object (object_map f x)) (flat_map of_object (map (object_map f) xs)) (of_object_all x) (of_objects xs)

  of_store_all : (s : Store K) → All (of_store (store_map f s))
  of_store_all s = all_both P (flat_map of_object (map (object_map f) s.objects)) (of_values (values_map f s.statics)) (of_objects s.objects) (of_all s.statics)

  of_frame_all : (x : FrameOf K E) → All (of_frame (frame_map f g x))
  of_frame_all x = all_both P (flat_map of_local (locals_map f x.locals)) (of_values (values_map f x.operands)) (of_locals x.locals) (of_all x.operands)

  of_frames : (xs : List (FrameOf K E)) → All (flat_map of_frame (frames_map f g xs))
  of_frames [] = tt
  of_frames (x ∷ xs) = all_both P (of_frame (frame_map f g x)) (flat_map of_frame (frames_map f g xs)) (of_frame_all x) (of_frames xs)

  of_guest_all : (x : GuestOf K E) → All (of_guest (guest_map f g x))
  of_guest_all x = all_both P (flat_map of_frame (frames_map f g x.frames)) (option_to_list (option_map f x.inherited)) (of_frames x.frames) (of_kept x.inherited)

  -- threads in front of others
  of_guests : (xs : List (GuestOf K E)) (ys : List (GuestOf L F)) → All (flat_map of_guest ys) → All (flat_map of_guest (map (guest_map f g) xs ++ ys))
  of_guests [] ys h = h
  of_guests (x ∷ xs) ys h = all_both P (of_guest (guest_map f g x)) (flat_map of_guest (map (guest_map f g) xs ++ ys)) (of_guest_all x) (of_guests xs ys h)

  of_later : (xs : List (GuestOf K E)) → All (flat_map of_guest (map (guest_map f g) xs))
  of_later [] = tt
  of_later (x ∷ xs) = all_both P (of_guest (guest_map f g x)) (flat_map of_guest (map (guest_map f g) xs)) (of_guest_all x) (of_later xs)

  pub contexts_all : (s : State K E) → All (contexts (state_map f g s))
  contexts_all s =
      all_both P _ (of_store (store_map f s.store))
      (of_guests s.earlier (guest_map f g s.running ∷ map (guest_map f g) s.later)
      (all_both P (of_guest (guest_map f g s.running)) (flat_map of_guest (map (guest_map f g) s.later)) (of_guest_all s.running) (of_later s.later)))
      (of_store_all s.store)
