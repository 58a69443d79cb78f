-- The contexts that stand in a state of a machine: in the locals and operands of all frames, in what threads inherited, and in what objects
-- and statics hold. `K` is what stands for a security context.
use Rattle.std.specs.Prelude.{List, [], ◌∷◌, ◌++◌, Option, Some, None}
use Rattle.std.specs.List.{flat_map}
use Rattle.std.specs.Option.{option_to_list}
use Rattle.jvalues.specs.declared.jops.value.Value.{Value}
use Rattle.jvalues.specs.declared.jops.value.Value.TheVariants.{Ctx}
use Rattle.jsemantics.specs.jmachine.MachineStates.{FrameOf, GuestOf, State}
use Rattle.jsemantics.specs.jmachine.HeapObjects.{Object, Instance, Context, Array}
use Rattle.jsemantics.specs.jmachine.Store.{Store}
use Rattle.jsemantics.specs.jmachine.ThreadTurns.{guests}

module _ {K : Type 0} where
  abbrev pub of_value : Value K → List K
  of_value (Ctx k) = k ∷ []
  of_value v = []

  abbrev pub of_values : List (Value K) → List K
  of_values values = flat_map of_value values

  -- of a local, which may hold nothing
  abbrev pub of_local : Option (Value K) → List K
  of_local None = []
  of_local (Some v) = of_value v

  -- an object holds its fields, an array its items, and an AccessControlContext what it keeps
  abbrev pub of_object : Object K → List K
  of_object (Instance class message fields) = of_values fields
  of_object (Array a items) = of_values items
  of_object (Context kept) = option_to_list kept
  of_object x = []

  abbrev pub of_store : Store K → List K
  of_store s = flat_map of_object s.objects ++ of_values s.statics

  abbrev pub of_frame : {E : Type 0} → FrameOf K E → List K
  of_frame f = flat_map of_local f.locals ++ of_values f.operands

  abbrev pub of_guest : {E : Type 0} → GuestOf K E → List K
  of_guest g = flat_map of_frame g.frames ++ option_to_list g.inherited

  abbrev pub contexts : {E : Type 0} → State K E → List K
  contexts s = flat_map of_guest (guests s) ++ of_store s.store
