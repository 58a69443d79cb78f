-- The same values, objects, stores and rows with other things in the place of what is kept and of what frames carry.
use Rattle.std.specs.Prelude.{List, map, Option}
use Rattle.std.specs.Option.{option_map}
use Rattle.jvalues.specs.declared.jops.value.Value.{Value}
use Rattle.jvalues.specs.declared.jops.value.Value.TheVariants.{Int, Long, Ref, Ctx}
use Rattle.jsemantics.specs.jmachine.HeapObjects.{Object, Instance, Thrown, Text, Builder, Piece, Permission, Context, Thread, Bare, Array}
use Rattle.jsemantics.specs.jmachine.Store.{Store}
use Rattle.jsemantics.specs.jmachine.MachineStates.{FrameOf, GuestOf, State, Outcome, Went, Over, NoStep, Act, Goes, Jumps, Leaves, Calls, Raises, Throws, Switches, Makes, Row}
use Rattle.jsemantics.specs.jmachine.TakenOperands.{Taken}
use Rattle.jsemantics.specs.jmachine.RunTraces.{Run}
use Rattle.jsemantics.specs.jmachine.Security.{Privilege}
use Rattle.jsemantics.specs.jmachine.BasicInstructions.{Held}

abbrev pub value_map : {K L : Type 0} → (K → L) → Value K → Value L
value_map f (Int x) = Int x
value_map f (Long x) = Long x
value_map f (Ref n) = Ref n
value_map f (Ctx k) = Ctx (f k)

abbrev pub values_map : {K L : Type 0} → (K → L) → List (Value K) → List (Value L)
values_map f values = map (value_map f) values

abbrev pub object_map : {K L : Type 0} → (K → L) → Object K → Object L
object_map f (Instance class message fields) = Instance class message (values_map f fields)
object_map f (Thrown c message) = Thrown c message
object_map f (Text units) = Text units
object_map f (Builder units) = Builder units
object_map f (Piece units) = Piece units
object_map f (Permission c held) = Permission c held
object_map f (Context kept) = Context (option_map f kept)
object_map f (Thread number) = Thread number
object_map f (Bare c) = Bare c
object_map f (Array a items) = Array a (values_map f items)

abbrev pub store_map : {K L : Type 0} → (K → L) → Store K → Store L
store_map f s = record { objects = map (object_map f) s.objects; statics = values_map f s.statics; constants = s.constants; left = s.left }

abbrev pub act_map : {K L E F : Type 0} → (K → L) → (E → F) → Act K E → Act L F
act_map f g (Goes s values events) = Goes (store_map f s) (values_map f values) events
act_map f g (Jumps to) = Jumps to
act_map f g (Leaves values) = Leaves (values_map f values)
act_map f g (Calls m arguments entry) = Calls m (values_map f arguments) (option_map g entry)
act_map f g (Raises events class message) = Raises events class message
act_map f g (Throws n) = Throws n
act_map f g (Switches table) = Switches table
act_map f g (Makes s runnable k) = Makes (store_map f s) runnable (f k)

abbrev pub row_map : {K L E F : Type 0} → (K → L) → (E → F) → Row K E → Row L F
row_map f g r = record { charge = r.charge; act = act_map f g r.act }

abbrev pub locals_map : {K L : Type 0} → (K → L) → List (Option (Value K)) → List (Option (Value L))
locals_map f locals = map (option_map (value_map f)) locals

abbrev pub held_map : {K L : Type 0} → (K → L) → Held K → Held L
held_map f h = record { locals = locals_map f h.locals; operands = values_map f h.operands }

abbrev pub taken_map : {K L : Type 0} → (K → L) → Taken K → Taken L
taken_map f t = record { values = values_map f t.values; below = values_map f t.below }

-- ---- states

abbrev pub frame_map : {K L E F : Type 0} → (K → L) → (E → F) → FrameOf K E → FrameOf L F
frame_map f g x = record { method = x.method; place = x.place; locals = locals_map f x.locals; operands = values_map f x.operands; entry = g x.entry }

abbrev pub frames_map : {K L E F : Type 0} → (K → L) → (E → F) → List (FrameOf K E) → List (FrameOf L F)
frames_map f g frames = map (frame_map f g) frames

abbrev pub guest_map : {K L E F : Type 0} → (K → L) → (E → F) → GuestOf K E → GuestOf L F
guest_map f g x = record { frames = frames_map f g x.frames; inherited = option_map f x.inherited; runnable = x.runnable; failed = x.failed }

abbrev pub state_map : {K L E F : Type 0} → (K → L) → (E → F) → State K E → State L F
state_map f g s = record {
  earlier = map (guest_map f g) s.earlier;
  running = guest_map f g s.running;
  later = map (guest_map f g) s.later;
  table = s.table;
  store = store_map f s.store;
  turns = s.turns;
}

abbrev pub outcome_map : {S T : Type 0} → (S → T) → Outcome S → Outcome T
outcome_map h (Went s events) = Went (h s) events
outcome_map h (Over s events end) = Over (h s) events end
outcome_map h NoStep = NoStep

abbrev pub run_map : {S T : Type 0} → (S → T) → Run S → Run T
run_map h r = record { state = h r.state; events = r.events; end = r.end }

abbrev pub privilege_map : {K L E F : Type 0} → (K → L) → (E → F) → Privilege K E → Privilege L F
privilege_map f g p = record { caller = g p.caller; context = option_map f p.context }
