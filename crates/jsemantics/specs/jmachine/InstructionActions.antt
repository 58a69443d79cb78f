-- What each instruction does at the newest frame: what it takes, by the table of effects, and its row (JVMS 6.5).
use Rattle.std.specs.Prelude.{Bool, List, [], ◌∷◌, Option, Some, None, option_map, option_and_then}
use Rattle.jvalues.specs.declared.jnames.kinds.Kind.TheVariants as kinds
use Rattle.jlib.specs.declared.calls.LibCall.{LibCall}
use Rattle.jlib.specs.declared.calls.LibCall.TheVariants as calls
use Rattle.jvalues.specs.declared.jops.value.Value.{Value}
use Rattle.jparts.specs.declared.jcode.op_form.ArrayForm.{ArrayForm}
use Rattle.jparts.specs.declared.jcode.op_form.ArrayForm.TheVariants as arrays
use Rattle.jparts.specs.jcode.InstructionForms.{array_effect, returned, simple_effect}
use Rattle.jresolution.specs.declared.jprogram.member.Member.{Member}
use Rattle.jresolution.specs.declared.juses.meaning.InvokeKind.{InvokeKind}
use Rattle.jresolution.specs.declared.juses.meaning.InvokeKind.TheVariants as how
use Rattle.jresolution.specs.juses.IndexedInstructions.{Instruction, Simple, Local, Stack, Jump, Switch, Return, Throw, Array, Used}
use Rattle.jresolution.specs.juses.InstructionMeanings as meanings
use Rattle.jresolution.specs.juses.InstructionMeanings.{CallMeaning, Meaning}
use Rattle.jtyping.specs.jrule.ArrayRule.{operands}
use Rattle.jtyping.specs.jrule.StackEffects.{Want, Fits, Of, of_kinds}
use Rattle.jtyping.specs.jrule.BasicRule.{tested}
use Rattle.jtyping.specs.jrule.PoolEffects.{exchange, throwable}
use Rattle.jsemantics.specs.jmachine.MachineStates.{FrameOf, Row, Calls, free, gives, raises}
use Rattle.jsemantics.specs.jmachine.ArrayInstructions as array_rows
use Rattle.jsemantics.specs.jmachine.CallTargets.{Target, Fails, Pushes, Runs, init_taken, target}
use Rattle.jsemantics.specs.jmachine.FieldInstructions.{field}
use Rattle.jsemantics.specs.jmachine.FrameOperations.{with_held, with_operands}
use Rattle.jsemantics.specs.jmachine.LibraryCalls.{library}
use Rattle.jsemantics.specs.jmachine.ObjectInstructions.{cast, make, push}
use Rattle.jsemantics.specs.jmachine.TakenOperands.{Taken, taken}
use Rattle.jsemantics.specs.jmachine.AccessCallRows.{context_row, controller_row, rt_row, thread_row}
use Rattle.jsemantics.specs.jmachine.Security.{Rules}
use Rattle.jsemantics.specs.jmachine.InstructionSites.{Site}
use Rattle.jsemantics.specs.jmachine.Store.{Store}
use Rattle.jsemantics.specs.jmachine.BasicInstructions.{Held, holding, jump, leave, local, simple, stack, switch, throw}

-- the frame with its operands taken, and what is done with them
pub record Doing (K E : Type 0) : Type 0 where
  pub frame : FrameOf K E
  pub row : Row K E

-- what an array instruction takes
abbrev pub array_wants : ArrayForm → List Want
array_wants = elim [ arrays.Load e ↦ operands e (arrays.Load e) | arrays.Store e ↦ operands e (arrays.Store e) | f ↦ of_kinds (array_effect f).takes ]

module _ {K E : Type 0} (r : Rules K E) (at : Site) (own : Member → Bool) (s : Store K) (entries : List E) (inherited : Option K) where
  -- ---- calls

  abbrev pub run : LibCall → List (Value K) → Option (Row K E)
  run (calls.Controller call) values = controller_row r at s entries inherited call values
  run (calls.Rt call) values = rt_row r at s entries inherited call values
  run (calls.Thread call) values = thread_row r at s entries inherited call values
  run calls.ContextCheck values = context_row r at s entries inherited values
  run call values = library at s call values

  abbrev pub called : List (Value K) → Target → Option (Row K E)
  called values = elim [ Fails class ↦ Some (raises class) | Pushes m ↦ Some (free (Calls m values None)) | Runs call ↦ run call values ]

  abbrev pub call : InvokeKind → CallMeaning → List (Value K) → Option (Row K E)
  call by c values = option_and_then (called values) (target at s by c values)

  -- ---- operands

  abbrev pub with_row : FrameOf K E → (List (Value K) → Option (Row K E)) → Taken K → Option (Doing K E)
  with_row f row t = option_map (λ x. record { frame = with_operands f t.below; row = x }) (row t.values)

  abbrev pub by_taken : FrameOf K E → Option (Taken K) → (List (Value K) → Option (Row K E)) → Option (Doing K E)
  by_taken f t row = option_and_then (with_row f row) t

  abbrev pub by : FrameOf K E → List Want → (List (Value K) → Option (Row K E)) → Option (Doing K E)
  by f wants row = by_taken f (taken at.world s wants f.operands) row

  abbrev pub by_held : FrameOf K E → Option (Held K) → Option (Doing K E)
  by_held f h = option_map (λ x. record { frame = with_held f x; row = gives s [] }) h

  -- ---- instructions by an entry of the pool

  abbrev pub wants_of : Meaning → List Want
  wants_of m = (exchange own (at.world.named at.class) m).takes

  unfoldable pub used : Meaning → FrameOf K E → Option (Doing K E)
  used (meanings.Push c) f = by f (wants_of (meanings.Push c)) (push s c)
  used (meanings.Field op m) f = by f (wants_of (meanings.Field op m)) (field at.world s op m.member)
  used (meanings.Call how.Init c) f = by_taken f (init_taken at.world s c f.operands) (call how.Init c)
  used (meanings.Call way c) f = by f (wants_of (meanings.Call way c)) (call way c)
  used (meanings.Make c) f = by f (wants_of (meanings.Make c)) (make at.world s c)
  used (meanings.MakeArray t) f = by f (wants_of (meanings.MakeArray t)) (array_rows.make s t)
  used (meanings.Cast op t) f = by f (wants_of (meanings.Cast op t)) (cast at.world s op t)

  -- ---- all

  unfoldable pub doing : Instruction → FrameOf K E → Option (Doing K E)
  doing (Simple form) f = by f (of_kinds (simple_effect form).takes) (simple s form)
  doing (Local form) f = by_held f (local form (holding f.locals f.operands))
  doing (Stack op) f = by_held f (stack op (holding f.locals f.operands))
  doing (Jump test to) f = by f (of_kinds (tested test)) (jump s test to)
  doing (Switch cases other) f = by f (Of kinds.Int ∷ []) (switch cases other)
  doing (Return kind) f = by f (of_kinds (returned kind)) leave
  doing Throw f = by f (Fits throwable ∷ []) throw
  doing (Array form) f = by f (array_wants form) (array_rows.array at.world s form)
  doing (Used m) f = used m f
