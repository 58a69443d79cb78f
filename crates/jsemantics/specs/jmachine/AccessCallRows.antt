-- Rows of calls of the library that ask something of access control.
use Rattle.std.specs.Prelude.{ℕ, ℤ, List, [], ◌∷◌, length, Option, Some, None}
use Rattle.std.specs.Int.{w32, cast_unsigned}
use Rattle.jlib.specs.declared.calls.ControllerCall.{ControllerCall}
use Rattle.jlib.specs.declared.calls.ControllerCall.TheVariants as controller
use Rattle.jlib.specs.declared.calls.RtCall.{RtCall}
use Rattle.jlib.specs.declared.calls.RtCall.TheVariants as rt
use Rattle.jlib.specs.declared.calls.ThreadCall.{ThreadCall}
use Rattle.jlib.specs.declared.calls.ThreadCall.TheVariants as calls
use Rattle.jlib.specs.declared.side.Side.TheVariants.{Source, Passing}
use Rattle.jvalues.specs.declared.jops.value.Value.{Value}
use Rattle.jvalues.specs.declared.jops.value.Value.TheVariants.{Int, Ref, Ctx}
use Rattle.jsemantics.specs.jmachine.MachineStates.{Row, Goes, Makes, costs, free, gives, two}
use Rattle.jsemantics.specs.jmachine.HeapObjects.{Object, Context, Thread}
use Rattle.jsemantics.specs.jmachine.PrivilegeActions.{alone, limited, within}
use Rattle.jsemantics.specs.jmachine.Security.{Rules, checked, kept_in}
use Rattle.jsemantics.specs.jmachine.InstructionSites.{Site}
use Rattle.jsemantics.specs.jmachine.Store.{Store, next_number, object_at, with_made, with_object}
use Rattle.jsemantics.specs.jmachine.ThreadOperations.{thread}

-- an AccessControlContext that keeps this
abbrev pub context_made : {K E : Type 0} → Store K → K → Row K E
context_made s k = costs two (Goes (with_made s (Context (Some k))) (Ref (next_number s) ∷ []) [])

-- a domain as a moved method writes it
abbrev pub domain_of : ℤ → Option ℕ
domain_of d = Some (cast_unsigned w32 d)

-- a Thread object stands for a new thread
abbrev pub thread_made : {K E : Type 0} → Site → Store K → ℕ → ℕ → K → Option (Object K) → Option (Row K E)
thread_made at s n runnable kept (Some (Thread number)) = Some (free (Makes (with_object s n (Thread (Some (length at.table)))) runnable kept))
thread_made at s n runnable kept x = None

module _ {K E : Type 0} (r : Rules K E) (at : Site) (s : Store K) (entries : List E) (inherited : Option K) where
  -- the methods of AccessController
  unfoldable pub controller_row : ControllerCall → List (Value K) → Option (Row K E)
  controller_row controller.Check (v ∷ []) = checked at s (λ asked. r.check asked None entries inherited) v
  controller_row controller.Snapshot [] = Some (context_made s (r.snapshot None entries inherited))
  controller_row controller.Privileged (v ∷ []) = alone r at s entries None v
  controller_row controller.PrivilegedWith (context ∷ v ∷ []) = within r at s entries None context v
  controller_row controller.PrivilegedLimited (array ∷ context ∷ v ∷ []) = limited r at s entries None None array context v
  controller_row call values = None

  -- checkPermission of an AccessControlContext
  abbrev pub kept_checked : Value K → Option K → Option (Row K E)
  kept_checked v = elim [ None ↦ None | Some k ↦ checked at s (λ asked. r.check_kept asked k) v ]

  unfoldable pub context_row : List (Value K) → Option (Row K E)
  context_row (v ∷ Ref n ∷ []) = kept_checked v (kept_in (object_at s n))
  context_row values = None

  -- Thread, whose constructor keeps what the thread inherits
  unfoldable pub thread_row : ThreadCall → List (Value K) → Option (Row K E)
  thread_row (calls.Init Source) (Ref runnable ∷ Ref n ∷ []) = thread_made at s n runnable (r.inherit None entries inherited) (object_at s n)
  thread_row (calls.Init Passing) (Ctx k ∷ Ref runnable ∷ Ref n ∷ []) =
      thread_made at s n runnable (r.inherit (Some k) entries inherited) (object_at s n)
  thread_row call values = thread at s call values

  -- the methods of the passing side, which are given a context or a domain
  unfoldable pub rt_row : RtCall → List (Value K) → Option (Row K E)
  rt_row rt.Enter (Int d ∷ Ctx k ∷ []) = Some (gives s (Ctx (r.enter k (cast_unsigned w32 d)) ∷ []))
  rt_row rt.Check (Ctx k ∷ v ∷ []) = checked at s (λ asked. r.check asked (Some k) entries inherited) v
  rt_row rt.Snapshot (Ctx k ∷ []) = Some (context_made s (r.snapshot (Some k) entries inherited))
  rt_row rt.Privileged (Int d ∷ v ∷ []) = alone r at s entries (domain_of d) v
  rt_row rt.PrivilegedWith (Int d ∷ context ∷ v ∷ []) = within r at s entries (domain_of d) context v
  rt_row rt.PrivilegedLimited (Int d ∷ Ctx k ∷ array ∷ context ∷ v ∷ []) = limited r at s entries (domain_of d) (Some k) array context v
  rt_row call values = None
