-- Rows that ask, computed: what the inspecting machine and the plain one make of checks and of privileges.
use Rattle.std.proofs.Common.{◌≡◌, ℕ, pos, Bool, true, false, List, [], ◌∷◌, Option, Some, None, refl}
use Rattle.std.specs.Prelude.{codes, nat_lt}
use Rattle.jperm.specs.declared.permission.Permission.{Permission as Perm}
use Rattle.jperm.specs.declared.permission.Permission.TheVariants.{Property}
use Rattle.jdomain.specs.DomainStacks.{Stack, Bottom, Entry, Unmarked, Privileged, Nothing, Within, some_implies}
use Rattle.jctx.specs.declared.item.Item.{Item}
use Rattle.jctx.specs.ContextItems as items
use Rattle.jlib.specs.declared.calls.ControllerCall.TheVariants as controller
use Rattle.jlib.specs.declared.calls.RtCall.TheVariants as rt
use Rattle.jlib.specs.declared.classes.LibClass.TheVariants as lib
use Rattle.jlib.specs.declared.classes.PermissionClass.TheVariants as kinds
use Rattle.jlib.specs.declared.classes.Thrown.TheVariants as thrown
use Rattle.jvalues.specs.declared.jops.value.Value.TheVariants.{Int, Ref, Ctx}
use Rattle.jresolution.specs.declared.jprogram.member.Selected.TheVariants as selected
use Rattle.jresolution.specs.jprogram.MemberResolution.{method_id}
use Rattle.jthreads.specs.ThreadTables.{opened}
use Rattle.joutput.specs.declared.jtrace.event.Event.TheVariants.{Grant, Deny}
use Rattle.jtypes.specs.declared.vtype.Element.TheVariants as elements
use Rattle.jresolution.specs.juses.DescriptorTypes.{name}
use Rattle.jsemantics.specs.jmachine.MachineStates.{Row, Goes, Calls, Raises, free, costs, null}
use Rattle.jsemantics.specs.jmachine.AccessCallRows.{context_row, controller_row, rt_row}
use Rattle.jsemantics.specs.jmachine.PrivilegeActions.{all_limits}
use Rattle.jsemantics.specs.jmachine.HeapObjects.{Instance, Permission, Context, Array, library_name}
use Rattle.jsemantics.specs.jmachine.Security.{denial_message}
use Rattle.jsemantics.specs.jmachine.InstructionSites.{Site}
use Rattle.jsemantics.specs.jmachine.Store.{Store, with_made}
use Rattle.jsemantics.specs.jmachine.World.{World}
use Rattle.jsemantics.specs.jrules.InspectingRules as inspecting
use Rattle.jsemantics.specs.ProofNames.{unmarked}
use Rattle.jsemantics.specs.jrules.PlainRules as plain

-- ---- one class, whose objects are actions, and two domains besides domain 0, which has no permission

abbrev w : World
w = record {
  tree = record { is_interface = λ c. true; extends = λ c d. true };
  named = λ i. name (codes "Main");
  class = λ c. None;
  above = λ i. None;
  implements = λ c d. true;
  layout = λ i. [];
  slot = λ m. None;
  element = λ m. None;
  select = λ c m k. selected.Method (method_id 0 1);
  itself = λ m. selected.Missing;
  is_public = λ m. true;
}

abbrev at : Site
at = record { world = w; class = 0; thread = 0; full = false; cwd = []; table = opened }

abbrev has : ℕ → Perm → Bool
has d p = nat_lt 0 d

abbrev asked : Perm
asked = Property (codes "x") 1

-- a permission, an action, something kept, and an array of the permission, by their numbers 1 to 4
abbrev store : {K : Type 0} → K → Store K
store k = record {
  objects = Permission kinds.PropertyPermission (Some asked) ∷ Instance 0 0 [] ∷ Context (Some k) ∷ Array (record { depth = 1; element = elements.Class (library_name (lib.Permission kinds.Permission)) }) (Ref 1 ∷ []) ∷ [];
  statics = [];
  constants = [];
  left = 100;
}

-- ---- stacks

abbrev kept : Stack
kept = Entry 0 Unmarked Bottom

abbrev s : Store Stack
s = store kept

abbrev denied : {K E : Type 0} → Option (Row K E)
denied = Some (free (Raises (Deny 0 asked 0 ∷ []) lib.AccessControlException (Some (denial_message asked))))

abbrev granted : {K E : Type 0} → Store K → Option (Row K E)
granted s = Some (free (Goes s [] (Grant 0 asked ∷ [])))

-- the caller's domain denies
caller_denies : controller_row (inspecting.rules has) at s (unmarked 1 ∷ unmarked 0 ∷ []) None controller.Check (Ref 1 ∷ []) ≡ denied
unfolding controller_row inspecting.rules
caller_denies = refl

-- so does what the thread inherited
inherited_denies : controller_row (inspecting.rules has) at s (unmarked 1 ∷ []) (Some kept) controller.Check (Ref 1 ∷ []) ≡ denied
unfolding controller_row inspecting.rules
inherited_denies = refl

-- behind a privilege nobody is asked
privilege_grants : controller_row (inspecting.rules has) at s (unmarked 1 ∷ inspecting.marked (Privileged Nothing None) (unmarked 2 ∷ []) ∷ unmarked 0 ∷ []) None controller.Check (Ref 1 ∷ []) ≡ granted s
unfolding controller_row inspecting.rules
privilege_grants = refl

-- but what was given with it is
given_denies : controller_row (inspecting.rules has) at s (inspecting.marked (Privileged (Within kept) None) (unmarked 2 ∷ []) ∷ []) None controller.Check (Ref 1 ∷ []) ≡ denied
unfolding controller_row inspecting.rules
given_denies = refl

-- a check of what an object keeps asks the stack that it keeps
held_denies : context_row (inspecting.rules has) at s (unmarked 1 ∷ []) None (Ref 1 ∷ Ref 3 ∷ []) ≡ denied
unfolding context_row inspecting.rules
held_denies = refl

-- what is kept is the whole stack
keeps_all : controller_row (inspecting.rules has) at s (unmarked 1 ∷ []) (Some kept) controller.Snapshot []
    ≡ Some (costs 2 (Goes (with_made s (Context (Some (Entry 1 Unmarked kept)))) (Ref 5 ∷ []) []))
unfolding controller_row inspecting.rules
keeps_all = refl

-- ---- privileges

-- the frame that calls is marked, and `run` is pushed
acts : controller_row (inspecting.rules has) at s (unmarked 1 ∷ []) None controller.Privileged (Ref 2 ∷ [])
    ≡ Some (free (Calls (method_id 0 1) (Ref 2 ∷ []) (Some (inspecting.marked (Privileged Nothing None) (unmarked 1 ∷ [])))))
unfolding controller_row inspecting.rules
acts = refl

acts_within : controller_row (inspecting.rules has) at s (unmarked 1 ∷ []) None controller.PrivilegedLimited (Ref 4 ∷ Ref 3 ∷ Ref 2 ∷ [])
    ≡ Some (free (Calls (method_id 0 1) (Ref 2 ∷ []) (Some (inspecting.marked (Privileged (Within kept) (Some (asked ∷ []))) (unmarked 1 ∷ [])))))
unfolding controller_row inspecting.rules all_limits
acts_within = refl

-- an action that is null, and an array that is null
null_action : controller_row (inspecting.rules has) at s (unmarked 1 ∷ []) None controller.PrivilegedWith (Ref 0 ∷ Ref 0 ∷ []) ≡ Some null
unfolding controller_row inspecting.rules
null_action = refl

null_array : controller_row (inspecting.rules has) at s (unmarked 1 ∷ []) None controller.PrivilegedLimited (Ref 0 ∷ Ref 0 ∷ Ref 2 ∷ []) ≡ Some null
unfolding controller_row inspecting.rules
null_array = refl

-- ---- contexts

abbrev only : List Item
only = items.plain 0 ∷ []

abbrev t : Store (List Item)
t = store only

enters : rt_row (plain.rules has) at t (tt ∷ []) None rt.Enter (Int (pos 1) ∷ Ctx only ∷ []) ≡ Some (free (Goes t (Ctx (items.plain 1 ∷ items.plain 0 ∷ []) ∷ []) []))
unfolding rt_row plain.rules
enters = refl

context_denies : rt_row (plain.rules has) at t (tt ∷ []) None rt.Check (Ctx (items.plain 1 ∷ items.plain 0 ∷ []) ∷ Ref 1 ∷ []) ≡ denied
unfolding rt_row plain.rules some_implies
context_denies = refl

-- the action is given a context of the domain alone,
context_acts : rt_row (plain.rules has) at t (tt ∷ []) None rt.Privileged (Int (pos 1) ∷ Ref 2 ∷ []) ≡ Some (free (Calls (method_id 0 1) (Ctx (items.plain 1 ∷ []) ∷ Ref 2 ∷ []) (Some tt)))
unfolding rt_row plain.rules
context_acts = refl

-- or with what was given
context_acts_within : rt_row (plain.rules has) at t (tt ∷ []) None rt.PrivilegedWith (Int (pos 1) ∷ Ref 3 ∷ Ref 2 ∷ []) ≡ Some (free (Calls (method_id 0 1) (Ctx (items.plain 1 ∷ items.plain 0 ∷ []) ∷ Ref 2 ∷ []) (Some tt)))
unfolding rt_row plain.rules
context_acts_within = refl

-- and with limits what the method was given too, each item under them
context_acts_limited : rt_row (plain.rules has) at t (tt ∷ []) None rt.PrivilegedLimited (Int (pos 1) ∷ Ctx only ∷ Ref 4 ∷ Ref 0 ∷ Ref 2 ∷ [])
    ≡ Some (free (Calls (method_id 0 1) (Ctx (items.plain 1 ∷ items.with_limits (asked ∷ []) (items.plain 0) ∷ []) ∷ Ref 2 ∷ []) (Some tt)))
unfolding rt_row plain.rules all_limits
context_acts_limited = refl
