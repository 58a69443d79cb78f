-- Rows of doPrivileged (class documentation of AccessController).
use Rattle.std.specs.Prelude.{ℕ, zero, List, [], ◌∷◌, ◌++◌, Option, Some, None, option_map, option_and_then, option_to_list}
use Rattle.jperm.specs.declared.permission.Permission as perms
use Rattle.jlib.specs.declared.calls.LibCall.TheVariants as calls
use Rattle.jlib.specs.declared.classes.LibClass.TheVariants as lib
use Rattle.jlib.specs.declared.side.Side.{Side}
use Rattle.jvalues.specs.declared.jops.value.Value.{Value}
use Rattle.jvalues.specs.declared.jops.value.Value.TheVariants.{Ref, Ctx}
use Rattle.jresolution.specs.declared.jprogram.member.Member.TheVariants.{LibMethod}
use Rattle.jresolution.specs.juses.InstructionMeanings.{CallMeaning}
use Rattle.jsemantics.specs.jmachine.MachineStates.{Row, Calls, free, raises, null}
use Rattle.jsemantics.specs.jmachine.ArrayInstructions.{items_in}
use Rattle.jsemantics.specs.jmachine.CallTargets.{Target, Fails, Pushes, Runs, by_interface}
use Rattle.jsemantics.specs.jmachine.HeapObjects.{Object, library_name}
use Rattle.jsemantics.specs.jmachine.Security.{Privilege, Rules, kept_in, permission_in}
use Rattle.jsemantics.specs.jmachine.InstructionSites.{Site}
use Rattle.jsemantics.specs.jmachine.Store.{Store, object_at}

-- ---- what is given with the action

-- a context; null adds no restriction
abbrev pub given : {K : Type 0} → Store K → Value K → Option (Option K)
given s (Ref zero) = Some None
given s (Ref n) = option_map Some (kept_in (object_at s n))
given s v = None

-- a permission, or null
abbrev pub limit : {K : Type 0} → Store K → Value K → Option (Option perms.Permission)
limit s (Ref zero) = Some None
limit s (Ref n) = option_map Some (permission_in (object_at s n))
limit s v = None

abbrev pub with_limit : Option (Option perms.Permission) → Option (Option (List perms.Permission)) → Option (Option (List perms.Permission))
with_limit None rest = None
with_limit (Some None) rest = Some None
with_limit (Some (Some p)) rest = option_map (option_map (λ ps. p ∷ ps)) rest

-- the permissions of an array, or null where one of its items is
unfoldable pub all_limits : {K : Type 0} → Store K → List (Value K) → Option (Option (List perms.Permission))
all_limits s [] = Some (Some [])
all_limits s (v ∷ values) = with_limit (limit s v) (all_limits s values)

-- of an array, or of null
abbrev pub limits : {K : Type 0} → Store K → Value K → Option (Option (List perms.Permission))
limits s (Ref zero) = Some None
limits s (Ref n) = option_and_then (λ x. all_limits s x.items) (items_in (object_at s n))
limits s v = None

-- ---- the action

abbrev pub run_action : Side → CallMeaning
run_action side = record { owner = library_name lib.PrivilegedAction; params = []; ret = None; member = LibMethod (calls.RunAction side) }

-- the frame that calls is marked, and `run` of the action is pushed
abbrev pub acting : {K E : Type 0} → ℕ → Privilege K E → Target → Option (Row K E)
acting n p (Fails class) = Some (raises class)
acting n p (Pushes m) = Some (free (Calls m (option_to_list (option_map Ctx p.context) ++ Ref n ∷ []) (Some p.caller)))
acting n p (Runs call) = None

abbrev pub acting_on : {K E : Type 0} → Site → Side → ℕ → Privilege K E → Option (Object K) → Option (Row K E)
acting_on at side n p y = elim y [ None ↦ None | Some x ↦ acting n p (by_interface at.world at.full (run_action side) x) ]

abbrev pub action : {K E : Type 0} → Site → Store K → Side → Value K → Privilege K E → Option (Row K E)
action at s side (Ref zero) p = Some null
action at s side (Ref n) p = acting_on at side n p (object_at s n)
action at s side v p = None

-- ---- the three forms; on the passing side the domain is told

module _ {K E : Type 0} (r : Rules K E) (at : Site) (s : Store K) (entries : List E) where
  abbrev pub privilege : Option ℕ → Option K → Option (List perms.Permission) → Value K → Option K → Option (Row K E)
  privilege domain ctx limited v context = action at s r.side v (r.privileged domain ctx context limited entries)

  abbrev pub alone : Option ℕ → Value K → Option (Row K E)
  alone domain v = privilege domain None None v None

  abbrev pub within : Option ℕ → Value K → Value K → Option (Row K E)
  within domain context v = option_and_then (privilege domain None None v) (given s context)

  abbrev pub limited_by : Option ℕ → Option K → Value K → Value K → Option (List perms.Permission) → Option (Row K E)
  limited_by domain ctx context v = elim [ None ↦ Some null | Some ps ↦ option_and_then (privilege domain ctx (Some ps) v) (given s context) ]

  -- an array that is null, and an item that is null, fail before the action does
  abbrev pub limited : Option ℕ → Option K → Value K → Value K → Value K → Option (Row K E)
  limited domain ctx array context v = option_and_then (limited_by domain ctx context v) (limits s array)
