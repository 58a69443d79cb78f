-- What a machine does for access control (class documentation of AccessController), and checks of permissions. The inspecting machine and
-- the plain one differ in these rules alone.
use Rattle.std.specs.Prelude.{ℕ, zero, List, [], ◌∷◌, ◌++◌, Option, Some, None, option_map, codes}
use Rattle.jperm.specs.declared.permission.Permission as perms
use Rattle.jperm.specs.PermissionTexts.{text_of}
use Rattle.jdomain.specs.declared.verdict.Verdict.{Verdict}
use Rattle.jdomain.specs.declared.verdict.Verdict.TheVariants.{Granted, Denied}
use Rattle.jlib.specs.declared.side.Side.{Side}
use Rattle.jlib.specs.declared.side.Side.TheVariants.{Passing}
use Rattle.jlib.specs.declared.classes.LibClass.TheVariants as lib
use Rattle.jvalues.specs.declared.jops.value.Value.{Value}
use Rattle.jvalues.specs.declared.jops.value.Value.TheVariants.{Ref, Ctx}
use Rattle.joutput.specs.declared.jtrace.event.Event.TheVariants.{Grant, Deny}
use Rattle.jsemantics.specs.jmachine.HeapObjects.{Object, Permission, Context}
use Rattle.jsemantics.specs.jmachine.Store.{Store, object_at}
use Rattle.jsemantics.specs.jmachine.MachineStates.{Row, Goes, Raises, free, null}
use Rattle.jsemantics.specs.jmachine.InstructionSites.{Site}

-- ---- rules

-- what becomes of a privilege: what the frame that calls carries from now on, and the context that the action is given
pub record Privilege (K E : Type 0) : Type 0 where
  pub caller : E
  pub context : Option K

-- `K` is what is kept, and `E` what a frame carries. An answer is told the context that the call was given, on the passing side, what the
-- thread's frames carry, the newest first, and what the thread inherited.
pub record Rules (K E : Type 0) : Type 0 where
  -- the library that the programs are written for
  pub side : Side
  -- what a frame of a method of a domain carries
  pub entry_of : ℕ → E
  -- the context that `main` is given
  pub first : Option K
  -- the context of a method of a domain that was called with a context
  pub enter : K → ℕ → K
  pub check : perms.Permission → Option K → List E → Option K → Verdict
  -- a check of what is kept
  pub check_kept : perms.Permission → K → Verdict
  -- what getContext keeps
  pub snapshot : Option K → List E → Option K → K
  -- what a thread keeps that is made
  pub inherit : Option K → List E → Option K → K
  -- a privilege of the frame that calls: its domain, where that is told, the context that the call was given, the one that is given with the
  -- action, and limits
  pub privileged : Option ℕ → Option K → Option K → Option (List perms.Permission) → List E → Privilege K E

-- what a method is given besides its arguments
abbrev pub handed : {K : Type 0} → Side → Option K → List (Value K)
handed Passing (Some k) = Ctx k ∷ []
handed side kept = []

-- ---- checks

-- the message of the exception of a denied check
abbrev pub denial_message : perms.Permission → List ℕ
denial_message asked = codes "access denied " ++ text_of asked

abbrev pub judged : {K E : Type 0} → Store K → ℕ → perms.Permission → Verdict → Row K E
judged s thread asked Granted = free (Goes s [] (Grant thread asked ∷ []))
judged s thread asked (Denied domain) = free (Raises (Deny thread asked domain ∷ []) lib.AccessControlException (Some (denial_message asked)))

-- the permission that an object holds
abbrev pub permission_in : {K : Type 0} → Option (Object K) → Option perms.Permission
permission_in (Some (Permission c held)) = held
permission_in x = None

-- what an AccessControlContext keeps
abbrev pub kept_in : {K : Type 0} → Option (Object K) → Option K
kept_in (Some (Context kept)) = kept
kept_in x = None

-- a check that is decided so; null fails before anything is asked
abbrev pub checked : {K E : Type 0} → Site → Store K → (perms.Permission → Verdict) → Value K → Option (Row K E)
checked at s verdict (Ref zero) = Some null
checked at s verdict (Ref n) = option_map (λ asked. judged s at.thread asked (verdict asked)) (permission_in (object_at s n))
checked at s verdict v = None
