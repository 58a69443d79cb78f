-- What a call of doPrivileged asks, and what its step comes to by what is answered (class documentation of AccessController).
use Rattle.std.specs.Prelude.{◌≡◌, ℕ, Bool, List, Option, Some, None, option_map, option_and_then}
use Rattle.jperm.specs.declared.permission.Permission as perms
use Rattle.jmemory.specs.jheap.Heaps.{Heaped}
use Rattle.jlib.specs.declared.side.Side.{Side}
use Rattle.jvalues.specs.declared.jops.value.Value.{Value}
use Rattle.jresolution.specs.declared.jprogram.member.Member.{Member}
use Rattle.jresolution.specs.jprogram.ProgramClasses.{Program}
use Rattle.jsemantics.specs.jmachine.MachineStates.{Row, null}
use Rattle.jsemantics.specs.jmachine.AccessQueries.{Ask, Privileges, privileges, privileges_by, privileges_limited, privileges_within, run_asks, where_run}
use Rattle.jsemantics.specs.jmachine.CallTargets.{Target, by_interface}
use Rattle.jsemantics.specs.jmachine.InstructionActions.{run}
use Rattle.jsemantics.specs.jmachine.PrivilegeActions.{acting, alone, given, limited, limited_by, privilege, run_action, within}
use Rattle.jsemantics.specs.jmachine.Security.{Rules}
use Rattle.jsemantics.specs.jmachine.InstructionSites.{Site}
use Rattle.jsemantics.specs.jmachine.Store.{Store, object_at}
use Rattle.jruntime.specs.declared.jstate.shapes.Shapes.{Shapes}
use Rattle.jruntime.specs.jstate.HeapMeanings.{Things, store_by}
use Rattle.jlibcalls.specs.declared.jcontexts.requests.PrivilegedForm.{PrivilegedForm}
use Rattle.jlibcalls.specs.declared.jcontexts.requests.Besides.{Besides}
use Rattle.jlibcalls.specs.declared.jcontexts.requests.Besides.TheVariants as besides
use Rattle.jlibcalls.specs.declared.jcontexts.requests.Request.{Request}
use Rattle.jlibcalls.specs.declared.jcontexts.wanting.Privileging.{Privileging}
use Rattle.jlibcalls.specs.declared.jcontexts.wanting.Privileging.TheVariants as found
use Rattle.jlibcalls.specs.jcontexts.PrivilegeRequests.{call_of}

-- what a call of the action's `run` comes to, if it is an object
abbrev pub run_on : Site → Store ℕ → Side → ℕ → Option Target
run_on at s side n = option_map (by_interface at.world at.full (run_action side)) (object_at s n)

-- ---- what was found

-- the row: what null raises, none, or that of the action's call with what rules say of the privilege
abbrev pub wanted_row : {E : Type 0} → Rules ℕ E → Site → Store ℕ → List E → Privileging → Option (Row ℕ E)
wanted_row r at s entries found.Null = Some null
wanted_row r at s entries found.Stuck = None
wanted_row r at s entries (found.Asks w) = option_and_then (acting w.action (r.privileged w.domain w.ctx w.given w.limits entries))
    (run_on at s r.side w.action)

-- what is asked: the privilege, where `run` is called
abbrev pub wanted_asks : Side → Site → Store ℕ → Privileging → Option (Ask ℕ)
wanted_asks side at s found.Null = None
wanted_asks side at s found.Stuck = None
wanted_asks side at s (found.Asks w) = where_run side at s (Privileges w.domain w.ctx w.given w.limits) (run_on at s side w.action)

-- This was found of what has such a row and asks this.
pub record Wants (E : Type 0) (s : Store ℕ) (rows : Rules ℕ E → Site → List E → Option (Row ℕ E)) (asks : Side → Site → Option (Ask ℕ))
    (w : Privileging) : Type 0 where
  pub row : (r : Rules ℕ E) (at : Site) (entries : List E) → rows r at entries ≡ wanted_row r at s entries w
  pub asked : (side : Side) (at : Site) → asks side at ≡ wanted_asks side at s w

-- ---- what is asked for, from the action to the request

module _ (E : Type 0) (s : Store ℕ) (domain ctx : Option ℕ) where
  abbrev pub WantsAction : Option (List perms.Permission) → Value ℕ → Option ℕ → Privileging → Type 0
  WantsAction limits v context w =
      Wants E s (λ r at entries. privilege r at s entries domain ctx limits v context) (λ side at. privileges side at s domain ctx limits v context) w

  abbrev pub WantsWithin : Option (List perms.Permission) → Value ℕ → Value ℕ → Privileging → Type 0
  WantsWithin limits context v w =
      Wants E s (λ r at entries. option_and_then (privilege r at s entries domain ctx limits v) (given s context))
      (λ side at. privileges_within side at s domain ctx limits context v) w

  -- by what an array of permissions is
  abbrev pub WantsBy : Option (Option (List perms.Permission)) → Value ℕ → Value ℕ → Privileging → Type 0
  WantsBy limits context v w =
      Wants E s (λ r at entries. option_and_then (limited_by r at s entries domain ctx context v) limits)
      (λ side at. option_and_then (privileges_by side at s domain ctx context v) limits) w

abbrev pub row_with : {E : Type 0} → Rules ℕ E → Site → Store ℕ → List E → Option ℕ → Value ℕ → Besides → Option (Row ℕ E)
row_with r at s entries domain v besides.Nothing = alone r at s entries domain v
row_with r at s entries domain v (besides.Context context) = within r at s entries domain context v
row_with r at s entries domain v (besides.Limits ctx array context) = limited r at s entries domain ctx array context v

abbrev pub request_row : {E : Type 0} → Rules ℕ E → Site → Store ℕ → List E → Request → Option (Row ℕ E)
request_row r at s entries q = row_with r at s entries q.domain q.action q.besides

abbrev pub asks_with : Side → Site → Store ℕ → Option ℕ → Value ℕ → Besides → Option (Ask ℕ)
asks_with side at s domain v besides.Nothing = privileges side at s domain None None v None
asks_with side at s domain v (besides.Context context) = privileges_within side at s domain None None context v
asks_with side at s domain v (besides.Limits ctx array context) = privileges_limited side at s domain ctx array context v

abbrev pub request_asks : Side → Site → Store ℕ → Request → Option (Ask ℕ)
request_asks side at s q = asks_with side at s q.domain q.action q.besides

abbrev pub WantsRequest : Type 0 → Store ℕ → Request → Privileging → Type 0
WantsRequest E s q w = Wants E s (λ r at entries. request_row r at s entries q) (λ side at. request_asks side at s q) w

-- ---- calls

-- This was found of a call of a form on a side, with these operands, in a store, whatever the rules are.
pub record Finds (E : Type 0) (call_side : Side) (form : PrivilegedForm) (values : List (Value ℕ)) (s : Store ℕ) (w : Privileging) : Type 0 where
  pub row : (r : Rules ℕ E) (at : Site) (own : Member → Bool) (entries : List E) (inherited : Option ℕ)
      → run r at own s entries inherited (call_of call_side form) values ≡ wanted_row r at s entries w
  pub asked : (side : Side) (at : Site) → run_asks side at s (call_of call_side form) values ≡ wanted_asks side at s w

-- So it was of these operands by numbers, where these permissions and numbers are kept.
abbrev pub FindsBy : Type 0 → Side → PrivilegedForm → List perms.Permission → List ℕ → Shapes → Heaped → List (Value ℕ) → Privileging → Type 0
FindsBy E side form permissions kept shapes h values w = (p : Program) (things : Things) (constants : List (List ℕ × ℕ))
    → things.permissions ≡ permissions → things.kept ≡ kept → Finds E side form values (store_by p shapes things constants h) w
