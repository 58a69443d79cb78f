-- What calls ask of which the operands tell a context: of a method of a domain that is entered, and of getContext.
use Rattle.std.specs.Prelude.{◌≡◌, ℕ, Bool, List, [], ◌∷◌, Option, Some, None, option_map, option_and_then}
use Rattle.jlib.specs.declared.calls.ControllerCall.TheVariants as controller
use Rattle.jlib.specs.declared.calls.LibCall.{LibCall}
use Rattle.jlib.specs.declared.calls.LibCall.TheVariants as calls
use Rattle.jlib.specs.declared.calls.RtCall.TheVariants as rt
use Rattle.jlib.specs.declared.side.Side.{Side}
use Rattle.jlib.specs.declared.side.Side.TheVariants.{Source, Passing}
use Rattle.jvalues.specs.declared.jops.value.Value.{Value}
use Rattle.jvalues.specs.declared.jops.value.Value.TheVariants.{Ctx}
use Rattle.jresolution.specs.declared.jprogram.member.Member.{Member}
use Rattle.jsemantics.specs.jmachine.MachineStates.{gives}
use Rattle.jsemantics.specs.jmachine.AccessQueries.{Enters, Snapshots, run_asks}
use Rattle.jsemantics.specs.jmachine.AccessCallRows.{context_made}
use Rattle.jsemantics.specs.jmachine.InstructionActions.{run}
use Rattle.jsemantics.specs.jmachine.Security.{Rules}
use Rattle.jsemantics.specs.jmachine.InstructionSites.{Site}
use Rattle.jsemantics.specs.jmachine.Store.{Store}
use Rattle.jlibcalls.specs.declared.jcontexts.entering.Entering.{Entering}
use Rattle.jlibcalls.specs.jcontexts.PrivilegeRequests.{context_in, domain_in}

-- ---- a method of a domain is entered

abbrev pub entering_by : Value ℕ → ℕ → Option Entering
entering_by k n = option_map (λ c. record { ctx = c; domain = n }) (context_in k)

-- what the operands of the call tell, the newest first
abbrev pub entering_with : List (Value ℕ) → Option Entering
entering_with (d ∷ k ∷ []) = option_and_then (entering_by k) (domain_in d)
entering_with values = None

-- This is what a call with these operands asks, and its row gives what rules answer.
pub record EntersWith (E : Type 0) (values : List (Value ℕ)) (found : Option Entering) : Type 0 where
  pub row : (r : Rules ℕ E) (at : Site) (own : Member → Bool) (s : Store ℕ) (entries : List E) (inherited : Option ℕ)
      → run r at own s entries inherited (calls.Rt rt.Enter) values ≡ option_map (λ e. gives s (Ctx (r.enter e.ctx e.domain) ∷ [])) found
  pub asked : (side : Side) (at : Site) (s : Store ℕ) → run_asks side at s (calls.Rt rt.Enter) values ≡ option_map (λ e. Enters e.ctx e.domain) found

-- ---- getContext

abbrev pub snapshot_call : Side → LibCall
snapshot_call Source = calls.Controller controller.Snapshot
snapshot_call Passing = calls.Rt rt.Snapshot

-- the context that the call was given, on the passing side
abbrev pub snapshot_with : Side → List (Value ℕ) → Option (Option ℕ)
snapshot_with Source [] = Some None
snapshot_with Passing (k ∷ []) = option_map Some (context_in k)
snapshot_with side values = None

pub record SnapshotsWith (E : Type 0) (call_side : Side) (values : List (Value ℕ)) (found : Option (Option ℕ)) : Type 0 where
  pub row : (r : Rules ℕ E) (at : Site) (own : Member → Bool) (s : Store ℕ) (entries : List E) (inherited : Option ℕ)
      → run r at own s entries inherited (snapshot_call call_side) values
      ≡ option_map (λ ctx. context_made s (r.snapshot ctx entries inherited)) found
  pub asked : (side : Side) (at : Site) (s : Store ℕ) → run_asks side at s (snapshot_call call_side) values ≡ option_map Snapshots found
