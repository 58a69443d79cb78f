-- What calls ask whose answer is a context or a privilege: getContext, the entering of a method of a domain, and doPrivileged (class documentation of
-- AccessController).
use Rattle.std.specs.Prelude.{◌≡◌, ⊤, ℕ, Bool, ◌∷◌, [], Option, Some, length, nat_le, option_map}
use Rattle.jlib.specs.declared.calls.ControllerCall.TheVariants as controller
use Rattle.jlib.specs.declared.calls.LibCall.{LibCall}
use Rattle.jlib.specs.declared.calls.LibCall.TheVariants as calls
use Rattle.jlib.specs.declared.calls.RtCall.TheVariants as rt
use Rattle.jlib.specs.declared.classes.LibClass.TheVariants as lib
use Rattle.jvalues.specs.declared.jops.value.Value.TheVariants.{Ctx}
use Rattle.jsemantics.specs.jmachine.MachineStates.{gives}
use Rattle.jsemantics.specs.jmachine.AccessQueries.{Ask, Enters, Privileges, Snapshots, carried}
use Rattle.jsemantics.specs.jmachine.AccessCallRows.{context_made}
use Rattle.jruntime.specs.jstate.FrameLists.{Framed, all}
use Rattle.jserving.specs.declared.jinvoke.faces.Target.{Target}
use Rattle.jserving.specs.jinvoke.InterfaceCalls.{FaceTarget}
use Rattle.jlibcalls.specs.declared.jcontexts.entering.Entering.{Entering}
use Rattle.jlibcalls.specs.declared.jcontexts.wanting.Privileging.{Privileging}
use Rattle.jlibcalls.specs.declared.jcontexts.wanting.Wanted.{Wanted}
use Rattle.jlibcalls.specs.jcontexts.PrivilegeCalls.{wanted_asks, wanted_row}
use Rattle.jstepping.specs.declared.jcore.machine.Machine.{Machine}
use Rattle.jstepping.specs.jcore.MachineInvariants.{state_of, store_of}
use Rattle.jcalling.specs.jcallcontext.ContextCallRows.{IsAsking, here}

-- ---- getContext

-- AccessController's getContext, on either side
abbrev pub IsSnapshot : LibCall → Type 0
IsSnapshot (calls.Controller controller.Snapshot) = ⊤
IsSnapshot (calls.Rt rt.Snapshot) = ⊤
IsSnapshot call = ⊥

-- The call asks what is kept, with the context that it was given, if it was, and makes an AccessControlContext that keeps it; or there is no step.
abbrev pub FoundSnapshot : {E : Type 0} → Machine E → LibCall → (count : ℕ) → Option (Option ℕ) → Type 0
FoundSnapshot {E} m call count found = (f : Framed E) → m.guests.running.frames ≡ Some f
    → IsAsking m f call count (option_map Snapshots found)
    (λ r. option_map (λ ctx. context_made (store_of m) (r.snapshot ctx (carried (state_of m)) m.guests.running.inherited)) found)

-- ---- a method of a domain is entered

-- The call asks for the context of the method, and gives it.
abbrev pub FoundEntering : {E : Type 0} → Machine E → (count : ℕ) → Option Entering → Type 0
FoundEntering {E} m count found = (f : Framed E) → m.guests.running.frames ≡ Some f
    → IsAsking m f (calls.Rt rt.Enter) count (option_map (λ e. Enters e.ctx e.domain) found)
    (λ r. option_map (λ e. gives (store_of m) (Ctx (r.enter e.ctx e.domain) ∷ [])) found)

-- ---- doPrivileged

-- a form of doPrivileged, on either side
abbrev pub IsPrivileged : LibCall → Type 0
IsPrivileged (calls.Controller controller.Privileged) = ⊤
IsPrivileged (calls.Controller controller.PrivilegedWith) = ⊤
IsPrivileged (calls.Controller controller.PrivilegedLimited) = ⊤
IsPrivileged (calls.Rt rt.Privileged) = ⊤
IsPrivileged (calls.Rt rt.PrivilegedWith) = ⊤
IsPrivileged (calls.Rt rt.PrivilegedLimited) = ⊤
IsPrivileged call = ⊥

-- The call wants this.
abbrev pub FoundPrivilege : {E : Type 0} → Machine E → LibCall → (count : ℕ) → Privileging → Type 0
FoundPrivilege {E} m call count w = (f : Framed E) → m.guests.running.frames ≡ Some f
    → IsAsking m f call count (wanted_asks m.side (here m f) (store_of m) w) (λ r. wanted_row r (here m f) (store_of m) (carried (state_of m)) w)

-- the privilege that is asked for
abbrev pub privilege_of : Wanted → Ask ℕ
privilege_of w = Privileges w.domain w.ctx w.given w.limits

-- the running thread has all frames that it may have
abbrev pub is_full : {E : Type 0} → Machine E → Framed E → Bool
is_full m f = nat_le m.plan.now.depth (length (all f))

-- A call of `run` comes to this on the object of a number, by a thread that has all frames that it may have, or not.
abbrev pub ActionTarget : {E : Type 0} → Machine E → (full : Bool) → (action : ℕ) → Target E → Type 0
ActionTarget m full action t = FaceTarget m.calls m.fixed.marks.now m.heap lib.PrivilegedAction (calls.RunAction m.side) full action t

-- So it does by the running thread.
abbrev pub RunTarget : {E : Type 0} → Machine E → (action : ℕ) → Target E → Type 0
RunTarget {E} m action t = (f : Framed E) → m.guests.running.frames ≡ Some f → ActionTarget m (is_full m f) action t
