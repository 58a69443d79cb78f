-- What a call asks and does, by what was found of it.
use Rattle.std.proofs.Common.{◌≡◌, ◌∙◌, ℕ, Bool, inl, inr, List, [], ◌∷◌, map, take, Option, Some, None, sym, ap, subst}
use Rattle.std.specs.Prelude.{length, nat_le, option_and_then, option_map}
use Rattle.jlib.specs.declared.calls.LibCall.{LibCall}
use Rattle.jlib.specs.declared.calls.LibCall.TheVariants as calls
use Rattle.jlib.specs.declared.calls.RtCall.TheVariants as rt
use Rattle.jlib.specs.declared.classes.LibClass.TheVariants as lib
use Rattle.jlib.specs.declared.classes.Thrown.{Thrown as ThrownClass}
use Rattle.jlib.specs.declared.side.Side.{Side}
use Rattle.jvalues.specs.declared.jops.value.Value.{Value}
use Rattle.jvalues.specs.declared.jops.value.Value.TheVariants.{Ctx}
use Rattle.jperm.specs.declared.permission.Permission as perms
use Rattle.jsemantics.specs.jmachine.MachineStates.{FrameOf, Row, gives, raises, null}
use Rattle.jsemantics.specs.jmachine.AccessQueries.{Allowed, Answer, Enters, Snapshots, carried, run_asks, where_run}
use Rattle.jsemantics.specs.jmachine.AccessCallRows.{context_made}
use Rattle.jsemantics.specs.jmachine.CallTargets as targets
use Rattle.jsemantics.specs.jmachine.PrivilegeActions.{acting}
use Rattle.jsemantics.specs.jmachine.Security.{Privilege, Rules}
use Rattle.jsemantics.specs.jmachine.MachineSteps.{entries, own_fields, site}
use Rattle.jguard.specs.NumberMeanings.{AnswersFor, IsKnownIn}
use Rattle.jruntime.specs.declared.jrun.came.Came.{Came}
use Rattle.jruntime.specs.declared.jrun.came.Came.TheVariants as done
use Rattle.jruntime.specs.jstate.FrameLists.{Framed, all}
use Rattle.jrows.specs.declared.jcalls.calls.Callee.{Callee}
use Rattle.jrows.specs.jcalls.MethodCalls.{IsCallee}
use Rattle.jrows.specs.jcalls.FrameMarks.{marks_of}
use Rattle.jruntime.specs.jguests.GuestThreads.{frames_of}
use Rattle.jserving.specs.declared.jinvoke.faces.Target.{Target}
use Rattle.jserving.specs.declared.jinvoke.faces.Target.TheVariants as ways
use Rattle.jserving.specs.jinvoke.InterfaceCalls.{TargetAs, TargetWithin}
use Rattle.jlibcalls.specs.jchecks.PermissionVerdicts.{NothingSteps}
use Rattle.jlibcalls.specs.declared.jcontexts.entering.Entering.{Entering}
use Rattle.jlibcalls.specs.declared.jcontexts.requests.PrivilegedForm.{PrivilegedForm}
use Rattle.jlibcalls.specs.declared.jcontexts.wanting.Privileging.{Privileging}
use Rattle.jlibcalls.specs.declared.jcontexts.wanting.Privileging.TheVariants as wants
use Rattle.jlibcalls.specs.declared.jcontexts.wanting.Wanted.{Wanted}
use Rattle.jlibcalls.specs.jcontexts.DomainEntries.{EntersWith, SnapshotsWith, snapshot_call}
use Rattle.jlibcalls.specs.jcontexts.PrivilegeCalls.{FindsBy, run_on, wanted_asks, wanted_row}
use Rattle.jlibcalls.specs.jcontexts.PrivilegeRequests.{call_of}
use Rattle.jstepping.specs.declared.jcore.machine.Machine.{Machine}
use Rattle.jstepping.specs.jcore.AnsweredCalls.{Calling, asked_of}
use Rattle.jstepping.specs.jcore.MachineOutcomes.{any}
use Rattle.jstepping.specs.jcore.MachineInvariants.{state_of, store_of, things_of}
use Rattle.jcalling.specs.jcallcontext.ContextRequests.{ActionTarget, FoundEntering, FoundPrivilege, FoundSnapshot, RunTarget, is_full, privilege_of}
use Rattle.jcalling.specs.jcallcontext.ContextCallRows.{CallAnswered, CallKnown, CallQuiet, ComesBy, IsAsking, here, row_of}
use Rattle.jcalling.proofs.JcallcontextProofs.CallAnswers.{answered, quiet, some_quiet, stuck_comes}

-- ---- what was found in the running thread's frames

module _ {E : Type 0} (m : Machine E) (f : Framed E) (count : ℕ) (runs : m.guests.running.frames ≡ Some f) where
  abbrev values : List (Value ℕ)
  values = take count f.newest.operands

  -- its frames carry what those of its state do
  carries : map (λ (g : FrameOf ℕ E). g.entry) (all f) ≡ carried (state_of m)
  carries = ap (λ (o : Option (Framed E)). map (λ (g : FrameOf ℕ E). g.entry) (frames_of o)) (sym runs)

  -- they are all that run
  of_these : (P : Framed E → Type 0) → P f → (h : Framed E) → m.guests.running.frames ≡ Some h → P h
  of_these P is h at = let e : f ≡ h = (let both : Some f ≡ Some h = sym runs ∙ at in cc) in subst P e is

  pub snapshot_is : (call : LibCall) (side : Side) (found : Option (Option ℕ)) → snapshot_call side ≡ call → SnapshotsWith E side values found → FoundSnapshot m call count found
  snapshot_is call side found is it =
      let does : Rules ℕ E → List E → Option (Row ℕ E) = λ r es. option_map (λ ctx. context_made (store_of m) (r.snapshot ctx es m.guests.running.inherited)) found in
      of_these (λ h. IsAsking m h call count (option_map Snapshots found) (λ r. does r (carried (state_of m)))) (record {
        asked = subst (λ (c : LibCall). run_asks m.side (here m f) (store_of m) c values ≡ option_map Snapshots found) is (it.asked m.side (here m f) (store_of m));
        row = λ r marked.
            subst (λ (c : LibCall). row_of m f c r values ≡ does r (entries r m.calls m.plan.now (state_of m) (all f))) is
            (it.row r (site r m.calls m.plan.now (state_of m) f.newest f.below) (own_fields m.calls f.newest.method) (store_of m)
            (entries r m.calls m.plan.now (state_of m) (all f)) m.guests.running.inherited)
            ∙ ap (does r) carries;
      })

  pub entering_is : (found : Option Entering) → EntersWith E values found → FoundEntering m count found
  entering_is found it =
      of_these (λ h. IsAsking m h (calls.Rt rt.Enter) count (option_map (λ (e : Entering). Enters e.ctx e.domain) found)
      (λ r. option_map (λ (e : Entering). gives (store_of m) (Ctx (r.enter e.ctx e.domain) ∷ [])) found)) (record {
        asked = it.asked m.side (here m f) (store_of m);
        row = λ r marked.
            it.row r (site r m.calls m.plan.now (state_of m) f.newest f.below) (own_fields m.calls f.newest.method) (store_of m)
            (entries r m.calls m.plan.now (state_of m) (all f)) m.guests.running.inherited;
      })

  pub privilege_is : (call : LibCall) (side : Side) (form : PrivilegedForm) (w : Privileging) (permissions : List perms.Permission) (kept : List ℕ) → call_of side form ≡ call
      → m.permissions ≡ permissions → m.kept ≡ kept → FindsBy E side form permissions kept m.fixed.shapes.now m.heap values w → FoundPrivilege m call count w
  privilege_is call side form w permissions kept is same these finds =
      let it = finds m.calls (things_of m) m.constants.constants same these in
      let does : Rules ℕ E → List E → Option (Row ℕ E) = λ r es. wanted_row r (here m f) (store_of m) es w in
      let found : IsAsking m f call count (wanted_asks m.side (here m f) (store_of m) w) (λ r. does r (carried (state_of m))) = record {
        asked = subst (λ (c : LibCall). run_asks m.side (here m f) (store_of m) c values ≡ wanted_asks m.side (here m f) (store_of m) w) is (it.asked m.side (here m f));
        row = λ r marked.
            subst (λ (c : LibCall). row_of m f c r values ≡ does r (entries r m.calls m.plan.now (state_of m) (all f))) is
            (it.row r (site r m.calls m.plan.now (state_of m) f.newest f.below) (own_fields m.calls f.newest.method)
            (entries r m.calls m.plan.now (state_of m) (all f)) m.guests.running.inherited)
            ∙ ap (does r) carries;
      } in
      of_these (λ h. IsAsking m h call count (wanted_asks m.side (here m h) (store_of m) w) (λ r. wanted_row r (here m h) (store_of m) (carried (state_of m)) w)) found

-- ---- frames

-- a thread has all frames that it may have
pub full_is : {E : Type 0} (m : Machine E) (f h : Framed E) (depth : ℕ) → m.guests.running.frames ≡ Some f → depth ≡ length (all f) → m.guests.running.frames ≡ Some h
    → is_full m h ≡ nat_le m.plan.now.depth depth
full_is m f h depth runs is at =
    let e : f ≡ h = (let both : Some f ≡ Some h = sym runs ∙ at in cc) in ap (nat_le m.plan.now.depth) (ap (λ (x : Framed _). length (all x)) (sym e) ∙ sym is)

-- ---- an action

module _ {E : Type 0} (m : Machine E) (call : LibCall) (count : ℕ) (w : Wanted) (found : FoundPrivilege m call count (wants.Asks w)) (f : Framed E)
    (runs : m.guests.running.frames ≡ Some f) where
  -- what a call of its `run` comes to
  abbrev reached : Option targets.Target
  reached = run_on (here m f) (store_of m) m.side w.action

  -- what rules make of the privilege
  abbrev privilege : Rules ℕ E → Privilege ℕ E
  privilege r = r.privileged w.domain w.ctx w.given w.limits (carried (state_of m))

  on_reached : (t : Option targets.Target) → reached ≡ t
      → IsAsking m f call count (where_run m.side (here m f) (store_of m) (privilege_of w) t) (λ r. option_and_then (acting w.action (privilege r)) t)
  on_reached t is = record {
    asked = (found f runs).asked ∙ ap (where_run m.side (here m f) (store_of m) (privilege_of w)) is;
    row = λ r marked.
        (found f runs).row r marked
        ∙ ap (λ (side : Side). option_and_then (acting w.action (privilege r)) (run_on (here m f) (store_of m) side w.action)) marked.side
        ∙ ap (option_and_then (acting w.action (privilege r))) is;
  }

  module _ (entry_of : ℕ → E) (marks : m.fixed.marks.now ≡ marks_of entry_of m.calls) where
    reaches : (t : Target E) → ActionTarget m (is_full m f) w.action t → TargetAs entry_of m.calls t reached
    reaches t on = on entry_of m.fixed.shapes.now (things_of m) m.constants.constants marks

    stuck_is : ActionTarget m (is_full m f) w.action ways.Stuck → IsAsking m f call count None (λ r. None)
    stuck_is on = of (reaches ways.Stuck on)
      where
        of : TargetAs entry_of m.calls ways.Stuck reached → IsAsking m f call count None (λ r. None)
        of (inl is) = on_reached None is
        of (inr (member, is)) = on_reached (Some (targets.Runs member)) is

    fails_is : (class : ThrownClass) → ActionTarget m (is_full m f) w.action (ways.Fails class) → IsAsking m f call count None (λ r. Some (raises (lib.Thrown class)))
    fails_is class on = on_reached (Some (targets.Fails (lib.Thrown class))) (reaches (ways.Fails class) on)

    pushes_is : (c : Callee E) → ActionTarget m (is_full m f) w.action (ways.Pushes c)
        → IsAsking m f call count (Some (privilege_of w)) (λ r. acting w.action (privilege r) (targets.Pushes c.method))
    pushes_is c on = on_reached (Some (targets.Pushes c.method)) (reaches (ways.Pushes c) on).0

-- whether the thread has all frames was asked
pub target_as : {E : Type 0} (m : Machine E) (action : ℕ) (t : Target E) (full : Bool) → ((f : Framed E) → m.guests.running.frames ≡ Some f → is_full m f ≡ full)
    → ActionTarget m full action t → RunTarget m action t
target_as m action t full is target f runs = subst (λ (b : Bool). ActionTarget m b action t) (sym (is f runs)) target

pub on_as : {E : Type 0} (m : Machine E) (action : ℕ) (t u : Target E) → t ≡ u → RunTarget m action t → RunTarget m action u
on_as {E} m action t u is = subst (λ (x : Target E). RunTarget m action x) is

pub within_as : {E : Type 0} (classes : ℕ) (t u : Target E) → t ≡ u → TargetWithin classes t → TargetWithin classes u
within_as {E} classes t u is = subst (λ (x : Target E). TargetWithin classes x) is

pub wanted_as : {E : Type 0} (m : Machine E) (call : LibCall) (count : ℕ) (w v : Privileging) → w ≡ v → FoundPrivilege m call count w → FoundPrivilege m call count v
wanted_as m call count w v is = subst (λ (x : Privileging). FoundPrivilege m call count x) is

-- what a call of doPrivileged asks, by what a call of the action's `run` comes to
module _ {M : Type 0} (m : Machine M) (call : LibCall) (count : ℕ) (w : Wanted) (entry_of : ℕ → M) (found : FoundPrivilege m call count (wants.Asks w))
    (marks : m.fixed.marks.now ≡ marks_of entry_of m.calls) where
  pub stuck_silent : RunTarget m w.action ways.Stuck → (f : Framed M) → m.guests.running.frames ≡ Some f → asked_of m f call count ≡ None
  stuck_silent on f runs = (stuck_is m call count w found f runs entry_of marks (on f runs)).asked

  pub fails_silent : (class : ThrownClass) → RunTarget m w.action (ways.Fails class) → (f : Framed M) → m.guests.running.frames ≡ Some f → asked_of m f call count ≡ None
  fails_silent class on f runs = (fails_is m call count w found f runs entry_of marks class (on f runs)).asked

  pub privilege_asked : (c : Callee M) → RunTarget m w.action (ways.Pushes c) → (f : Framed M) → m.guests.running.frames ≡ Some f
      → asked_of m f call count ≡ Some (privilege_of w)
  privilege_asked c on f runs = (pushes_is m call count w found f runs entry_of marks c (on f runs)).asked

-- what is asked was given by whoever is asked
pub known_privilege : {M K E : Type 0} (kept : ℕ → Option K) (entry : M → Option E) (m : Machine M) (call : LibCall) (count : ℕ) (w : Wanted) (entry_of : ℕ → M) (c : Callee M)
    → FoundPrivilege m call count (wants.Asks w) → m.fixed.marks.now ≡ marks_of entry_of m.calls → RunTarget m w.action (ways.Pushes c) → Calling m count
    → CallKnown kept entry m call count → IsKnownIn kept entry (state_of m) (privilege_of w)
known_privilege kept entry m call count w entry_of c found marks on calling known =
    known calling.frames calling.runs (privilege_of w) (privilege_asked m call count w entry_of found marks c on calling.frames calling.runs)

-- a privilege is asked for
pub privilege_quiet : {M S : Type 0} (m : Machine M) (call : LibCall) (count : ℕ) (old new : S) (w : Wanted) (entry_of : ℕ → M) (c : Callee M)
    → FoundPrivilege m call count (wants.Asks w) → m.fixed.marks.now ≡ marks_of entry_of m.calls → RunTarget m w.action (ways.Pushes c) → CallQuiet m call count old new
privilege_quiet m call count old new w entry_of c found marks on =
    some_quiet m call count (privilege_of w) old new (privilege_asked m call count w entry_of found marks c on)

-- ---- what a call of doPrivileged is answered

abbrev privilege_in : {E : Type 0} → Privilege ℕ E → Answer ℕ E → Privilege ℕ E
privilege_in other (Allowed p) = p
privilege_in other given = other

module _ {M K E : Type 0} (old new : ℕ → Option K) (old_marks new_marks : M → Option E) (rules : Rules K E) (m n : Machine M) (call : LibCall) (count : ℕ) (came : Came) where
  abbrev Does : Type 0
  Does = CallAnswered old new old_marks new_marks rules m call count came n

  pub null_answered : FoundPrivilege m call count wants.Null → ComesBy m count any (Some null) came n → Does
  null_answered found comes = quiet old new old_marks new_marks rules m n call count came (Some null) comes found

  module _ (w : Wanted) (entry_of : ℕ → M) (found : FoundPrivilege m call count (wants.Asks w)) (marks : m.fixed.marks.now ≡ marks_of entry_of m.calls) where
    pub fails_answered : (class : ThrownClass) → RunTarget m w.action (ways.Fails class) → ComesBy m count any (Some (raises (lib.Thrown class))) came n → Does
    fails_answered class on comes =
        quiet old new old_marks new_marks rules m n call count came (Some (raises (lib.Thrown class))) comes
        (λ f runs. fails_is m call count w found f runs entry_of marks class (on f runs))

    pub pushes_answered : (c : Callee M) (caller : M) (ctx : Option ℕ) → RunTarget m w.action (ways.Pushes c)
        → AnswersFor old new old_marks new_marks rules (privilege_of w) (carried (state_of m)) m.guests.running.inherited (Allowed (record { caller = caller; context = ctx }))
        → ComesBy m count (λ r. IsCallee r.entry_of m.calls c) (acting w.action (record { caller = caller; context = ctx }) (targets.Pushes c.method)) came n → Does
    pushes_answered c caller ctx on gave comes f runs =
        let p : Privilege ℕ M = record { caller = caller; context = ctx } in
        let like : Rules ℕ M → Type 0 = λ r. IsCallee r.entry_of m.calls c in
        answered old new old_marks new_marks rules m n call count came (privilege_of w) (Allowed p) like (acting w.action p (targets.Pushes c.method))
        (λ r. acting w.action (privilege m call count w found f runs r) (targets.Pushes c.method)) gave comes
        (λ r marked is. (
          (reaches m call count w found f runs r.entry_of marked.marks (ways.Pushes c) (on f runs)).1,
          ap (λ (x : Answer ℕ M). acting w.action (privilege_in p x) (targets.Pushes c.method)) is,
        )) f runs (pushes_is m call count w found f runs entry_of marks c (on f runs))

pub stuck_answered : {M K E : Type 0} (old new : ℕ → Option K) (old_marks new_marks : M → Option E) (rules : Rules K E) (m : Machine M) (call : LibCall) (count : ℕ) (w : Wanted)
    (entry_of : ℕ → M) → FoundPrivilege m call count (wants.Asks w) → m.fixed.marks.now ≡ marks_of entry_of m.calls → NothingSteps M → RunTarget m w.action ways.Stuck
    → CallAnswered old new old_marks new_marks rules m call count done.Stuck m
stuck_answered old new old_marks new_marks rules m call count w entry_of found marks nothing on =
    quiet old new old_marks new_marks rules m m call count done.Stuck None (stuck_comes nothing m count)
    (λ f runs. stuck_is m call count w found f runs entry_of marks (on f runs))
