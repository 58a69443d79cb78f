-- What a step of an engine asks, and what comes of the answer.
use Rattle.std.proofs.Common.{◌≡◌, ◌∙◌, ℕ, false, Option, Some, None, refl, sym, ap}
use Rattle.std.specs.Prelude.{is_some}
use Rattle.jdomain.specs.declared.verdict.Verdict.TheVariants.{Granted}
use Rattle.jsemantics.specs.jmachine.MachineStates.{Outcome, State}
use Rattle.jlib.specs.declared.side.Side.{Side}
use Rattle.jlib.specs.declared.calls.LibCall.{LibCall}
use Rattle.jlib.specs.declared.calls.LibCall.TheVariants as calls
use Rattle.jlibcalls.specs.jlibrary.LibraryOutcomes.{IsAskFree}
use Rattle.jsemantics.specs.jmachine.AccessQueries.{Ask, Decided, asked_on, asks}
use Rattle.jsemantics.specs.jmachine.Security.{Rules}
use Rattle.jrows.specs.jcalls.FrameMarks.{marks_of}
use Rattle.jruntime.specs.declared.jrun.came.Came.{Came}
use Rattle.jstepping.specs.declared.jcore.machine.Machine.{Machine}
use Rattle.jruntime.specs.jstate.FrameLists.{Framed}
use Rattle.jruntime.specs.jguests.GuestThreads.{frames_of}
use Rattle.jstepping.specs.declared.jstep.run_tables.RunTables.{RunTables}
use Rattle.jstepping.specs.jcore.AnsweredCalls.{Answered, asked_of}
use Rattle.jstepping.specs.jcore.MachineOutcomes.{Comes, any}
use Rattle.jstepping.specs.jcore.MachineInvariants.{StaysFixed, state_of}
use Rattle.jforms.specs.jtables.Engines.{asks_next}

-- where nothing is asked, whoever is asked answers nothing
pub answers_none : {M K E : Type 0} (old new : ℕ → Option K) (old_marks new_marks : M → Option E) (rules : Rules K E) (m n : Machine M) (asked : Option (Ask ℕ))
    (outcome : Rules ℕ M → Outcome (State ℕ M)) (came : Came) → asked ≡ None → Comes m any outcome came n
    → Answered old new old_marks new_marks rules m asked outcome came n
answers_none old new old_marks new_marks rules m n asked outcome came none comes = record {
  given = Decided Granted;
  answers = λ ask is. absurd (let a = none in let b = is in cc);
  comes = record { over = comes.over; comes = λ r are so. comes.comes r are tt };
}

-- a call that asks nothing
pub free_asks : {M : Type 0} (m : Machine M) (f : Framed M) (call : LibCall) (count : ℕ) → IsAskFree call → asked_of m f call count ≡ None
free_asks m f calls.ObjectInit count free = refl
free_asks m f (calls.ThrownInit class how) count free = refl
free_asks m f calls.AccessControlInit count free = refl
free_asks m f calls.GetMessage count free = refl
free_asks m f (calls.String call) count free = refl
free_asks m f (calls.Builder call) count free = refl
free_asks m f calls.Out count free = refl
free_asks m f calls.PrintEnd count free = refl
free_asks m f (calls.Print piece) count free = refl
free_asks m f (calls.Run side) count free = refl
free_asks m f (calls.Thread call) count free = absurd free
free_asks m f (calls.RunAction side) count free = refl
free_asks m f (calls.Controller call) count free = absurd free
free_asks m f calls.ContextCheck count free = absurd free
free_asks m f (calls.PermissionInit how) count free = refl
free_asks m f (calls.Rt call) count free = absurd free

-- rules by numbers, whose frames carry these marks, and which hand `main` this context
abbrev pub marked : {M : Type 0} → Side → (ℕ → M) → Option ℕ → Rules ℕ M
marked side mark first = record {
  side = side;
  entry_of = mark;
  first = first;
  enter = λ k d. k;
  check = λ asked ctx entries inherited. Granted;
  check_kept = λ asked k. Granted;
  snapshot = λ ctx entries inherited. 0;
  inherit = λ ctx entries inherited. 0;
  privileged = λ domain ctx given limited entries. record { caller = mark 0; context = None };
}

-- ---- whether the running thread has frames

pub without : {M : Type 0} (m : Machine M) → is_some m.guests.running.frames ≡ false → m.guests.running.frames ≡ None
without {M} m none = by m.guests.running.frames none
  where
    by : (o : Option (Framed M)) → is_some o ≡ false → o ≡ None
    by None none = refl
    by (Some f) none = absurd (let a = none in cc)

-- a thread without frames asks nothing
pub asks_nothing : {M : Type 0} (m : Machine M) → m.guests.running.frames ≡ None → asks_next m ≡ None
unfolding asks
asks_nothing m none = ap (λ fs. asked_on m.side m.calls m.plan.now (state_of m) (frames_of fs)) none

-- ---- what stays

pub fixed_then : {M : Type 0} (m k n : Machine M) → StaysFixed m k → StaysFixed k n → StaysFixed m n
fixed_then m k n one other = record {
  fixed = other.fixed ∙ one.fixed;
  plan = other.plan ∙ one.plan;
  side = other.side ∙ one.side;
  calls = other.calls ∙ one.calls;
}

pub carry_then : {M : Type 0} (mark : ℕ → M) (m k : Machine M) → StaysFixed m k → m.fixed.marks.now ≡ marks_of mark m.calls → k.fixed.marks.now ≡ marks_of mark k.calls
carry_then {M} mark m k fixed carry = ap (λ (x : RunTables M). x.marks.now) fixed.fixed ∙ carry ∙ ap (marks_of mark) (sym fixed.calls)
