-- What jexecute wants of a machine, and what its word about a step is worth.
use Rattle.std.proofs.Common.{◌≡◌, ◌∙◌, ℕ, true, take, Option, Some, None, refl, sym, subst}
use Rattle.std.specs.Prelude.{is_some}
use Rattle.jlib.specs.declared.calls.LibCall.{LibCall}
use Rattle.jsemantics.specs.jmachine.AccessQueries.{answer_in, carried}
use Rattle.jsemantics.specs.jmachine.CallTargets.{receiver}
use Rattle.jsemantics.specs.jmachine.Security.{Rules}
use Rattle.jrows.specs.jcalls.FrameMarks.{marks_of}
use Rattle.jruntime.specs.declared.jrun.came.Came.{Came}
use Rattle.jstepping.specs.declared.jcore.machine.Machine.{Machine}
use Rattle.jvalues.specs.declared.jops.value.Value.{Value}
use Rattle.jrows.specs.jtexts.Messages.{MayBeTold}
use Rattle.jruntime.specs.jstate.FrameLists.{Framed}
use Rattle.jguard.specs.NumberMeanings.{AnswersFor, IsKnownIn}
use Rattle.jcalling.specs.jcallplain.LibraryRuns.{MayTell}
use Rattle.jstepping.specs.jcore.AnsweredCalls.{Answered, AsksKnown, asked_of, outcome_of}
use Rattle.jstepping.specs.jcore.MachineInvariants.{AreRules, StaysFixed}
use Rattle.jcalling.specs.jexecute.ThreadSteps.{HasFrames, HasRules, StandsAt}
use Rattle.jforms.specs.jtables.Engines.{asks_next, next_of}
use Rattle.jforms.proofs.JtablesProofs.GuardQuestions.{carry_then, marked}

-- there are some whose frames carry what the machine's do
pub has_rules : {M : Type 0} (mark : ℕ → M) (m : Machine M) → m.fixed.marks.now ≡ marks_of mark m.calls → HasRules m
has_rules mark m carry = record { rules = marked m.side mark None; are = record { marks = carry; side = refl } }

pub has_frames : {M : Type 0} (m : Machine M) → is_some m.guests.running.frames ≡ true → HasFrames m
has_frames {M} m some = by m.guests.running.frames refl some
  where
    by : (o : Option (Framed M)) → m.guests.running.frames ≡ o → is_some o ≡ true → HasFrames m
    by None is some = absurd (let a = some in cc)
    by (Some f) is some = record { frames = f; runs = is }

-- ---- a call of the library, at which a step comes to stand

again : {M : Type 0} (m k : Machine M) (r : Rules ℕ M) → StaysFixed m k → AreRules m r → AreRules k r
again m k r fixed are = record {
  marks = carry_then r.entry_of m k fixed are.marks;
  side = are.side ∙ sym fixed.side;
}

same_frames : {M : Type 0} (k : Machine M) (f g : Framed M) → k.guests.running.frames ≡ Some f → k.guests.running.frames ≡ Some g → f ≡ g
same_frames k f g one other = let a = one in let b = other in cc

module _ {M : Type 0} (m k : Machine M) (call : LibCall) (count : ℕ) (at : StandsAt m call count k) where
  -- what it asks was given
  pub known_at : {K E : Type 0} (kept : ℕ → Option K) (marks : M → Option E) → AsksKnown kept marks m (asks_next m)
      → (f : Framed M) → k.guests.running.frames ≡ Some f → AsksKnown kept marks k (asked_of k f call count)
  known_at kept marks known f runs ask is =
      let is_here = subst (λ g. asked_of k g call count ≡ Some ask) (same_frames k f at.calling.frames runs at.calling.runs) is in
      subst (λ s. IsKnownIn kept marks s ask) (sym at.same) (known ask (at.asked ∙ is_here))

  pub tells_at : MayTell k call count
  tells_at tells f runs =
      subst (λ (g : Framed M). (v : Value ℕ) → receiver (take count g.newest.operands) ≡ Some v → MayBeTold k.fixed.shapes.now k.heap v)
      (same_frames k at.calling.frames f at.calling.runs runs) (at.tells tells)

  -- what it came to is what the step came to
  pub answered_at : {K E : Type 0} (old new : ℕ → Option K) (old_marks new_marks : M → Option E) (rules : Rules K E) (n : Machine M) (came : Came) → StaysFixed m k
      → Answered old new old_marks new_marks rules k (asked_of k at.calling.frames call count) (outcome_of k at.calling.frames call count) came n
      → Answered old new old_marks new_marks rules m (asks_next m) (next_of m) came n
  answered_at old new old_marks new_marks rules n came fixed a = record {
    given = a.given;
    answers = λ ask is. subst (λ s. AnswersFor old new old_marks new_marks rules ask (carried s) s.running.inherited a.given) at.same (a.answers ask (sym at.asked ∙ is));
    comes = record {
      over = a.comes.over;
      comes = λ r are so. at.comes r are
          ∙ a.comes.comes r (again m k r fixed are) (λ ask is. subst (λ s. answer_in r s ask ≡ a.given) (sym at.same) (so ask (at.asked ∙ is)));
    };
  }
