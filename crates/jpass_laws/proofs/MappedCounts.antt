-- How many steps answer a step is told by instructions and frames alone: it is the same where contexts stand for stacks.
use Rattle.std.proofs.Common.{◌≡◌, ℕ, zero, suc, ◌+◌, List, [], ◌∷◌, length, map, Option, refl, sym, ap, ◌∙◌}
use Rattle.std.specs.Prelude.{nat_lt}
use Rattle.std.specs.List.{sum_by}
use Rattle.std.proofs.lemmas.List.Sums.{sum_by-cons}
use Rattle.jresolution.specs.jprogram.ProgramClasses.{Program}
use Rattle.jresolution.specs.juses.IndexedInstructions.{Instruction}
use Rattle.jsemantics.specs.jmachine.MachineStates.{FrameOf, GuestOf, State, Outcome, Went, Over, NoStep}
use Rattle.jsemantics.specs.jmachine.StateMaps.{frames_map, guest_map, outcome_map, state_map}
use Rattle.jsimulation_laws.proofs.LocalProofs.FrameCounts.{split}
use Rattle.jsimulation_laws.specs.stuttering.StutteringRuns.{counted}
use Rattle.jsimulation_laws.specs.relation.StepCounts.{frames_of, invokes, next_in, steps, steps_of}

module _ {K L E F : Type 0} (f : K → L) (g : E → F) where
  long_same : (frames : List (FrameOf K E)) → length (frames_map f g frames) ≡ length frames
  long_same [] = refl
  long_same (x ∷ frames) = ap suc (long_same frames)

  abbrev total : List (GuestOf K E) → ℕ
  total xs = sum_by (λ (x : GuestOf K E). length x.frames) xs

  abbrev total_there : List (GuestOf L F) → ℕ
  total_there xs = sum_by (λ (x : GuestOf L F). length x.frames) xs

  total_same : (xs : List (GuestOf K E)) → total_there (map (guest_map f g) xs) ≡ total xs
  total_same [] = refl
  total_same (x ∷ xs) =
      sum_by-cons (λ (x : GuestOf L F). length x.frames) (guest_map f g x) (map (guest_map f g) xs)
      ∙ ap (λ n. n + total_there (map (guest_map f g) xs)) (long_same x.frames)
      ∙ ap (λ n. length x.frames + n) (total_same xs)
      ∙ sym (sum_by-cons (λ (x : GuestOf K E). length x.frames) x xs)

  frames_same : (s : State K E) → frames_of (state_map f g s) ≡ frames_of s
  frames_same s =
      split (map (guest_map f g) s.earlier) (map (guest_map f g) s.later) (guest_map f g s.running)
      ∙ ap (λ n. n + (length (frames_map f g s.running.frames) + total_there (map (guest_map f g) s.later))) (total_same s.earlier)
      ∙ ap (λ n. total s.earlier + (n + total_there (map (guest_map f g) s.later))) (long_same s.running.frames)
      ∙ ap (λ n. total s.earlier + (length s.running.frames + n)) (total_same s.later)
      ∙ sym (split s.earlier s.later s.running)

  invokes_same : (s : State K E) (o : Outcome (State K E)) → invokes (state_map f g s) (outcome_map (state_map f g) o) ≡ invokes s o
  invokes_same s (Went t events) = ap (λ n. nat_lt n (frames_of (state_map f g t))) (frames_same s) ∙ ap (λ n. nat_lt (frames_of s) n) (frames_same t)
  invokes_same s (Over t events end) = refl
  invokes_same s NoStep = refl

  next_same : (p : Program) (frames : List (FrameOf K E)) → next_in p (frames_map f g frames) ≡ next_in p frames
  next_same p [] = refl
  next_same p (x ∷ frames) = refl

  pub steps_same : (p : Program) (s : State K E) (o : Outcome (State K E)) → steps p (state_map f g s) (outcome_map (state_map f g) o) ≡ steps p s o
  steps_same p s o =
      ap (λ (i : Option Instruction). steps_of i (invokes (state_map f g s) (outcome_map (state_map f g) o))) (next_same p s.running.frames)
      ∙ ap (steps_of (next_in p s.running.frames)) (invokes_same s o)

  -- ---- runs

  module _ (p : Program) (one : State K E → Outcome (State K E)) (other : State L F → Outcome (State L F))
      (alike : (s : State K E) → outcome_map (state_map f g) (one s) ≡ other (state_map f g s)) where
    abbrev behind : ℕ → Outcome (State K E) → ℕ
    behind k o = elim o [ Went s events ↦ counted one (steps p) k s | _ ↦ 0 ]

    abbrev behind_there : ℕ → Outcome (State L F) → ℕ
    behind_there k o = elim o [ Went s events ↦ counted other (steps p) k s | _ ↦ 0 ]

    on_same : (k : ℕ) → ((s : State K E) → counted other (steps p) k (state_map f g s) ≡ counted one (steps p) k s) → (o : Outcome (State K E))
        → behind_there k (outcome_map (state_map f g) o) ≡ behind k o
    on_same k again (Went s events) = again s
    on_same k again (Over s events end) = refl
    on_same k again NoStep = refl

    pub counted_same : (k : ℕ) (s : State K E) → counted other (steps p) k (state_map f g s) ≡ counted one (steps p) k s
    counted_same zero s = refl
    counted_same (suc k) s =
        ap (λ (o : Outcome (State L F)). steps p (state_map f g s) o + behind_there k o) (sym (alike s))
        ∙ ap (λ n. n + behind_there k (outcome_map (state_map f g) (one s))) (steps_same p s (one s))
        ∙ ap (λ n. steps p s (one s) + n) (on_same k (λ t. counted_same k t) (one s))
