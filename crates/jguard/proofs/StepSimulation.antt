-- A step by numbers comes to what the step by what these stand for comes to, where what it asks is answered so.
use Rattle.std.proofs.Common.{◌≡◌, ◌∙◌, ℕ, List, [], ◌∷◌, map, Option, Some, None, option_map, refl, sym, ap}
use Rattle.jlib.specs.declared.side.Side.{Side}
use Rattle.jresolution.specs.jprogram.ProgramClasses.{Program}
use Rattle.jsemantics.specs.declared.jmachine.plan.Plan.{Plan}
use Rattle.jsemantics.specs.jmachine.MachineStates.{FrameOf, State}
use Rattle.jsemantics.specs.jmachine.AccessQueries.{Ask, AgreeAt, AgreeWhere, answer, answer_in, ask_map, asks, carried}
use Rattle.jsemantics.specs.jmachine.StateMaps.{frames_map}
use Rattle.jsemantics.specs.jmachine.NaturalityLaws.{AnswersAlike, AsksAlike, StepAlike, StepAlikeAt}
use Rattle.jsemantics.specs.jmachine.Security.{Rules}
use Rattle.jsemantics.specs.jmachine.MachineSteps.{step}
use Rattle.jguard.specs.NumberMeanings.{Answers, AreThose, Asks, ComesTo, IsKnownIn, IsThat, StandsFor}
use Rattle.jguard.proofs.OptionalRules.{agrees, lifted}

module _ {N M K E : Type 0} (f : N → Option K) (g : M → Option E) where
  entries_so : (frames : List (FrameOf N M)) → map g (map (λ x. x.entry) frames) ≡ map (λ x. x.entry) (frames_map f g frames)
  entries_so [] = refl
  entries_so (x ∷ below) = ap (λ (es : List (Option E)). g x.entry ∷ es) (entries_so below)

some_entries : {K E : Type 0} (frames : List (FrameOf K E)) → map Some (map (λ x. x.entry) frames) ≡ map (λ x. x.entry) (frames_map Some Some frames)
some_entries [] = refl
some_entries (x ∷ below) = ap (λ (es : List (Option _)). Some x.entry ∷ es) (some_entries below)

abbrev item_or : {A : Type 0} → A → Option A → A
item_or other None = other
item_or other (Some x) = x

same_item : {A : Type 0} (x y : A) → Some x ≡ Some y → x ≡ y
same_item x y e = ap (item_or x) e

-- the step that is meant asks where the other does
pub found_ask : {K : Type 0} (ask : Ask (Option K)) (o : Option (Ask K)) → Some ask ≡ option_map (ask_map Some) o → (meant : Ask K) × (o ≡ Some meant)
found_ask ask None e = cc
found_ask ask (Some meant) e = (meant, refl)

module _ {N M K E : Type 0} (f : N → Option K) (g : M → Option E) (s : State N M) (y : State K E) (stands : StandsFor f g s y) where
  -- what the running thread's frames carry, and what it inherited
  pub entries_stand : AreThose g (carried s) (carried y)
  entries_stand = entries_so f g s.running.frames ∙ ap (λ (t : State (Option K) (Option E)). carried t) stands ∙ sym (some_entries y.running.frames)

  pub inherited_stands : IsThat f s.running.inherited y.running.inherited
  inherited_stands = ap (λ (t : State (Option K) (Option E)). t.running.inherited) stands

  module _ (alike : AsksAlike N (Option K) M (Option E)) (some_alike : AsksAlike K (Option K) E (Option E)) (p : Program) (plan : Plan) (side : Side) where
    pub asks_stand : option_map (ask_map f) (asks side p plan s) ≡ option_map (ask_map Some) (asks side p plan y)
    asks_stand = alike f g side p plan s ∙ ap (asks side p plan) stands ∙ sym (some_alike Some Some side p plan y)

    pub ask_stands : (ask : Ask N) (meant : Ask K) → asks side p plan s ≡ Some ask → asks side p plan y ≡ Some meant → Asks f ask meant
    ask_stands ask meant a b =
        same_item (ask_map f ask) (ask_map Some meant)
        (ap (option_map (ask_map f)) (sym a) ∙ asks_stand ∙ ap (option_map (ask_map Some)) b)

    -- so its ask's numbers were given
    pub known : (ask : Ask N) → asks side p plan s ≡ Some ask → IsKnownIn f g s ask
    known ask a =
        let found = found_ask (ask_map f ask) (asks side p plan y) (ap (option_map (ask_map f)) (sym a) ∙ asks_stand) in
        record { numbers = (found.0, ask_stands ask found.0 a found.1); marks = (carried y, entries_stand); inherited = (y.running.inherited, inherited_stands) }

module _ {N M K E : Type 0}
    (asks_alike : AsksAlike N (Option K) M (Option E)) (some_asks : AsksAlike K (Option K) E (Option E)) (answers : AnswersAlike K (Option K) E (Option E))
    (step_at : StepAlikeAt N (Option K) M (Option E)) (step_alike : StepAlike K (Option K) E (Option E))
    (f : N → Option K) (g : M → Option E) (r : Rules N M) (q : Rules K E) (same : r.side ≡ q.side) (marks : (d : ℕ) → g (r.entry_of d) ≡ Some (q.entry_of d))
    (p : Program) (plan : Plan) (s : State N M) (y : State K E) (stands : StandsFor f g s y)
    (answered : (ask : Ask N) (meant : Ask K) → asks q.side p plan s ≡ Some ask → asks q.side p plan y ≡ Some meant → Answers f g (answer_in r s ask) (answer_in q y meant)) where
  abbrev Q : Rules (Option K) (Option E)
  Q = lifted q

  agree_so : (ask : Ask N) (meant : Ask K) → asks q.side p plan s ≡ Some ask → asks q.side p plan y ≡ Some meant → AgreeAt f g r Q (carried s) s.running.inherited ask
  agree_so ask meant a b =
      answered ask meant a b
      ∙ answers Some Some q Q (agrees q) (carried y) y.running.inherited meant
      ∙ ap (λ (es : List (Option E)). answer Q es (option_map Some y.running.inherited) (ask_map Some meant)) (sym (entries_stand f g s y stands))
      ∙ ap (λ (o : Option (Option K)). answer Q (map g (carried s)) o (ask_map Some meant)) (sym (inherited_stands f g s y stands))
      ∙ ap (answer Q (map g (carried s)) (option_map f s.running.inherited)) (sym (ask_stands f g s y stands asks_alike some_asks p plan q.side ask meant a b))

  agree_where : (o : Option (Ask N)) → asks q.side p plan s ≡ o → AgreeWhere f g r Q (carried s) s.running.inherited o
  agree_where None a = tt
  agree_where (Some ask) a =
      let found = found_ask (ask_map f ask) (asks q.side p plan y) (ap (option_map (ask_map f)) (sym a) ∙ asks_stand f g s y stands asks_alike some_asks p plan q.side) in
      agree_so ask found.0 a found.1

  pub comes : ComesTo f g (step r p plan s) (step q p plan y)
  comes =
      step_at f g r Q (same ∙ same_side) (λ d. marks d ∙ same_entry d) p plan s (agree_where (asks r.side p plan s) (ap (λ side. asks side p plan s) (sym same)))
      ∙ ap (step Q p plan) stands
      ∙ sym (step_alike Some Some q Q (agrees q) p plan y)
    where
      same_side : q.side ≡ Q.side
      same_side = (agrees q).side

      same_entry : (d : ℕ) → Some (q.entry_of d) ≡ Q.entry_of d
      same_entry d = (agrees q).entries d
