-- How a run begins: main's prologue is a lead of four steps.
use Rattle.std.proofs.Common.{◌≡◌, ℕ, ◌+◌, ◌<◌, Bool, false, List, [], ◌∷◌, length, Option, Some, None, option_map, refl, sym, ap, ◌∙◌, subst, arith}
use Rattle.jperm.specs.declared.permission.Permission.{Permission}
use Rattle.jvalues.specs.declared.jops.value.Value.TheVariants.{Ref, Ctx}
use Rattle.jthreads.specs.ThreadTables as threads
use Rattle.jclass.specs.declared.class.CodeBody.{CodeBody}
use Rattle.jresolution.specs.jprogram.ProgramClasses.{Program}
use Rattle.jresolution.specs.juses.IndexedInstructions.{code_at}
use Rattle.jctx.specs.declared.item.Item.{Item}
use Rattle.jsemantics.specs.declared.jmachine.plan.Plan.{Plan}
use Rattle.jsemantics.specs.jmachine.FieldInstructions.{out}
use Rattle.jsemantics.specs.jmachine.FrameOperations.{begun, domain_of, frame_of, locals_of, places_of}
use Rattle.jsemantics.specs.jmachine.OpeningState.{arguments_number, opening_state, opening_store}
use Rattle.jsemantics.specs.jmachine.Store.{Store}
use Rattle.jsemantics.specs.jmachine.BasicInstructions.{local_at}
use Rattle.jsimulation_laws.specs.between.BetweenMachines.{shadowed, sourced, unmarked}
use Rattle.jsimulation_laws.specs.relation.ProgramRelation.{MovedCode, Moves}
use Rattle.jsimulation_laws.specs.relation.StateRelation.{Frame, Point, Stands, Word, behind}
use Rattle.jsimulation_laws.proofs.LocalProofs.Locals as locals
use Rattle.jsimulation_laws.proofs.LocalProofs.Prologues.{prologue_steps}
use Rattle.jsimulation_laws.proofs.LocalProofs.PushedFrames.{begun_there, first_frame, pushed_stands, ready_frame, there_frame}
use Rattle.jsimulation_laws.proofs.StutteringProofs.Silences.{Silently, silent_leads}
use Rattle.jsimulation_laws.proofs.LocalProofs.MovedStates.{there}
use Rattle.jsimulation_laws.specs.local.InitialStates.{BeginsInFour}
use Rattle.jsimulation_laws.specs.stuttering.StutteringRuns.{Leads}
use Rattle.std.specs.Option.{option_to_list}

module _ (has : ℕ → Permission → Bool) (p q : Program) (plan : Plan) (moves : Moves p q) (body : CodeBody) (is : code_at p plan.main ≡ Some body)
    (one : (moves.codes plan.main body is).slots ≡ 1) where
  abbrev code : MovedCode p q plan.main body
  code = moves.codes plan.main body is

  abbrev values : List Word
  values = Ref (arguments_number p) ∷ []

  abbrev state : List Frame → Store (List Item) → Point
  state frames store =
      record {
        earlier = [];
        running = record { frames = frames; inherited = None; runnable = 0; failed = false };
        later = [];
        table = threads.opened;
        store = store;
        turns =
            0;
      }

  -- the first state of the program as it was written
  abbrev first : Point
  first = state (first_frame p plan.main values body ∷ []) (opening_store p plan.heap)

  first_is : opening_state (sourced has) p plan.main plan.heap ≡ first
  unfolding opening_state sourced
  first_is = ap (λ o. state (option_to_list (option_map (frame_of plan.main (unmarked (domain_of p plan.main)) values) o)) (opening_store p plan.heap)) is

  -- and of the moved one, before the prologue and behind it
  abbrev second : Point
  second = there first [] (there_frame p plan.main code.place.local [] values ∷ []) []

  abbrev third : Point
  third = there first [] (ready_frame p plan.main code.place.local code.place.domain [] values ∷ []) []

  number_same : arguments_number q ≡ arguments_number p
  number_same = ap (λ (texts : List (List ℕ)). out + length texts + 1) moves.texts

  second_is : opening_state (shadowed has) q plan.main plan.heap ≡ second
  unfolding opening_state shadowed
  second_is =
      ap (λ n. state (option_to_list (begun q plan.main (unmarked (domain_of q plan.main)) (Ctx [] ∷ Ref n ∷ []))) (opening_store q plan.heap)) number_same
      ∙ ap (λ (o : Option Frame). state (option_to_list o) (opening_store q plan.heap)) (begun_there p q moves plan.main body code [] values)
      ∙ ap (λ (x : Store (List Item)). state (there_frame p plan.main code.place.local [] values ∷ []) x) (moves.opens plan.heap)

  fills : places_of values ≡ code.slots
  fills = one_place ∙ sym one
    where
      one_place : places_of values ≡ 1
      one_place = locals.one_place (Ref (arguments_number p)) refl

  behind_slots : places_of values < code.place.local
  behind_slots = let b = code.behind_slots in let e = fills in omega (arith, b, e)

  lead : Silently (behind has q plan) 4 second third
  lead =
      prologue_steps has q plan moves.calls.rt first [] [] p plan.main body code (locals_of (code.place.local + 1) (Ctx [] ∷ values)) (unmarked (domain_of p plan.main)) [] []
      (ap (λ n. local_at (locals_of (code.place.local + 1) (Ctx [] ∷ values)) n) (sym fills)
      ∙ locals.handed_at values [] body.max_locals code.place.local code.behind behind_slots)
      (locals.new_long values [] body.max_locals code.place.local code.behind behind_slots)

  stands : Stands p q first third
  stands = record {
    earlier = tt;
    running =
        record {
          frames = (pushed_stands p q moves None plan.main body is code [] values [] fills refl, tt);
          inherited = refl;
          runnable = refl;
          failed = refl;
          heir = λ e.
              refl;
        };
    later = tt;
    table = refl;
    store = refl;
    turns = refl;
  }

pub begins_law : BeginsInFour
begins_law has p q plan name moves main =
    let code = moves.begins name plan.main main in
    let one = moves.fills.main name plan.main code.0 code.1 main in
    let u = third has p q plan moves code.0 code.1 one in (
      u,
      subst (λ (t : Point). Leads (behind has q plan) 4 t [] u) (sym (second_is has p q plan moves code.0 code.1 one))
          (silent_leads (behind has q plan) 4 (second has p q plan moves code.0 code.1 one) u (lead has p q plan moves code.0 code.1 one)),
      subst (λ (s : Point). Stands p q s u) (sym (first_is has p q plan moves code.0 code.1 one)) (stands has p q plan moves code.0 code.1 one),
    )
