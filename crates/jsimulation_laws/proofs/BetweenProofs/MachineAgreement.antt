-- The inspecting machine answers as the first of the machines between, and the second of these as the plain machine.
use Rattle.std.proofs.Common.{◌≡◌, ℕ, List, [], ◌∷◌, map, Option, Some, None, option_map, refl, sym, ap, ◌∙◌}
use Rattle.jperm.specs.declared.permission.Permission.{Permission}
use Rattle.jdomain.specs.DomainStacks as stacks
use Rattle.jdomain.specs.DomainStacks.{Stack}
use Rattle.jctx.specs.declared.item.Item.{Item}
use Rattle.jctx.specs.Contexts.{along, along_given, along_mark, privileged, verdict}
use Rattle.jctx.specs.ContextLaws.{DecidesAsTheWalk}
use Rattle.jsemantics.specs.jmachine.StateMaps.{privilege_map}
use Rattle.jsemantics.specs.jmachine.NaturalityLaws.{RunAlike, StepAlike}
use Rattle.jsemantics.specs.jmachine.Security.{Privilege}
use Rattle.jsemantics.specs.jrules.InspectingRules as inspecting
use Rattle.jsemantics.specs.jrules.InspectingRules.{Carried, given_by, stack_of}
use Rattle.jsemantics.specs.jrules.PlainRules as plain
use Rattle.jsimulation_laws.specs.between.MachineAgreement.{ShadowedAgree, ShadowedRuns, ShadowedSteps, SourcedAgree, SourcedRuns, SourcedSteps, left_out, the_same}
use Rattle.jsimulation_laws.specs.between.BetweenMachines as beside
use Rattle.jsimulation_laws.specs.between.BetweenMachines.{Noted, context_of, mark_along, noted_along, shadowed, sourced, within_mark}
use Rattle.std.specs.Prelude.{unwrap_or}

-- ---- stacks and their contexts

mark_same : (d : ℕ) (mark : stacks.Mark) (c : List Item) → along_mark d mark c ≡ within_mark d (mark_along mark) c
mark_same d stacks.Unmarked c = refl
mark_same d (stacks.Privileged given limits) c = refl

along_same : (entries : List Carried) (below : Option Stack) → along (stack_of entries below) ≡ context_of (map noted_along entries) (option_map along below)
along_same [] None = refl
along_same [] (Some s) = refl
along_same (e ∷ entries) below =
    mark_same e.domain e.mark (along (stack_of entries below)) ∙ ap (within_mark e.domain (mark_along e.mark)) (along_same entries below)

given_same : (given : Option Stack) → along_given (given_by given) ≡ option_map along given
given_same None = refl
given_same (Some s) = refl

abbrev allowed : List Noted → Option (List Item) → Option (List Permission) → Privilege (List Item) Noted
allowed entries given limits = record { caller = beside.marked (beside.Privileged given limits) entries; context = None }

marked_same : (entries : List Carried) (given : Option Stack) (limits : Option (List Permission))
    → privilege_map along noted_along (record { caller = inspecting.marked (stacks.Privileged (given_by given) limits) entries; context = None })
    ≡ allowed (map noted_along entries) (option_map along given) limits
marked_same [] given limits = ap (λ g. allowed [] g limits) (given_same given)
marked_same (e ∷ entries) given limits = ap (λ g. allowed (noted_along e ∷ map noted_along entries) g limits) (given_same given)

pub sourced_agree : DecidesAsTheWalk → SourcedAgree
unfolding inspecting.rules sourced
sourced_agree decides has = record {
  side = refl;
  entries = λ d. refl;
  first = refl;
  check = λ asked ctx entries inherited. sym (decides has asked (stack_of entries inherited)) ∙ ap (verdict has asked) (along_same entries inherited);
  enter = λ s d. refl;
  check_kept = λ asked s. sym (decides has asked s);
  snapshot = λ ctx entries inherited. along_same entries inherited;
  inherit = λ ctx entries inherited. along_same entries inherited;
  privileged = λ d ctx given limits entries. marked_same entries given limits;
}

-- ---- contexts that stay as they are

same_context : (c : Option (List Item)) → option_map the_same c ≡ c
same_context None = refl
same_context (Some c) = refl

abbrev passed : Option ℕ → Option (List Item) → Option (List Permission) → List Item → Privilege (List Item) (Unit {0})
passed d given limits c = record { caller = tt; context = Some (privileged (unwrap_or d 0) given limits c) }

pub shadowed_agree : ShadowedAgree
unfolding plain.rules shadowed
shadowed_agree has = record {
  side = refl;
  entries = λ d. refl;
  first = refl;
  check = λ asked ctx entries inherited. ap (λ c. verdict has asked (unwrap_or c [])) (sym (same_context ctx));
  enter = λ c d. refl;
  check_kept = λ asked c. refl;
  snapshot = λ ctx entries inherited. ap (λ (c : Option (List Item)). unwrap_or c []) (sym (same_context ctx));
  inherit = λ ctx entries inherited. ap (λ (c : Option (List Item)). unwrap_or c []) (sym (same_context ctx));
  privileged = λ d ctx given limits entries.
      ap (λ g. passed d g limits (unwrap_or ctx [])) (sym (same_context given))
      ∙ ap (λ c. passed d (option_map the_same given) limits (unwrap_or c [])) (sym (same_context ctx));
}

-- ---- steps and runs

pub sourced_steps : DecidesAsTheWalk → StepAlike Stack (List Item) Carried Noted → SourcedSteps
sourced_steps decides alike has p plan s = alike along noted_along (inspecting.rules has) (sourced has) (sourced_agree decides has) p plan s

pub sourced_runs : DecidesAsTheWalk → RunAlike Stack (List Item) Carried Noted → SourcedRuns
sourced_runs decides alike has p plan k = alike along noted_along (inspecting.rules has) (sourced has) (sourced_agree decides has) p plan k

pub shadowed_steps : StepAlike (List Item) (List Item) Noted (Unit {0}) → ShadowedSteps
shadowed_steps alike has p plan s = alike the_same left_out (shadowed has) (plain.rules has) (shadowed_agree has) p plan s

pub shadowed_runs : RunAlike (List Item) (List Item) Noted (Unit {0}) → ShadowedRuns
shadowed_runs alike has p plan k = alike the_same left_out (shadowed has) (plain.rules has) (shadowed_agree has) p plan k
