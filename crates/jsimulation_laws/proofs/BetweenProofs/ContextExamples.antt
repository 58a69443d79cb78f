-- The contexts of frames, computed: of a privilege in the middle, with what it was given and with limits, and of what a thread inherited.
use Rattle.std.proofs.Common.{◌≡◌, [], ◌∷◌, Some, None, refl}
use Rattle.std.specs.Prelude.{codes}
use Rattle.jperm.specs.declared.permission.Permission.{Permission}
use Rattle.jperm.specs.declared.permission.Permission.TheVariants.{Property}
use Rattle.jdomain.specs.DomainStacks as stacks
use Rattle.jctx.specs.ContextItems.{plain, with_limits}
use Rattle.jctx.specs.Contexts.{along}
use Rattle.jsemantics.specs.jrules.InspectingRules.{Carried, stack_of}
use Rattle.jsimulation_laws.specs.between.BetweenMachines.{Privileged, context_of, marked, noted_along, unmarked}

abbrev asked : Permission
asked = Property (codes "x") 1

-- each method enters its caller's context, once a domain
calls : context_of (unmarked 2 ∷ unmarked 1 ∷ unmarked 2 ∷ []) None ≡ plain 2 ∷ plain 1 ∷ []
calls = refl

inherits : context_of (unmarked 2 ∷ []) (Some (plain 1 ∷ [])) ≡ plain 2 ∷ plain 1 ∷ []
inherits = refl

-- behind a privilege nothing of the older frames is left,
alone : context_of (unmarked 3 ∷ marked (Privileged None None) (unmarked 2 ∷ []) ∷ unmarked 1 ∷ []) None ≡ plain 3 ∷ plain 2 ∷ []
alone = refl

-- what was given is there in their place,
within : context_of (marked (Privileged (Some (plain 5 ∷ [])) None) (unmarked 2 ∷ []) ∷ unmarked 1 ∷ []) None ≡ plain 2 ∷ plain 5 ∷ []
within = refl

-- and with limits they are there under these
limited : context_of (marked (Privileged None (Some (asked ∷ []))) (unmarked 2 ∷ []) ∷ unmarked 1 ∷ []) None ≡ plain 2 ∷ with_limits (asked ∷ []) (plain 1) ∷ []
limited = refl

-- a mark that holds a stack becomes one that holds its context
abbrev kept : Carried
kept = record { domain = 2; mark = stacks.Privileged (stacks.Within (stacks.Entry 5 stacks.Unmarked stacks.Bottom)) None }

along_marks : context_of (noted_along kept ∷ []) None ≡ along (stack_of (kept ∷ []) None)
along_marks = refl
