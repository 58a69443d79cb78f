-- How the runs of a program and of its moved program begin: `main` of the latter enters its context first.
use Rattle.std.specs.Prelude.{◌≡◌, ℕ, Bool, List, [], Some}
use Rattle.jperm.specs.declared.permission.Permission.{Permission}
use Rattle.jresolution.specs.jprogram.ProgramClasses.{Program}
use Rattle.jresolution.specs.jprogram.MemberResolution.{main_of}
use Rattle.jsemantics.specs.declared.jmachine.plan.Plan.{Plan}
use Rattle.jsemantics.specs.jmachine.OpeningState.{opening_state}
use Rattle.jsimulation_laws.specs.between.BetweenMachines.{shadowed, sourced}
use Rattle.jsimulation_laws.specs.stuttering.StutteringRuns.{Leads}
use Rattle.jsimulation_laws.specs.relation.ProgramRelation.{Moves}
use Rattle.jsimulation_laws.specs.relation.StateRelation.{Point, Stands, behind}

-- the first state of a run, on either side
abbrev pub first : (ℕ → Permission → Bool) → Program → Plan → Point
first has p plan = opening_state (sourced has) p plan.main plan.heap

abbrev pub first_moved : (ℕ → Permission → Bool) → Program → Plan → Point
first_moved has q plan = opening_state (shadowed has) q plan.main plan.heap

-- The moved program comes in four steps, which tell nothing, to a state that stands for the first one of the program as it was written.
abbrev pub BeginsInFour : Type 0
BeginsInFour = (has : ℕ → Permission → Bool) (p q : Program) (plan : Plan) (name : List ℕ) → Moves p q → main_of p name ≡ Some plan.main
    → (u : Point) × Leads (behind has q plan) 4 (first_moved has q plan) [] u × Stands p q (first has p plan) u
