-- Small contexts: of a moved program, each context that stands in a state has domains of the program's classes alone.
use Rattle.std.specs.Prelude.{◌≡◌, ◌≤◌, ◌==◌, ℕ, true, Bool, List, [], ◌∷◌, length, map, None, if◌then◌else◌}
use Rattle.std.specs.List.{All, AllByRecursion, list_any}
use Rattle.jperm.specs.declared.permission.Permission.{Permission}
use Rattle.jresolution.specs.jprogram.ProgramClasses.{Program}
use Rattle.jctx.specs.declared.item.Item.{Item}
use Rattle.jctx.specs.ContextLaws.{IsKept, domains}
use Rattle.jtyping.specs.jwelltyped.VerifierTests.{WellTyped}
use Rattle.jrewriting.specs.jrewrite.LinkageLaws.{IsLinked}
use Rattle.jrewriting.specs.jrewrite.RewrittenPrograms.{limits, moved}
use Rattle.jsemantics.specs.declared.jmachine.plan.Plan.{Plan}
use Rattle.jsemantics.specs.jmachine.MachineStates.{State}
use Rattle.jsemantics.specs.jmachine.Machine.{run}
use Rattle.jsemantics.specs.jrules.PlainRules.{rules}
use Rattle.jmoved_laws.specs.contexts.StateContexts.{contexts}

-- the domains of a program's classes,
abbrev pub class_domains : Program → List ℕ
class_domains p = map (λ part. part.domain) p.parts

-- and each number of a list once
abbrev pub each_once : List ℕ → List ℕ
each_once [] = []
each_once (d ∷ ds) = if list_any (◌==◌ d) ds then each_once ds else d ∷ each_once ds

-- No item of a context is covered by an earlier one, and its domains are those of a program's classes; so without limits it has no more
-- items than the program has domains.
pub record IsSmall (p : Program) (c : List Item) : Type 0 where
  pub kept : IsKept c
  pub within : (d : ℕ) → list_any (◌==◌ d) (domains c) ≡ true → list_any (◌==◌ d) (class_domains p) ≡ true
  pub few : All (λ i. i.limits ≡ []) c → length c ≤ length (each_once (class_domains p))

-- each context that stands in a state is
abbrev pub HasSmall : {E : Type 0} → Program → State (List Item) E → Type 0
HasSmall p s = AllByRecursion (IsSmall p) (contexts s)

-- ---- the law

-- In each state of a run of a moved program, behind any number of steps, on any policy and plan, of each program that links, is well typed and
-- breaks no limit.
abbrev pub ContextsStaySmall : Type 0
ContextsStaySmall = (has : ℕ → Permission → Bool) (p : Program) (plan : Plan) (k : ℕ) → IsLinked p → WellTyped p → limits p ≡ None
    → HasSmall p (run (rules has) (moved p) plan k).state
