-- What a step asks, and what it comes to, behind a row.
use Rattle.std.proofs.Common.{◌≡◌, ◌∙◌, ℕ, Bool, true, false, [], Option, Some, None, refl, sym, ap, subst}
use Rattle.std.specs.Prelude.{nat_le, if◌then◌else◌}
use Rattle.jlib.specs.declared.side.Side.{Side}
use Rattle.jresolution.specs.jprogram.ProgramClasses.{Program}
use Rattle.jresolution.specs.juses.IndexedInstructions.{Instruction}
use Rattle.jsemantics.specs.declared.jmachine.plan.Plan.{Plan}
use Rattle.jsemantics.specs.jmachine.MachineStates.{Act, FrameOf, Goes, Jumps, Leaves, Calls, Raises, Throws, Switches, Makes, Outcome, State}
use Rattle.jsemantics.specs.jmachine.AccessQueries.{Ask, asked_by, asked_on, asks}
use Rattle.jsemantics.specs.jmachine.InstructionActions.{Doing, doing}
use Rattle.jsemantics.specs.jmachine.Security.{Rules}
use Rattle.jsemantics.specs.jmachine.MachineSteps.{entries, fetched, own_fields, site, step, went}
use Rattle.jsemantics.specs.jmachine.Store.{Store, paid}
use Rattle.jsemantics.specs.jmachine.FrameOperations.{onward}
use Rattle.jruntime.specs.jstate.FrameLists.{Framed, all}
use Rattle.jrows.specs.declared.jacts.way.Way.{Way}
use Rattle.jrows.specs.declared.jacts.way.Way.TheVariants as ways
use Rattle.jrows.specs.jacts.RowOutcomes.{Acted, Comes, Left, leaves}
use Rattle.jserving.specs.jinvoke.InvokeLaws.{StepsAt}
use Rattle.jstepping.specs.declared.jstep.outcomes.Stepped.{Stepped}
use Rattle.jstepping.specs.declared.jstep.outcomes.Stepped.TheVariants as steps
use Rattle.jstepping.specs.jstep.RowSuccessors.{Follows, behind}
use Rattle.jstepping.specs.jstep.InstructionRows.{IsRaising}
use Rattle.jstepping.specs.jstep.StepRelation.{AsksAs, CameTo, IsQuiet, ReachesAs, SteppedAs}

-- ---- what a step asks

module _ {E : Type 0} (side : Side) (p : Program) (plan : Plan) (s : State ℕ E) (f : Framed E) where
  -- what its instruction asks
  pub asks_fetched : (it : Option Instruction) → s.running.frames ≡ all f → it ≡ fetched p f.newest.method f.newest.place
      → asks side p plan s ≡ asked_by side p plan s f.newest f.below it
  unfolding asks
  asks_fetched it top is = ap (asked_on side p plan s) top ∙ ap (asked_by side p plan s f.newest f.below) (sym is)

-- ---- a step that doesn't ask the library

module _ {E : Type 0} (r : Rules ℕ E) (p : Program) (plan : Plan) (s : State ℕ E) (f g : Framed E) (t : Store ℕ) (o : Outcome (State ℕ E))
    (a : Option (Ask ℕ)) (it : Option Instruction) where
  asks_quietly : (done : Stepped) → IsQuiet done → a ≡ None → AsksAs r p plan s f done a
  asks_quietly steps.Went quiet none = none
  asks_quietly steps.Ended quiet none = none
  asks_quietly (steps.Handled class) quiet none = none
  asks_quietly (steps.Uncaught class) quiet none = none
  asks_quietly (steps.Asks call count) quiet none = absurd quiet
  asks_quietly steps.Full quiet none = none
  asks_quietly steps.Stuck quiet none = none

  reaches_quietly : (done : Stepped) → IsQuiet done → ReachesAs r p plan s f done it
  reaches_quietly steps.Went quiet = tt
  reaches_quietly steps.Ended quiet = tt
  reaches_quietly (steps.Handled class) quiet = tt
  reaches_quietly (steps.Uncaught class) quiet = tt
  reaches_quietly (steps.Asks call count) quiet = absurd quiet
  reaches_quietly steps.Full quiet = tt
  reaches_quietly steps.Stuck quiet = tt

  pub came_quietly : (done : Stepped) → IsQuiet done → a ≡ None → SteppedAs r p plan s done g t o → CameTo r p plan s f done g t o a it
  came_quietly done quiet none is = record { outcome = is; asked = asks_quietly done quiet none; reached = reaches_quietly done quiet }

-- ---- what raises has left the store as it was

module _ {E : Type 0} (f : FrameOf ℕ E) (s : Store ℕ) (way : Way) (g : FrameOf ℕ E) (t : Store ℕ) where
  abbrev what_is_left : Left E
  what_is_left = leaves way [] g t

  goes_raising : (b : Bool) (x y : Left E) → IsRaising way → what_is_left ≡ (if b then x else y) → x.way ≡ ways.Went → y.way ≡ ways.Full → t ≡ s
  goes_raising true x y raising is went full = absurd (subst IsRaising (ap (λ (l : Left E). l.way) is ∙ went) raising)
  goes_raising false x y raising is went full = absurd (subst IsRaising (ap (λ (l : Left E). l.way) is ∙ full) raising)

  acts_raising : (x : FrameOf ℕ E) (cells : ℕ) (act : Act ℕ E) → IsRaising way → Acted f s x cells act what_is_left → t ≡ s
  acts_raising x cells (Goes u values events) raising is =
      goes_raising (nat_le cells s.left) (leaves ways.Went events (onward x values) (paid cells u)) (leaves ways.Full [] f s) raising is refl refl
  acts_raising x cells (Jumps to) raising is = absurd (subst IsRaising (ap (λ (l : Left E). l.way) is.1) raising)
  acts_raising x cells (Leaves values) raising is = absurd is
  acts_raising x cells (Calls m arguments entry) raising is = absurd is
  acts_raising x cells (Raises events class message) raising (none, no_message, is_way, told, same, store) = store
  acts_raising x cells (Throws n) raising is = absurd (subst IsRaising is.1 raising)
  acts_raising x cells (Switches table) raising is = absurd is
  acts_raising x cells (Makes u runnable k) raising is = absurd is

  pub raising_stays : (d : Option (Doing ℕ E)) → IsRaising way → Comes f s d what_is_left → t ≡ s
  raising_stays None raising is = absurd (subst IsRaising is raising)
  raising_stays (Some d) raising is = acts_raising d.frame d.row.charge d.row.act raising is

-- ---- the step behind a row

module _ {E : Type 0} (r : Rules ℕ E) (p : Program) (plan : Plan) (s : State ℕ E) (f : Framed E) (it : Instruction) where
  -- what its instruction does in that place
  abbrev pub done_there : Store ℕ → Option (Doing ℕ E)
  done_there t = doing r (site r p plan s f.newest f.below) (own_fields p f.newest.method) t (entries r p plan s (all f)) s.running.inherited it f.newest

  pub steps_behind : StepsAt E → Follows E → s.running.frames ≡ all f → Some it ≡ fetched p f.newest.method f.newest.place
      → (l : Left E) → Comes f.newest s.store (done_there s.store) l → step r p plan s ≡ behind r p plan s f.below l.way l
  steps_behind at_law follows top is l comes =
      at_law r p plan s f (Some it) top is ∙ follows r p plan s f.newest f.below (done_there s.store) l comes
