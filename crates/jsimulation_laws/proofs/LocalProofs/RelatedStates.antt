-- The two machines before a step, with threads and frames that stand for one another.
use Rattle.std.proofs.Common.{◌≡◌, ℕ, suc, List, [], ◌∷◌, length, Option, refl, ap, ◌∙◌}
use Rattle.std.specs.Prelude.{Bool, nat_le}
use Rattle.jperm.specs.declared.permission.Permission.{Permission}
use Rattle.jresolution.specs.declared.jprogram.member.MethodId.{MethodId}
use Rattle.jresolution.specs.jprogram.ProgramClasses.{Program}
use Rattle.jctx.specs.declared.item.Item.{Item}
use Rattle.jctx.specs.ContextLaws.{PrivilegedSame}
use Rattle.jsemantics.specs.declared.jmachine.plan.Plan.{Plan}
use Rattle.jsemantics.specs.jmachine.MachineStates.{Act, Outcome, Row}
use Rattle.jsemantics.specs.jmachine.InstructionActions.{Doing}
use Rattle.jsemantics.specs.jmachine.MachineSteps.{acted, applied, done, site}
use Rattle.jsemantics.specs.jmachine.World.{world}
use Rattle.jsimulation_laws.specs.between.BetweenMachines.{Noted, shadowed, sourced}
use Rattle.jsimulation_laws.specs.relation.ProgramRelation.{Moves}
use Rattle.jsimulation_laws.specs.relation.StateRelation.{BelowStands, Frame, Guest, GuestsStand, Heir, NewestStands, Point, Word, before, behind}
use Rattle.jsimulation_laws.proofs.LocalProofs.MovedStates.{spot, there}
use Rattle.jsimulation_laws.proofs.LocalProofs.ThreadTurns.{long_same}

-- a program and the moved one, a state of the first machine, and threads of the second that stand for those that don't run
pub record Scene : Type 0 where
  pub has : ℕ → Permission → Bool
  pub p : Program
  pub q : Program
  pub plan : Plan
  pub moves : Moves p q
  pub s : Point
  pub es : List Guest
  pub ls : List Guest
  pub earlier : GuestsStand p q s.earlier es
  pub later : GuestsStand p q s.later ls
  pub heir : Heir s.running
  -- a law of contexts
  pub same : PrivilegedSame

-- the frames of the running threads: the newest ones, of which the second has a place and locals of its own, and those below
pub record Newest (z : Scene) : Type 0 where
  pub f : Frame
  pub fs : List Frame
  pub gs : List Frame
  pub place : ℕ
  pub ys : List (Option Word)
  pub here : z.s.running.frames ≡ f ∷ fs
  pub new : NewestStands z.p z.q z.s.running.inherited fs f (spot f place ys)
  pub below : BelowStands z.p z.q z.s.running.inherited fs gs

-- ---- the steps of both

-- what the step of the one comes to
abbrev pub stepped : Scene → Outcome Point
stepped z = before z.has z.p z.plan z.s

-- the other's state, where its running thread has these frames
abbrev pub other : Scene → List Frame → Point
other z gs = there z.s z.es gs z.ls

abbrev pub follows : Scene → Point → Outcome Point
follows z t = behind z.has z.q z.plan t

-- and what its step comes to then
abbrev pub answered : Scene → List Frame → Outcome Point
answered z gs = follows z (other z gs)

abbrev pub acted_here : Scene → List Frame → ℕ → Act (List Item) Noted → Outcome Point
acted_here z frames cells act = acted (sourced z.has) z.p z.plan z.s frames cells act

abbrev pub acted_there : Scene → List Frame → List Frame → ℕ → Act (List Item) Noted → Outcome Point
acted_there z gs frames cells act = acted (shadowed z.has) z.q z.plan (other z gs) frames cells act

abbrev pub applied_here : Scene → List Frame → Row (List Item) Noted → Outcome Point
applied_here z frames row = applied (sourced z.has) z.p z.plan z.s frames row

abbrev pub applied_there : Scene → List Frame → List Frame → Row (List Item) Noted → Outcome Point
applied_there z gs frames row = applied (shadowed z.has) z.q z.plan (other z gs) frames row

abbrev pub done_here : Scene → List Frame → Option (Doing (List Item) Noted) → Outcome Point
done_here z below doing = done (sourced z.has) z.p z.plan z.s below doing

abbrev pub done_there : Scene → List Frame → List Frame → Option (Doing (List Item) Noted) → Outcome Point
done_there z gs below doing = done (shadowed z.has) z.q z.plan (other z gs) below doing

-- ---- both have as many threads and frames, so that what rows know of their place is the same but for the world

pub below_long : (p q : Program) (inherited : Option (List Item)) (fs gs : List Frame) → BelowStands p q inherited fs gs → length gs ≡ length fs
below_long p q inherited [] [] st = refl
below_long p q inherited [] (g ∷ gs) st = absurd st
below_long p q inherited (f ∷ fs) [] st = absurd st
below_long p q inherited (f ∷ fs) (g ∷ gs) st = ap suc (below_long p q inherited fs gs st.1)

module _ (z : Scene) where
  pub sites_same : (f g : Frame) (fs gs gs0 : List Frame) → g.method ≡ f.method → length gs ≡ length fs
      → site (shadowed z.has) z.q z.plan (there z.s z.es gs0 z.ls) g gs ≡ record (site (sourced z.has) z.p z.plan z.s f fs) { world = world z.q }
  sites_same f g fs gs gs0 same long =
      ap
      (λ (m : MethodId).
      record { world = world z.q; class = m.class; thread = length z.es; full = nat_le z.plan.depth (length (g ∷ gs)); cwd = z.plan.cwd; table = z.s.table }) same
      ∙ ap (λ n. record { world = world z.q; class = f.method.class; thread = n; full = nat_le z.plan.depth (length (g ∷ gs)); cwd = z.plan.cwd; table = z.s.table })
      (long_same z.p z.q z.s.earlier z.es z.earlier)
      ∙ ap (λ n. record { world = world z.q; class = f.method.class; thread = length z.s.earlier; full = nat_le z.plan.depth n; cwd = z.plan.cwd; table = z.s.table })
      (longer gs fs long)
    where
      longer : (xs ys : List Frame) → length xs ≡ length ys → length (g ∷ xs) ≡ length (f ∷ ys)
      longer xs ys e = ap suc e
