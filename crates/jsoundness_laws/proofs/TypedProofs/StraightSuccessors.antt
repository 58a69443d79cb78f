-- What a straight instruction does leads on in its method.
use Rattle.std.proofs.Common.{◌≡◌, ℕ, suc, true, List, [], ◌∷◌, ◌++◌, Option, Some, None, refl, sym, ap, subst, ◌∙◌}
use Rattle.std.specs.Prelude.{ℤ, pos, ◌+ℤ◌, option_to_list, slice_get}
use Rattle.jclass.specs.FileContents.{IsIn}
use Rattle.jparts.specs.declared.jcode.op.Placed.{Placed}
use Rattle.jparts.specs.jcode.InstructionForms.{form}
use Rattle.jvalues.specs.declared.jops.value.Value.{Value}
use Rattle.jtypes.specs.declared.vtype.VType.{VType}
use Rattle.jtypes.specs.declared.vtype.VType.TheVariants as types
use Rattle.jtypes.specs.TypeFrames.{Frame}
use Rattle.jresolution.specs.jprogram.ProgramClasses.{Program, tree}
use Rattle.jresolution.specs.jprogram.OrderedPrograms.{StandsInOrder}
use Rattle.jresolution.specs.juses.IndexedInstructions.{Instruction, instruction, targets}
use Rattle.jtyping.specs.jrule.InstructionContext.{Here}
use Rattle.jtyping.specs.jwelltyped.DeclaredFrames.{Written, declared_at}
use Rattle.jtyping.specs.jwelltyped.MethodPremises.{Method, here_of}
use Rattle.jtyping.specs.jwelltyped.VerifierTests.{frame_fits, leads_in}
use Rattle.jtyping.specs.jwelltyped.WellTypedness as typing
use Rattle.jtyping.specs.jwelltyped.WellTypedness.{AreFrames, Arrives}
use Rattle.jtyping.proofs.JwelltypedProofs.TypedFrames.{also_at, declared_there}
use Rattle.jtyping.proofs.JwelltypedProofs.BranchNumbers.{at_target, form_led}
use Rattle.jtyping.proofs.JwelltypedProofs.Successors.{gives_rule, number_onward}
use Rattle.jsemantics.specs.jmachine.MachineStates.{Act, FrameOf, Goes, Jumps, Leaves, Raises, Throws}
use Rattle.jsemantics.specs.jmachine.InstructionActions.{Doing, doing}
use Rattle.jsemantics.specs.jmachine.FrameOperations.{onward, standing}
use Rattle.jsemantics.specs.jmachine.Store.{Store}
use Rattle.jsemantics.specs.jmachine.World.{World, world}
use Rattle.jsoundness_laws.specs.typed.TypedActions.{CanDo, GivesOf}
use Rattle.jsoundness_laws.specs.typed.TypedFrames.{AllHaveDimensions, AllHave, AllHold, Has, Holds, IsBelow, IsMade, News, Suits}
use Rattle.jsoundness_laws.specs.typed.ControlFlow.{DeclareDimensions, Leads, LeadsOn, StraightLeads, SuitsAt, inside}
use Rattle.jsoundness_laws.specs.typed.TypedStores.{IsStored}
use Rattle.jsoundness_laws.specs.typed.TypedUses.{static_types}
use Rattle.jsoundness_laws.proofs.TypedProofs.StoreMonotonicity.{all_kept, have_kept}
use Rattle.jsoundness_laws.proofs.TypedProofs.TypedValues.{have_given}
use Rattle.jsoundness_laws.proofs.TypedProofs.Straights.{straight_does}
use Rattle.jsoundness_laws.proofs.TypedProofs.FrameSubsumption.{suits_wider}

-- ---- at another place of the method

module _ {K : Type 0} (w : World) (s : Store K) (h k : Here) (news : News) (class : h.class ≡ k.class) (makes : (o : ℕ) → h.makes o ≡ k.makes o) where
  has_there : (a : VType) (v : Value K) → Has w s h news a v → Has w s k news a v
  has_there types.Top v x = tt
  has_there types.UninitThis v x = (x.0, subst (λ c. IsBelow w s c news.this) class x.1)
  has_there (types.Uninit o) v x = (x.0, subst (λ c. IsMade w s c (news.made o)) (makes o) x.1)
  has_there types.Int v x = x
  has_there types.Long v x = x
  has_there types.Null v x = x
  has_there (types.Object c) v x = x
  has_there (types.Array b) v x = x
  has_there types.Ctx v x = x

  hold_there : (a : VType) (y : Option (Value K)) → Holds w s h news a y → Holds w s k news a y
  hold_there a None x = x
  hold_there a (Some v) x = has_there a v x

  have_there : (ts : List VType) (vs : List (Value K)) → AllHave w s h news ts vs → AllHave w s k news ts vs
  have_there [] [] x = tt
  have_there [] (v ∷ vs) x = absurd x
  have_there (a ∷ ts) [] x = absurd x
  have_there (a ∷ ts) (v ∷ vs) x = (has_there a v x.0, have_there ts vs x.1)

  all_there : (ts : List VType) (ls : List (Option (Value K))) → AllHold w s h news ts ls → AllHold w s k news ts ls
  all_there [] [] x = tt
  all_there [] (y ∷ ls) x = absurd x
  all_there (a ∷ ts) [] x = absurd x
  all_there (a ∷ ts) (y ∷ ls) x = (hold_there a y x.0, all_there ts ls x.1)

suits_place : {K E : Type 0} (p : Program) (s : Store K) (m : Method) (news : News) (a b : ℕ) (shape : Frame) (f : FrameOf K E)
    → Suits (world p) s (here_of p m a) news shape f → Suits (world p) s (here_of p m b) news shape f
suits_place p s m news a b shape f x = record {
  locals = all_there (world p) s (here_of p m a) (here_of p m b) news refl (λ o. refl) shape.locals f.locals x.locals;
  operands = have_there (world p) s (here_of p m a) (here_of p m b) news refl (λ o. refl) shape.stack f.operands x.operands;
}

-- ---- where a frame arrives

module _ {K E : Type 0} (p : Program) (stands : StandsInOrder p) (t : Store K) (m : Method) (ws : List Written) (fs : List Frame) (dims : DeclareDimensions ws) (news : News)
    (behind : Frame) (k : ℕ) (f : FrameOf K E) (suits : Suits (world p) t (inside p m) news behind f) where
  pub fitted_at : (next : Frame) → slice_get fs k ≡ Some next → AllHaveDimensions next → frame_fits (tree p) behind next ≡ true → SuitsAt p m fs news t k f
  fitted_at next at d fit = record { shape = next; there = at; suits = suits_wider K E p (world p) t (inside p m) news behind next f stands refl d fit suits }

  pub arrived_at : (next : Frame) (at : ℤ) (d : Option Frame) → slice_get fs k ≡ Some next → declared_at ws at ≡ d → Arrives (tree p) d behind next → SuitsAt p m fs news t k f
  arrived_at next at None there none a = record { shape = next; there = there; suits = subst (λ g. Suits (world p) t (inside p m) news g f) (sym a) suits }
  arrived_at next at (Some d) there is a = fitted_at d (there ∙ ap (λ f. Some f) a.0) (dims at d is) a.1

-- ---- where a frame is declared

no_led : (p : Program) (g : Frame) → leads_in (tree p) g None ≡ true → ⊥
no_led p g e = cc

-- Where an instruction leads a frame is declared, which is that of the instruction there.
pub record IsDeclared (p : Program) (ws : List Written) (fs : List Frame) (k : ℕ) (g : Frame) : Type 0 where
  pub at : ℤ
  pub frame : Frame
  pub declared : declared_at ws at ≡ Some frame
  pub there : slice_get fs k ≡ Some frame
  pub arrives : frame_fits (tree p) g frame ≡ true

module _ (p : Program) (m : Method) (ws : List Written) (fs : List Frame) (frames : AreFrames p m ws fs) where
  pub declared_by : (k : ℕ) (to : Placed) (g f : Frame) (at : ℤ) (d : Option Frame) → slice_get m.body.ops k ≡ Some to → slice_get fs k ≡ Some f → pos to.at ≡ at
      → declared_at ws at ≡ d → leads_in (tree p) g d ≡ true → IsDeclared p ws fs k g
  declared_by k to g f at None stands there same is e = absurd (no_led p g e)
  declared_by k to g f at (Some d) stands there same is e =
      let here : declared_at ws (pos to.at) ≡ Some d = ap (declared_at ws) same ∙ is in
      record {
        at = at;
        frame = d;
        declared = is;
        there = there ∙ ap (λ f. Some f) (declared_there p m ws fs frames k to f d stands there here);
        arrives = e;
      }

  led_declared : (n k : ℕ) (o : Placed) (f : Frame) (i : Instruction) → (x : typing.Serves p m ws fs n o f) → instruction p m.pool m.body.ops o ≡ Some i → IsIn k (targets i)
      → IsDeclared p ws fs k x.behind
  unfolding instruction
  led_declared n k o f i x e is =
      let led = form_led p m.pool m.body.ops o.at (form o.op) i k e is in
      let to = at_target m.body.ops o.at led.0 k o led.1.1 in
      let g = also_at m.body.ops fs k to.0 frames.each to.1.0 in
      declared_by k to.0 x.behind g.0 (pos o.at +ℤ led.0) (declared_at ws (pos o.at +ℤ led.0)) to.1.0 g.1 to.1.1 refl (x.leads led.0 led.1.0)

-- ---- where it leads

abbrev place : Program → Method → Placed → Here
place p m o = here_of p m o.at

module _ {K E : Type 0} (p : Program) (stands : StandsInOrder p) (s : Store K) (statics : List VType) (m : Method) (ws : List Written) (fs : List Frame)
    (frames : AreFrames p m ws fs) (dims : DeclareDimensions ws) (n : ℕ) (o : Placed) (i : Instruction) (is : instruction p m.pool m.body.ops o ≡ Some i) (shape : Frame)
    (x : typing.Serves p m ws fs n o shape) (news : News) where
  fitted : (t : Store K) (next : Frame) (k : ℕ) (f : FrameOf K E) → slice_get fs k ≡ Some next → AllHaveDimensions next → frame_fits (tree p) x.behind next ≡ true
      → Suits (world p) t (place p m o) news x.behind f → SuitsAt p m fs news t k f
  fitted t next k f at d fit suits = fitted_at p stands t m ws fs dims news x.behind k f (suits_place p t m news o.at 0 x.behind f suits) next at d fit

  arrived : (t : Store K) (next : Frame) (k : ℕ) (f : FrameOf K E) (at : ℤ) (d : Option Frame) → slice_get fs k ≡ Some next → declared_at ws at ≡ d → Arrives (tree p) d x.behind next
      → Suits (world p) t (place p m o) news x.behind f → SuitsAt p m fs news t k f
  arrived t next k f at d there is a suits = arrived_at p stands t m ws fs dims news x.behind k f (suits_place p t m news o.at 0 x.behind f suits) next at d there is a

  lead_on : (act : Act K E) (f : FrameOf K E) (gives : Option VType) (rest : List VType) → x.behind.stack ≡ (option_to_list gives ++ rest)
      → AllHold (world p) s (place p m o) news x.behind.locals f.locals → AllHave (world p) s (place p m o) news rest f.operands
      → GivesOf (world p) s statics (place p m o) news i gives act → Leads p m fs news s statics n f act
  lead_on (Goes t values events) f gives rest stack locals operands h =
      let c = number_onward p m ws fs n o shape i x is h.0 in
      let under = have_kept (world p) s t h.1 (place p m o) news rest f.operands operands in (
        h.1,
        h.2,
        arrived t c.frame (suc n) (onward f values) (pos c.next.at) (declared_at ws (pos c.next.at)) c.there refl c.arrives (record {
          locals = all_kept (world p) s t h.1 (place p m o) news x.behind.locals f.locals locals;
          operands = subst (λ ts. AllHave (world p) t (place p m o) news ts (values ++ f.operands)) (sym stack)
              (have_given (world p) t (place p m o) news gives values rest f.operands h.3 under);
        }),
      )
  lead_on (Jumps to) f gives rest stack locals operands h =
      let c = led_declared p m ws fs frames n to o shape i x is h.0 in
      fitted s c.frame to (standing f to f.operands) c.there (dims c.at c.frame c.declared) c.arrives (record {
        locals = locals;
        operands = subst (λ ts. AllHave (world p) s (place p m o) news ts f.operands) (sym (stack ∙ ap (λ g. option_to_list g ++ rest) h.1)) operands;
      })
  lead_on (Leaves values) f gives rest stack locals operands h = h.1
  lead_on (Raises events class message) f gives rest stack locals operands h = h
  lead_on (Throws y) f gives rest stack locals operands h = h
  lead_on _ f gives rest stack locals operands h = absurd h

leads_on : {K E : Type 0} (p : Program) (stands : StandsInOrder p) (s : Store K) (statics : List VType) (m : Method) (ws : List Written) (fs : List Frame)
    (frames : AreFrames p m ws fs) (dims : DeclareDimensions ws) (n : ℕ) (o : Placed) (i : Instruction) (is : instruction p m.pool m.body.ops o ≡ Some i) (shape : Frame)
    (x : typing.Serves p m ws fs n o shape) (found : Option (Doing K E)) → CanDo (world p) s statics (place p m o) i x.behind found → LeadsOn p m fs s statics n found
leads_on p stands s statics m ws fs frames dims n o i is shape x found d = record {
  done = d.done;
  is = d.is;
  news = d.news;
  leads = lead_on p stands s statics m ws fs frames dims n o i is shape x d.news d.done.row.act d.done.frame d.does.gives d.does.rest d.does.stack d.does.locals d.does.operands d.does.act;
}

pub straight_leads : (K E : Type 0) → StraightLeads K E
straight_leads K E r at own s entries inherited p m ws fs news n o i f stands place stored frames dims op is straight suits =
    let x = frames.serves n o suits.shape op suits.there in
    let here = here_of p m o.at in
    let before = subst (λ w. Suits w s here news suits.shape f) (sym place.program) (suits_place p s m news 0 o.at suits.shape f suits.suits) in
    let typed = subst (λ w. IsStored w s (static_types p)) (sym place.program) stored in
    let d = straight_does K E r at own s entries inherited p here news i suits.shape x.behind f stands place typed straight before
    (gives_rule p m ws fs n o suits.shape i x is) in
    leads_on p stands s (static_types p) m ws fs frames dims n o i is suits.shape x (doing r at own s entries inherited i f)
    (subst (λ w. CanDo w s (static_types p) here i x.behind (doing r at own s entries inherited i f)) place.program d)
