-- Instructions with locals and with the newest items of the stack: each is answered by itself.
use Rattle.std.proofs.Common.{◌≡◌, ℕ, ◌+◌, false, List, [], ◌∷◌, length, map, Option, Some, None, option_map, refl, sym, ap, ◌∙◌, subst, arith}
use Rattle.jvalues.specs.declared.jnames.names.Shuffle.{Shuffle}
use Rattle.jvalues.specs.declared.jops.value.Value.TheVariants.{Ctx}
use Rattle.jvalues.specs.jops.Shuffles.{Move, item, shuffle}
use Rattle.jparts.specs.declared.jcode.op_form.LocalForm.{LocalForm}
use Rattle.jresolution.specs.juses.IndexedInstructions.{Instruction, Local, Stack}
use Rattle.jctx.specs.declared.item.Item.{Item}
use Rattle.jctx.specs.Contexts.{enter}
use Rattle.jsemantics.specs.jmachine.MachineStates.{Goes, Outcome}
use Rattle.jsemantics.specs.jmachine.InstructionActions.{by_held, doing}
use Rattle.jsemantics.specs.jmachine.FrameOperations.{domain_of, with_held}
use Rattle.jsemantics.specs.jmachine.MachineSteps.{fetched, own_fields}
use Rattle.jsemantics.specs.jmachine.BasicInstructions.{Held, holding, local, moved, stack}
use Rattle.jsimulation_laws.specs.between.BetweenMachines.{context_of, shadowed, sourced, unmarked}
use Rattle.jsimulation_laws.specs.relation.InstructionExpansion.{expanded}
use Rattle.jsimulation_laws.specs.relation.StepCounts.{next_in, steps_of}
use Rattle.jsimulation_laws.specs.relation.StateRelation.{Frame, FrameStands, Point, Word, entries}
use Rattle.jsimulation_laws.proofs.LocalProofs.ContextLocals.{HeldStand, Stand, local_both}
use Rattle.jsimulation_laws.proofs.LocalProofs.RelatedStates.{Newest, Scene, answered, done_here, done_there, stepped}
use Rattle.jsimulation_laws.proofs.LocalProofs.MovedStates.{spot}
use Rattle.jsimulation_laws.proofs.LocalProofs.RowActs as straights
use Rattle.jsimulation_laws.proofs.LocalProofs.RowComparison as taking

module _ (most : ℕ) (c : Option Word) (xs ys : List (Option Word)) (st : Stand most c xs ys) where
  moved_both : (operands : List Word) (o : Option (Move Word))
      → HeldStand most c (option_map (λ m. holding xs (moved operands m)) o) (option_map (λ m. holding ys (moved operands m)) o)
  moved_both operands None = tt
  moved_both operands (Some m) = (ys, refl, st)

  stack_both : (op : Shuffle) (operands : List Word) → HeldStand most c (stack op (holding xs operands)) (stack op (holding ys operands))
  unfolding stack
  stack_both op operands = moved_both operands (shuffle op (map item operands))

module _ (z : Scene) (top : Newest z) where
  abbrev A : Outcome Point → List Frame → Type 0
  A o gs0 = taking.A z o gs0

  abbrev g : Frame
  g = spot top.f top.place top.ys

  abbrev most : ℕ
  most = top.new.frame.code.place.local

  abbrev context : Option Word
  context = Some (Ctx (enter (context_of (entries top.fs) z.s.running.inherited) (domain_of z.p top.f.method)))

  stand : Stand most context top.f.locals top.ys
  stand = record { locals = top.new.frame.locals; short = top.new.frame.short; long = top.new.frame.long; context = top.new.frame.context }

  -- the frames with what they hold then
  abbrev held_at : (h : Held (List Item)) (zs : List (Option Word)) → Stand most context h.locals zs
      → FrameStands z.p z.q z.s.running.inherited 0 top.fs (with_held top.f h) (spot (with_held top.f h) top.place zs)
  held_at h zs st = record {
    body = top.new.frame.body;
    is = top.new.frame.is;
    code = top.new.frame.code;
    method = refl;
    entry = refl;
    domain = top.new.frame.domain;
    operands = refl;
    place = top.new.frame.place;
    short = st.short;
    long = st.long;
    locals = st.locals;
    context = st.context;
  }

  module _ (i : Instruction) (at : fetched z.p top.f.method top.f.place ≡ Some i) (becomes : expanded top.new.frame.code.place top.new.frame.code.at i ≡ i ∷ []) where
    last : length (expanded top.new.frame.code.place top.new.frame.code.at i) ≡ 0 + 1
    last = ap (λ (xs : List Instruction). length xs) becomes

    next : next_in z.p z.s.running.frames ≡ Some i
    next = taking.next z top i at 0 (g ∷ top.gs) refl top.place top.new.frame.place last

    counts : steps_of (next_in z.p z.s.running.frames) false ≡ 1
    counts = taking.counts z top i at 0 (g ∷ top.gs) refl top.place top.new.frame.place last

    held_by : (o o' : Option (Held (List Item))) → HeldStand most context o o'
        → answered z (g ∷ top.gs) ≡ done_there z (g ∷ top.gs) top.gs
        (by_held (shadowed z.has) (taking.at_behind z g top.gs) (own_fields z.q g.method) z.s.store (entries (g ∷ top.gs)) z.s.running.inherited g o')
        → A
        (done_here z top.fs
        (by_held (sourced z.has) (taking.at_before z top.f top.fs) (own_fields z.p top.f.method) z.s.store (entries (top.f ∷ top.fs)) z.s.running.inherited top.f o))
        (g ∷ top.gs)
    held_by None o' st is = tt
    held_by (Some h) o' st is =
        straights.finish z (g ∷ top.gs) (g ∷ top.gs) 0 counts refl 0 top.fs top.gs (with_held top.f h) top.place st.0
        (held_at h st.0 st.2) (top.new.bare ∙ ap unmarked (sym top.new.frame.domain)) top.below i at last next
        (ap (λ (xs : List Frame). length xs) top.here) 0 (Goes z.s.store [] []) [] tt
        (is
        ∙ ap
        (λ (o : Option (Held (List Item))). done_there z (g ∷ top.gs) top.gs
        (by_held (shadowed z.has) (taking.at_behind z g top.gs) (own_fields z.q g.method) z.s.store (entries (g ∷ top.gs)) z.s.running.inherited g o)) st.1)

    fetches : fetched z.q top.f.method top.place ≡ Some i
    fetches = taking.fetches z top i at i becomes

  pub local_follows : (form : LocalForm) → fetched z.p top.f.method top.f.place ≡ Some (Local form) → A (stepped z) (g ∷ top.gs)
  unfolding doing
  local_follows form at =
      subst (λ (o : Outcome Point). A o (g ∷ top.gs)) (sym (taking.before_is z top.f top.fs (Local form) top.here at))
      (held_by (Local form) at refl (local form (holding top.f.locals top.f.operands)) (local form (holding top.ys top.f.operands))
      (local_both most context top.f.locals top.ys stand form top.f.operands)
      (taking.behind_is z g top.gs (Local form) (fetches (Local form) at refl)))

  pub stack_follows : (op : Shuffle) → fetched z.p top.f.method top.f.place ≡ Some (Stack op) → A (stepped z) (g ∷ top.gs)
  unfolding doing
  stack_follows op at =
      subst (λ (o : Outcome Point). A o (g ∷ top.gs)) (sym (taking.before_is z top.f top.fs (Stack op) top.here at))
      (held_by (Stack op) at refl (stack op (holding top.f.locals top.f.operands)) (stack op (holding top.ys top.f.operands))
      (stack_both most context top.f.locals top.ys stand op top.f.operands)
      (taking.behind_is z g top.gs (Stack op) (fetches (Stack op) at refl)))
