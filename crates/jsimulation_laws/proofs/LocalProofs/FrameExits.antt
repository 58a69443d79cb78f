-- Frames that are left: by a return, and by an exception.
use Rattle.std.proofs.Common.{◌≡◌, ℕ, ◌+◌, List, [], ◌∷◌, ◌++◌, Option, Some, None, option_map, refl, sym, ap, ◌∙◌, subst, arith}
use Rattle.jvalues.specs.declared.jops.value.Value.TheVariants.{Ref}
use Rattle.jtypes.specs.declared.vtype.VType.{VType}
use Rattle.jresolution.specs.declared.jprogram.member.MethodId.{MethodId}
use Rattle.jresolution.specs.jprogram.ProgramClasses.{Program}
use Rattle.jctx.specs.declared.item.Item.{Item}
use Rattle.jsemantics.specs.jmachine.FrameOperations.{domain_of}
use Rattle.jsemantics.specs.jmachine.Unwinding.{caught, handler_at, resumed, unwound}
use Rattle.jsimulation_laws.specs.between.BetweenMachines.{unmarked}
use Rattle.jsimulation_laws.specs.relation.ProgramRelation.{Moves}
use Rattle.jsimulation_laws.specs.relation.StateRelation.{BelowStands, Frame, FramesStand, NewestStands, OlderStands, Word}
use Rattle.jsimulation_laws.proofs.LocalProofs.MovedStates.{zero_more}

module _ (p q : Program) (moves : Moves p q) (inherited : Option (List Item)) where
  -- a frame that was called from goes on elsewhere, with nothing that marks it
  pub resumed_stands : (fs : List Frame) (f g : Frame) (o : OlderStands p q inherited fs f g) → (n m : ℕ) (xs ys : List Word) → m ≡ o.frame.code.at n + 0 → ys ≡ xs
      → NewestStands p q inherited fs (resumed unmarked p f n xs) (resumed unmarked q g m ys)
  resumed_stands fs f g o n m xs ys at same = record {
    frame = record {
      body = o.frame.body;
      is = o.frame.is;
      code = o.frame.code;
      method = o.frame.method;
      entry = ap (λ (x : MethodId). unmarked (domain_of q x)) o.frame.method ∙ ap unmarked (moves.domains f.method);
      domain = refl;
      operands = same;
      place = at;
      short = o.frame.short;
      long = o.frame.long;
      locals = o.frame.locals;
      context = o.frame.context;
    };
    bare = refl;
  }

  -- behind its call
  pub returned_stands : (fs : List Frame) (f g : Frame) → OlderStands p q inherited fs f g → (values : List Word)
      → NewestStands p q inherited fs (resumed unmarked p f (f.place + 1) (values ++ f.operands)) (resumed unmarked q g (g.place + 1) (values ++ g.operands))
  returned_stands fs f g o values =
      resumed_stands fs f g o (f.place + 1) (g.place + 1) (values ++ f.operands) (values ++ g.operands)
      (let next = o.frame.code.next f.place o.call o.is in let place = o.frame.place in let last = o.last in omega (arith, next, place, last))
      (ap (λ (xs : List Word). values ++ xs) o.frame.operands)

  -- ---- handlers

  pub handled_alike : (class : VType) (fs : List Frame) (f g : Frame) (o : OlderStands p q inherited fs f g)
      → handler_at q class g.method g.place ≡ option_map o.frame.code.at (handler_at p class f.method f.place)
  handled_alike class fs f g o =
      ap (λ (m : MethodId). handler_at q class m g.place) o.frame.method
      ∙ ap (λ n. handler_at q class f.method n) o.frame.place
      ∙ o.frame.code.handles class f.place o.more o.call o.is (let last = o.last in omega (arith, last))

  abbrev pub UnwoundStand : Option (List Frame) → Option (List Frame) → Type 0
  UnwoundStand None None = Unit {0}
  UnwoundStand None (Some gs) = ⊥
  UnwoundStand (Some fs) None = ⊥
  UnwoundStand (Some fs) (Some gs) = FramesStand p q inherited fs gs

  caught_stands : (n : ℕ) (fs gs : List Frame) (f g : Frame) (o : OlderStands p q inherited fs f g) → BelowStands p q inherited fs gs
      → (to : Option ℕ) (rest rest' : Option (List Frame)) → UnwoundStand rest rest'
      → UnwoundStand (caught unmarked p n f fs to rest) (caught unmarked q n g gs (option_map o.frame.code.at to) rest')
  caught_stands n fs gs f g o below None rest rest' st = st
  caught_stands n fs gs f g o below (Some to) rest rest' st =
      (resumed_stands fs f g o to (o.frame.code.at to) (Ref n ∷ []) (Ref n ∷ []) (zero_more (o.frame.code.at to)) refl, below)

  pub unwound_stands : (class : VType) (n : ℕ) (fs gs : List Frame) → BelowStands p q inherited fs gs
      → UnwoundStand (unwound unmarked p class n fs) (unwound unmarked q class n gs)
  unfolding unwound
  unwound_stands class n [] [] below = tt
  unwound_stands class n [] (g ∷ gs) below = absurd below
  unwound_stands class n (f ∷ fs) [] below = absurd below
  unwound_stands class n (f ∷ fs) (g ∷ gs) below =
      subst
      (λ (h : Option ℕ). UnwoundStand (caught unmarked p n f fs (handler_at p class f.method f.place) (unwound unmarked p class n fs))
      (caught unmarked q n g gs h (unwound unmarked q class n gs)))
      (sym (handled_alike class fs f g below.0))
      (caught_stands n fs gs f g below.0 below.1 (handler_at p class f.method f.place) (unwound unmarked p class n fs) (unwound unmarked q class n gs)
      (unwound_stands class n fs gs below.1))
