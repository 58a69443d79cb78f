-- Moves of the stack in typed frames: the same on types and on values, since a move asks of its items alone how wide they are.
use Rattle.std.proofs.Common.{◌≡◌, ℕ, zero, suc, Bool, true, false, List, [], ◌∷◌, ◌++◌, map, Option, Some, None, option_map, refl, sym, ap, subst, ◌∙◌}
use Rattle.std.specs.Prelude.{drop, option_and_then, if◌then◌else◌}
use Rattle.jvalues.specs.declared.jnames.names.Shuffle.{Shuffle}
use Rattle.jvalues.specs.declared.jops.value.Value.{Value}
use Rattle.jvalues.specs.jops.Shuffles as shuffles
use Rattle.jvalues.specs.jops.Shuffles.{Item, One, Two, Move, shuffle}
use Rattle.jvalues.proofs.JopsProofs.StackMoveFronts.{shuffle_front}
use Rattle.jtypes.specs.declared.vtype.VType.{VType}
use Rattle.jtypes.specs.TypeFrames.{Frame, is_long}
use Rattle.jtyping.specs.jrule.InstructionContext.{Here}
use Rattle.jtyping.specs.jrule.LocalRule.{is_top}
use Rattle.jtyping.specs.jrule.StackMoveRule.{items, move}
use Rattle.jtyping.specs.ProofNames.{moved}
use Rattle.jtyping.specs.jrule.StackOperands.{with_room, with_stack}
use Rattle.jsemantics.specs.jmachine.Store.{Store}
use Rattle.jsemantics.specs.jmachine.BasicInstructions as machine
use Rattle.jsemantics.specs.jmachine.BasicInstructions.{Held, holding}
use Rattle.jsemantics.specs.jmachine.World.{World}
use Rattle.jsemantics.proofs.JmachineProofs.StackMoves.{item_map, move_map, shuffle_alike}
use Rattle.jsoundness_laws.specs.typed.TypedFrames.{AllHave, AllHold, Has, News}
use Rattle.jsoundness_laws.proofs.TypedProofs.OperandExchange.{roomy}
use Rattle.jsoundness_laws.proofs.TypedProofs.Locals.{Kept}
use Rattle.jsoundness_laws.proofs.TypedProofs.ValueKinds.{as_long}

no_frame : (g : Frame) → None ≡ Some g → ⊥
no_frame g e = cc

-- ---- items that have a type and a value

module _ {K : Type 0} (w : World) (s : Store K) (here : Here) (news : News) where
  record Paired : Type 0 where
    type : VType
    value : Value K
    has : Has w s here news type value

  abbrev type_in : Paired → VType
  type_in p = p.type

  abbrev value_in : Paired → Value K
  value_in p = p.value

  abbrev paired : (a : VType) (v : Value K) → Has w s here news a v → Paired
  paired a v x = record { type = a; value = v; has = x }

  abbrev as_item : {V : Type 0} → Bool → V → Item V
  as_item b x = if b then Two x else One x

  -- down to Top
  abbrev pairs : (ts : List VType) (vs : List (Value K)) → AllHave w s here news ts vs → List (Item Paired)
  pairs [] vs h = []
  pairs (a ∷ ts) [] h = []
  pairs (a ∷ ts) (v ∷ vs) h = if is_top a then [] else as_item (is_long a) (paired a v h.0) ∷ pairs ts vs h.1

  item_typed : (b : Bool) (p : Paired) → item_map type_in (as_item b p) ≡ as_item b p.type
  item_typed true p = refl
  item_typed false p = refl

  types_on : (b c : Bool) (p : Paired) (ps : List (Item Paired)) (xs : List (Item VType)) → map (item_map type_in) ps ≡ xs
      → map (item_map type_in) (if b then [] else as_item c p ∷ ps) ≡ (if b then [] else as_item c p.type ∷ xs)
  types_on true c p ps xs e = refl
  types_on false c p ps xs e = ap (λ (x : Item VType). x ∷ map (item_map type_in) ps) (item_typed c p) ∙ ap (λ (xs : List (Item VType)). as_item c p.type ∷ xs) e

  types_are : (ts : List VType) (vs : List (Value K)) (h : AllHave w s here news ts vs) → map (item_map type_in) (pairs ts vs h) ≡ items ts
  unfolding items
  types_are [] [] h = refl
  types_are [] (v ∷ vs) h = refl
  types_are (a ∷ ts) [] h = absurd h
  types_are (a ∷ ts) (v ∷ vs) h = types_on (is_top a) (is_long a) (paired a v h.0) (pairs ts vs h.1) (items ts) (types_are ts vs h.1)

  item_valued : (b c : Bool) (p : Paired) → b ≡ c → as_item c p.value ≡ item_map value_in (as_item b p)
  item_valued true true p e = refl
  item_valued false false p e = refl
  item_valued true false p e = absurd (cc)
  item_valued false true p e = absurd (cc)

  abbrev Above : List (Item Paired) → List (Value K) → Type 0
  Above ps vs = (below : List (Item (Value K))) × (map shuffles.item vs ≡ map (item_map value_in) ps ++ below)

  values_on : (b c : Bool) (p : Paired) (ps : List (Item Paired)) (vs : List (Value K)) → (b ≡ false → c ≡ shuffles.is_long p.value) → Above ps vs
      → Above (if b then [] else as_item c p ∷ ps) (p.value ∷ vs)
  values_on true c p ps vs same more = (map shuffles.item (p.value ∷ vs), refl)
  values_on false c p ps vs same more = (
    more.0,
    ap (λ (x : Item (Value K)). x ∷ map shuffles.item vs) (item_valued c (shuffles.is_long p.value) p (same refl))
        ∙ ap (λ (xs : List (Item (Value K))). item_map value_in (as_item c p) ∷ xs) more.1,
  )

  values_are : (ts : List VType) (vs : List (Value K)) (h : AllHave w s here news ts vs) → Above (pairs ts vs h) vs
  values_are [] vs h = (map shuffles.item vs, refl)
  values_are (a ∷ ts) [] h = absurd h
  values_are (a ∷ ts) (v ∷ vs) h = values_on (is_top a) (is_long a) (paired a v h.0) (pairs ts vs h.1) vs (λ e. as_long w s here news a v h.0 e) (values_are ts vs h.1)

  -- ---- what is moved

  have_drop : (n : ℕ) (ts : List VType) (vs : List (Value K)) → AllHave w s here news ts vs → AllHave w s here news (drop n ts) (drop n vs)
  have_drop zero ts vs h = h
  have_drop (suc n) [] [] h = tt
  have_drop (suc n) [] (v ∷ vs) h = absurd h
  have_drop (suc n) (t ∷ ts) [] h = absurd h
  have_drop (suc n) (t ∷ ts) (v ∷ vs) h = have_drop n ts vs h.1

  have_put : (ps : List Paired) (ts : List VType) (vs : List (Value K)) → AllHave w s here news ts vs → AllHave w s here news (map type_in ps ++ ts) (map value_in ps ++ vs)
  have_put [] ts vs h = h
  have_put (p ∷ ps) ts vs h = (p.has, have_put ps ts vs h)

  moved_have : (m : Move Paired) (ts : List VType) (vs : List (Value K)) → AllHave w s here news ts vs
      → AllHave w s here news (moved ts (move_map type_in m)) (machine.moved vs (move_map value_in m))
  moved_have m ts vs h = have_put m.put (drop m.taken ts) (drop m.taken vs) (have_drop m.taken ts vs h)

  abbrev after : ℕ → Frame → Option (Move VType) → Option Frame
  after most shape o = option_and_then (with_room most shape) (option_map (moved shape.stack) o)

  types_move : (op : Shuffle) (ts : List VType) (vs : List (Value K)) (h : AllHave w s here news ts vs)
      → option_map (move_map type_in) (shuffle op (pairs ts vs h)) ≡ shuffle op (items ts)
  types_move op ts vs h = shuffle_alike type_in op (pairs ts vs h) ∙ ap (shuffle op) (types_are ts vs h)

  values_move : (op : Shuffle) (ts : List VType) (vs : List (Value K)) (h : AllHave w s here news ts vs) (m : Move Paired) → shuffle op (pairs ts vs h) ≡ Some m
      → shuffle op (map shuffles.item vs) ≡ Some (move_map value_in m)
  values_move op ts vs h m e =
      let x = values_are ts vs h in
      let front : shuffle op (map (item_map value_in) (pairs ts vs h)) ≡ Some (move_map value_in m) = sym (shuffle_alike value_in op (pairs ts vs h))
      ∙ ap (option_map (move_map value_in)) e in
      ap (shuffle op) x.1 ∙ (shuffle_front op (map (item_map value_in) (pairs ts vs h)) x.0 (move_map value_in m) front).0

  pub stack_does : (most : ℕ) (op : Shuffle) (shape behind : Frame) (h : Held K) → AllHold w s here news shape.locals h.locals → AllHave w s here news shape.stack h.operands
      → move most op shape ≡ Some behind → Kept w s here news behind (machine.stack op h)
  unfolding machine.stack
  stack_does most op shape behind h fit fits e = go (shuffle op (pairs shape.stack h.operands fits)) refl
    where
      go : (o : Option (Move Paired)) → shuffle op (pairs shape.stack h.operands fits) ≡ o
          → Kept w s here news behind (option_map (λ m. holding h.locals (machine.moved h.operands m)) (shuffle op (map shuffles.item h.operands)))
      go None is =
          let same : after most shape None ≡ Some behind = ap (after most shape) (ap (option_map (move_map type_in)) (sym is) ∙ types_move op shape.stack h.operands fits) ∙ e in
          absurd (no_frame behind same)
      go (Some m) is =
          let same : after most shape (Some (move_map type_in m)) ≡ Some behind = ap (after most shape) (ap (option_map (move_map type_in)) (sym is) ∙ types_move op shape.stack h.operands fits) ∙ e in
          let at : behind ≡ with_stack shape (moved shape.stack (move_map type_in m)) = roomy most shape (moved shape.stack (move_map type_in m)) behind same in
          subst (λ f. Kept w s here news f (option_map (λ m. holding h.locals (machine.moved h.operands m)) (shuffle op (map shuffles.item h.operands)))) (sym at) (record {
            held = holding h.locals (machine.moved h.operands (move_map value_in m));
            is = ap (option_map (λ m. holding h.locals (machine.moved h.operands m))) (values_move op shape.stack h.operands fits m is);
            locals = fit;
            operands = moved_have m shape.stack h.operands fits;
          })
