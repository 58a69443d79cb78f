-- Moves of the newest items of the stack.
use Rattle.std.proofs.Common.{◌≡◌, ◌∙◌, ℕ, ◌+◌, ◌≤◌, Bool, true, false, List, [], ◌∷◌, length, map, take, Some, None, refl, sym, ap, arith}
use Rattle.std.specs.Prelude.{Result, IfOk, OnOk, slice_get, if◌then◌else◌}
use Rattle.std.proofs.lemmas.List.{length-map}
use Rattle.jvalues.specs.declared.jnames.names.Shuffle.{Shuffle}
use Rattle.jvalues.specs.declared.jops.value.Value.{Value}
use Rattle.jvalues.specs.jops.Shuffles.{Item, LooksAtFour, LooksNoDeeper, One, Two, is_long, item, shuffle}
use Rattle.jresolution.specs.juses.IndexedInstructions.{Stack}
use Rattle.jsemantics.specs.jmachine.MachineStates.{FrameOf}
use Rattle.jsemantics.specs.jmachine.InstructionActions.{doing}
use Rattle.jsemantics.specs.jmachine.FrameOperations.{standing}
use Rattle.jsemantics.specs.jmachine.BasicInstructions.{moved, stack}
use Rattle.jruntime.specs.jstate.FrameLists.{Framed, with_newest}
use Rattle.jrows.specs.declared.jacts.moves.Top.TheVariants as tops
use Rattle.jrows.specs.declared.jacts.moves.Laid.{Laid}
use Rattle.jrows.specs.jacts.StackMoves.{four, laid, on, top_seen}
use Rattle.jrows.specs.jacts.RowOutcomes.{Does}
use Rattle.jrows.specs.declared.jacts.way.Way.{Way}
use Rattle.jrows.specs.declared.jacts.way.Way.TheVariants as ways
use Rattle.jrows.proofs.JactsProofs.Costs.{at_no_cost, if_went}

-- ---- items that are there

on_item : (v : Value ℕ) (below : List (Item (Value ℕ))) → item v ∷ below ≡ on (top_seen (Some v)) below
on_item v below = by (is_long v)
  where
    by : (b : Bool) → (if b then Two v else One v) ∷ below ≡ on (if b then tops.Two v else tops.One v) below
    by true = refl
    by false = refl

-- the newest four items of a stack, as they are seen
abbrev pub seen_four : List (Value ℕ) → List (Item (Value ℕ))
seen_four xs = four (top_seen (slice_get xs 0)) (top_seen (slice_get xs 1)) (top_seen (slice_get xs 2)) (top_seen (slice_get xs 3))

four_seen : (xs : List (Value ℕ)) → take 4 (map item xs) ≡ seen_four xs
four_seen [] = refl
four_seen (a ∷ []) = on_item a []
four_seen (a ∷ b ∷ []) = ap (λ xs. item a ∷ xs) (on_item b []) ∙ on_item a _
four_seen (a ∷ b ∷ c ∷ []) = ap (λ xs. item a ∷ item b ∷ xs) (on_item c []) ∙ ap (λ xs. item a ∷ xs) (on_item b _) ∙ on_item a _
four_seen (a ∷ b ∷ c ∷ d ∷ rest) =
    ap (λ xs. item a ∷ item b ∷ item c ∷ xs) (on_item d []) ∙ ap (λ xs. item a ∷ item b ∷ xs) (on_item c _) ∙ ap (λ xs. item a ∷ xs) (on_item b _) ∙ on_item a _

pub all_seen : LooksAtFour (Value ℕ) → (op : Shuffle) (xs : List (Value ℕ)) → shuffle op (map item xs) ≡ shuffle op (seen_four xs)
all_seen law op xs = sym (law op (map item xs)) ∙ ap (shuffle op) (four_seen xs)

-- no more go than are there
pub few_go : LooksAtFour (Value ℕ) → LooksNoDeeper (Value ℕ) → (op : Shuffle) (xs : List (Value ℕ)) (l : Laid) → Some (laid l) ≡ shuffle op (seen_four xs) → (laid l).taken ≤ length xs
few_go law deep op xs l h =
    let few = (deep op (map item xs) [] (laid l) (all_seen law op xs ∙ sym h)).1 in
    omega (arith, few, length-map xs (item {K = ℕ}))

-- ---- the row

module _ {E : Type 0} (law : LooksAtFour (Value ℕ)) (f : FrameOf ℕ E) (op : Shuffle) where
  pub moved_on : (l : Laid) → Some (laid l) ≡ shuffle op (seen_four f.operands) → Does (Stack op) f ways.Went (standing f (f.place + 1) (moved f.operands (laid l)))
  unfolding doing stack
  moved_on l h r at own s entries inherited = rw (all_seen law op f.operands, ← h) (at_no_cost f s [] (standing f (f.place + 1) (moved f.operands (laid l))))

  pub move_stuck : (g : FrameOf ℕ E) → None ≡ shuffle op (seen_four f.operands) → Does (Stack op) f ways.Stuck g
  unfolding doing stack
  move_stuck g h r at own s entries inherited = rw (all_seen law op f.operands, ← h) refl

  pub if_moved : (l : Laid) → Some (laid l) ≡ shuffle op (seen_four f.operands) → {F : Type 0} (r : Result Way F) (old new : Framed E) → IfOk r (λ way. way ≡ ways.Went)
      → OnOk r (new ≡ with_newest (standing f (f.place + 1) (moved f.operands (laid l))) old) → IfOk r (λ way. Does (Stack op) f way new.newest)
  if_moved l h r old new went is = if_went r (Stack op) f (standing f (f.place + 1) (moved f.operands (laid l))) old new went is (moved_on l h)
