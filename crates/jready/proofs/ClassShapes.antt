-- What the objects of classes hold.
use Rattle.std.proofs.Common.{◌≡◌, ℕ, zero, suc, ◌+◌, ◌<◌, inl, inr, List, [], ◌∷◌, ◌++◌, length, Option, Some, None, sym, ap, subst, ◌∙◌, arith}
use Rattle.std.specs.Prelude.{option_map, slice_get}
use Rattle.std.proofs.lemmas.List.{length-append}
use Rattle.jresolution.specs.declared.jprogram.part.CodePart.{CodePart}
use Rattle.jresolution.specs.jprogram.ProgramClasses.{Program, User, named}
use Rattle.jresolution.specs.jlayout.FieldCounts.{count_of}
use Rattle.jresolution.specs.jlayout.FieldLayout as fields
use Rattle.jsemantics.specs.jmachine.World.{world}
use Rattle.jready.specs.declared.shapes.Shape.{Shape}
use Rattle.jready.specs.ClassShapes.{AreShapesTo, IsShape}
use Rattle.jready.proofs.TableGrowth.{get_more, get_put, some_inj, under}
use Rattle.jready.proofs.MethodNumbers.{within}

counted : (p : Program) (i n : ℕ) (o : Option CodePart) → Some n ≡ option_map (count_of p) o
    → n ≡ length (fields.layout p (named (option_map (λ (part : CodePart). User i part.class) o)))
counted p i n None e = absurd cc
counted p i n (Some part) e = some_inj e

pub fields_are : (p : Program) (i n : ℕ) → Some n ≡ option_map (count_of p) (slice_get p.parts i) → n ≡ length ((world p).layout i)
unfolding world
fields_are p i n e = counted p i n (slice_get p.parts i) e

absent : {A B : Type 0} (f : A → B) (xs : List A) (i : ℕ) → i < length xs → None ≡ option_map f (slice_get xs i) → ⊥
absent f [] i lt e = omega arith
absent f (x ∷ xs) zero lt e = cc
absent f (x ∷ xs) (suc i) lt e = absent f xs i (omega arith) e

pub fields_there : (p : Program) (i : ℕ) → i < length p.parts → None ≡ option_map (count_of p) (slice_get p.parts i) → ⊥
fields_there p i lt e = absent (count_of p) p.parts i lt e

-- ---- of all classes

each_more : (p : Program) (shapes : List Shape) (i : ℕ) (s : Shape) → AreShapesTo p shapes i → IsShape p i s → (j : ℕ) (x : Shape)
    → slice_get (shapes ++ s ∷ []) j ≡ Some x → IsShape p j x
each_more p shapes i s h is j x at =
    let len : length (shapes ++ s ∷ []) ≡ length shapes + 1 = length-append shapes (s ∷ []) in
    let count = h.count in
    let lt = within (shapes ++ s ∷ []) j x at in
    elim (under j i (omega arith)) [
      | inl less ↦ h.each j x (sym (get_more shapes (s ∷ []) j (omega arith)) ∙ at)
      | inr same ↦
          let here : slice_get (shapes ++ s ∷ []) j ≡ Some s = ap (slice_get (shapes ++ s ∷ [])) (same ∙ sym count) ∙ get_put shapes s in
          let one : s ≡ x = some_inj (sym here ∙ at) in
          subst (λ (x : Shape). IsShape p j x) one (subst (λ (k : ℕ). IsShape p k s) (sym same) is)
    ]

pub shapes_more : (p : Program) (shapes new : List Shape) (i : ℕ) (s : Shape) → AreShapesTo p shapes i → IsShape p i s → new ≡ shapes ++ s ∷ []
    → AreShapesTo p new (i + 1)
shapes_more p shapes new i s h is put = record {
  count = ap length put ∙ length-append shapes (s ∷ []) ∙ ap (λ (n : ℕ). n + 1) h.count;
  each = λ j x at. each_more p shapes i s h is j x (sym (ap (λ (l : List Shape). slice_get l j) put) ∙ at);
}

pub shapes_begin : (p : Program) (shapes : List Shape) → shapes ≡ [] → AreShapesTo p shapes 0
shapes_begin p shapes e = record {
  count = ap length e;
  each = λ j x at. absurd (let lt = within shapes j x at in let none : length shapes ≡ 0 = ap length e in omega arith);
}

pub shapes_end : (p : Program) (shapes : List Shape) (n : ℕ) → AreShapesTo p shapes n → n ≡ length p.parts → AreShapesTo p shapes (length p.parts)
shapes_end p shapes n h e = subst (AreShapesTo p shapes) e h

-- the one of a class
pub shape_is : (p : Program) (shapes : List Shape) (k : ℕ) (s : Shape) → AreShapesTo p shapes (length p.parts) → slice_get shapes k ≡ Some s → IsShape p k s
shape_is p shapes k s h at = h.each k s at
