-- Operands are taken one after the other.
use Rattle.std.proofs.Common.{◌≡◌, List, [], ◌∷◌, ◌++◌, Option, Some, None, refl, sym, ap, ◌∙◌}
use Rattle.std.specs.Prelude.{option_map, option_and_then, Bool, true, false, if◌then◌else◌}
use Rattle.jtypes.specs.declared.vtype.VType.{VType}
use Rattle.jtypes.specs.TypeFrames.{Frame}
use Rattle.jtypes.specs.ClassTrees.{Tree}
use Rattle.jtyping.specs.jrule.StackEffects.{Want, meets}
use Rattle.jtyping.specs.jrule.StackOperands.{below, taken, with_stack}

pub taken_none : (t : Tree) (f : Frame) → taken t [] f ≡ Some f
unfolding taken below
taken_none t f = refl

if_met : (t : Tree) (ws : List Want) (f : Frame) (stack : List VType) (b : Bool) →
    option_map (with_stack f) (if b then below t ws stack else None) ≡ option_and_then (taken t ws) (option_map (with_stack f) (if b then Some stack else None))
unfolding taken
if_met t ws f stack true = refl
if_met t ws f stack false = refl

on_stack : (t : Tree) (w : Want) (ws : List Want) (f : Frame) (stack : List VType) →
    option_map (with_stack f) (below t (w ∷ ws) stack) ≡ option_and_then (taken t ws) (option_map (with_stack f) (below t (w ∷ []) stack))
unfolding taken below
on_stack t w ws f [] = refl
on_stack t w ws f (a ∷ stack) = if_met t ws f stack (meets t w a)

-- the newest is taken, and then the others
pub taken_more : (t : Tree) (w : Want) (ws : List Want) (f : Frame) → taken t (w ∷ ws) f ≡ option_and_then (taken t ws) (taken t (w ∷ []) f)
unfolding taken
taken_more t w ws f = on_stack t w ws f f.stack

on_both : (t : Tree) (ws vs : List Want) → ((f : Frame) → taken t (ws ++ vs) f ≡ option_and_then (taken t vs) (taken t ws f)) → (o : Option Frame) →
    option_and_then (taken t (ws ++ vs)) o ≡ option_and_then (taken t vs) (option_and_then (taken t ws) o)
on_both t ws vs h None = refl
on_both t ws vs h (Some f) = h f

-- the first operands are taken, and then the others
pub taken_both : (t : Tree) (ws vs : List Want) (f : Frame) → taken t (ws ++ vs) f ≡ option_and_then (taken t vs) (taken t ws f)
taken_both t [] vs f = rw (taken_none t f) refl
taken_both t (w ∷ ws) vs f = taken_more t w (ws ++ vs) f ∙ on_both t ws vs (taken_both t ws vs) (taken t (w ∷ []) f) ∙ ap (option_and_then (taken t vs)) (sym (taken_more t w ws f))
