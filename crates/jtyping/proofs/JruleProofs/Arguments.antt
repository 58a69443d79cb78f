-- Arguments are taken one after the other, by a list of their types.
use Rattle.std.proofs.Common.{◌≡◌, ℕ, ◌+◌, ◌<◌, ◌≤◌, List, [], ◌∷◌, Option, Some, get_or, drop, length, map, sym, ap, ◌∙◌}
use Rattle.std.specs.Prelude.{option_and_then}
use Rattle.std.proofs.lemmas.List.{at_drop_all, at_drop_more}
use Rattle.jtypes.specs.TypeFrames.{Frame}
use Rattle.jtypes.specs.ClassTrees.{Tree}
use Rattle.jresolution.specs.jprogram.ProgramClasses.{Program, tree}
use Rattle.jresolution.specs.declared.juses.types.TypeRef.{TypeRef}
use Rattle.jresolution.specs.juses.InternedTypes.{named}
use Rattle.jtyping.specs.jrule.StackEffects.{Fits, Want}
use Rattle.jtyping.specs.jrule.StackOperands.{taken}
use Rattle.jtyping.proofs.JruleProofs.OperandPops.{taken_more, taken_none}

-- operands that fit these types
abbrev pub fitting : Program → List TypeRef → List Want
fitting p ts = map Fits (map (named p) ts)

abbrev left_by : Program → Frame → List TypeRef → Option Frame
left_by p f ts = taken (tree p) (fitting p ts) f

-- what begins with an operand that is taken
after : (t : Tree) (w : Want) (ws : List Want) (f : Frame) (o : Option Frame) → o ≡ taken t (w ∷ []) f → taken t (w ∷ ws) f ≡ option_and_then (taken t ws) o
after t w ws f o e = taken_more t w ws f ∙ ap (option_and_then (taken t ws)) (sym e)

pub next_taken : (p : Program) (ts : List TypeRef) (i : ℕ) (d : TypeRef) (f : Frame) (o : Option Frame) → i < length ts → o ≡ taken (tree p) (Fits (named p (get_or ts i d)) ∷ []) f →
    left_by p f (drop i ts) ≡ option_and_then (λ g. left_by p g (drop (i + 1) ts)) o
next_taken p ts i d f o lt e = at_drop_more (left_by p f) ts i d lt ∙ after (tree p) (Fits (named p (get_or ts i d))) (fitting p (drop (i + 1) ts)) f o e

pub none_left : (p : Program) (ts : List TypeRef) (i : ℕ) (f : Frame) → length ts ≤ i → left_by p f (drop i ts) ≡ Some f
none_left p ts i f le = at_drop_all (left_by p f) ts i le ∙ taken_none (tree p) f
