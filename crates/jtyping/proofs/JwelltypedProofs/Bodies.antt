-- The walk finds no fault exactly where a list of frames serves, each with its instruction. There is one such list.
use Rattle.std.proofs.Common.{◌≡◌, ℕ, List, [], ◌∷◌, Option, Some, None, refl, sym, ◌∙◌, subst}
use Rattle.std.specs.Prelude.{pos, slice_get}
use Rattle.jparts.specs.declared.jcode.op.Placed.{Placed}
use Rattle.jparts.specs.jcode.InstructionForms.{form, goes_on}
use Rattle.jtypes.specs.TypeFrames.{Frame}
use Rattle.jresolution.specs.jprogram.ProgramClasses.{Program}
use Rattle.jtyping.specs.jwelltyped.DeclaredFrames.{Written, declared_at}
use Rattle.jtyping.specs.jwelltyped.MethodPremises.{Method}
use Rattle.jtyping.specs.jwelltyped.VerifierTests.{begun, or_at, step, walk}
use Rattle.jtyping.proofs.JwelltypedProofs.InstructionTests.{Begins, Serving, onward_of, sent, serves_step, step_serves}
use Rattle.jtyping.proofs.JwelltypedProofs.Tests.{some_is}

-- the instructions serve with their frames
abbrev pub AllServe : Program → Method → List Written → List Placed → List Frame → Type 0
AllServe p m ws [] [] = Unit {0}
AllServe p m ws (o ∷ os) (f ∷ fs) = Serving p m ws o f (slice_get os 0) (slice_get fs 0) × AllServe p m ws os fs
AllServe p m ws _ _ = ⊥

at_none : {A : Type 0} (at : ℕ) (rest : A → Option ℕ) (x : Option A) → or_at at rest x ≡ None → (a : A) × ((x ≡ Some a) × (rest a ≡ None))
at_none at rest None e = cc
at_none at rest (Some a) e = (a, (refl, e))

-- ---- the walk

pub walk_serves : (p : Program) (m : Method) (ws : List Written) (os : List Placed) (arriving : Option Frame)
    → walk p m ws os arriving ≡ None → (fs : List Frame) × (Begins ws os arriving fs × AllServe p m ws os fs)
unfolding walk
walk_serves p m ws [] arriving e = ([], (tt, tt))
walk_serves p m ws (o ∷ os) arriving e =
    let one = at_none o.at (λ f. or_at o.at (walk p m ws os) (step p m ws o os f)) (begun (declared_at ws (pos o.at)) arriving) e in
    let next = at_none o.at (walk p m ws os) (step p m ws o os one.0) one.1.1 in
    let more = walk_serves p m ws os next.0 next.1.1 in
    (one.0 ∷ more.0, (one.1.0, (step_serves p m ws o os one.0 more.0 next.0 next.1.0 more.1.0, more.1.1)))

pub serves_walk : (p : Program) (m : Method) (ws : List Written) (os : List Placed) (arriving : Option Frame) (fs : List Frame)
    → Begins ws os arriving fs → AllServe p m ws os fs → walk p m ws os arriving ≡ None
unfolding walk
serves_walk p m ws [] arriving fs b all = refl
serves_walk p m ws (o ∷ os) arriving [] b all = absurd all
serves_walk p m ws (o ∷ os) arriving (f ∷ fs) b all =
    rw (b, serves_step p m ws o os f fs all.0) (serves_walk p m ws os (sent (goes_on (form o.op)) all.0.behind) fs (onward_of p m ws o f os fs all.0) all.1)

-- ---- one list

same_behind : (p : Program) (m : Method) (ws : List Written) (o : Placed) (f g : Frame) (a c : Option Placed) (b d : Option Frame)
    → f ≡ g → (x : Serving p m ws o f a b) → (y : Serving p m ws o g c d) → y.behind ≡ x.behind
same_behind p m ws o f g a c b d e x y = let h = x.gives in let k = y.gives in cc

pub same_frames : (p : Program) (m : Method) (ws : List Written) (os : List Placed) (arriving : Option Frame) (fs gs : List Frame)
    → Begins ws os arriving fs → AllServe p m ws os fs → Begins ws os arriving gs → AllServe p m ws os gs → fs ≡ gs
same_frames p m ws [] arriving [] [] b all c others = refl
same_frames p m ws [] arriving (f ∷ fs) gs b all c others = absurd all
same_frames p m ws [] arriving [] (g ∷ gs) b all c others = absurd others
same_frames p m ws (o ∷ os) arriving [] gs b all c others = absurd all
same_frames p m ws (o ∷ os) arriving (f ∷ fs) [] b all c others = absurd others
same_frames p m ws (o ∷ os) arriving (f ∷ fs) (g ∷ gs) b all c others =
    let one : f ≡ g = some_is f g (sym b ∙ c) in
    let behind : others.0.behind ≡ all.0.behind = same_behind p m ws o f g (slice_get os 0) (slice_get os 0) (slice_get fs 0) (slice_get gs 0) one all.0 others.0 in
    let goes = goes_on (form o.op) in
    let more : fs ≡ gs = same_frames p m ws os (sent goes all.0.behind) fs gs (onward_of p m ws o f os fs all.0) all.1
    (subst (λ (h : Frame). Begins ws os (sent goes h) gs) behind (onward_of p m ws o g os gs others.0)) others.1 in
    rw (one, more) refl
