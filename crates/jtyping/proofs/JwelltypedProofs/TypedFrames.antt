-- The frames of a typed method: there is one list of them, each instruction has one, and a declared frame is the one at its place.
use Rattle.std.proofs.Common.{◌≡◌, ℕ, zero, suc, List, [], ◌∷◌, length, Option, Some, None, refl, sym, ◌∙◌, subst, arith}
use Rattle.std.specs.Prelude.{pos, slice_get}
use Rattle.jparts.specs.declared.jcode.op.Placed.{Placed}
use Rattle.jparts.specs.jcode.InstructionForms.{form, goes_on}
use Rattle.jtypes.specs.TypeFrames.{Frame}
use Rattle.jresolution.specs.jprogram.ProgramClasses.{Program}
use Rattle.jtyping.specs.jwelltyped.DeclaredFrames.{Written, declared_at, first_frame}
use Rattle.jtyping.specs.jwelltyped.MethodPremises.{Method}
use Rattle.jtyping.specs.jwelltyped.VerifierTests.{begun}
use Rattle.jtyping.specs.jwelltyped.WellTypedness.{AreFrames, HasFrame}
use Rattle.jtyping.proofs.JwelltypedProofs.Bodies.{AllServe, same_frames}
use Rattle.jtyping.proofs.JwelltypedProofs.FrameIndices.{frames_begin, frames_serve}
use Rattle.jtyping.proofs.JwelltypedProofs.InstructionTests.{Begins, onward_of, sent}
use Rattle.jtyping.proofs.JwelltypedProofs.Tests.{some_is}

pub frames_same : (p : Program) (m : Method) (ws : List Written) (fs gs : List Frame) → AreFrames p m ws fs → AreFrames p m ws gs → fs ≡ gs
frames_same p m ws fs gs x y =
    same_frames p m ws m.body.ops (Some (first_frame m)) fs gs (frames_begin p m ws fs x) (frames_serve p m ws fs x) (frames_begin p m ws gs y) (frames_serve p m ws gs y)

-- ---- the frame of an instruction

pub also_at : {A B : Type 0} (xs : List A) (ys : List B) (n : ℕ) (x : A) → length ys ≡ length xs → slice_get xs n ≡ Some x → (y : B) × (slice_get ys n ≡ Some y)
also_at [] ys n x e at = absurd cc
also_at (x ∷ xs) [] n z e at = absurd cc
also_at (x ∷ xs) (y ∷ ys) zero z e at = (y, refl)
also_at (x ∷ xs) (y ∷ ys) (suc n) z e at = also_at xs ys n z (omega (arith, e)) at

pub frame_at : (p : Program) (m : Method) (ws : List Written) (fs : List Frame) → AreFrames p m ws fs
    → (n : ℕ) (o : Placed) → slice_get m.body.ops n ≡ Some o → HasFrame p m ws fs n o
frame_at p m ws fs x n o at =
    let f = also_at m.body.ops fs n o x.each at in
    record { frame = f.0; there = f.1; serves = x.serves n o f.0 at f.1 }

-- ---- declared frames

begun_with : (d arriving : Option Frame) (f g : Frame) → begun d arriving ≡ Some f → d ≡ Some g → f ≡ g
begun_with None arriving f g e is = cc
begun_with (Some d) arriving f g e is = cc

declared_in : (p : Program) (m : Method) (ws : List Written) (os : List Placed) (fs : List Frame) (arriving : Option Frame) (n : ℕ) (o : Placed) (f g : Frame)
    → Begins ws os arriving fs → AllServe p m ws os fs → slice_get os n ≡ Some o → slice_get fs n ≡ Some f → declared_at ws (pos o.at) ≡ Some g → f ≡ g
declared_in p m ws [] fs arriving n o f g b all at there is = absurd cc
declared_in p m ws (x ∷ os) [] arriving n o f g b all at there is = absurd cc
declared_in p m ws (x ∷ os) (y ∷ fs) arriving zero o f g b all at there is =
    let here : declared_at ws (pos x.at) ≡ Some g = subst (λ (z : Placed). declared_at ws (pos z.at) ≡ Some g) (sym (some_is x o at)) is in
    sym (some_is y f there) ∙ begun_with (declared_at ws (pos x.at)) arriving y g b here
declared_in p m ws (x ∷ os) (y ∷ fs) arriving (suc n) o f g b all at there is =
    declared_in p m ws os fs (sent (goes_on (form x.op)) all.0.behind) n o f g (onward_of p m ws x y os fs all.0) all.1 at there is

pub declared_there : (p : Program) (m : Method) (ws : List Written) (fs : List Frame) → AreFrames p m ws fs
    → (n : ℕ) (o : Placed) (f g : Frame) → slice_get m.body.ops n ≡ Some o → slice_get fs n ≡ Some f → declared_at ws (pos o.at) ≡ Some g → f ≡ g
declared_there p m ws fs x n o f g at there is =
    declared_in p m ws m.body.ops fs (Some (first_frame m)) n o f g (frames_begin p m ws fs x) (frames_serve p m ws fs x) at there is
