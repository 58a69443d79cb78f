-- Frames that serve, by index.
use Rattle.std.proofs.Common.{◌≡◌, ℕ, zero, suc, true, List, [], ◌∷◌, length, Some, refl, ap, subst, arith}
use Rattle.std.specs.Prelude.{pos, slice_get}
use Rattle.jparts.specs.declared.jcode.op.Placed.{Placed}
use Rattle.jtypes.specs.TypeFrames.{Frame}
use Rattle.jresolution.specs.jprogram.ProgramClasses.{Program, tree}
use Rattle.jtyping.specs.jwelltyped.DeclaredFrames.{Written, declared_at, first_frame}
use Rattle.jtyping.specs.jwelltyped.MethodPremises.{Method}
use Rattle.jtyping.specs.jwelltyped.VerifierTests.{enters}
use Rattle.jtyping.specs.jwelltyped.WellTypedness.{Arrives, AreFrames, Serves}
use Rattle.jtyping.proofs.JwelltypedProofs.Bodies.{AllServe}
use Rattle.jtyping.proofs.JwelltypedProofs.InstructionTests.{Begins, Serving, arrives_from, begun_by, lets_in_by}
use Rattle.jtyping.proofs.JwelltypedProofs.Tests.{some_is}

-- ---- lists

serving_at : (p : Program) (m : Method) (ws : List Written) (os : List Placed) (fs : List Frame) (n : ℕ) (o : Placed) (f : Frame)
    → AllServe p m ws os fs → slice_get os n ≡ Some o → slice_get fs n ≡ Some f → Serving p m ws o f (slice_get os (suc n)) (slice_get fs (suc n))
serving_at p m ws [] fs n o f all e h = absurd cc
serving_at p m ws (x ∷ os) [] n o f all e h = absurd cc
serving_at p m ws (x ∷ os) (y ∷ fs) zero o f all e h =
    subst (λ (a : Placed). Serving p m ws a f (slice_get os 0) (slice_get fs 0)) (some_is x o e)
    (subst (λ (b : Frame). Serving p m ws x b (slice_get os 0) (slice_get fs 0)) (some_is y f h) all.0)
serving_at p m ws (x ∷ os) (y ∷ fs) (suc n) o f all e h = serving_at p m ws os fs n o f all.1 e h

all_serving : (p : Program) (m : Method) (ws : List Written) (os : List Placed) (fs : List Frame) → length fs ≡ length os
    → ((n : ℕ) (o : Placed) (f : Frame) → slice_get os n ≡ Some o → slice_get fs n ≡ Some f → Serving p m ws o f (slice_get os (suc n)) (slice_get fs (suc n)))
    → AllServe p m ws os fs
all_serving p m ws [] [] each h = tt
all_serving p m ws [] (f ∷ fs) each h = absurd cc
all_serving p m ws (o ∷ os) [] each h = absurd cc
all_serving p m ws (o ∷ os) (f ∷ fs) each h =
    let others : length fs ≡ length os = omega (arith, each) in
    (h 0 o f refl refl, all_serving p m ws os fs others (λ n a b. h (suc n) a b))

as_many : (p : Program) (m : Method) (ws : List Written) (os : List Placed) (fs : List Frame) → AllServe p m ws os fs → length fs ≡ length os
as_many p m ws [] [] all = refl
as_many p m ws [] (f ∷ fs) all = absurd all
as_many p m ws (o ∷ os) [] all = absurd all
as_many p m ws (o ∷ os) (f ∷ fs) all = ap suc (as_many p m ws os fs all.1)

-- ---- where they begin

abbrev BeginsAt : Program → List Written → Frame → List Placed → List Frame → Type 0
BeginsAt p ws a os fs = (o : Placed) (f : Frame) → slice_get os 0 ≡ Some o → slice_get fs 0 ≡ Some f → Arrives (tree p) (declared_at ws (pos o.at)) a f

entered : (p : Program) (ws : List Written) (a : Frame) (os : List Placed) (fs : List Frame) → length fs ≡ length os → BeginsAt p ws a os fs → enters p ws a os ≡ true
entered p ws a [] fs each h = refl
entered p ws a (o ∷ os) [] each h = absurd cc
entered p ws a (o ∷ os) (f ∷ fs) each h = lets_in_by (tree p) (declared_at ws (pos o.at)) a f (h o f refl refl)

begins_by : (p : Program) (ws : List Written) (a : Frame) (os : List Placed) (fs : List Frame) → length fs ≡ length os → BeginsAt p ws a os fs → Begins ws os (Some a) fs
begins_by p ws a [] [] each h = tt
begins_by p ws a [] (f ∷ fs) each h = absurd cc
begins_by p ws a (o ∷ os) [] each h = absurd cc
begins_by p ws a (o ∷ os) (f ∷ fs) each h = begun_by (tree p) (declared_at ws (pos o.at)) a f (h o f refl refl)

begins_from : (p : Program) (ws : List Written) (a : Frame) (os : List Placed) (fs : List Frame) → enters p ws a os ≡ true → Begins ws os (Some a) fs → BeginsAt p ws a os fs
begins_from p ws a [] fs e b o f at there = absurd cc
begins_from p ws a (x ∷ os) [] e b o f at there = absurd cc
begins_from p ws a (x ∷ os) (y ∷ fs) e b o f at there =
    subst (λ (z : Placed). Arrives (tree p) (declared_at ws (pos z.at)) a f) (some_is x o at)
    (subst (λ (z : Frame). Arrives (tree p) (declared_at ws (pos x.at)) a z) (some_is y f there) (arrives_from (tree p) (declared_at ws (pos x.at)) a y e b))

-- ---- the frames of a method

serves_of : (p : Program) (m : Method) (ws : List Written) (fs : List Frame) (n : ℕ) (o : Placed) (f : Frame)
    → Serving p m ws o f (slice_get m.body.ops (suc n)) (slice_get fs (suc n)) → Serves p m ws fs n o f
serves_of p m ws fs n o f x = record { handlers = x.handlers; behind = x.behind; gives = x.gives; leads = x.leads; follows = x.follows }

serving_of : (p : Program) (m : Method) (ws : List Written) (fs : List Frame) (n : ℕ) (o : Placed) (f : Frame)
    → Serves p m ws fs n o f → Serving p m ws o f (slice_get m.body.ops (suc n)) (slice_get fs (suc n))
serving_of p m ws fs n o f x = record { handlers = x.handlers; behind = x.behind; gives = x.gives; leads = x.leads; follows = x.follows }

pub frames_from : (p : Program) (m : Method) (ws : List Written) (fs : List Frame) → enters p ws (first_frame m) m.body.ops ≡ true
    → Begins ws m.body.ops (Some (first_frame m)) fs → AllServe p m ws m.body.ops fs → AreFrames p m ws fs
frames_from p m ws fs e b all = record {
  each = as_many p m ws m.body.ops fs all;
  begins = begins_from p ws (first_frame m) m.body.ops fs e b;
  serves = λ n o f at there. serves_of p m ws fs n o f (serving_at p m ws m.body.ops fs n o f all at there);
}

pub frames_enter : (p : Program) (m : Method) (ws : List Written) (fs : List Frame) → AreFrames p m ws fs → enters p ws (first_frame m) m.body.ops ≡ true
frames_enter p m ws fs x = entered p ws (first_frame m) m.body.ops fs x.each x.begins

pub frames_begin : (p : Program) (m : Method) (ws : List Written) (fs : List Frame) → AreFrames p m ws fs → Begins ws m.body.ops (Some (first_frame m)) fs
frames_begin p m ws fs x = begins_by p ws (first_frame m) m.body.ops fs x.each x.begins

pub frames_serve : (p : Program) (m : Method) (ws : List Written) (fs : List Frame) → AreFrames p m ws fs → AllServe p m ws m.body.ops fs
frames_serve p m ws fs x = all_serving p m ws m.body.ops fs x.each (λ n o f at there. serving_of p m ws fs n o f (x.serves n o f at there))
