-- A frame that is pushed stands at the first instruction of its method.
use Rattle.std.proofs.Common.{◌≡◌, pos, List, Option, Some, None, refl, ap, ◌∙◌}
use Rattle.std.specs.Option.{IsSome}
use Rattle.std.specs.Prelude.{option_and_then, option_map, slice_get}
use Rattle.jclass.specs.declared.class.ClassParts.{ClassParts}
use Rattle.jresolution.specs.declared.jprogram.part.CodePart.{CodePart}
use Rattle.jresolution.specs.jprogram.ClassFileParts.{code_of}
use Rattle.jresolution.specs.juses.IndexedInstructions.{body_in, code_at}
use Rattle.jvalues.specs.declared.jops.value.Value.{Value}
use Rattle.jtypes.specs.declared.vtype.VType.{VType}
use Rattle.jresolution.specs.declared.jprogram.member.MethodId.{MethodId}
use Rattle.jresolution.specs.jprogram.ProgramClasses.{Program}
use Rattle.jtyping.specs.jwelltyped.DeclaredFrames.{declared_at, first_frame, written}
use Rattle.jtyping.specs.jwelltyped.WellTypedness.{IsTyped}
use Rattle.jtyping.proofs.JwelltypedProofs.TypedFrames.{also_at}
use Rattle.jsemantics.specs.jmachine.FrameOperations.{begun, frame_of}
use Rattle.jsemantics.specs.jmachine.Store.{Store}
use Rattle.jsemantics.specs.jmachine.World.{world}
use Rattle.jsoundness_laws.specs.typed.TypedCalls.{Coded, IsGiven, method}
use Rattle.jsoundness_laws.specs.typed.TypedFrames.{Suits}
use Rattle.jsoundness_laws.specs.typed.ControlFlow.{inside}
use Rattle.jsoundness_laws.specs.typed.FrameStacks.{Stands}
use Rattle.jsoundness_laws.proofs.TypedProofs.EntryFrames.{frames_begin}
use Rattle.jsoundness_laws.proofs.TypedProofs.StraightSuccessors.{arrived_at}
use Rattle.jsoundness_laws.proofs.TypedProofs.States.{coded_dimensions}
use Rattle.jsoundness_laws.proofs.ProgressProofs.ProgramPremises.{IsFounded}

pub there_is : {A : Type 0} (o : Option A) → IsSome o → (x : A) × (o ≡ Some x)
there_is None h = absurd (cc)
there_is (Some x) h = (x, refl)

-- methods with code are well typed
pub code_typed : (p : Program) → IsFounded p → (m : MethodId) (x : Coded p m) → IsTyped p (method p m x)
code_typed p sound m x = sound.well_typed x.part x.info x.body (m.class, x.stands) (m.method, x.declared) x.code

pub code_is : (p : Program) (m : MethodId) (x : Coded p m) → code_at p m ≡ Some x.body
code_is p m x =
    ap (λ o. option_and_then (λ (c : ClassParts). body_in c m.method) (option_map (λ (part : CodePart). part.class) o)) x.stands ∙ ap (option_and_then code_of) x.declared ∙ x.code

pub begun_is : {K E : Type 0} (p : Program) (m : MethodId) (x : Coded p m) (entry : E) (arguments : List (Value K))
    → begun p m entry arguments ≡ Some (frame_of m entry arguments x.body)
begun_is p m x entry arguments = ap (option_map (frame_of m entry arguments)) (code_is p m x)

pub frame_stands : {K E : Type 0} (p : Program) (sound : IsFounded p) (s : Store K) (m : MethodId) (ret : Option VType) (entry : E) (arguments : List (Value K)) (given : IsGiven p s m ret arguments)
    → Stands p s (frame_of m entry arguments given.coded.body)
frame_stands {K} {E} p sound s m ret entry arguments given =
    let x = given.coded in
    let typed = code_typed p sound m x in
    let suits : Suits (world p) s (inside p (method p m x)) given.news (first_frame (method p m x)) (frame_of m entry arguments x.body) =
    frames_begin K E (world p) s (inside p (method p m x)) given.news (method p m x) m entry arguments (sound.params m x) given.given in
    let o = there_is (slice_get x.body.ops 0) (sound.begun m x) in
    let g = also_at x.body.ops typed.frames 0 o.0 typed.are_frames.each o.1 in
    let at = arrived_at p sound.stands s (method p m x) (written p (method p m x)) typed.frames (coded_dimensions p m x) given.news (first_frame (method p m x)) 0
    (frame_of m entry arguments x.body) suits g.0 (pos o.0.at) (declared_at (written p (method p m x)) (pos o.0.at)) g.1 refl (typed.are_frames.begins o.0 g.0 o.1 g.1) in
    record { coded = x; is_typed = typed; news = given.news; suits = at }
