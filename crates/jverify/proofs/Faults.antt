-- What is at fault with a method whose frames are good.
use Rattle.std.proofs.Common.{◌≡◌, ℕ, List, Option, None, Result, Ok, sym, subst, ap, ◌∙◌}
use Rattle.jground.specs.jbase.FirstFaults.{or_else}
use Rattle.jparts.specs.declared.jmaps.types.RawFrame.{RawFrame}
use Rattle.jtypes.specs.declared.vtype.VType.{VType}
use Rattle.jresolution.specs.jprogram.ProgramClasses.{Program}
use Rattle.jtyping.specs.jwelltyped.DeclaredFrames.{Written, written, written_from}
use Rattle.jtyping.specs.jwelltyped.MethodPremises.{Method, makes}
use Rattle.jtyping.specs.jwelltyped.VerifierTests.{frames_fault, method_fault}
use Rattle.jverify.specs.MethodStarts.{body_fault}
use Rattle.jverify.specs.FrameTables.{Givens, IsDeclared, all_written}
use Rattle.jclass.specs.CodeFormat.{frames_in}

pub good_frames : (p : Program) (m : Method) (frames : List RawFrame) (params : List VType) (r : Result Givens ℕ) (d : Givens) → frames ≡ frames_in m.body → params ≡ m.params → r ≡ Ok d
    → IsDeclared p m.body (makes p m) (written_from p m.pool m.body.max_locals None params frames) r → body_fault p m (all_written p d) ≡ method_fault p m
unfolding method_fault written
good_frames p m frames params r d same_frames same_params same is =
    let ws : List Written = written_from p m.pool m.body.max_locals None params frames in
    let good : IsDeclared p m.body (makes p m) ws (Ok d) = subst (λ (x : Result Givens ℕ). IsDeclared p m.body (makes p m) ws x) same is in
    let whole : ws ≡ written p m =
    ap (λ (fs : List RawFrame). written_from p m.pool m.body.max_locals None params fs) same_frames
    ∙ ap (λ (ps : List VType). written_from p m.pool m.body.max_locals None ps (frames_in m.body)) same_params in
    let seen : all_written p d ≡ written p m = good.1 ∙ whole in
    let none : frames_fault p m (written p m) ≡ None = ap (frames_fault p m) (sym whole) ∙ good.2 in
    ap (body_fault p m) seen ∙ sym (ap (λ (o : Option ℕ). or_else o (body_fault p m (written p m))) none)
