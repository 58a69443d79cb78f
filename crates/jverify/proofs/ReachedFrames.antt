-- The frame before an instruction, found by a walk.
use Rattle.std.proofs.Common.{◌≡◌, ◌≤◌, ℕ, zero, suc, ◌==◌, false, List, [], ◌∷◌, drop, length, Option, Some, None, Result, Ok, Err, sym, ap, subst, ◌∙◌}
use Rattle.std.proofs.lemmas.List.{drop_all}
use Rattle.std.specs.Prelude.{pos, option_and_then, slice_get, if◌then◌else◌}
use Rattle.jparts.specs.declared.jcode.op.Placed.{Placed}
use Rattle.jparts.specs.declared.jmaps.types.RawFrame.{RawFrame}
use Rattle.jtypes.specs.declared.vtype.VType.{VType}
use Rattle.jtypes.specs.TypeFrames.{Frame}
use Rattle.jresolution.specs.jprogram.ProgramClasses.{Program}
use Rattle.jtyping.specs.jwelltyped.DeclaredFrames.{Written, declared_at, written, written_from}
use Rattle.jtyping.specs.jwelltyped.MethodPremises.{Method, makes}
use Rattle.jtyping.specs.jwelltyped.VerifierTests.{begun, frames_fault, step}
use Rattle.jverify.specs.IncomingFrames.{frame_at, frame_in, frame_with, unless}
use Rattle.jverify.specs.FrameTables.{Givens, IsDeclared, all_written}
use Rattle.jclass.specs.CodeFormat.{frames_in}

-- ---- a walk from an instruction on

-- what is found at an instruction, with what stands behind it
abbrev pub found_by : Program → Method → List Written → ℕ → Placed → List Placed → Frame → Option Frame
found_by p m ws at o rest f = if o.at == at then Some f else option_and_then (frame_at p m ws at rest) (step p m ws o rest f)

at_head : (p : Program) (m : Method) (ws : List Written) (at : ℕ) (x o : Placed) (rest : List Placed) (arriving : Option Frame) → Some x ≡ Some o
    → frame_at p m ws at (x ∷ rest) arriving ≡ option_and_then (found_by p m ws at o rest) (begun (declared_at ws (pos o.at)) arriving)
unfolding frame_at
at_head p m ws at x o rest arriving e =
    let same : x ≡ o = cc in ap (λ (y : Placed). option_and_then (found_by p m ws at y rest) (begun (declared_at ws (pos y.at)) arriving)) same

at_op : (p : Program) (m : Method) (ws : List Written) (at : ℕ) (ops : List Placed) (i : ℕ) (o : Placed) (arriving : Option Frame) → slice_get ops i ≡ Some o
    → frame_at p m ws at (drop i ops) arriving ≡ option_and_then (found_by p m ws at o (drop (suc i) ops)) (begun (declared_at ws (pos o.at)) arriving)
at_op p m ws at [] i o arriving here = absurd cc
at_op p m ws at (x ∷ ops) zero o arriving here = at_head p m ws at x o ops arriving here
at_op p m ws at (x ∷ ops) (suc i) o arriving here = at_op p m ws at ops i o arriving here

-- no frame
pub unbegun : (p : Program) (m : Method) (ws : List Written) (at : ℕ) (ops : List Placed) (i : ℕ) (o : Placed) (arriving : Option Frame) → slice_get ops i ≡ Some o
    → begun (declared_at ws (pos o.at)) arriving ≡ None → frame_at p m ws at (drop i ops) arriving ≡ None
unbegun p m ws at ops i o arriving here e = at_op p m ws at ops i o arriving here ∙ ap (option_and_then (found_by p m ws at o (drop (suc i) ops))) e

with_frame : (p : Program) (m : Method) (ws : List Written) (at : ℕ) (ops : List Placed) (i : ℕ) (o : Placed) (arriving : Option Frame) (f : Frame) → slice_get ops i ≡ Some o
    → begun (declared_at ws (pos o.at)) arriving ≡ Some f → frame_at p m ws at (drop i ops) arriving ≡ found_by p m ws at o (drop (suc i) ops) f
with_frame p m ws at ops i o arriving f here e = at_op p m ws at ops i o arriving here ∙ ap (option_and_then (found_by p m ws at o (drop (suc i) ops))) e

-- it isn't the instruction
passed : (p : Program) (m : Method) (ws : List Written) (at : ℕ) (ops : List Placed) (i : ℕ) (o : Placed) (arriving : Option Frame) (f : Frame) → slice_get ops i ≡ Some o
    → begun (declared_at ws (pos o.at)) arriving ≡ Some f → (o.at == at) ≡ false
    → frame_at p m ws at (drop i ops) arriving ≡ option_and_then (frame_at p m ws at (drop (suc i) ops)) (step p m ws o (drop (suc i) ops) f)
passed p m ws at ops i o arriving f here e is =
    with_frame p m ws at ops i o arriving f here e
    ∙ ap (λ b. if b then Some f else option_and_then (frame_at p m ws at (drop (suc i) ops)) (step p m ws o (drop (suc i) ops) f)) is

pub stopped : (p : Program) (m : Method) (ws : List Written) (at : ℕ) (ops : List Placed) (i : ℕ) (o : Placed) (arriving : Option Frame) (f : Frame) → slice_get ops i ≡ Some o
    → begun (declared_at ws (pos o.at)) arriving ≡ Some f → (o.at == at) ≡ false → step p m ws o (drop (suc i) ops) f ≡ None → frame_at p m ws at (drop i ops) arriving ≡ None
stopped p m ws at ops i o arriving f here e is s =
    passed p m ws at ops i o arriving f here e is ∙ ap (option_and_then (frame_at p m ws at (drop (suc i) ops))) s

pub stepped : (p : Program) (m : Method) (ws : List Written) (at : ℕ) (ops : List Placed) (i : ℕ) (o : Placed) (arriving next : Option Frame) (f : Frame) → slice_get ops i ≡ Some o
    → begun (declared_at ws (pos o.at)) arriving ≡ Some f → (o.at == at) ≡ false → step p m ws o (drop (suc i) ops) f ≡ Some next
    → frame_at p m ws at (drop i ops) arriving ≡ frame_at p m ws at (drop (suc i) ops) next
stepped p m ws at ops i o arriving next f here e is s =
    passed p m ws at ops i o arriving f here e is ∙ ap (option_and_then (frame_at p m ws at (drop (suc i) ops))) s

-- behind the last instruction
pub ended : (p : Program) (m : Method) (ws : List Written) (at : ℕ) (ops : List Placed) (i : ℕ) (arriving : Option Frame) → length ops ≤ i → None ≡ frame_at p m ws at (drop i ops) arriving
unfolding frame_at
ended p m ws at ops i arriving le = sym (ap (λ (rest : List Placed). frame_at p m ws at rest arriving) (drop_all i ops le))

-- ---- a method whose frames are good, and one with a frame that isn't

whole : (p : Program) (m : Method) (frames : List RawFrame) (params : List VType) → frames ≡ frames_in m.body → params ≡ m.params
    → written_from p m.pool m.body.max_locals None params frames ≡ written p m
unfolding written
whole p m frames params same_frames same_params =
    ap (λ (fs : List RawFrame). written_from p m.pool m.body.max_locals None params fs) same_frames
    ∙ ap (λ (ps : List VType). written_from p m.pool m.body.max_locals None ps (frames_in m.body)) same_params

pub good_frames : (p : Program) (m : Method) (at : ℕ) (frames : List RawFrame) (params : List VType) (r : Result Givens ℕ) (d : Givens) → frames ≡ frames_in m.body → params ≡ m.params
    → r ≡ Ok d → IsDeclared p m.body (makes p m) (written_from p m.pool m.body.max_locals None params frames) r → frame_with p m (all_written p d) at ≡ frame_in p m at
unfolding frame_in
good_frames p m at frames params r d same_frames same_params same is =
    let ws : List Written = written_from p m.pool m.body.max_locals None params frames in
    let good : IsDeclared p m.body (makes p m) ws (Ok d) = subst (λ (x : Result Givens ℕ). IsDeclared p m.body (makes p m) ws x) same is in
    let all = whole p m frames params same_frames same_params in
    let none : frames_fault p m (written p m) ≡ None = ap (frames_fault p m) (sym all) ∙ good.2 in
    ap (λ (ws : List Written). frame_with p m ws at) (good.1 ∙ all) ∙ sym (ap (λ (o : Option ℕ). unless o (frame_with p m (written p m) at)) none)

pub bad_frames : (p : Program) (m : Method) (at : ℕ) (frames : List RawFrame) (params : List VType) (r : Result Givens ℕ) (fault : ℕ) → frames ≡ frames_in m.body → params ≡ m.params
    → r ≡ Err fault → IsDeclared p m.body (makes p m) (written_from p m.pool m.body.max_locals None params frames) r → None ≡ frame_in p m at
unfolding frame_in
bad_frames p m at frames params r fault same_frames same_params same is =
    let ws : List Written = written_from p m.pool m.body.max_locals None params frames in
    let bad : IsDeclared p m.body (makes p m) ws (Err fault) = subst (λ (x : Result Givens ℕ). IsDeclared p m.body (makes p m) ws x) same is in
    let all = whole p m frames params same_frames same_params in
    let some : frames_fault p m (written p m) ≡ Some fault = ap (frames_fault p m) (sym all) ∙ bad in
    sym (ap (λ (o : Option ℕ). unless o (frame_with p m (written p m) at)) some)
