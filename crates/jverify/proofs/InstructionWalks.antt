-- A walk from an instruction on.
use Rattle.std.proofs.Common.{◌≡◌, ◌<◌, ◌≤◌, ℕ, zero, suc, ◌+◌, ◌-◌, List, [], ◌∷◌, drop, take, length, get_or, Option, Some, None, refl, sym, ap, subst, ◌∙◌, add-one, arith}
use Rattle.std.proofs.lemmas.List.{drop_all, length-drop, take_all}
use Rattle.std.specs.Prelude.{IfSome, pos, slice_get}
use Rattle.jparts.specs.declared.jcode.op.Placed.{Placed}
use Rattle.jtypes.specs.TypeFrames.{Frame}
use Rattle.jresolution.specs.jprogram.ProgramClasses.{Program}
use Rattle.jtyping.specs.jwelltyped.DeclaredFrames.{Written, declared_at}
use Rattle.jtyping.specs.jwelltyped.MethodPremises.{Method}
use Rattle.jtyping.specs.jwelltyped.VerifierTests.{begun, or_at, step, walk}

got_at : (ops : List Placed) (i : ℕ) (d : Placed) → i < length ops → slice_get ops i ≡ Some (get_or ops i d)
got_at [] i d lt = absurd (omega arith)
got_at (x ∷ ops) zero d lt = refl
got_at (x ∷ ops) (suc i) d lt = got_at ops i d (omega arith)

-- what the walk does at an instruction, with what stands behind it
abbrev pub walk_at : Program → Method → List Written → Placed → List Placed → Option Frame → Option ℕ
walk_at p m ws o rest arriving = or_at o.at (λ f. or_at o.at (walk p m ws rest) (step p m ws o rest f)) (begun (declared_at ws (pos o.at)) arriving)

at_head : (p : Program) (m : Method) (ws : List Written) (x o : Placed) (rest : List Placed) (arriving : Option Frame) → Some x ≡ Some o → walk p m ws (x ∷ rest) arriving ≡ walk_at p m ws o rest arriving
unfolding walk
at_head p m ws x o rest arriving e = let same : x ≡ o = cc in ap (λ (y : Placed). walk_at p m ws y rest arriving) same

at_op : (p : Program) (m : Method) (ws : List Written) (ops : List Placed) (i : ℕ) (o : Placed) (arriving : Option Frame) → slice_get ops i ≡ Some o → walk p m ws (drop i ops) arriving ≡ walk_at p m ws o (drop (suc i) ops) arriving
at_op p m ws [] i o arriving at = absurd cc
at_op p m ws (x ∷ ops) zero o arriving at = at_head p m ws x o ops arriving at
at_op p m ws (x ∷ ops) (suc i) o arriving at = at_op p m ws ops i o arriving at

-- no frame
pub unbegun : (p : Program) (m : Method) (ws : List Written) (ops : List Placed) (i : ℕ) (o : Placed) (arriving : Option Frame) → slice_get ops i ≡ Some o → begun (declared_at ws (pos o.at)) arriving ≡ None → walk p m ws (drop i ops) arriving ≡ Some o.at
unbegun p m ws ops i o arriving at e = at_op p m ws ops i o arriving at ∙ ap (or_at o.at (λ f. or_at o.at (walk p m ws (drop (suc i) ops)) (step p m ws o (drop (suc i) ops) f))) e

-- with a frame
with_frame : (p : Program) (m : Method) (ws : List Written) (ops : List Placed) (i : ℕ) (o : Placed) (arriving : Option Frame) (f : Frame) → slice_get ops i ≡ Some o → begun (declared_at ws (pos o.at)) arriving ≡ Some f
    → walk p m ws (drop i ops) arriving ≡ or_at o.at (walk p m ws (drop (suc i) ops)) (step p m ws o (drop (suc i) ops) f)
with_frame p m ws ops i o arriving f at e = at_op p m ws ops i o arriving at ∙ ap (or_at o.at (λ f. or_at o.at (walk p m ws (drop (suc i) ops)) (step p m ws o (drop (suc i) ops) f))) e

pub stopped : (p : Program) (m : Method) (ws : List Written) (ops : List Placed) (i : ℕ) (o : Placed) (arriving : Option Frame) (f : Frame) → slice_get ops i ≡ Some o → begun (declared_at ws (pos o.at)) arriving ≡ Some f
    → step p m ws o (drop (suc i) ops) f ≡ None → walk p m ws (drop i ops) arriving ≡ Some o.at
stopped p m ws ops i o arriving f at e s = with_frame p m ws ops i o arriving f at e ∙ ap (or_at o.at (walk p m ws (drop (suc i) ops))) s

pub stepped : (p : Program) (m : Method) (ws : List Written) (ops : List Placed) (i : ℕ) (o : Placed) (arriving next : Option Frame) (f : Frame) → slice_get ops i ≡ Some o → begun (declared_at ws (pos o.at)) arriving ≡ Some f
    → step p m ws o (drop (suc i) ops) f ≡ Some next → walk p m ws (drop i ops) arriving ≡ walk p m ws (drop (suc i) ops) next
stepped p m ws ops i o arriving next f at e s = with_frame p m ws ops i o arriving f at e ∙ ap (or_at o.at (walk p m ws (drop (suc i) ops))) s

-- ---- what a loop knows

pub got : (ops : List Placed) (i n : ℕ) (o : Placed) → i < n → n ≡ length ops → o ≡ get_or ops i o → slice_get ops i ≡ Some o
got ops i n o lt end is = got_at ops i o (omega (arith, lt, end)) ∙ ap Some (sym is)

pub told : {A : Type 0} (P : A → Type 0) (o : Option A) (x : A) → IfSome o P → o ≡ Some x → P x
told P (Some y) x has e = let same : y ≡ x = cc in subst P same has
told P None x has e = absurd cc

-- behind the last instruction
pub ended : (p : Program) (m : Method) (ws : List Written) (ops : List Placed) (i : ℕ) (arriving : Option Frame) → length ops ≤ i → None ≡ walk p m ws (drop i ops) arriving
unfolding walk
ended p m ws ops i arriving le = sym (ap (λ (rest : List Placed). walk p m ws rest arriving) (drop_all i ops le))

-- what stands behind an instruction
pub rest_is : (ops : List Placed) (i : ℕ) → take (length ops - (i + 1)) (drop (i + 1) ops) ≡ drop (suc i) ops
rest_is ops i =
    let count = length-drop (i + 1) ops in
    take_all (length ops - (i + 1)) (drop (i + 1) ops) (omega (arith, count)) ∙ ap (λ (n : ℕ). drop n ops) (add-one i)
