-- Where the branches of an instruction lead.
use Rattle.std.proofs.Common.{◌≡◌, ℕ, zero, suc, ◌<◌, ℤ, Bool, true, false, ◌&&◌, List, [], ◌∷◌, length, drop, Option, None, refl, sym, ap, ◌∙◌, arith}
use Rattle.std.specs.Borrow.{Bor}
use Rattle.std.specs.Prelude.{slice_get, if◌then◌else◌}
use Rattle.std.specs.List.{list_all}
use Rattle.jparts.specs.declared.jcode.op_form.Flow.{Flow}
use Rattle.jparts.specs.declared.jcode.op_form.Flow.TheVariants as flows
use Rattle.jparts.specs.declared.jcode.op_form.OpForm.{OpForm}
use Rattle.jparts.specs.declared.jcode.op_form.OpForm.TheVariants as forms
use Rattle.jparts.specs.declared.jcode.op.Placed.{Placed}
use Rattle.jparts.specs.declared.jcode.op.Switch.{Switch}
use Rattle.jparts.specs.jcode.InstructionForms.{branches, flow_goes_on, form, goes_on, seen as seen_form, seen_flow}
use Rattle.jtypes.specs.TypeFrames.{Frame}
use Rattle.jresolution.specs.jprogram.ProgramClasses.{Program}
use Rattle.jtyping.specs.jwelltyped.DeclaredFrames.{Written}
use Rattle.jtyping.specs.jwelltyped.VerifierTests.{branches_fit, leave, onward}
use Rattle.jtyping.specs.jwelltyped.ProofNames.{branch_fits}
use Rattle.jverify.specs.CheckedMethods.{branch_test}

-- ---- a test of each branch

pub fails_at : (test : ℤ → Bool) (xs : List ℤ) (i : ℕ) → i < length xs → branch_test test (slice_get xs i) ≡ false → list_all test (drop i xs) ≡ false
fails_at test [] i lt h = absurd (omega arith)
fails_at test (x ∷ xs) zero lt h = ap (λ (b : Bool). b && list_all test xs) h
fails_at test (x ∷ xs) (suc i) lt h = fails_at test xs i (omega arith) h

pub passes_at : (test : ℤ → Bool) (xs : List ℤ) (i : ℕ) → i < length xs → branch_test test (slice_get xs i) ≡ true → list_all test (drop i xs) ≡ list_all test (drop (suc i) xs)
passes_at test [] i lt h = absurd (omega arith)
passes_at test (x ∷ xs) zero lt h = ap (λ (b : Bool). b && list_all test xs) h
passes_at test (x ∷ xs) (suc i) lt h = passes_at test xs i (omega arith) h

-- ---- how a switch is lent doesn't count

flow_on : (f : Flow (Bor Switch)) → flow_goes_on (seen_flow f) ≡ flow_goes_on f
flow_on (flows.If test by) = refl
flow_on (flows.IfInt test by) = refl
flow_on (flows.IfRef test by) = refl
flow_on (flows.Goto by) = refl
flow_on (flows.Switch s) = refl
flow_on (flows.Return kind) = refl
flow_on flows.Throw = refl

goes_seen : (f : OpForm (Bor Switch)) → goes_on (seen_form f) ≡ goes_on f
unfolding goes_on
goes_seen (forms.Simple f) = refl
goes_seen (forms.Local f) = refl
goes_seen (forms.Stack f) = refl
goes_seen (forms.Flow f) = flow_on f
goes_seen (forms.Array f) = refl
goes_seen (forms.Pool f) = refl

-- ---- behind an instruction

pub left : (p : Program) (ws : List Written) (o : Placed) (rest : List Placed) (g : Frame) (one : OpForm (Bor Switch)) (fit goes : Bool) (r : Option (Option Frame))
    → seen_form one ≡ form o.op → fit ≡ true → fit ≡ list_all (branch_fits p ws o.at g) (branches (seen_form one)) → goes ≡ goes_on one → r ≡ onward p ws g goes rest → r ≡ leave p ws o rest g
left p ws o rest g one fit goes r is serve fits same e =
    let serves : branches_fit p ws o g ≡ true = sym (ap (λ (x : OpForm Switch). list_all (branch_fits p ws o.at g) (branches x)) is) ∙ sym fits ∙ serve in
    e
    ∙ ap (λ (b : Bool). onward p ws g b rest) (same ∙ sym (goes_seen one) ∙ ap (λ (x : OpForm Switch). goes_on x) is)
    ∙ sym (ap (λ (b : Bool). if b then onward p ws g (goes_on (form o.op)) rest else None) serves)
