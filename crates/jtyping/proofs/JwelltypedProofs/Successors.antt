-- The frames where an instruction leads.
use Rattle.std.proofs.Common.{◌≡◌, ℕ, suc, Bool, true, false, List, [], ◌∷◌, Option, Some, None, refl, sym, ap, ◌∙◌, subst}
use Rattle.std.specs.Prelude.{ℤ, pos, ◌+ℤ◌, slice_get}
use Rattle.jparts.specs.declared.jcode.op.Handler.{Handler}
use Rattle.jparts.specs.declared.jcode.op.Placed.{Placed}
use Rattle.jparts.specs.jcode.InstructionForms.{branches, form, goes_on}
use Rattle.jclass.specs.FileContents.{IsIn}
use Rattle.jtypes.specs.declared.vtype.VType.{VType}
use Rattle.jtypes.specs.Assignability.{fits, is_above_arrays}
use Rattle.jtypes.specs.TypeFrames.{Frame}
use Rattle.jtypes.specs.ClassTrees.{Tree}
use Rattle.jtypes.proofs.SubtypeLaws.{fits_itself}
use Rattle.jtypes.proofs.FrameFits as framing
use Rattle.jresolution.specs.jprogram.ProgramClasses.{Program, tree}
use Rattle.jresolution.proofs.JprogramProofs.SuperclassOrder.{extends_itself}
use Rattle.jresolution.specs.juses.IndexedInstructions as instructions
use Rattle.jresolution.specs.juses.IndexedInstructions.{Instruction, instruction, targets}
use Rattle.jtyping.specs.jrule.StackOperands.{with_stack}
use Rattle.jtyping.specs.jrule.TypingRule.{rule}
use Rattle.jtyping.specs.jrule.PoolEffects.{throwable}
use Rattle.jtyping.proofs.JruleProofs.FormRules.{form_agrees}
use Rattle.jtyping.specs.jwelltyped.DeclaredFrames.{Written, declared_at, first_frame}
use Rattle.jtyping.specs.jwelltyped.MethodPremises.{Method, here_of}
use Rattle.jparts.specs.jcode.Instructions.{covers}
use Rattle.jtyping.specs.jwelltyped.VerifierTests.{caught_fits, caught_type, frame_fits, leads_in}
use Rattle.jtyping.specs.jwelltyped.WellTypedness.{AreFrames, Arrives, Caught, Continues, FitsAt, Follows, Serves}
use Rattle.jtyping.proofs.JwelltypedProofs.TypedFrames.{also_at, declared_there}
use Rattle.jtyping.proofs.JwelltypedProofs.BranchNumbers.{at_target, form_led, goes_alike}
use Rattle.jtyping.proofs.JwelltypedProofs.Tests.{both_of}

-- ---- behind it

frame_itself : (p : Program) (f : Frame) → frame_fits (tree p) f f ≡ true
frame_itself p f = framing.frame_itself (fits (tree p)) (λ a. fits_itself is_above_arrays (tree p) (λ c. extends_itself p c.0) a) f

-- what arrives fits the frame that is there
arrived : (p : Program) (d : Option Frame) (a f : Frame) → Arrives (tree p) d a f → frame_fits (tree p) a f ≡ true
arrived p None a f e = subst (λ (z : Frame). frame_fits (tree p) a z ≡ true) (sym e) (frame_itself p a)
arrived p (Some d) a f e = subst (λ (z : Frame). frame_fits (tree p) a z ≡ true) (sym e.0) e.1

continued : (p : Program) (m : Method) (ws : List Written) (fs : List Frame) (n : ℕ) (g : Frame) (goes : Bool) (next : Option Placed) (after : Option Frame)
    → slice_get m.body.ops (suc n) ≡ next → slice_get fs (suc n) ≡ after → goes ≡ true → Follows p ws g goes next after → Continues p m ws fs n g
continued p m ws fs n g false next after at there e h = cc
continued p m ws fs n g true None after at there e h = absurd h
continued p m ws fs n g true (Some o) None at there e h = absurd h
continued p m ws fs n g true (Some o) (Some f) at there e h = record { next = o; frame = f; stands = at; there = there; arrives = h; fitted = arrived p (declared_at ws (pos o.at)) g f h }

pub goes_onward : (p : Program) (m : Method) (ws : List Written) (fs : List Frame) (n : ℕ) (o : Placed) (f : Frame)
    → (x : Serves p m ws fs n o f) → goes_on (form o.op) ≡ true → Continues p m ws fs n x.behind
goes_onward p m ws fs n o f x e =
    continued p m ws fs n x.behind (goes_on (form o.op)) (slice_get m.body.ops (suc n)) (slice_get fs (suc n)) refl refl e x.follows

-- where the method begins
pub enters_first : (p : Program) (m : Method) (ws : List Written) (fs : List Frame) → AreFrames p m ws fs → (o : Placed) → slice_get m.body.ops 0 ≡ Some o → FitsAt p fs 0 (first_frame m)
enters_first p m ws fs x o at =
    let f = also_at m.body.ops fs 0 o x.each at in
    record { frame = f.0; there = f.1; arrives = arrived p (declared_at ws (pos o.at)) (first_frame m) f.0 (x.begins o f.0 at f.1) }

-- ---- where a frame is declared

led : (t : Tree) (f : Frame) (d : Option Frame) → leads_in t f d ≡ true → (g : Frame) × ((d ≡ Some g) × (frame_fits t f g ≡ true))
led t f None e = cc
led t f (Some g) e = (g, (refl, e))

-- what fits the frame that is declared at a place fits that of its instruction
led_to : (p : Program) (m : Method) (ws : List Written) (fs : List Frame) (at : ℤ) (a : Frame) → AreFrames p m ws fs → leads_in (tree p) a (declared_at ws at) ≡ true
    → (k : ℕ) (to : Placed) (g : Frame) → slice_get m.body.ops k ≡ Some to → slice_get fs k ≡ Some g → pos to.at ≡ at → frame_fits (tree p) a g ≡ true
led_to p m ws fs at a x e k to g stands there same =
    let found = led (tree p) a (declared_at ws at) e in
    let declared : declared_at ws (pos to.at) ≡ Some found.0 = subst (λ (z : ℤ). declared_at ws z ≡ Some found.0) (sym same) found.1.0 in
    let is : g ≡ found.0 = declared_there p m ws fs x k to g found.0 stands there declared in
    subst (λ (z : Frame). frame_fits (tree p) a z ≡ true) (sym is) found.1.1

pub branches_to : (p : Program) (m : Method) (ws : List Written) (fs : List Frame) → AreFrames p m ws fs
    → (n k : ℕ) (o to : Placed) (f g : Frame) (by : ℤ) → (x : Serves p m ws fs n o f) → IsIn by (branches (form o.op))
    → slice_get m.body.ops k ≡ Some to → slice_get fs k ≡ Some g → pos to.at ≡ pos o.at +ℤ by → frame_fits (tree p) x.behind g ≡ true
branches_to p m ws fs are n k o to f g by x is stands there same = led_to p m ws fs (pos o.at +ℤ by) x.behind are (x.leads by is) k to g stands there same

-- ---- handlers

caught_at : (p : Program) (m : Method) (ws : List Written) (fs : List Frame) (f : Frame) (h : Handler) (c : Option VType) → AreFrames p m ws fs
    → caught_type p m h ≡ c → caught_fits (tree p) f (declared_at ws (pos h.at)) c ≡ true
    → (k : ℕ) (to : Placed) (g : Frame) → slice_get m.body.ops k ≡ Some to → slice_get fs k ≡ Some g → to.at ≡ h.at → Caught p m f h g
caught_at p m ws fs f h None are is e k to g stands there same = cc
caught_at p m ws fs f h (Some c) are is e k to g stands there same =
    let parts = both_of (fits (tree p) c throwable) (leads_in (tree p) (with_stack f (c ∷ [])) (declared_at ws (pos h.at))) e in
    record {
      caught = c;
      is = is;
      throws = parts.0;
      arrives = led_to p m ws fs (pos h.at) (with_stack f (c ∷ [])) are parts.1 k to g stands there (ap (λ (z : ℕ). pos z) same);
    }

pub handled : (p : Program) (m : Method) (ws : List Written) (fs : List Frame) → AreFrames p m ws fs
    → (n k : ℕ) (o to : Placed) (f g : Frame) (h : Handler) → Serves p m ws fs n o f → IsIn h m.body.handlers → covers o.at h ≡ true
    → slice_get m.body.ops k ≡ Some to → slice_get fs k ≡ Some g → to.at ≡ h.at → Caught p m f h g
handled p m ws fs are n k o to f g h x is covered stands there same =
    caught_at p m ws fs f h (caught_type p m h) are refl (x.handlers h is covered) k to g stands there same

-- ---- by number

pub gives_rule : (p : Program) (m : Method) (ws : List Written) (fs : List Frame) (n : ℕ) (o : Placed) (f : Frame) (i : Instruction)
    → (x : Serves p m ws fs n o f) → instruction p m.pool m.body.ops o ≡ Some i → rule p (here_of p m o.at) i f ≡ Some x.behind
unfolding instruction
gives_rule p m ws fs n o f i x e = form_agrees p (here_of p m o.at) m.pool m.body.ops o.at (form o.op) i f e ∙ x.gives

pub number_onward : (p : Program) (m : Method) (ws : List Written) (fs : List Frame) (n : ℕ) (o : Placed) (f : Frame) (i : Instruction)
    → (x : Serves p m ws fs n o f) → instruction p m.pool m.body.ops o ≡ Some i → instructions.goes_on i ≡ true → Continues p m ws fs n x.behind
unfolding instruction
number_onward p m ws fs n o f i x e goes = goes_onward p m ws fs n o f x (sym (goes_alike p m.pool m.body.ops o.at (form o.op) i e) ∙ goes)

pub number_led : (p : Program) (m : Method) (ws : List Written) (fs : List Frame) → AreFrames p m ws fs
    → (n k : ℕ) (o : Placed) (f : Frame) (i : Instruction) → (x : Serves p m ws fs n o f) → instruction p m.pool m.body.ops o ≡ Some i → IsIn k (targets i) → FitsAt p fs k x.behind
unfolding instruction
number_led p m ws fs are n k o f i x e is =
    let led = form_led p m.pool m.body.ops o.at (form o.op) i k e is in
    let to = at_target m.body.ops o.at led.0 k o led.1.1 in
    let g = also_at m.body.ops fs k to.0 are.each to.1.0 in
    record { frame = g.0; there = g.1; arrives = branches_to p m ws fs are n k o to.0 f g.0 led.0 x led.1.0 to.1.0 g.1 to.1.1 }
