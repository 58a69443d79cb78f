-- One instruction: its tests pass exactly where it serves with its frame.
use Rattle.std.proofs.Common.{◌≡◌, ℕ, Bool, true, false, cond, List, [], ◌∷◌, Option, Some, None, refl, sym, ap, subst}
use Rattle.std.specs.Prelude.{ℤ, pos, slice_get, option_and_then}
use Rattle.jparts.specs.declared.jcode.op.Handler.{Handler}
use Rattle.jparts.specs.declared.jcode.op.Placed.{Placed}
use Rattle.jparts.specs.jcode.InstructionForms.{branches, form, goes_on}
use Rattle.jclass.specs.FileContents.{IsIn}
use Rattle.jtypes.specs.TypeFrames.{Frame}
use Rattle.jtypes.specs.ClassTrees.{Tree}
use Rattle.jresolution.specs.jprogram.ProgramClasses.{Program, tree}
use Rattle.jtyping.specs.jrule.FormRules.{by_form}
use Rattle.jtyping.specs.jwelltyped.DeclaredFrames.{Written, declared_at}
use Rattle.jtyping.specs.jwelltyped.MethodPremises.{Method, here_of}
use Rattle.jparts.specs.jcode.Instructions.{covers}
use Rattle.jtyping.specs.jwelltyped.VerifierTests.{begun, branches_fit, handler_fits, handlers_fit, lets_in, onward, step}
use Rattle.jtyping.specs.jwelltyped.ProofNames.{branch_fits, handler_test}
use Rattle.jtyping.specs.jwelltyped.WellTypedness.{Arrives, Follows}
use Rattle.jtyping.proofs.JwelltypedProofs.Tests.{all_in, holds_where, in_all, some_is, where_holds}

-- ---- where a frame arrives

pub arrives_from : (t : Tree) (d : Option Frame) (a f : Frame) → lets_in t a d ≡ true → begun d (Some a) ≡ Some f → Arrives t d a f
arrives_from t None a f fit e = sym (some_is a f e)
arrives_from t (Some d) a f fit e = (sym (some_is d f e), fit)

pub lets_in_by : (t : Tree) (d : Option Frame) (a f : Frame) → Arrives t d a f → lets_in t a d ≡ true
lets_in_by t None a f e = refl
lets_in_by t (Some d) a f e = e.1

pub begun_by : (t : Tree) (d : Option Frame) (a f : Frame) → Arrives t d a f → begun d (Some a) ≡ Some f
begun_by t None a f e = ap (λ (x : Frame). Some x) (sym e)
begun_by t (Some d) a f e = ap (λ (x : Frame). Some x) (sym e.0)

declared_from : (d : Option Frame) (f : Frame) → begun d None ≡ Some f → d ≡ Some f
declared_from None f e = cc
declared_from (Some d) f e = e

begun_declared : (d : Option Frame) (f : Frame) → d ≡ Some f → begun d None ≡ Some f
begun_declared None f e = cc
begun_declared (Some d) f e = e

-- ---- what is behind an instruction

-- the frames begin with the one with which the instructions do, by what arrives there
abbrev pub Begins : List Written → List Placed → Option Frame → List Frame → Type 0
Begins ws [] arriving [] = Unit {0}
Begins ws (o ∷ os) arriving (f ∷ fs) = begun (declared_at ws (pos o.at)) arriving ≡ Some f
Begins ws _ arriving _ = ⊥

-- what leaves an instruction with the frame g behind it, which goes on or not
abbrev pub sent : Bool → Frame → Option Frame
sent true g = Some g
sent false g = None

let_through : (v : Bool) (g : Frame) (next : Option Frame) → cond v (Some (Some g)) None ≡ Some next → (v ≡ true) × (Some g ≡ next)
let_through true g next e = (refl, some_is (Some g) next e)
let_through false g next e = cc

follows_from : (p : Program) (ws : List Written) (g : Frame) (goes : Bool) (os : List Placed) (fs : List Frame) (next : Option Frame)
    → onward p ws g goes os ≡ Some next → Begins ws os next fs → Follows p ws g goes (slice_get os 0) (slice_get fs 0)
follows_from p ws g true [] fs next e b = cc
follows_from p ws g false [] [] next e b = tt
follows_from p ws g false [] (f ∷ fs) next e b = absurd b
follows_from p ws g goes (o ∷ os) [] next e b = absurd b
follows_from p ws g true (o ∷ os) (f ∷ fs) next e b =
    let d = declared_at ws (pos o.at) in
    let through = let_through (lets_in (tree p) g d) g next e in
    arrives_from (tree p) d g f through.0 (subst (λ (n : Option Frame). begun d n ≡ Some f) (sym through.1) b)
follows_from p ws g false (o ∷ os) (f ∷ fs) next e b =
    let d = declared_at ws (pos o.at) in
    declared_from d f (subst (λ (n : Option Frame). begun d n ≡ Some f) (sym (some_is None next e)) b)

abbrev Onward : Program → List Written → Frame → Bool → List Placed → List Frame → Type 0
Onward p ws g goes os fs = (onward p ws g goes os ≡ Some (sent goes g)) × Begins ws os (sent goes g) fs

onward_by : (p : Program) (ws : List Written) (g : Frame) (goes : Bool) (os : List Placed) (fs : List Frame)
    → Follows p ws g goes (slice_get os 0) (slice_get fs 0) → Onward p ws g goes os fs
onward_by p ws g true [] [] h = absurd h
onward_by p ws g true [] (f ∷ fs) h = absurd h
onward_by p ws g false [] [] h = (refl, tt)
onward_by p ws g false [] (f ∷ fs) h = absurd h
onward_by p ws g true (o ∷ os) [] h = absurd h
onward_by p ws g false (o ∷ os) [] h = absurd h
onward_by p ws g true (o ∷ os) (f ∷ fs) h =
    let d = declared_at ws (pos o.at) in
    (rw (lets_in_by (tree p) d g f h) refl, begun_by (tree p) d g f h)
onward_by p ws g false (o ∷ os) (f ∷ fs) h = (refl, begun_declared (declared_at ws (pos o.at)) f h)

-- ---- an instruction

-- An instruction serves with its frame, with what stands behind it: an instruction with its frame, or none.
pub record Serving (p : Program) (m : Method) (ws : List Written) (o : Placed) (f : Frame) (next : Option Placed) (after : Option Frame) : Type 0 where
  pub handlers : (h : Handler) → IsIn h m.body.handlers → covers o.at h ≡ true → handler_fits p m ws f h ≡ true
  pub behind : Frame
  pub gives : by_form p (here_of p m o.at) m.pool (form o.op) f ≡ Some behind
  pub leads : (by : ℤ) → IsIn by (branches (form o.op)) → branch_fits p ws o.at behind by ≡ true
  pub follows : Follows p ws behind (goes_on (form o.op)) next after

record Parts (handled : Bool) (given : Option Frame) (led : Frame → Bool) (on : Frame → Option (Option Frame)) (next : Option Frame) : Type 0 where
  pub handles : handled ≡ true
  pub behind : Frame
  pub gives : given ≡ Some behind
  pub leads : led behind ≡ true
  pub goes : on behind ≡ Some next

split_led : (given : Option Frame) (g : Frame) (led : Frame → Bool) (on : Frame → Option (Option Frame)) (next : Option Frame) (v : Bool)
    → given ≡ Some g → led g ≡ v → cond v (on g) None ≡ Some next → Parts true given led on next
split_led given g led on next false is l e = cc
split_led given g led on next true is l e = record { handles = refl; behind = g; gives = is; leads = l; goes = e }

split : (handled : Bool) (given : Option Frame) (led : Frame → Bool) (on : Frame → Option (Option Frame)) (next : Option Frame)
    → cond handled (option_and_then (λ g. cond (led g) (on g) None) given) None ≡ Some next → Parts handled given led on next
split false given led on next e = cc
split true None led on next e = cc
split true (Some g) led on next e = split_led (Some g) g led on next (led g) refl refl e

unite : (handled : Bool) (given : Option Frame) (led : Frame → Bool) (on : Frame → Option (Option Frame)) (next : Option Frame) (g : Frame)
    → handled ≡ true → given ≡ Some g → led g ≡ true → on g ≡ Some next → cond handled (option_and_then (λ g. cond (led g) (on g) None) given) None ≡ Some next
unite handled given led on next g h is l e = rw (h, is, l) e

handlers_of : (p : Program) (m : Method) (ws : List Written) (at : ℕ) (f : Frame) → handlers_fit p m ws at f ≡ true
    → (h : Handler) → IsIn h m.body.handlers → covers at h ≡ true → handler_fits p m ws f h ≡ true
handlers_of p m ws at f e h is covered = holds_where (covers at h) (handler_fits p m ws f h) (all_in (handler_test p m ws at f) m.body.handlers h e is) covered

of_handlers : (p : Program) (m : Method) (ws : List Written) (at : ℕ) (f : Frame)
    → ((h : Handler) → IsIn h m.body.handlers → covers at h ≡ true → handler_fits p m ws f h ≡ true) → handlers_fit p m ws at f ≡ true
of_handlers p m ws at f each = in_all (handler_test p m ws at f) m.body.handlers (λ h is. where_holds (covers at h) (handler_fits p m ws f h) (each h is))

pub step_serves : (p : Program) (m : Method) (ws : List Written) (o : Placed) (os : List Placed) (f : Frame) (fs : List Frame) (next : Option Frame)
    → step p m ws o os f ≡ Some next → Begins ws os next fs → Serving p m ws o f (slice_get os 0) (slice_get fs 0)
unfolding step
step_serves p m ws o os f fs next e b =
    let parts = split (handlers_fit p m ws o.at f) (by_form p (here_of p m o.at) m.pool (form o.op) f) (branches_fit p ws o) (λ g. onward p ws g (goes_on (form o.op)) os) next e in
    record {
      handlers = handlers_of p m ws o.at f parts.handles;
      behind = parts.behind;
      gives = parts.gives;
      leads = λ by is. all_in (branch_fits p ws o.at parts.behind) (branches (form o.op)) by parts.leads is;
      follows = follows_from p ws parts.behind (goes_on (form o.op)) os fs next parts.goes b;
    }

-- what arrives behind an instruction that serves
pub onward_of : (p : Program) (m : Method) (ws : List Written) (o : Placed) (f : Frame) (os : List Placed) (fs : List Frame)
    → (x : Serving p m ws o f (slice_get os 0) (slice_get fs 0)) → Begins ws os (sent (goes_on (form o.op)) x.behind) fs
onward_of p m ws o f os fs x = (onward_by p ws x.behind (goes_on (form o.op)) os fs x.follows).1

pub serves_step : (p : Program) (m : Method) (ws : List Written) (o : Placed) (os : List Placed) (f : Frame) (fs : List Frame)
    → (x : Serving p m ws o f (slice_get os 0) (slice_get fs 0)) → step p m ws o os f ≡ Some (sent (goes_on (form o.op)) x.behind)
unfolding step
serves_step p m ws o os f fs x =
    unite (handlers_fit p m ws o.at f) (by_form p (here_of p m o.at) m.pool (form o.op) f) (branches_fit p ws o) (λ g. onward p ws g (goes_on (form o.op)) os)
    (sent (goes_on (form o.op)) x.behind) x.behind
    (of_handlers p m ws o.at f x.handlers) x.gives
    (in_all (branch_fits p ws o.at x.behind) (branches (form o.op)) x.leads)
    ((onward_by p ws x.behind (goes_on (form o.op)) os fs x.follows).0)
