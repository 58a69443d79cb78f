-- Calls.
use Rattle.std.proofs.Common.{◌≡◌, ◌∙◌, ℕ, Bool, true, false, List, length, drop, take, Option, Some, None, refl, sym, ap}
use Rattle.std.specs.Prelude.{nat_le, option_map}
use Rattle.std.proofs.Math.Dec.{leb-zero}
use Rattle.jvalues.specs.declared.jops.value.Value.{Value}
use Rattle.jlib.specs.declared.calls.LibCall.{LibCall}
use Rattle.jlib.specs.declared.classes.LibClass.{LibClass}
use Rattle.jclass.specs.declared.class.CodeBody.{CodeBody}
use Rattle.jresolution.specs.declared.jprogram.member.MethodId.{MethodId}
use Rattle.jresolution.specs.jprogram.ProgramClasses.{Program}
use Rattle.jresolution.specs.juses.IndexedInstructions.{code_at}
use Rattle.jsemantics.specs.declared.jmachine.plan.Plan.{Plan}
use Rattle.jsemantics.specs.jmachine.MachineStates.{State}
use Rattle.jsemantics.specs.jmachine.CallTargets.{Fails, Pushes, Runs, no_code, overflow}
use Rattle.jsemantics.specs.jmachine.FrameOperations.{domain_of, frame_of}
use Rattle.jsemantics.specs.jmachine.Security.{Rules}
use Rattle.jsemantics.specs.jmachine.MachineSteps.{acted, applied}
use Rattle.jruntime.specs.jstate.FrameLists.{Framed, all, holding, pushed, starting}
use Rattle.jrows.proofs.JactsProofs.Costs.{unpaid}
use Rattle.jrows.specs.declared.jcalls.calls.Called.{Called}
use Rattle.jrows.specs.declared.jcalls.calls.Called.TheVariants as ways
use Rattle.jrows.specs.declared.jcalls.calls.Callee.{Callee}
use Rattle.jrows.specs.declared.jcalls.calls.Selection.TheVariants as found
use Rattle.jrows.specs.jcalls.MethodCalls.{CalledAs, IsCallee, Reaches, comes, is_full}

-- ---- a frame that begins

pub begun_some : {E : Type 0} (m : MethodId) (entry : E) (arguments : List (Value ℕ)) (most : ℕ) (o : Option CodeBody)
    → option_map (λ (body : CodeBody). body.max_locals) o ≡ Some most
    → option_map (frame_of m entry arguments) o ≡ Some (starting m most arguments entry)
begun_some m entry arguments most None h = cc
begun_some m entry arguments most (Some body) h = let e : body.max_locals ≡ most = cc in ap (λ n. Some (starting m n arguments entry)) e

pub begun_none : {E : Type 0} (m : MethodId) (entry : E) (arguments : List (Value ℕ)) (o : Option CodeBody)
    → option_map (λ (body : CodeBody). body.max_locals) o ≡ None
    → option_map (frame_of m entry arguments) o ≡ None
begun_none m entry arguments None h = refl
begun_none m entry arguments (Some body) h = cc

module _ {E : Type 0} (count : ℕ) (f : Framed E) where
  -- ---- what a call comes to

  pub fails_so : (r : Rules ℕ E) (p : Program) (plan : Plan) (s : State ℕ E) (class : LibClass)
      → CalledAs r p plan s count f (ways.Raises class) (holding (drop count f.newest.operands) f) (comes r p plan s f count (Fails class))
  unfolding applied acted
  fails_so r p plan s class = (refl, refl)

  pub runs_so : (r : Rules ℕ E) (p : Program) (plan : Plan) (s : State ℕ E) (call : LibCall)
      → CalledAs r p plan s count f (ways.Runs call) f (comes r p plan s f count (Runs call))
  runs_so r p plan s call = (refl, refl)

  -- the frames with one more
  abbrev pub entered : Callee E → Framed E
  entered c = pushed (starting c.method c.most (take count f.newest.operands) c.mark) (holding (drop count f.newest.operands) f)

  pushes_so : (r : Rules ℕ E) (p : Program) (plan : Plan) (s : State ℕ E) (c : Callee E) → c.has_code ≡ true → IsCallee r.entry_of p c
      → CalledAs r p plan s count f ways.Begun (entered c) (comes r p plan s f count (Pushes c.method))
  unfolding applied acted
  pushes_so r p plan s c has is =
      let code : option_map (λ (body : CodeBody). body.max_locals) (code_at p c.method) ≡ Some c.most = is.code ∙ rw has refl in
      rw (
        leb-zero s.store.left,
        begun_some c.method (r.entry_of (domain_of p c.method)) (take count f.newest.operands) c.most (code_at p c.method) code,
        ← is.mark,
        ← unpaid s.store,
      ) (refl, refl)

  pushes_none : (r : Rules ℕ E) (p : Program) (plan : Plan) (s : State ℕ E) (c : Callee E) (g : Framed E) → c.has_code ≡ false → IsCallee r.entry_of p c
      → CalledAs r p plan s count f ways.Stuck g (comes r p plan s f count (Pushes c.method))
  unfolding applied acted
  pushes_none r p plan s c g has is =
      let code : option_map (λ (body : CodeBody). body.max_locals) (code_at p c.method) ≡ None = is.code ∙ rw has refl in
      rw (leb-zero s.store.left, begun_none c.method (r.entry_of (domain_of p c.method)) (take count f.newest.operands) (code_at p c.method) code) (refl, refl)

  -- ---- what is selected

  -- the number of frames is tested by numbers
  full_so : (plan : Plan) (depth frames : ℕ) (b : Bool) → plan.depth ≡ depth → frames ≡ length (all f) → b ≡ nat_le depth frames → is_full plan f ≡ b
  full_so plan depth frames b d n is = rw (d, ← n) (sym is)

  pub overflows : (depth frames : ℕ) (c : Callee E) (way : Called) (g : Framed E) → frames ≡ length (all f) → true ≡ nat_le depth frames
      → way ≡ ways.Raises overflow → g ≡ holding (drop count f.newest.operands) f → Reaches count (found.Method c) depth f way g
  overflows depth frames c way g n full w e r p plan s selected d is = rw (w, e, is.0, full_so plan depth frames true d n full) (fails_so r p plan s overflow)

  pub begins_so : (depth frames : ℕ) (c : Callee E) (g : Framed E) → frames ≡ length (all f) → false ≡ nat_le depth frames → c.has_code ≡ true
      → g ≡ entered c → Reaches count (found.Method c) depth f ways.Begun g
  begins_so depth frames c g n full has e r p plan s selected d is = rw (e, is.0, full_so plan depth frames false d n full) (pushes_so r p plan s c has is.1)

  pub codeless : (depth frames : ℕ) (c : Callee E) (g : Framed E) → frames ≡ length (all f) → false ≡ nat_le depth frames → c.has_code ≡ false
      → Reaches count (found.Method c) depth f ways.Stuck g
  codeless depth frames c g n full has r p plan s selected d is = rw (is.0, full_so plan depth frames false d n full) (pushes_none r p plan s c g has is.1)

  pub library_runs : (depth : ℕ) (call : LibCall) → Reaches count (found.Lib call) depth f (ways.Runs call) f
  library_runs depth call r p plan s selected d is = rw is (refl, refl)

  pub abstract_fails : (depth : ℕ) (way : Called) (g : Framed E) → way ≡ ways.Raises no_code → g ≡ holding (drop count f.newest.operands) f
      → Reaches count found.Abstract depth f way g
  abstract_fails depth way g w e r p plan s selected d is = rw (w, e, is.1) (fails_so r p plan s no_code)

  pub missing_fails : (depth : ℕ) (way : Called) (g : Framed E) → way ≡ ways.Raises no_code → g ≡ holding (drop count f.newest.operands) f
      → Reaches count found.Missing depth f way g
  missing_fails depth way g w e r p plan s selected d is = rw (w, e, is) (fails_so r p plan s no_code)

-- How a user's method begins, or doesn't.
pub ruleset enterings = (overflows, begins_so, codeless)

-- What is selected and isn't a user's method with code.
pub ruleset reachings = (library_runs, abstract_fails, missing_fails)
