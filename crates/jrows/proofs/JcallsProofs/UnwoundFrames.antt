-- Frames that go where something is thrown.
use Rattle.std.proofs.Common.{◌≡◌, ◌∙◌, ℕ, true, false, List, [], ◌∷◌, Option, Some, None, refl, sym, ap, subst}
use Rattle.std.specs.List.{AllByRecursion}
use Rattle.jvalues.specs.declared.jops.value.Value.TheVariants.{Ref}
use Rattle.jresolution.specs.declared.jprogram.member.MethodId.{MethodId}
use Rattle.jresolution.specs.jprogram.ProgramClasses.{Program}
use Rattle.jtypes.specs.declared.vtype.VType.{VType}
use Rattle.jsemantics.specs.jmachine.MachineStates.{FrameOf}
use Rattle.jsemantics.specs.jmachine.Unwinding.{unwound}
use Rattle.jruntime.specs.jstate.FrameLists.{Framed, all, framed}
use Rattle.jrows.specs.jcalls.FrameMarks.{Stand, resumed_by}
use Rattle.jrows.specs.jcalls.Unwinds.{IsTold, Settles, Unwinds}
use Rattle.jrows.proofs.JcallsProofs.FrameMarks.{is_resumed}

module _ {E : Type 0} (goes : MethodId → ℕ → Option ℕ) where
  -- what is thrown in these frames is handled as in those
  abbrev pub Reaches : Framed E → Framed E → Type 0
  Reaches f g = (entry_of : ℕ → E) (p : Program) (thrown : VType) (n : ℕ) → AllByRecursion (IsTold p thrown goes) (all f)
      → AllByRecursion (IsTold p thrown goes) (all g) × (unwound entry_of p thrown n (all f) ≡ unwound entry_of p thrown n (all g))

  pub at_first : (f : Framed E) → Reaches f f
  at_first f entry_of p thrown n told = (told, refl)

  is_all : (u : Framed E) (below : List (FrameOf ℕ E)) → framed below ≡ Some u → below ≡ all u
  is_all u [] e = cc
  is_all u (x ∷ below) e = let same : record { newest = x; below = below } ≡ u = cc in ap (λ (v : Framed E). all v) same

  -- a frame that doesn't handle it goes
  pub goes_on : (f g u : Framed E) → Reaches f g → None ≡ goes g.newest.method g.newest.place → framed g.below ≡ Some u → Reaches f u
  unfolding unwound
  goes_on f g u reaches none e entry_of p thrown n told =
      let here = reaches entry_of p thrown n told in
      let below = is_all u g.below e in
      let not_here = none ∙ here.0.0 in
      let P : List (FrameOf ℕ E) → Type 0 = λ fs. AllByRecursion (IsTold p thrown goes) fs in
      (subst P below here.0.1, here.1 ∙ rw (← not_here) (ap (unwound entry_of p thrown n) below))

  -- the last one is gone
  pub none_handles : (f g h : Framed E) → Reaches f g → None ≡ goes g.newest.method g.newest.place → g.below ≡ [] → Settles goes f None h
  unfolding unwound
  none_handles f g h reaches none last entry_of p thrown n told =
      let here = reaches entry_of p thrown n told in
      let not_here = none ∙ here.0.0 in
      here.1 ∙ rw (← not_here, last) refl

  -- a frame handles it
  pub one_handles : (f g : Framed E) (to : ℕ) → Reaches f g → Some to ≡ goes g.newest.method g.newest.place → Settles goes f (Some to) g
  unfolding unwound
  one_handles f g to reaches some entry_of p thrown n told =
      let here = reaches entry_of p thrown n told in
      let found = some ∙ here.0.0 in
      here.1 ∙ rw (← found) refl

  pub stands_below : (count : ℕ) (g u : Framed E) → framed g.below ≡ Some u → Stand count (all g) → Stand count (all u)
  stands_below count g u e s = let P : List (FrameOf ℕ E) → Type 0 = λ fs. Stand count fs in subst P (is_all u g.below e) s.1

  pub stands_same : (count : ℕ) (g u : Framed E) → u ≡ g → Stand count (all g) → Stand count (all u)
  stands_same count g u e s = let P : Framed E → Type 0 = λ v. Stand count (all v) in subst P (sym e) s

  -- ---- the whole

  pub unwound_none : (marks : List E) (n : ℕ) (f g : Framed E) → Settles goes f None g → Unwinds marks goes n f false g
  unwound_none marks n f g settles entry_of p thrown is told = settles entry_of p thrown n told

  pub unwound_some : (marks : List E) (n to : ℕ) (f u g : Framed E) → Settles goes f (Some to) u → Some g ≡ resumed_by marks u to (Ref n ∷ [])
      → Unwinds marks goes n f true g
  unwound_some marks n to f u g settles h entry_of p thrown is told =
      settles entry_of p thrown n told ∙ ap (λ (v : Framed E). Some (all v)) (sym (is_resumed entry_of p marks u g to (Ref n ∷ []) is h))

  pub settled_with : (f g : Framed E) (to other : Option ℕ) → to ≡ other → Settles goes f to g → Settles goes f other g
  settled_with f g to other e s = let P : Option ℕ → Type 0 = λ o. Settles goes f o g in subst P e s
