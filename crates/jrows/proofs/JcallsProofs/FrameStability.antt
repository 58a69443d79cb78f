-- Frames that stand stay so, whatever becomes of them.
use Rattle.std.proofs.Common.{◌≡◌, ◌<◌, ℕ, List, [], ◌∷◌, Option, Some, None, refl, sym, ap, subst}
use Rattle.std.specs.Prelude.{option_map, slice_get}
use Rattle.jvalues.specs.declared.jops.value.Value.{Value}
use Rattle.jlib.specs.declared.classes.LibClass.{LibClass}
use Rattle.jlib.specs.declared.classes.LibClass.TheVariants as lib
use Rattle.jlib.specs.declared.classes.Thrown.{Thrown as ThrownClass}
use Rattle.jresolution.specs.declared.jprogram.member.MethodId.{MethodId}
use Rattle.jsemantics.specs.jmachine.MachineStates.{FrameOf}
use Rattle.jsemantics.specs.jmachine.FrameOperations.{carrying, standing}
use Rattle.jruntime.specs.jstate.FrameLists.{Framed, all, framed, holding, pushed, starting, with_newest}
use Rattle.jrows.specs.declared.jcalls.calls.Called.{Called}
use Rattle.jrows.specs.declared.jcalls.calls.Called.TheVariants as ways
use Rattle.jrows.specs.declared.jcalls.calls.Callee.{Callee}
use Rattle.jrows.specs.declared.jcalls.calls.Selection.{Selection}
use Rattle.jrows.specs.declared.jcalls.calls.Selection.TheVariants as found
use Rattle.jrows.specs.jcalls.MethodCalls.{CallLeaves, CallsStanding}
use Rattle.jrows.specs.jcalls.FrameMarks.{AreStanding, Stand, resumed_by}
use Rattle.jrows.specs.jcalls.Returns.{StaysStanding}
use Rattle.jrows.specs.jcalls.Throws.{LeavesStanding}

module _ {E : Type 0} where
  -- ---- a frame that goes on

  -- it is of the same method, and those below it are the same
  abbrev Keeps : Framed E → Framed E → Type 0
  Keeps u g = (g.newest.method ≡ u.newest.method) × (g.below ≡ u.below)

  resumed_keeps : (marks : List E) (u g : Framed E) (place : ℕ) (operands : List (Value ℕ)) → Some g ≡ resumed_by marks u place operands → Keeps u g
  resumed_keeps marks u g place operands h = by_mark (slice_get marks u.newest.method.class) h
    where
      by_mark : (o : Option E) → Some g ≡ option_map (λ mark. with_newest (carrying mark (standing u.newest place operands)) u) o → Keeps u g
      by_mark None h = absurd cc
      by_mark (Some mark) h =
          let same : g ≡ with_newest (carrying mark (standing u.newest place operands)) u = cc in
          (ap (λ (v : Framed E). v.newest.method) same, ap (λ (v : Framed E). v.below) same)

  kept_stands : (u g : Framed E) → Keeps u g → (classes : ℕ) → AreStanding classes u → AreStanding classes g
  kept_stands u g keeps classes s =
      let P : MethodId → Type 0 = λ m. m.class < classes in
      let Q : List (FrameOf ℕ E) → Type 0 = λ fs. Stand classes fs in
      (subst P (sym keeps.0) s.0, subst Q (sym keeps.1) s.1)

  loose : (classes : ℕ) (f : Framed E) → Stand classes (all f) → AreStanding classes f
  loose classes f s = (s.0.class, s.1)

  -- ---- returns

  is_all : (below : List (FrameOf ℕ E)) (u : Framed E) → framed below ≡ Some u → below ≡ all u
  is_all [] u e = cc
  is_all (x ∷ below) u e = let same : record { newest = x; below = below } ≡ u = cc in ap (λ (v : Framed E). all v) same

  pub last_stands : (f g : Framed E) → g ≡ f → StaysStanding f g
  last_stands f g e classes s = let P : Framed E → Type 0 = λ v. AreStanding classes v in subst P (sym e) s

  pub resumed_stands : (marks : List E) (f u g : Framed E) (place : ℕ) (operands : List (Value ℕ)) → framed f.below ≡ Some u
      → Some g ≡ resumed_by marks u place operands → StaysStanding f g
  resumed_stands marks f u g place operands e h classes s =
      let Q : List (FrameOf ℕ E) → Type 0 = λ fs. Stand classes fs in
      kept_stands u g (resumed_keeps marks u g place operands h) classes (loose classes u (subst Q (is_all f.below u e) s.1))

  -- ---- what is thrown

  pub same_stands : (f g : Framed E) → g ≡ f → LeavesStanding f g
  same_stands f g e classes s = let P : Framed E → Type 0 = λ v. AreStanding classes v in subst P (sym e) (loose classes f s)

  pub unhandled_stands : (f u : Framed E) → ((classes : ℕ) → Stand classes (all f) → Stand classes (all u)) → LeavesStanding f u
  unhandled_stands f u still classes s = loose classes u (still classes s)

  pub handled_stands : (marks : List E) (f u g : Framed E) (place : ℕ) (operands : List (Value ℕ))
      → ((classes : ℕ) → Stand classes (all f) → Stand classes (all u)) → Some g ≡ resumed_by marks u place operands → LeavesStanding f g
  handled_stands marks f u g place operands still h classes s =
      kept_stands u g (resumed_keeps marks u g place operands h) classes (loose classes u (still classes s))

  -- ---- calls

  held_stands : (classes : ℕ) (f : Framed E) (operands : List (Value ℕ)) → Stand classes (all f) → Stand classes (all (holding operands f))
  held_stands classes f operands s = (record { class = s.0.class; place = s.0.place }, s.1)

  pub raised_thrown : (way : Called) (class : ThrownClass) (f g : Framed E) → way ≡ ways.Raises (lib.Thrown class) → CallLeaves f way g
  raised_thrown way class f g e = rw e (class, refl)

  pub raised_stands : (what : Selection E) (f g : Framed E) (way : Called) (class : LibClass) (operands : List (Value ℕ)) → way ≡ ways.Raises class
      → g ≡ holding operands f → CallsStanding what f way g
  raised_stands what f g way class operands w e classes within s = rw (w, e) (held_stands classes f operands s)

  pub begun_stands : (c : Callee E) (f g : Framed E) (arguments operands : List (Value ℕ))
      → g ≡ pushed (starting c.method c.most arguments c.mark) (holding operands f) → CallsStanding (found.Method c) f ways.Begun g
  begun_stands c f g arguments operands e classes within s = rw e (within, held_stands classes f operands s)
