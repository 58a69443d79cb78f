-- Instructions with operands alone.
use Rattle.std.proofs.Common.{◌≡◌, ◌∙◌, ℕ, ℤ, ◌+◌, true, false, [], ◌∷◌, length, drop, Some, None, refl, sym, ap, ◌<◌}
use Rattle.std.specs.Prelude.{slice_get, Ok, Err}
use Rattle.jvalues.specs.declared.jnames.kinds.Kinds.{Kinds}
use Rattle.jvalues.specs.jnames.Effects.{division_effect, one_effect, two_effect}
use Rattle.jvalues.specs.declared.jnames.names.OpTwo.{OpTwo}
use Rattle.jvalues.specs.declared.jnames.names.OpTwo.TheVariants as twos
use Rattle.jvalues.specs.declared.jnames.names.OpOne.{OpOne}
use Rattle.jvalues.specs.declared.jnames.names.OpOne.TheVariants as ones
use Rattle.jvalues.specs.declared.jnames.names.Division.{Division}
use Rattle.jvalues.specs.declared.jnames.names.Division.TheVariants as divisions
use Rattle.jvalues.specs.declared.jops.value.Value.{Value}
use Rattle.jvalues.specs.declared.jops.value.Value.TheVariants.{Int, Long, Ref}
use Rattle.jvalues.specs.declared.jops.value.DivideByZero.{DivideByZero}
use Rattle.jvalues.specs.jops.ValueKinds.{are_of}
use Rattle.jvalues.specs.jops.Operations.{divide, one, two}
use Rattle.jparts.specs.declared.jcode.op_form.Simple.TheVariants as simples
use Rattle.jlib.specs.declared.classes.LibClass.{LibClass}
use Rattle.jlib.specs.declared.classes.LibClass.TheVariants as lib
use Rattle.jlib.specs.declared.classes.Thrown.TheVariants as thrown
use Rattle.jresolution.specs.juses.IndexedInstructions.{Simple}
use Rattle.jsemantics.specs.jmachine.MachineStates.{FrameOf}
use Rattle.jsemantics.specs.jmachine.InstructionActions.{doing}
use Rattle.jsemantics.specs.jmachine.FrameOperations.{onward, standing}
use Rattle.jsemantics.specs.jmachine.TakenOperands.{taken}
use Rattle.jsemantics.specs.jmachine.InstructionSites.{Site}
use Rattle.jsemantics.specs.jmachine.Store.{Store}
use Rattle.jsemantics.specs.jmachine.BasicInstructions.{simple}
use Rattle.jtyping.specs.jrule.StackEffects.{of_kinds}
use Rattle.jrows.specs.jacts.RowOutcomes.{Does}
use Rattle.jrows.specs.declared.jacts.way.Way.TheVariants as ways
use Rattle.jrows.proofs.JactsProofs.Costs.{at_no_cost}
use Rattle.jrows.proofs.JactsProofs.NumberOperands.{AreTwo, IsOne, are_taken, front_one, front_two, is_taken, isnt_taken, none_there, not_taken, too_few, two_taken}

-- the kinds that instructions take are those of numbers
two_kinds : (op : OpTwo) → AreTwo (two_effect op).takes
two_kinds twos.Iadd = (tt, tt)
two_kinds twos.Ladd = (tt, tt)
two_kinds twos.Isub = (tt, tt)
two_kinds twos.Lsub = (tt, tt)
two_kinds twos.Imul = (tt, tt)
two_kinds twos.Lmul = (tt, tt)
two_kinds twos.Ishl = (tt, tt)
two_kinds twos.Lshl = (tt, tt)
two_kinds twos.Ishr = (tt, tt)
two_kinds twos.Lshr = (tt, tt)
two_kinds twos.Iushr = (tt, tt)
two_kinds twos.Lushr = (tt, tt)
two_kinds twos.Iand = (tt, tt)
two_kinds twos.Land = (tt, tt)
two_kinds twos.Ior = (tt, tt)
two_kinds twos.Lor = (tt, tt)
two_kinds twos.Ixor = (tt, tt)
two_kinds twos.Lxor = (tt, tt)
two_kinds twos.Lcmp = (tt, tt)

division_kinds : (op : Division) → AreTwo (division_effect op).takes
division_kinds divisions.Idiv = (tt, tt)
division_kinds divisions.Irem = (tt, tt)
division_kinds divisions.Ldiv = (tt, tt)
division_kinds divisions.Lrem = (tt, tt)

one_kinds : (op : OpOne) → IsOne (one_effect op).takes
one_kinds ones.Ineg = tt
one_kinds ones.Lneg = tt
one_kinds ones.I2l = tt
one_kinds ones.L2i = tt
one_kinds ones.I2b = tt
one_kinds ones.I2c = tt
one_kinds ones.I2s = tt

module _ {E : Type 0} (f : FrameOf ℕ E) where
  -- ---- nothing is taken

  pub nothing_done : Does (Simple simples.Nothing) f ways.Went (onward f [])
  unfolding doing taken simple
  nothing_done r at own s entries inherited = at_no_cost f s [] (onward f [])

  pub null_done : Does (Simple simples.Null) f ways.Went (onward f (Ref 0 ∷ []))
  unfolding doing taken simple
  null_done r at own s entries inherited = at_no_cost f s [] (onward f (Ref 0 ∷ []))

  pub int_done : (n : ℤ) → Does (Simple (simples.Int n)) f ways.Went (onward f (Int n ∷ []))
  unfolding doing taken simple
  int_done n r at own s entries inherited = at_no_cost f s [] (onward f (Int n ∷ []))

  pub long_done : (n : ℤ) → Does (Simple (simples.Long n)) f ways.Went (onward f (Long n ∷ []))
  unfolding doing taken simple
  long_done n r at own s entries inherited = at_no_cost f s [] (onward f (Long n ∷ []))

  -- ---- two operands

  abbrev Newest : (a b : Value ℕ) → Type 0
  Newest a b = (Some b ≡ slice_get f.operands 0) × (Some a ≡ slice_get f.operands 1)

  both : (at : Site) (s : Store ℕ) (ks : Kinds) → AreTwo ks → (a b : Value ℕ) → Newest a b → true ≡ are_of ks (b ∷ a ∷ []) → taken at.world s (of_kinds ks) f.operands ≡ Some (two_taken a b (drop 2 f.operands))
  both at s ks n a b there h = ap (taken at.world s (of_kinds ks)) (front_two f.operands a b there.0 there.1) ∙ are_taken at.world s ks n a b (drop 2 f.operands) (sym h)

  neither : (at : Site) (s : Store ℕ) (ks : Kinds) → AreTwo ks → (a b : Value ℕ) → Newest a b → false ≡ are_of ks (b ∷ a ∷ []) → taken at.world s (of_kinds ks) f.operands ≡ None
  neither at s ks n a b there h = ap (taken at.world s (of_kinds ks)) (front_two f.operands a b there.0 there.1) ∙ not_taken at.world s ks n a b (drop 2 f.operands) (sym h)

  pub two_done : (op : OpTwo) (a b v : Value ℕ) → Newest a b → true ≡ are_of (two_effect op).takes (b ∷ a ∷ []) → Some v ≡ two op a b
      → Does (Simple (simples.Two op)) f ways.Went (standing f (f.place + 1) (v ∷ drop 2 f.operands))
  unfolding doing simple
  two_done op a b v there h is r at own s entries inherited = rw (both at s (two_effect op).takes (two_kinds op) a b there h, ← is) (at_no_cost f s [] (standing f (f.place + 1) (v ∷ drop 2 f.operands)))

  pub two_stuck : (op : OpTwo) (a b : Value ℕ) → Newest a b → false ≡ are_of (two_effect op).takes (b ∷ a ∷ []) → (g : FrameOf ℕ E) → Does (Simple (simples.Two op)) f ways.Stuck g
  unfolding doing simple
  two_stuck op a b there h g r at own s entries inherited = rw (neither at s (two_effect op).takes (two_kinds op) a b there h) refl

  pub two_short : (op : OpTwo) → length f.operands < 2 → (g : FrameOf ℕ E) → Does (Simple (simples.Two op)) f ways.Stuck g
  unfolding doing simple
  two_short op few g r at own s entries inherited = rw (too_few at.world s (two_effect op).takes (two_kinds op) f.operands few) refl

  -- ---- divisions

  abbrev pub arithmetic : LibClass
  arithmetic = lib.Thrown thrown.ArithmeticException

  pub divided : (op : Division) (a b v : Value ℕ) → Newest a b → true ≡ are_of (division_effect op).takes (b ∷ a ∷ []) → Some (Ok v) ≡ divide op a b
      → Does (Simple (simples.Divide op)) f ways.Went (standing f (f.place + 1) (v ∷ drop 2 f.operands))
  unfolding doing simple
  divided op a b v there h is r at own s entries inherited = rw (both at s (division_effect op).takes (division_kinds op) a b there h, ← is) (at_no_cost f s [] (standing f (f.place + 1) (v ∷ drop 2 f.operands)))

  pub by_zero : (op : Division) (a b : Value ℕ) (e : DivideByZero) → Newest a b → true ≡ are_of (division_effect op).takes (b ∷ a ∷ []) → Some (Err e) ≡ divide op a b
      → Does (Simple (simples.Divide op)) f (ways.Raises arithmetic) f
  unfolding doing simple
  by_zero op a b e there h is r at own s entries inherited = rw (both at s (division_effect op).takes (division_kinds op) a b there h, ← is) (refl, refl, refl, refl, refl, refl)

  pub division_stuck : (op : Division) (a b : Value ℕ) → Newest a b → false ≡ are_of (division_effect op).takes (b ∷ a ∷ []) → (g : FrameOf ℕ E) → Does (Simple (simples.Divide op)) f ways.Stuck g
  unfolding doing simple
  division_stuck op a b there h g r at own s entries inherited = rw (neither at s (division_effect op).takes (division_kinds op) a b there h) refl

  pub division_short : (op : Division) → length f.operands < 2 → (g : FrameOf ℕ E) → Does (Simple (simples.Divide op)) f ways.Stuck g
  unfolding doing simple
  division_short op few g r at own s entries inherited = rw (too_few at.world s (division_effect op).takes (division_kinds op) f.operands few) refl

  -- ---- one operand

  pub one_done : (op : OpOne) (a v : Value ℕ) → Some a ≡ slice_get f.operands 0 → true ≡ are_of (one_effect op).takes (a ∷ []) → Some v ≡ one op a
      → Does (Simple (simples.One op)) f ways.Went (standing f (f.place + 1) (v ∷ drop 1 f.operands))
  unfolding doing simple
  one_done op a v there h is r at own s entries inherited =
      let t = ap (taken at.world s (of_kinds (one_effect op).takes)) (front_one f.operands a there) ∙ is_taken at.world s (one_effect op).takes (one_kinds op) a (drop 1 f.operands) (sym h) in
      rw (t, ← is) (at_no_cost f s [] (standing f (f.place + 1) (v ∷ drop 1 f.operands)))

  pub one_stuck : (op : OpOne) (a : Value ℕ) → Some a ≡ slice_get f.operands 0 → false ≡ are_of (one_effect op).takes (a ∷ []) → (g : FrameOf ℕ E) → Does (Simple (simples.One op)) f ways.Stuck g
  unfolding doing simple
  one_stuck op a there h g r at own s entries inherited =
      let t = ap (taken at.world s (of_kinds (one_effect op).takes)) (front_one f.operands a there) ∙ isnt_taken at.world s (one_effect op).takes (one_kinds op) a (drop 1 f.operands) (sym h) in
      rw t refl

  pub one_short : (op : OpOne) → length f.operands < 1 → (g : FrameOf ℕ E) → Does (Simple (simples.One op)) f ways.Stuck g
  unfolding doing simple
  one_short op few g r at own s entries inherited = rw (none_there at.world s (one_effect op).takes (one_kinds op) f.operands few) refl
