-- Whether a reference is to an object of a type.
use Rattle.std.proofs.Common.{◌≡◌, ◌∙◌, ℕ, zero, suc, ℤ, ◌+◌, ◌≤◌, Bool, true, false, List, [], ◌∷◌, drop, length, Some, None, refl, sym, ap, arith}
use Rattle.std.specs.Prelude.{slice_get}
use Rattle.jparts.specs.declared.jcode.names.CastOp.TheVariants as ops
use Rattle.jvalues.specs.declared.jnames.kinds.Kind.TheVariants as kinds
use Rattle.jvalues.specs.declared.jops.value.Value.{Value}
use Rattle.jvalues.specs.declared.jops.value.Value.TheVariants.{Int, Long, Ref, Ctx}
use Rattle.jresolution.specs.declared.jprogram.member.Member.{Member}
use Rattle.jtyping.specs.jrule.StackEffects.{Of}
use Rattle.jtyping.specs.jrule.PoolEffects.{exchange}
use Rattle.jtypes.specs.declared.vtype.VType.{VType}
use Rattle.jresolution.specs.juses.IndexedInstructions as instructions
use Rattle.jresolution.specs.juses.InstructionMeanings as meanings
use Rattle.jsemantics.specs.jmachine.MachineStates.{FrameOf, gives}
use Rattle.jsemantics.specs.jmachine.InstructionActions.{doing, used}
use Rattle.jsemantics.specs.jmachine.FrameOperations.{standing}
use Rattle.jsemantics.specs.jmachine.ObjectInstructions.{cast, tested}
use Rattle.jsemantics.specs.jmachine.TakenOperands.{taken}
use Rattle.jsemantics.specs.jmachine.InstructionSites.{Site}
use Rattle.jsemantics.specs.jmachine.Store.{Store}
use Rattle.jsemantics.specs.jmachine.World.{World}
use Rattle.jrows.specs.jacts.RowOutcomes.{ActsWhere, GoesFree, leaves}
use Rattle.jrows.specs.declared.jacts.way.Way.TheVariants as ways
use Rattle.jrows.specs.declared.jobjs.casts.Named.TheVariants as names
use Rattle.jrows.specs.jobjs.EntryOperands.{IsOne, Serve, bit, named_seen}
use Rattle.jrows.proofs.JobjsProofs.TypeCasts.{is_named, null_there}
use Rattle.jrows.proofs.JobjsProofs.ServedOperands.{has_front, not_served, taken_front}

some_there : (operands : List (Value ℕ)) (v : Value ℕ) → Some v ≡ slice_get operands 0 → 1 ≤ length operands
some_there [] v newest = cc
some_there (x ∷ rest) v newest = omega arith

pub null_front : (operands : List (Value ℕ)) → names.Null ≡ named_seen (slice_get operands 0) → 1 ≤ length operands
null_front operands null = some_there operands (Ref zero) (null_there (slice_get operands 0) null)

pub named_front : (operands : List (Value ℕ)) (n : ℕ) → names.Object n ≡ named_seen (slice_get operands 0) → 1 ≤ length operands
named_front operands n here = let named = is_named (slice_get operands 0) n here in some_there operands (Ref (suc named.before)) named.value

module _ {E : Type 0} (f : FrameOf ℕ E) (s : Store ℕ) (t : VType) where
  abbrev Told : Bool → Bool → Site → (Member → Bool) → Type 0
  Told serve is at own = Serve at own s (meanings.Cast ops.InstanceOf t) f.operands serve × IsOne at.world s t (slice_get f.operands 0) is

  pub test_not : (is : Bool) (g : FrameOf ℕ E) → ActsWhere (Told false is) (instructions.Used (meanings.Cast ops.InstanceOf t)) f s (leaves ways.Stuck [] g s)
  unfolding doing used exchange
  test_not is g r at own entries inherited told = rw (not_served (taken at.world s (Of kinds.Ref ∷ []) f.operands) told.0) refl

  no_test : (w : World) (v : Value ℕ) → names.Other ≡ named_seen (Some v) → cast {E = E} w s ops.InstanceOf t (v ∷ []) ≡ None
  unfolding cast
  no_test w (Int x) h = refl
  no_test w (Long x) h = refl
  no_test w (Ref zero) h = cc
  no_test w (Ref (suc n)) h = cc
  no_test w (Ctx k) h = refl

  pub test_none : (is : Bool) (g : FrameOf ℕ E) → names.Other ≡ named_seen (slice_get f.operands 0)
      → ActsWhere (Told true is) (instructions.Used (meanings.Cast ops.InstanceOf t)) f s (leaves ways.Stuck [] g s)
  unfolding doing used exchange
  test_none is g none r at own entries inherited told =
      let front = has_front at.world s (Of kinds.Ref) f.operands told.0 in
      rw (taken_front at.world s (Of kinds.Ref) f.operands front.value front.newest told.0, no_test at.world front.value (none ∙ ap named_seen (sym front.newest))) refl

  -- an int takes the place of the reference
  test_to : GoesFree E → (is : Bool) (v : Value ℕ) (z : ℤ) → Some v ≡ slice_get f.operands 0
      → ((w : World) → IsOne w s t (slice_get f.operands 0) is → cast {E = E} w s ops.InstanceOf t (v ∷ []) ≡ Some (gives s (Int z ∷ [])))
      → ActsWhere (Told true is) (instructions.Used (meanings.Cast ops.InstanceOf t)) f s (leaves ways.Went [] (standing f (f.place + 1) (Int z ∷ drop 1 f.operands)) s)
  unfolding doing used exchange
  test_to free is v z newest row r at own entries inherited told =
      rw (taken_front at.world s (Of kinds.Ref) f.operands v newest told.0, row at.world told.1) (free f s s [] (standing f (f.place + 1) (Int z ∷ drop 1 f.operands)))

  null_row : (w : World) (is : Bool) → IsOne w s t (slice_get f.operands 0) is → cast {E = E} w s ops.InstanceOf t (Ref zero ∷ []) ≡ Some (gives s (Int (bit false) ∷ []))
  unfolding cast
  null_row w is one = refl

  tested_is : (is : Bool) → Some (tested {E = E} s is) ≡ Some (gives s (Int (bit is) ∷ []))
  tested_is true = refl
  tested_is false = refl

  some_row : (is : Bool) (n : ℕ) → Some (Ref (suc n)) ≡ slice_get f.operands 0 → (w : World) → IsOne w s t (slice_get f.operands 0) is
      → cast {E = E} w s ops.InstanceOf t (Ref (suc n) ∷ []) ≡ Some (gives s (Int (bit is) ∷ []))
  unfolding cast
  some_row is n newest w one = ap (λ b. Some (tested s b)) (one n (sym newest)) ∙ tested_is is

  pub test_null : GoesFree E → (is : Bool) → names.Null ≡ named_seen (slice_get f.operands 0)
      → ActsWhere (Told true is) (instructions.Used (meanings.Cast ops.InstanceOf t)) f s (leaves ways.Went [] (standing f (f.place + 1) (Int (bit false) ∷ drop 1 f.operands)) s)
  test_null free is null = test_to free is (Ref zero) (bit false) (null_there (slice_get f.operands 0) null) (λ w one. null_row w is one)

  pub test_done : GoesFree E → (is : Bool) (n : ℕ) → names.Object n ≡ named_seen (slice_get f.operands 0)
      → ActsWhere (Told true is) (instructions.Used (meanings.Cast ops.InstanceOf t)) f s (leaves ways.Went [] (standing f (f.place + 1) (Int (bit is) ∷ drop 1 f.operands)) s)
  test_done free is n here =
      let named = is_named (slice_get f.operands 0) n here in
      test_to free is (Ref (suc named.before)) (bit is) named.value (some_row is named.before named.value)
