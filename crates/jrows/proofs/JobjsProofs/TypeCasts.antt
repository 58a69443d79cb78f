-- Casts, and what is thrown.
use Rattle.std.proofs.Common.{◌≡◌, ◌∙◌, ℕ, zero, suc, ◌+◌, Bool, true, false, List, [], ◌∷◌, drop, Option, Some, None, refl, sym, ap}
use Rattle.std.specs.Prelude.{slice_get}
use Rattle.jparts.specs.declared.jcode.names.CastOp.TheVariants as ops
use Rattle.jlib.specs.declared.classes.LibClass.TheVariants as lib
use Rattle.jlib.specs.declared.classes.Thrown.TheVariants as thrown
use Rattle.jvalues.specs.declared.jnames.kinds.Kind.TheVariants as kinds
use Rattle.jvalues.specs.declared.jops.value.Value.{Value}
use Rattle.jvalues.specs.declared.jops.value.Value.TheVariants.{Int, Long, Ref, Ctx}
use Rattle.jresolution.specs.declared.jprogram.member.Member.{Member}
use Rattle.jtyping.specs.jrule.StackEffects.{Of}
use Rattle.jtyping.specs.jrule.PoolEffects.{exchange}
use Rattle.jtypes.specs.declared.vtype.VType.{VType}
use Rattle.jresolution.specs.juses.IndexedInstructions as instructions
use Rattle.jresolution.specs.juses.InstructionMeanings as meanings
use Rattle.jsemantics.specs.jmachine.MachineStates.{FrameOf, gives}
use Rattle.jsemantics.specs.jmachine.InstructionActions.{doing, used}
use Rattle.jsemantics.specs.jmachine.FrameOperations.{standing}
use Rattle.jsemantics.specs.jmachine.ObjectInstructions.{cast, checked}
use Rattle.jsemantics.specs.jmachine.TakenOperands.{taken}
use Rattle.jsemantics.specs.jmachine.InstructionSites.{Site}
use Rattle.jsemantics.specs.jmachine.Store.{Store}
use Rattle.jsemantics.specs.jmachine.BasicInstructions as straight
use Rattle.jsemantics.specs.jmachine.World.{World}
use Rattle.jrows.specs.jacts.RowOutcomes.{ActsWhere, GoesFree, leaves}
use Rattle.jrows.specs.declared.jacts.way.Way.TheVariants as ways
use Rattle.jrows.specs.declared.jobjs.casts.Named.TheVariants as names
use Rattle.jrows.specs.jobjs.EntryOperands.{IsOne, Serve, named_seen}
use Rattle.jrows.proofs.JobjsProofs.ServedOperands.{front_one, has_front, not_served, taken_front}

pub null_there : (v : Option (Value ℕ)) → names.Null ≡ named_seen v → Some (Ref zero) ≡ v
null_there None h = cc
null_there (Some (Int x)) h = cc
null_there (Some (Long x)) h = cc
null_there (Some (Ref zero)) h = refl
null_there (Some (Ref (suc m))) h = cc
null_there (Some (Ctx k)) h = cc

pub record IsNamed (v : Option (Value ℕ)) (n : ℕ) : Type 0 where
  pub before : ℕ
  pub number : n ≡ suc before
  pub value : Some (Ref (suc before)) ≡ v

pub is_named : (v : Option (Value ℕ)) (n : ℕ) → names.Object n ≡ named_seen v → IsNamed v n
is_named None n h = cc
is_named (Some (Int x)) n h = cc
is_named (Some (Long x)) n h = cc
is_named (Some (Ref zero)) n h = cc
is_named (Some (Ref (suc m))) n h = let e : n ≡ suc m = cc in record { before = m; number = e; value = refl }
is_named (Some (Ctx k)) n h = cc

module _ {E : Type 0} (f : FrameOf ℕ E) (s : Store ℕ) where
  -- ---- checkcast

  module _ (t : VType) where
    abbrev Told : Bool → Bool → Site → (Member → Bool) → Type 0
    Told serve is at own = Serve at own s (meanings.Cast ops.CheckCast t) f.operands serve × IsOne at.world s t (slice_get f.operands 0) is

    pub cast_not : (is : Bool) (g : FrameOf ℕ E) → ActsWhere (Told false is) (instructions.Used (meanings.Cast ops.CheckCast t)) f s (leaves ways.Stuck [] g s)
    unfolding doing used exchange
    cast_not is g r at own entries inherited told = rw (not_served (taken at.world s (Of kinds.Ref ∷ []) f.operands) told.0) refl

    no_cast : (w : World) (v : Value ℕ) → names.Other ≡ named_seen (Some v) → cast {E = E} w s ops.CheckCast t (v ∷ []) ≡ None
    unfolding cast
    no_cast w (Int x) h = refl
    no_cast w (Long x) h = refl
    no_cast w (Ref zero) h = cc
    no_cast w (Ref (suc n)) h = cc
    no_cast w (Ctx k) h = refl

    pub cast_none : (is : Bool) (g : FrameOf ℕ E) → names.Other ≡ named_seen (slice_get f.operands 0)
        → ActsWhere (Told true is) (instructions.Used (meanings.Cast ops.CheckCast t)) f s (leaves ways.Stuck [] g s)
    unfolding doing used exchange
    cast_none is g none r at own entries inherited told =
        let front = has_front at.world s (Of kinds.Ref) f.operands told.0 in
        rw (taken_front at.world s (Of kinds.Ref) f.operands front.value front.newest told.0, no_cast at.world front.value (none ∙ ap named_seen (sym front.newest))) refl

    -- the frame goes on with what it has
    cast_to : GoesFree E → (is : Bool) (v : Value ℕ) → Some v ≡ slice_get f.operands 0 → ((w : World) → IsOne w s t (slice_get f.operands 0) is → cast {E = E} w s ops.CheckCast t (v ∷ []) ≡ Some (gives s (v ∷ [])))
        → ActsWhere (Told true is) (instructions.Used (meanings.Cast ops.CheckCast t)) f s (leaves ways.Went [] (standing f (f.place + 1) f.operands) s)
    unfolding doing used exchange
    cast_to free is v newest row r at own entries inherited told =
        let same = ap (λ (xs : List (Value ℕ)). leaves ways.Went [] (standing f (f.place + 1) xs) s) (front_one f.operands v newest) in
        rw (taken_front at.world s (Of kinds.Ref) f.operands v newest told.0, row at.world told.1)
        (same ∙ free f s s [] (standing f (f.place + 1) (v ∷ drop 1 f.operands)))

    null_row : (w : World) (is : Bool) → IsOne w s t (slice_get f.operands 0) is → cast {E = E} w s ops.CheckCast t (Ref zero ∷ []) ≡ Some (gives s (Ref zero ∷ []))
    unfolding cast
    null_row w is one = refl

    some_row : (is : Bool) (n : ℕ) → Some (Ref (suc n)) ≡ slice_get f.operands 0 → (w : World) → IsOne w s t (slice_get f.operands 0) is → cast {E = E} w s ops.CheckCast t (Ref (suc n) ∷ []) ≡ Some (checked s (Ref (suc n)) is)
    unfolding cast
    some_row is n newest w one = ap (λ b. Some (checked s (Ref (suc n)) b)) (one n (sym newest))

    pub cast_null : GoesFree E → (is : Bool) → names.Null ≡ named_seen (slice_get f.operands 0)
        → ActsWhere (Told true is) (instructions.Used (meanings.Cast ops.CheckCast t)) f s (leaves ways.Went [] (standing f (f.place + 1) f.operands) s)
    cast_null free is null = cast_to free is (Ref zero) (null_there (slice_get f.operands 0) null) (λ w one. null_row w is one)

    pub cast_done : GoesFree E → (n : ℕ) → names.Object n ≡ named_seen (slice_get f.operands 0)
        → ActsWhere (Told true true) (instructions.Used (meanings.Cast ops.CheckCast t)) f s (leaves ways.Went [] (standing f (f.place + 1) f.operands) s)
    cast_done free n here =
        let named = is_named (slice_get f.operands 0) n here in
        cast_to free true (Ref (suc named.before)) named.value (some_row true named.before named.value)

    pub cast_fails : (n : ℕ) → names.Object n ≡ named_seen (slice_get f.operands 0)
        → ActsWhere (Told true false) (instructions.Used (meanings.Cast ops.CheckCast t)) f s (leaves (ways.Raises (lib.Thrown thrown.ClassCastException)) [] f s)
    unfolding doing used exchange
    cast_fails n here r at own entries inherited told =
        let named = is_named (slice_get f.operands 0) n here in
        rw (taken_front at.world s (Of kinds.Ref) f.operands (Ref (suc named.before)) named.value told.0, some_row false named.before named.value at.world told.1) (refl, refl, refl, refl, refl, refl)
