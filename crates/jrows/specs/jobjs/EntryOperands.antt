-- What rows of instructions by an entry of the pool are told: whether the operands serve for what the entry wants.
use Rattle.std.specs.Prelude.{◌≡◌, ℕ, ℤ, pos, zero, suc, Bool, true, false, List, Option, Some, is_some}
use Rattle.jmemory.specs.declared.jheap.cell.Kind.{Kind}
use Rattle.jmemory.specs.declared.jheap.cell.Kind.TheVariants as kinds
use Rattle.jmemory.specs.jheap.Heaps.{Heaped, kind_at}
use Rattle.jvalues.specs.declared.jops.value.Value.{Value}
use Rattle.jvalues.specs.declared.jops.value.Value.TheVariants.{Ref}
use Rattle.jresolution.specs.declared.jprogram.member.Member.{Member}
use Rattle.jtyping.specs.jrule.PoolEffects.{exchange}
use Rattle.jtypes.specs.declared.vtype.VType.{VType}
use Rattle.jresolution.specs.juses.InstructionMeanings.{Meaning}
use Rattle.jsemantics.specs.jmachine.ObjectInstructions.{is_one}
use Rattle.jsemantics.specs.jmachine.TakenOperands.{taken, type_of}
use Rattle.jsemantics.specs.jmachine.InstructionSites.{Site}
use Rattle.jsemantics.specs.jmachine.Store.{Store}
use Rattle.jsemantics.specs.jmachine.World.{World}
use Rattle.jrows.specs.declared.jobjs.casts.Named.{Named}
use Rattle.jrows.specs.declared.jobjs.casts.Named.TheVariants as names
use Rattle.jrows.specs.declared.jobjs.target.Target.{Target}
use Rattle.jrows.specs.declared.jobjs.target.Target.TheVariants as targets

-- the operands serve, or they don't
abbrev pub Serve : Site → (Member → Bool) → Store ℕ → Meaning → List (Value ℕ) → Bool → Type 0
Serve at own s m operands serve = is_some (taken at.world s (exchange own (at.world.named at.class) m).takes operands) ≡ serve

-- what an operand is that is wanted to be an object of a class
abbrev pub target_found : ℕ → Option Kind → Target
target_found o (Some (kinds.Object n)) = targets.Object o n
target_found o kind = targets.Other

abbrev pub target_seen : Heaped → Option (Value ℕ) → Target
target_seen h (Some (Ref zero)) = targets.Null
target_seen h (Some (Ref (suc o))) = target_found (suc o) (kind_at h (suc o))
target_seen h v = targets.Other

-- what a reference names
abbrev pub named_seen : Option (Value ℕ) → Named
named_seen (Some (Ref zero)) = names.Null
named_seen (Some (Ref (suc n))) = names.Object (suc n)
named_seen v = names.Other

-- Whether the object that an operand names is one of a type: this is asked where it isn't null.
abbrev pub IsOne : World → Store ℕ → VType → Option (Value ℕ) → Bool → Type 0
IsOne w s t operand answer = (n : ℕ) → operand ≡ Some (Ref (suc n)) → is_one w t (type_of w s (Ref (suc n))) ≡ answer

-- what a test gives
abbrev pub bit : Bool → ℤ
bit true = pos 1
bit false = pos 0
