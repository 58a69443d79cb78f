-- Loads of constants as instructions.
use Rattle.std.proofs.Common.{◌≡◌, ℕ, Bool, true, false, List, [], ◌∷◌, Option, Some, None, refl, ap}
use Rattle.std.specs.Prelude.{if◌then◌else◌}
use Rattle.jmemory.specs.jheap.Heaps.{Heaped}
use Rattle.jvalues.specs.declared.jops.value.Value.TheVariants.{Ref}
use Rattle.jresolution.specs.juses.IndexedInstructions.{Used}
use Rattle.jresolution.specs.juses.InstructionMeanings as meanings
use Rattle.jtyping.specs.jrule.PoolEffects.{exchange}
use Rattle.jsemantics.specs.jmachine.InstructionActions.{doing, used}
use Rattle.jsemantics.specs.jmachine.FrameOperations.{onward}
use Rattle.jsemantics.specs.jmachine.ObjectInstructions.{push, units_of}
use Rattle.jsemantics.specs.jmachine.TakenOperands.{taken}
use Rattle.jsemantics.specs.jmachine.Store.{Store, constant_at, paid}
use Rattle.jruntime.specs.jstate.FrameLists.{Framed}
use Rattle.jrows.specs.jtexts.MadeStrings.{loaded}
use Rattle.jrows.specs.jtexts.TextCallOutcomes as rans
use Rattle.jrows.specs.declared.jtexts.ran.Ran.TheVariants as ran
use Rattle.jrows.specs.declared.jacts.way.Way.{Way}
use Rattle.jrows.specs.declared.jacts.way.Way.TheVariants as ways
use Rattle.jrows.specs.jacts.RowOutcomes.{Acts, leaves}
use Rattle.jlibcalls.specs.jconstants.ConstantLoads.{Loads, Pushes, RunsLoad}
use Rattle.jlibcalls.specs.jconstants.StringConstants.{Made, bytes_at}

-- what was left, where a row gives an object and takes so many cells
module _ {E : Type 0} (s t u : Store ℕ) (f g : Framed E) (way : Way) (n cells : ℕ) where
  abbrev Left : Option ℕ → Bool → Type 0
  Left o b = rans.leaves (loaded o) [] t ≡ (if b then rans.leaves (ran.Gave (Ref n)) [] (paid cells u) else rans.leaves ran.Full [] s)

  given : (o : Option ℕ) (b : Bool) → Left o b → Pushes o f way g
      → leaves way [] g.newest t ≡ (if b then leaves ways.Went [] (onward f.newest (Ref n ∷ [])) (paid cells u) else leaves ways.Full [] f.newest s)
  given None true left pushes = let other = ap (λ (l : rans.Left). l.ran) left in cc
  given None false left (full, same) = let stays : t ≡ s = ap (λ (l : rans.Left). l.store) left in rw (full, same, stays) refl
  given (Some o) true left (went, on) =
      let gave : ran.Gave (Ref o) ≡ ran.Gave (Ref n) = ap (λ (l : rans.Left). l.ran) left in
      let number : o ≡ n = cc in
      let store : t ≡ paid cells u = ap (λ (l : rans.Left). l.store) left in
      rw (went, on, number, store) refl
  given (Some o) false left pushes = let other = ap (λ (l : rans.Left). l.ran) left in cc

module _ {E : Type 0} (bytes : List ℕ) (s t : Store ℕ) (f g : Framed E) (way : Way) (o : Option ℕ) where
  -- the constant was made, or wasn't
  known_or_made : (known : Option ℕ) → constant_at s.constants (units_of bytes) ≡ known → rans.Comes {E = E} s (push s (meanings.Text bytes) []) (rans.leaves (loaded o) [] t) → Pushes o f way g
      → Acts (Used (meanings.Push (meanings.Text bytes))) f.newest s (leaves way [] g.newest t)
  unfolding doing used exchange taken push
  known_or_made None is comes pushes r at own entries inherited = rw is (given s t _ f g way _ _ o _ (rw is at comes) pushes)
  known_or_made (Some k) is comes pushes r at own entries inherited = rw is (given s t _ f g way _ _ o _ (rw is at comes) pushes)

  pub loaded_acts : rans.Comes {E = E} s (push s (meanings.Text bytes) []) (rans.leaves (loaded o) [] t) → Pushes o f way g
      → Acts (Used (meanings.Push (meanings.Text bytes))) f.newest s (leaves way [] g.newest t)
  loaded_acts = known_or_made (constant_at s.constants (units_of bytes)) refl

pub load_runs : {E : Type 0} (class i : ℕ) (old new : Made) (f g : Framed E) (h k : Heaped) (o : Option ℕ) (way : Way) → Loads E class i old h o new k → Pushes o f way g
    → RunsLoad class i old f h way new g k
load_runs class i old new f g h k o way loads pushes shapes things = loaded_acts (bytes_at old.program class i) _ _ f g way o (loads shapes things) pushes
