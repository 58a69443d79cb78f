-- A store with fewer cells left holds the same.
use Rattle.std.proofs.Common.{◌≡◌, ℕ, zero, suc, List, Some, refl}
use Rattle.jtypes.specs.declared.vtype.VType.{VType}
use Rattle.jsemantics.specs.jmachine.HeapObjects.{Object}
use Rattle.jsemantics.specs.jmachine.Store.{Store, object_at, paid}
use Rattle.jsemantics.specs.jmachine.World.{World}
use Rattle.jsoundness_laws.specs.typed.StoreGrowth.{Grows}
use Rattle.jsoundness_laws.specs.typed.TypedStores.{IsStored}
use Rattle.jsoundness_laws.proofs.TypedProofs.ObjectAllocation.{are_kept, object_kept}

module _ {K : Type 0} (w : World) (cells : ℕ) (s : Store K) where
  pub paid_at : (n : ℕ) (x : Object K) → object_at s n ≡ Some x → object_at (paid cells s) n ≡ Some x
  paid_at zero x at = at
  paid_at (suc n) x at = at

  was_at : (n : ℕ) (x : Object K) → object_at (paid cells s) n ≡ Some x → object_at s n ≡ Some x
  was_at zero x at = at
  was_at (suc n) x at = at

  pub grows_paid : Grows w s (paid cells s)
  grows_paid n x at = (x, paid_at n x at, record { class = refl; whole = λ h. h; piece = refl })

  pub stored_paid : (statics : List VType) → IsStored w s statics → IsStored w (paid cells s) statics
  stored_paid statics h = record {
    objects = λ n x at. object_kept w s (paid cells s) grows_paid x (h.objects n x (was_at n x at));
    statics_of = are_kept w s (paid cells s) grows_paid statics s.statics h.statics_of;
    constants = λ c inside. paid_at c.1 _ (h.constants c inside);
    out_is = paid_at 1 _ h.out_is;
  }
