-- What is noted of a pool while its entries are looked at, so that what several of them name is looked at once.
use Rattle.std.specs.Prelude.{◌≡◌, ℕ, List, Some, slice_get, option_and_then}
use Rattle.std.specs.Ordering.{nat_cmp}
use Rattle.std.specs.BTreeMap as tree
use Rattle.std.specs.BTreeMap.{BTreeMap}
use Rattle.jparts.specs.declared.jpool.entry.Entry.{Entry}
use Rattle.jparts.specs.declared.jpool.entry.Entry.TheVariants as entries
use Rattle.jparts.specs.jpool.ConstantPools.{name_and_type_at}
use Rattle.jresolution.specs.jprogram.ProgramClasses.{Program}
use Rattle.jresolution.specs.declared.juses.entries.Kept.{Kept}
use Rattle.jresolution.specs.declared.juses.indices.Indices.{Indices}
use Rattle.jresolution.specs.declared.juses.kept_reference.KeptReference.{KeptReference}
use Rattle.jresolution.specs.declared.juses.kept_reference.Refers.{Refers}
use Rattle.jresolution.specs.declared.juses.kept_reference.Refers.TheVariants as refers
use Rattle.jresolution.specs.declared.juses.types.TypeRef.{TypeRef}
use Rattle.jresolution.specs.juses.PoolTables.{KeptIs}
use Rattle.jparts.specs.jpool.PoolEntries.{class_parts}

-- what is noted at each number is right
abbrev pub AllAre : {X : Type 0} → (ℕ → X → Type 0) → BTreeMap ℕ X → Type 0
AllAre {X} right noted = (i : ℕ) (x : X) → tree.get nat_cmp noted i ≡ Some x → right i x

-- The texts of a reference, by the indices of its class and of its name and type.
pub record HasTexts (pool : List Entry) (class both : ℕ) (at : Indices) : Type 0 where
  pub named : option_and_then class_parts (slice_get pool class) ≡ Some at.owner
  pub says : name_and_type_at pool both ≡ Some (at.name, at.desc)

abbrev pub entry_of : Refers → ℕ → ℕ → Entry
entry_of refers.ToField class both = entries.Field class both
entry_of refers.ToMethod class both = entries.Method class both

-- by the index of a text, what is kept of a class entry that names it
abbrev pub AreClasses : Program → List Entry → List TypeRef → BTreeMap ℕ Kept → Type 0
AreClasses p pool types noted = AllAre (λ i k. KeptIs p pool types k (Some (entries.Class i))) noted

-- what is kept of each reference that has these texts
abbrev pub IsNoted : Program → List Entry → List TypeRef → KeptReference → Type 0
IsNoted p pool types n = (class both : ℕ) → HasTexts pool class both n.at → KeptIs p pool types n.kept (Some (entry_of n.to class both))

-- the number says nothing: what is noted says itself of which texts it is
abbrev pub AreNoted : Program → List Entry → List TypeRef → BTreeMap ℕ KeptReference → Type 0
AreNoted p pool types noted = AllAre (λ i n. IsNoted p pool types n) noted

-- What is noted of a pool.
pub record AreKnown (p : Program) (pool : List Entry) (types : List TypeRef) (classes : BTreeMap ℕ Kept)
    (noted : BTreeMap ℕ KeptReference) : Type 0 where
  pub of_classes : AreClasses p pool types classes
  pub of_references : AreNoted p pool types noted
