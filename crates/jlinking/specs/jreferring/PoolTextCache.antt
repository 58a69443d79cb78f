-- What is noted of the texts of a pool while its entries are looked at, so that each text is looked at once.
use Rattle.std.specs.Prelude.{◌≡◌, ℕ, List, Option}
use Rattle.std.specs.BTreeMap.{BTreeMap}
use Rattle.jparts.specs.declared.jpool.entry.Entry.{Entry}
use Rattle.jparts.specs.jpool.Descriptors.{descriptor_of}
use Rattle.jresolution.specs.declared.jprogram.fault.LinkKind.{LinkKind}
use Rattle.jresolution.specs.jprogram.ProgramClasses.{Program}
use Rattle.jresolution.specs.jprogram.ClassFileParts.{text}
use Rattle.jresolution.specs.declared.juses.indices.Indices.{Indices}
use Rattle.jresolution.specs.juses.EntryTextCache.{AllAre}
use Rattle.jlinking.specs.declared.jreferring.judged.ClassUse.{ClassUse}
use Rattle.jlinking.specs.declared.jreferring.judged.DescUse.{DescUse}
use Rattle.jlinking.specs.declared.jreferring.judged.MemberUse.{MemberUse}
use Rattle.jlinking.specs.declared.jreferring.judged.OwnerUse.{OwnerUse}
use Rattle.jlinking.specs.declared.jreferring.judged.Sort.{Sort}
use Rattle.jlinking.specs.declared.jreferring.use_cache.UseCache.{UseCache}
use Rattle.jlinking.specs.declared.jreferring.use_cache.CachedMember.{CachedMember}
use Rattle.jlinking.specs.jreferring.MemberLookUp.{named_use}
use Rattle.jlinking.specs.jreferring.ClassNameAccess.{params_test}
use Rattle.jlinking.specs.jreferring.ClassEntryUses.{class_use}
use Rattle.jlinking.specs.jreferring.ReferenceUses.{desc_use, owner_use}

-- by the index of a text: as the name in a Class entry, as the name of a reference's class, and as its descriptor
abbrev pub AreClasses : Program → List ℕ → List Entry → BTreeMap ℕ ClassUse → Type 0
AreClasses p from pool noted = AllAre (λ i u. u ≡ class_use p from (text pool i)) noted

abbrev pub AreOwners : Program → List ℕ → List Entry → BTreeMap ℕ OwnerUse → Type 0
AreOwners p from pool noted = AllAre (λ i u. u ≡ owner_use p from (text pool i)) noted

abbrev pub AreDescs : Program → List ℕ → List Entry → BTreeMap ℕ DescUse → Type 0
AreDescs p from pool noted = AllAre (λ i u. u ≡ desc_use p from (text pool i)) noted

-- what a reference may be used for, by the indices of its texts
abbrev pub named_at : Program → List ℕ → List Entry → Sort → Indices → MemberUse
named_at p from pool kind at = named_use p from kind (text pool at.owner) (text pool at.name) (text pool at.desc)

abbrev pub IsNoted : Program → List ℕ → List Entry → CachedMember → Type 0
IsNoted p from pool n = n.one ≡ named_at p from pool n.sort n.at

-- the number says nothing: what is noted says itself of which texts it is
abbrev pub AreNoted : Program → List ℕ → List Entry → BTreeMap ℕ CachedMember → Type 0
AreNoted p from pool noted = AllAre (λ i n. IsNoted p from pool n) noted

-- What is noted of a pool, seen from a class.
pub record AreKnown (p : Program) (from : List ℕ) (pool : List Entry) (k : UseCache) : Type 0 where
  pub classes : AreClasses p from pool k.classes
  pub owners : AreOwners p from pool k.owners
  pub descs : AreDescs p from pool k.descs
  pub references : AreNoted p from pool k.references

-- by the index of a method's descriptor, the first fault of the types of its parameters
abbrev pub AreHanded : Program → List ℕ → List Entry → BTreeMap ℕ (Option LinkKind) → Type 0
AreHanded p from pool noted = AllAre (λ i o. o ≡ params_test p from (descriptor_of (text pool i))) noted
