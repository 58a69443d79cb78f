-- What is kept of a program by number: what each descriptor of a pool says, and what each entry stands for.
use Rattle.std.specs.Prelude.{◌≡◌, ℕ, ◌+◌, ◌≤◌, List, [], ◌∷◌, ◌++◌, length, map, Option, Some, None, option_map, slice_get, option_and_then}
use Rattle.jparts.specs.declared.jpool.entry.Entry.{Entry}
use Rattle.jresolution.specs.declared.jprogram.member.Member.{Member}
use Rattle.jresolution.specs.declared.jprogram.part.CodePart.{CodePart}
use Rattle.jresolution.specs.jprogram.ClassFileParts.{or_empty}
use Rattle.jresolution.specs.jprogram.ProgramClasses.{Program}
use Rattle.jresolution.specs.jprogram.MemberResolution.{referred}
use Rattle.jresolution.specs.declared.juses.meaning.Span.{Span}
use Rattle.jresolution.specs.declared.juses.types.TypeRef.{TypeRef}
use Rattle.jresolution.specs.declared.juses.descriptors.DescUse.{DescUse}
use Rattle.jresolution.specs.declared.juses.descriptors.DescUse.TheVariants as descs
use Rattle.jresolution.specs.declared.juses.entries.Kept.{Kept}
use Rattle.jresolution.specs.declared.juses.entries.Kept.TheVariants as kept
use Rattle.jresolution.specs.juses.InternedTypes.{named}
use Rattle.jresolution.specs.juses.DescriptorTypes.{Typed, Untyped, Held, Called, typed}
use Rattle.jresolution.specs.juses.InstructionMeanings.{EntryMeaning, AConstant, AClass, AField, AMethod, call_named, entry_meant, field_named, pushed_named, spanned}
use Rattle.jparts.specs.jpool.PoolEntries.{utf8_parts}

-- ---- lists

-- a list with more behind it
abbrev pub Grows : {A : Type 0} → List A → List A → Type 0
Grows {A} old new = (more : List A) × (new ≡ old ++ more)

-- two lists of one length, item by item
abbrev pub Pairs : {A B : Type 0} → (A → B → Type 0) → List A → List B → Type 0
Pairs r [] [] = Unit {0}
Pairs r (x ∷ xs) (y ∷ ys) = r x y × Pairs r xs ys
Pairs r xs ys = ⊥

-- a span lies within a list of so many
abbrev pub IsWithin : ℕ → Span → Type 0
IsWithin n s = s.first + s.count ≤ n

-- ---- descriptors

-- what is kept of a descriptor says this
abbrev pub desc_named : Program → List TypeRef → DescUse → Typed
desc_named p types descs.Untyped = Untyped
desc_named p types (descs.Held t) = Held (named p t)
desc_named p types (descs.Called params ret) = Called (map (named p) (spanned types params)) (option_map (named p) ret)

abbrev pub DescWithin : ℕ → DescUse → Type 0
DescWithin n (descs.Called params ret) = IsWithin n params
DescWithin n d = Unit {0}

-- What is kept says this, and its types are there.
pub record DescIs (p : Program) (types : List TypeRef) (d : DescUse) (t : Typed) : Type 0 where
  pub means : desc_named p types d ≡ t
  pub within : DescWithin (length types) d

-- what the text of an entry says as a descriptor; an entry that has none says nothing
abbrev pub entry_typed : Program → Option Entry → Typed
entry_typed p e = typed p (or_empty (option_and_then utf8_parts e))

-- Of each entry, what its text says as a descriptor.
pub record AreDescs (p : Program) (types : List TypeRef) (entries : List Entry) (uses : List DescUse) : Type 0 where
  pub each : Pairs (λ e d. DescIs p types d (entry_typed p (Some e))) entries uses

abbrev pub desc_in : Option DescUse → DescUse
desc_in None = descs.Untyped
desc_in (Some d) = d

-- ---- entries

-- the member that is kept of an entry
abbrev pub member_of : Kept → Option Member
member_of (kept.Member m) = Some m
member_of (kept.Field f) = Some f.member
member_of (kept.Method is_init c) = Some c.member
member_of k = None

-- what is kept of an entry stands for this
abbrev pub kept_named : Program → List Entry → List TypeRef → Kept → Option EntryMeaning
kept_named p pool types (kept.Constant c) = Some (AConstant (pushed_named pool c))
kept_named p pool types (kept.Class t) = Some (AClass (named p t))
kept_named p pool types (kept.Field f) = Some (AField (field_named p f))
kept_named p pool types (kept.Method is_init c) = Some (AMethod is_init (call_named p types c))
kept_named p pool types k = None

abbrev pub KeptWithin : ℕ → Kept → Type 0
KeptWithin n (kept.Method is_init c) = IsWithin n c.params
KeptWithin n k = Unit {0}

-- What is kept of an entry: its member, and what it stands for. Its types are there.
pub record KeptIs (p : Program) (pool : List Entry) (types : List TypeRef) (k : Kept) (e : Option Entry) : Type 0 where
  pub member : member_of k ≡ referred p pool e
  pub means : kept_named p pool types k ≡ entry_meant p pool e
  pub within : KeptWithin (length types) k

-- What is kept of each of these entries of a pool.
pub record AreKept (p : Program) (pool : List Entry) (types : List TypeRef) (entries : List Entry) (all : List Kept) : Type 0 where
  pub each : Pairs (λ e k. KeptIs p pool types k (Some e)) entries all

abbrev pub kept_in : Option Kept → Kept
kept_in None = kept.Nothing
kept_in (Some k) = k

-- ---- parts

abbrev pub pool_in : Option CodePart → List Entry
pool_in None = []
pool_in (Some part) = part.class.pool

-- the pool of a part
abbrev pub pool_at : Program → ℕ → List Entry
pool_at p class = pool_in (slice_get p.parts class)

abbrev pub entries_in : Option (List Kept) → List Kept
entries_in None = []
entries_in (Some all) = all

abbrev pub entries_at : List (List Kept) → ℕ → List Kept
entries_at parts class = entries_in (slice_get parts class)

-- What is kept of the entries of each of these parts' pools.
pub record ArePartsKept (p : Program) (types : List TypeRef) (parts : List CodePart) (tables : List (List Kept)) : Type 0 where
  pub each : Pairs (λ part ks. AreKept p part.class.pool types part.class.pool ks) parts tables
