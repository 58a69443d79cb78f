-- What moved code names, and where it stands in a pool: each entry is put behind the others, unless an equal one is there.
use Rattle.std.specs.Prelude.{◌≡◌, ℕ, ◌<◌, Bool, true, false, nat_le, if◌then◌else◌, List, [], ◌∷◌, ◌++◌, length, slice_get, codes}
use Rattle.std.specs.Prelude.{Option, Some, None, Result, Ok, Err, option_and_then}
use Rattle.std.specs.List.{position}
use Rattle.std.specs.Str.{byte}
use Rattle.jparts.specs.declared.jpool.entry.Entry.{Entry}
use Rattle.jparts.specs.declared.jpool.entry.Entry.TheVariants as entries
use Rattle.jparts.specs.declared.jpool.descriptor.FieldType.{FieldType}
use Rattle.jparts.specs.declared.jpool.descriptor.Descriptor.{Descriptor}
use Rattle.jparts.specs.declared.jpool.descriptor.Descriptor.TheVariants as descriptors
use Rattle.jparts.specs.jpool.EntryLayouts.{laid}
use Rattle.jadder.specs.EntryInterning.{same}
use Rattle.jparts.specs.jpool.Descriptors.{descriptor_of, descriptor_text}
use Rattle.jparts.specs.jpool.ConstantPools.{name_and_type_at, utf8_at}
use Rattle.jparts.specs.declared.jmaps.types.FullFrame.{FullFrame}
use Rattle.jmove.specs.declared.method.Expand.{Expand}
use Rattle.jmove.specs.declared.method.Expand.TheVariants as kinds
use Rattle.jmove.specs.declared.method.MoveError.{MoveError}
use Rattle.jmove.specs.declared.method.MoveError.TheVariants.{PoolFull, Memory}
use Rattle.jmove.specs.declared.naming.Security.{Security}
use Rattle.jmove.specs.declared.naming.Security.TheVariants.{Enter, Check, Snapshot, Privileged, PrivilegedWith, PrivilegedLimited}
use Rattle.jmove.specs.declared.naming.Reference.{Reference}
use Rattle.jmove.specs.declared.naming.Named.{Named}

-- ---- additions

-- What is put into a pool's entries: a value, mostly an index, and the entries then. They may be more than a pool has room for.
abbrev pub Adding : Type 0 → Type 0
Adding A = List Entry → A × List Entry

-- nothing
abbrev pub giving : {A : Type 0} → A → Adding A
giving x = λ pool. (x, pool)

-- one after another, which may use what the first gave
infixl 10 ◌>>◌
unfoldable pub ◌>>◌ : {A B : Type 0} → Adding A → (A → Adding B) → Adding B
f >> g = λ pool. g (f pool).0 (f pool).1

abbrev pub found_or : Entry → List Entry → Option ℕ → ℕ × List Entry
found_or e pool = elim [ Some i ↦ (i, pool) | None ↦ (length pool, pool ++ laid e) ]

-- an entry: the least index of an equal one, or the index behind the others, where it is put
unfoldable pub with_entry : Entry → Adding ℕ
with_entry e = λ pool. found_or e pool (position (same e) pool)

-- ---- classes and methods

abbrev pub with_text : List ℕ → Adding ℕ
with_text text = with_entry (entries.Utf8 text)

unfoldable pub with_class : List ℕ → Adding ℕ
with_class name = with_text name >> λ n. with_entry (entries.Class n)

-- a name and a descriptor
unfoldable pub with_member : List ℕ → List ℕ → Adding ℕ
with_member name descriptor = with_text name >> λ n. with_text descriptor >> λ d. with_entry (entries.NameAndType n d)

-- ---- the methods of `sps/Rt`

abbrev pub security_name : Security → List ℕ
security_name Enter = codes "enter"
security_name Check = codes "check"
security_name Snapshot = codes "snapshot"
security_name Privileged = codes "priv"
security_name PrivilegedWith = codes "privWith"
security_name PrivilegedLimited = codes "privLimited"

abbrev pub security_type : Security → List ℕ
security_type Enter = codes "(Lsps/Ctx;I)Lsps/Ctx;"
security_type Check = codes "(Ljava/security/Permission;Lsps/Ctx;)V"
security_type Snapshot = codes "(Lsps/Ctx;)Ljava/security/AccessControlContext;"
security_type Privileged = codes "(Ljava/security/PrivilegedAction;I)Ljava/lang/Object;"
security_type PrivilegedWith = codes "(Ljava/security/PrivilegedAction;Ljava/security/AccessControlContext;I)Ljava/lang/Object;"
security_type PrivilegedLimited =
    codes "(Ljava/security/PrivilegedAction;Ljava/security/AccessControlContext;[Ljava/security/Permission;Lsps/Ctx;I)Ljava/lang/Object;"

unfoldable pub with_security : Security → Adding ℕ
with_security m = with_class (codes "sps/Rt") >> λ c. with_member (security_name m) (security_type m) >> λ b. with_entry (entries.Method c b)

-- ---- changed calls

-- the type of contexts
abbrev pub context_type : FieldType
context_type = record { depth = 0; base = byte "L"; class = codes "sps/Ctx" }

abbrev pub with_context : Descriptor → Option (List ℕ)
with_context = elim [ descriptors.Field t ↦ None | descriptors.Method ps r ↦ Some (descriptor_text (descriptors.Method (ps ++ context_type ∷ []) r)) ]

-- A method's descriptor with the context as one more parameter, the last; none where the text is no method's descriptor.
unfoldable pub moved_descriptor : List ℕ → Option (List ℕ)
moved_descriptor text = option_and_then with_context (descriptor_of text)

-- a text that an entry has room for
abbrev pub short : List ℕ → Option (List ℕ)
short text = if nat_le (length text) 0xffff then Some text else None

abbrev pub reference_by : Bool → ℕ → Option (ℕ × ℕ) → Option Reference
reference_by interface class = elim [ None ↦ None | Some b ↦ Some (record { interface = interface; class = class; name = b.0; descriptor = b.1 }) ]

abbrev pub reference_in : List Entry → Option Entry → Option Reference
reference_in pool (Some (entries.Method class both)) = reference_by false class (name_and_type_at pool both)
reference_in pool (Some (entries.InterfaceMethod class both)) = reference_by true class (name_and_type_at pool both)
reference_in pool _ = None

-- the reference of a method at an index
unfoldable pub reference_at : List Entry → ℕ → Option Reference
reference_at pool i = reference_in pool (slice_get pool i)

-- its new descriptor
unfoldable pub changed_text : List Entry → Reference → Option (List ℕ)
changed_text pool r = option_and_then short (option_and_then moved_descriptor (utf8_at pool r.descriptor))

abbrev pub reference_entry : Reference → ℕ → Entry
reference_entry r both = if r.interface then entries.InterfaceMethod r.class both else entries.Method r.class both

-- the reference with another descriptor; its class and its name stay
unfoldable pub with_changed : Reference → List ℕ → Adding ℕ
with_changed r text = with_text text >> λ d. with_entry (entries.NameAndType r.name d) >> λ b. with_entry (reference_entry r b)

abbrev pub with_descriptor : ℕ → Reference → Option (List ℕ) → Adding ℕ
with_descriptor i r = elim [ None ↦ giving i | Some text ↦ with_changed r text ]

abbrev pub with_reference : ℕ → Option Reference → Adding ℕ
with_reference i = elim [ None ↦ giving i | Some r ↦ λ pool. with_descriptor i r (changed_text pool r) pool ]

-- The reference at an index, with the context as one more parameter. An index that names no method with such a descriptor stays.
unfoldable pub with_call : ℕ → Adding ℕ
with_call i = λ pool. with_reference i (reference_at pool i) pool

-- ---- all that a method's code names

-- the reference that an instruction's expansion calls
abbrev pub with_number : Expand → Adding ℕ
with_number kinds.Same = giving 0
with_number (kinds.Call i) = with_call i
with_number (kinds.Check i) = with_security Check
with_number (kinds.Snapshot i) = with_security Snapshot
with_number (kinds.Privileged i) = with_security Privileged
with_number (kinds.PrivilegedWith i) = with_security PrivilegedWith
with_number (kinds.PrivilegedLimited i) = with_security PrivilegedLimited

abbrev pub numbered : Expand → ℕ → Expand
numbered kinds.Same i = kinds.Same
numbered (kinds.Call n) i = kinds.Call i
numbered (kinds.Check n) i = kinds.Check i
numbered (kinds.Snapshot n) i = kinds.Snapshot i
numbered (kinds.Privileged n) i = kinds.Privileged i
numbered (kinds.PrivilegedWith n) i = kinds.PrivilegedWith i
numbered (kinds.PrivilegedLimited n) i = kinds.PrivilegedLimited i

-- the expansions with the indices of the new references, each instruction in its turn
unfoldable pub with_expansions : List Expand → Adding (List Expand)
with_expansions [] = giving []
with_expansions (k ∷ ks) = with_number k >> λ i. with_expansions ks >> λ js. giving (numbered k i ∷ js)

-- the class of contexts, where there are frames
abbrev pub with_frames : List FullFrame → Adding ℕ
with_frames = elim [ [] ↦ giving 0 | f ∷ fs ↦ with_class (codes "sps/Ctx") ]

-- what a body calls first, then what its instructions call, then what its frames name
unfoldable pub with_body : List Expand → List FullFrame → Adding Named
with_body ks fs = with_security Enter >> λ enter. with_expansions ks >> λ js. with_frames fs
    >> λ context. giving (record { enter = enter; kinds = js; context = context })

-- ---- what a call did

-- Entries are a front of others.
pub record IsFront (front whole : List Entry) : Type 0 where
  pub rest : List Entry
  pub is : whole ≡ front ++ rest

-- why an addition may be refused: no memory was left, or there is no room for all entries in a pool
abbrev pub Refused : MoveError → List Entry → Type 0
Refused Memory whole = Unit {0}
Refused PoolFull whole = 0xffff < length whole
Refused _ whole = ⊥

-- The call put what it was to put; or it was refused, and the entries are the old ones and a front of what was to be put.
abbrev pub Adds : {A X : Type 0} → (X → A) → Adding A → Result X MoveError → List Entry → List Entry → Type 0
Adds view f (Ok x) old new = f old ≡ (view x, new)
Adds view f (Err e) old new = Refused e (f old).1 × (IsFront old new × IsFront new (f old).1)
