-- The heap: objects by their numbers, which count from 1 in order of making, statics, and the cells that are left.
use Rattle.std.specs.Prelude.{◌≡◌, ℕ, zero, suc, ◌+◌, ◌-◌, ◌<◌, ◌^◌, ◌⊎◌, List, [], ◌∷◌, ◌++◌, length, replicate, take, Option, Some, None, unwrap_or, slice_get, slice_set}
use Rattle.std.specs.Option.{option_map}
use Rattle.std.proofs.Common.{◌≢◌}
use Rattle.jmemory.specs.declared.jheap.cell.Kind.{Kind}
use Rattle.jmemory.specs.declared.jheap.cell.Kind.TheVariants.{Object as ObjectKind}
use Rattle.jmemory.specs.declared.jheap.cell.Look.{Look}

-- an object: its kind, its cells, and of a piece the number of the one in front of it
pub record Object : Type 0 where
  pub kind : Kind
  pub cells : List ℕ
  pub before : ℕ

pub record Heaped : Type 0 where
  pub objects : List Object
  pub statics : List ℕ
  pub left : ℕ

abbrev pub opened : ℕ → Heaped
opened cells = record { objects = []; statics = []; left = cells }

-- the object of a number
abbrev pub object_at : Heaped → ℕ → Option Object
object_at h zero = None
object_at h (suc n) = slice_get h.objects n

abbrev pub kind_at : Heaped → ℕ → Option Kind
kind_at h o = option_map (λ x. x.kind) (object_at h o)

abbrev pub before_at : Heaped → ℕ → Option ℕ
before_at h o = option_map (λ x. x.before) (object_at h o)

abbrev pub cells_at : Heaped → ℕ → List ℕ
cells_at h o = unwrap_or (option_map (λ x. x.cells) (object_at h o)) []

-- ---- making

-- what an object costs
abbrev pub charge : Kind → ℕ → ℕ
charge (ObjectKind class) len = 1 + len
charge _ len = 2 + len

abbrev pub fresh : Kind → ℕ → Object
fresh kind len = record { kind = kind; cells = replicate len 0; before = 0 }

-- one more object, where there are cells enough
abbrev pub made : Heaped → Kind → ℕ → Heaped
made h kind len = record h { objects = h.objects ++ fresh kind len ∷ []; left = h.left - charge kind len }

-- The call answers the number of a new object, or none where its charge is above what is left, and then nothing changes.
abbrev pub Makes : Kind → ℕ → Heaped → Heaped → Option ℕ → Type 0
Makes kind len old new None = (old.left < charge kind len) × (new ≡ old)
Makes kind len old new (Some o) = (charge kind len < old.left + 1) × (o ≡ length old.objects + 1) × (new ≡ made old kind len)

-- ---- cells

-- the object is there and has so many cells
abbrev pub HasCell : Heaped → ℕ → ℕ → Type 0
HasCell h o i = i < length (cells_at h o)

abbrev pub cell_at : Heaped → ℕ → ℕ → ℕ
cell_at h o i = unwrap_or (slice_get (cells_at h o) i) 0

-- No object has so many cells that an int doesn't count them.
abbrev pub AreSmall : Heaped → Type 0
AreSmall h = (o : ℕ) → length (cells_at h o) < 2 ^ 31

-- the object of a number is changed
abbrev pub changed : (Object → Object) → ℕ → List Object → List Object
changed f o [] = []
changed f zero (x ∷ xs) = f x ∷ xs
changed f (suc o) (x ∷ xs) = x ∷ changed f o xs

abbrev pub with_object : (Object → Object) → Heaped → ℕ → Heaped
with_object f h zero = h
with_object f h (suc o) = record h { objects = changed f o h.objects }

abbrev pub with_cell : Heaped → ℕ → ℕ → ℕ → Heaped
with_cell h o i n = with_object (λ x. record x { cells = slice_set x.cells i n }) h o

abbrev pub with_before : Heaped → ℕ → ℕ → Heaped
with_before h o b = with_object (λ x. record x { before = b }) h o

abbrev pub with_statics : Heaped → List ℕ → Heaped
with_statics h values = record h { statics = values }

-- ---- looks

-- how many cells these objects cost
abbrev pub cost : List Object → ℕ
cost [] = 0
cost (x ∷ xs) = charge x.kind (length x.cells) + cost xs

-- what a look at an object tells: its number, what it is, how many cells it has, and where they lie, behind those that were taken before
abbrev pub look_by : ℕ → ℕ → Object → Look
look_by o first x = record {
  object = o;
  kind = x.kind;
  len = length x.cells;
  block = record { first = first; len = charge x.kind (length x.cells) };
}

-- a look at the object of a number
abbrev pub look_at : Heaped → ℕ → Option Look
look_at h o = option_map (look_by o (cost (take (o - 1) h.objects))) (object_at h o)

-- ---- laws

-- A read gives the last write to its place,
abbrev pub ReadsTheWrite : Type 0
ReadsTheWrite = (h : Heaped) (o i n : ℕ) → HasCell h o i → cell_at (with_cell h o i n) o i ≡ n

-- and no other place changes.
abbrev pub LeavesOthers : Type 0
LeavesOthers = (h : Heaped) (o i n p j : ℕ) → (p ≢ o) ⊎ (j ≢ i) → cell_at (with_cell h o i n) p j ≡ cell_at h p j
