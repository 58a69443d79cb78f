-- String constants that were made, and how they are found again by the classes and the indices that name them.
use Rattle.std.specs.Prelude.{◌≡◌, ⊤, ◌<◌, ℕ, List, [], map, Option, Some, None, slice_get, unwrap_or}
use Rattle.std.specs.BTreeMap.{BTreeMap}
use Rattle.std.specs.Global.{Vec}
use Rattle.jresolution.specs.jprogram.ProgramClasses.{Program}
use Rattle.jresolution.specs.jprogram.NameTable.{place_at}
use Rattle.jresolution.specs.jprogram.ClassFileParts.{text}
use Rattle.jresolution.specs.juses.PoolTables.{pool_at}
use Rattle.jsemantics.specs.jmachine.ObjectInstructions.{units_of}
use Rattle.jsemantics.specs.jmachine.Store.{constant_at}
use Rattle.jlibcalls.specs.declared.jconstants.table.MadeText.{MadeText}
use Rattle.jlibcalls.specs.declared.jconstants.table.Table.{Table}

-- the constants of a program that were made, in their order, as the store has them
pub record Made : Type 0 where
  pub program : Program
  pub constants : List (List ℕ × ℕ)

-- the text at an index of a class's pool, and its units
abbrev pub bytes_at : Program → (class i : ℕ) → List ℕ
bytes_at p class i = text (pool_at p class) i

abbrev pub units_at : Program → (class i : ℕ) → List ℕ
units_at p class i = units_of (bytes_at p class i)

-- ---- numbers by classes and indices

-- the number that rows have for an index of a class, 0 for none
abbrev pub number_at : List (List ℕ) → (class i : ℕ) → ℕ
number_at rows class i = unwrap_or (slice_get (unwrap_or (slice_get rows class) []) i) 0

-- Rows have no numbers.
abbrev pub AreNone : List (List ℕ) → Type 0
AreNone rows = (class i : ℕ) → number_at rows class i ≡ 0

-- Each number that rows have is that of the constant there.
abbrev pub AreKnown : Program → List (List ℕ × ℕ) → List (List ℕ) → Type 0
AreKnown p constants rows = (class i : ℕ) → 0 < number_at rows class i → constant_at constants (units_at p class i) ≡ Some (number_at rows class i)

-- A number, where there is one, is that of the constant at an index of a class.
abbrev pub IsObject : Program → List (List ℕ × ℕ) → (class i : ℕ) → Option ℕ → Type 0
IsObject p constants class i None = ⊤
IsObject p constants class i (Some o) = constant_at constants (units_at p class i) ≡ Some o

-- ---- tables

-- a constant that was made
abbrev pub constant_of : Program → MadeText → List ℕ × ℕ
constant_of p m = (units_at p m.class m.index, m.object)

abbrev pub constants_of : Program → List MadeText → List (List ℕ × ℕ)
constants_of p made = map (constant_of p) made

abbrev pub constants_in : Table → List (List ℕ × ℕ)
constants_in t = constants_of t.program.now t.made.items

abbrev pub made_in : Table → Made
made_in t = record { program = t.program.now; constants = constants_in t }

-- A tree has the objects of constants by their units.
abbrev pub AreObjects : List (List ℕ × ℕ) → BTreeMap (Vec ℕ) ℕ → Type 0
AreObjects constants objects = (units : List ℕ) → place_at objects units ≡ constant_at constants units

-- What a table keeps of the constants that were made agrees.
pub record IsTable (t : Table) : Type 0 where
  pub objects : AreObjects (constants_in t) t.objects
  pub known : AreKnown t.program.now (constants_in t) t.known.items
