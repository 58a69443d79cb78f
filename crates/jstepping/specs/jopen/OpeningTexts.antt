-- The strings that the opening makes, one behind the other.
use Rattle.std.specs.Prelude.{◌≡◌, ◌+◌, ◌<◌, ◌≤◌, ◌++◌, ℕ, Bool, true, false, List, [], ◌∷◌, length, map, Option, Some, None, is_some, replicate, sum_by}
use Rattle.jvalues.specs.declared.jops.value.Value.{Value}
use Rattle.jmemory.specs.jheap.Heaps as heaps
use Rattle.jmemory.specs.jheap.Heaps.{Heaped}
use Rattle.jmemory.specs.jheap.RawValues.{raw, type_of}
use Rattle.jlib.specs.declared.classes.LibClass.TheVariants as lib
use Rattle.jresolution.specs.jprogram.ProgramClasses.{Program}
use Rattle.jsemantics.specs.jmachine.MachineStates as acts
use Rattle.jsemantics.specs.jmachine.HeapObjects.{Object, Bare, Text}
use Rattle.jsemantics.specs.jmachine.OpeningState.{constants_of}
use Rattle.jsemantics.specs.jmachine.Store.{Store, constant_at, paid, with_constant, with_made}
use Rattle.jruntime.specs.declared.jstate.shapes.Shapes.{Shapes}
use Rattle.jruntime.specs.jstate.HeapMeanings as seen
use Rattle.jruntime.specs.jstate.HeapMeanings.{Things, store_by}
use Rattle.jlibcalls.specs.jconstants.StringConstants.{Made}

-- ---- one string

abbrev pub stream : Object ℕ
stream = Bare lib.PrintStream

abbrev pub string : List ℕ → Object ℕ
string units = Text (Some units)

-- A string of these units was made already; or it is made, and is one more constant; or the cells for it aren't left.
abbrev pub TextMade : (known went : Bool) → List ℕ → Store ℕ → Store ℕ → Type 0
TextMade true true units s t = t ≡ s
TextMade true false units s t = ⊥
TextMade false true units s t =
    (acts.cells_of (length units) ≤ s.left) × (t ≡ paid (acts.cells_of (length units)) (with_made (with_constant s units) (string units)))
TextMade false false units s t = s.left < acts.cells_of (length units)

abbrev pub MakesText : List ℕ → Bool → Store ℕ → Store ℕ → Type 0
MakesText units went s t = TextMade (is_some (constant_at s.constants units)) went units s t

-- what the heap and the constants that were made stand for
abbrev pub seen_by : Program → Shapes → Things → Made → Heaped → Store ℕ
seen_by p shapes things c h = store_by p shapes things c.constants h

-- The string that a static holds at first was made so: nothing is made where it holds none.
abbrev pub MakesFor : Program → Option (List ℕ) → Bool → Made → Heaped → Made → Heaped → Type 0
MakesFor p None went c h d k = (went ≡ true) × (d ≡ c) × (k ≡ h)
MakesFor p (Some units) went c h d k = (shapes : Shapes) (things : Things)
    → MakesText units went (seen_by p shapes things c h) (seen_by p shapes things d k)

-- ---- all strings

-- the store with `System.out` and strings of these texts
abbrev pub began : List (List ℕ) → ℕ → Store ℕ
began texts left = record { objects = stream ∷ map string texts; statics = []; constants = constants_of texts; left = left }

-- their cells
abbrev pub texts_charge : List (List ℕ) → ℕ
texts_charge texts = 1 + sum_by (λ t. acts.cells_of (length t)) texts

-- Strings of these texts were made, behind `System.out`, in a heap of so many cells.
pub record HasMade (p : Program) (cells : ℕ) (texts : List (List ℕ)) (c : Made) (h : Heaped) : Type 0 where
  pub program : c.program ≡ p
  pub store : (shapes : Shapes) (things : Things) → seen_by p shapes things c h ≡ began texts h.left
  pub constants : c.constants ≡ constants_of texts
  pub statics : h.statics ≡ []
  pub left : h.left + texts_charge texts ≡ cells

-- ---- statics

-- The first statics hold these values, and give them back as their types; so many others hold 0.
pub record HasSet (values : List (Value ℕ)) (others : ℕ) (old h : Heaped) : Type 0 where
  pub heap : h ≡ heaps.with_statics old (map raw values ++ replicate others 0)
  pub back : seen.values_of (map type_of values) (map raw values) ≡ values
