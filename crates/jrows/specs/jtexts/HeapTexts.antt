-- Texts of the heap: those that values name, and new ones.
use Rattle.std.specs.Prelude.{◌≡◌, ⊤, ◌≤◌, ◌<◌, ◌+◌, ◌-◌, ◌++◌, ℕ, zero, suc, Bool, true, false, List, [], ◌∷◌, length, Option, Some, None}
use Rattle.jvalues.specs.declared.jops.value.Value.{Value}
use Rattle.jvalues.specs.declared.jops.value.Value.TheVariants.{Ref}
use Rattle.jmemory.specs.declared.jheap.cell.Kind.{Kind}
use Rattle.jmemory.specs.declared.jheap.cell.Kind.TheVariants as kinds
use Rattle.jmemory.specs.jheap.Heaps as heaps
use Rattle.jmemory.specs.jheap.Heaps.{Heaped, kind_at, object_at, with_cell}
use Rattle.jruntime.specs.jstate.HeapMeanings.{units_of}

abbrev pub text_found : ℕ → Option Kind → Option ℕ
text_found o (Some kinds.Text) = Some o
text_found o kind = None

-- the number of the text that a value names
abbrev pub text_number : Heaped → Value ℕ → Option ℕ
text_number h (Ref o) = text_found o (kind_at h o)
text_number h v = None

abbrev pub units_as : Kind → List ℕ → Option (List ℕ)
units_as kinds.Text cells = Some (units_of cells)
units_as kind cells = None

abbrev pub units_found : Option heaps.Object → Option (List ℕ)
units_found None = None
units_found (Some x) = units_as x.kind x.cells

-- the units of the text that a value names
abbrev pub text_in : Heaped → Value ℕ → Option (List ℕ)
text_in h (Ref o) = units_found (object_at h o)
text_in h v = None

-- null
abbrev pub names_nothing : Value ℕ → Bool
names_nothing (Ref zero) = true
names_nothing v = false

-- ---- new texts and pieces

-- they have a unit a cell
abbrev pub HoldsUnits : Kind → Type 0
HoldsUnits kinds.Text = ⊤
HoldsUnits kinds.Piece = ⊤
HoldsUnits kind = ⊥

-- with these units in the cells of an object, from a place on
unfoldable pub written : Heaped → ℕ → ℕ → List ℕ → Heaped
written h o i [] = h
written h o i (u ∷ us) = written (with_cell h o i u) o (suc i) us

-- with one more object, a text or a piece with these units
abbrev pub with_units : Kind → List ℕ → Heaped → Heaped
with_units kind units h =
    record h { objects = h.objects ++ record { kind = kind; cells = units; before = 0 } ∷ []; left = h.left - (2 + length units) }

-- The cells for a text or a piece of these units were left, and it is there; or they weren't, and nothing has changed.
abbrev pub Puts : Kind → List ℕ → Heaped → Heaped → Option ℕ → Type 0
Puts kind units old new None = (old.left < 2 + length units) × (new ≡ old)
Puts kind units old new (Some o) = (2 + length units ≤ old.left) × (o ≡ length old.objects + 1) × (new ≡ with_units kind units old)
