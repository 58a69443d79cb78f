-- The array into which a reference is stored.
use Rattle.std.specs.Prelude.{ℕ, Option, Some, None}
use Rattle.jmemory.specs.declared.jheap.cell.Kind.{Kind}
use Rattle.jmemory.specs.declared.jheap.cell.Kind.TheVariants as kinds
use Rattle.jrows.specs.declared.jobjs.storing.Held.{Held}
use Rattle.jrows.specs.declared.jobjs.storing.Held.TheVariants as helds

-- the heap's number for its type, where there is one
abbrev pub number_held : Held → Option ℕ
number_held (helds.Array o a) = Some a
number_held h = None

-- the same of what an object is
abbrev pub number_found : Option Kind → Option ℕ
number_found (Some (kinds.Array a)) = Some a
number_found k = None
