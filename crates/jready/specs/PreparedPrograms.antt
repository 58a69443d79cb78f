-- A program that is ready to be executed.
use Rattle.std.specs.Prelude.{◌≡◌, ℕ, ◌+◌, ◌<◌, List, length, Some, slice_get}
use Rattle.jresolution.specs.declared.jprogram.member.MethodId.{MethodId}
use Rattle.jresolution.specs.jprogram.ProgramClasses.{Program}
use Rattle.jresolution.specs.declared.juses.uses.Uses.{Uses}
use Rattle.jresolution.specs.juses.EntryUses.{AreUses}
use Rattle.jresolution.specs.declared.jlayout.layouts.Layouts.{Layouts}
use Rattle.jresolution.specs.jlayout.LayoutTables.{AreLayouts}
use Rattle.jresolution.specs.jlayout.InternedFields.{all_statics}
use Rattle.jready.specs.declared.methods.MethodRow.{MethodRow}
use Rattle.jready.specs.declared.methods.Methods.{Methods}
use Rattle.jready.specs.declared.shapes.Shape.{Shape}
use Rattle.jready.specs.declared.statics.StaticRow.{StaticRow}
use Rattle.jready.specs.MethodTables.{AreMethods}
use Rattle.jready.specs.MethodNumbers.{AreFirsts, count_at, methods_before}
use Rattle.jready.specs.ClassShapes.{AreShapes}
use Rattle.jready.specs.Statics.{AreStatics}

pub record Prepared : Type 0 where
  pub program : Program
  -- what the entries of its pools stand for
  pub uses : Uses
  -- where its fields stand
  pub layouts : Layouts
  -- of each class what its objects hold
  pub shapes : List Shape
  pub statics : List StaticRow
  -- of each class the number of its first method
  pub firsts : List ℕ
  pub methods : Methods

-- ---- the numbers of methods

-- The method of a number is this one.
pub record IsNumber (rows : List MethodRow) (k : ℕ) (m : MethodId) : Type 0 where
  pub row : MethodRow
  pub at : slice_get rows k ≡ Some row
  pub id : row.id ≡ m

-- From a number on stand so many methods of the class at a place.
abbrev pub AreOwn : List MethodRow → ℕ → ℕ → ℕ → Type 0
AreOwn rows first class count = (j : ℕ) → j < count → IsNumber rows (first + j) (record { class = class; method = j })

-- those of the first classes
abbrev pub AreNumbered : Program → List MethodRow → ℕ → Type 0
AreNumbered p rows classes = (c : ℕ) → c < classes → AreOwn rows (methods_before p c) c (count_at p c)

-- ---- all

pub record IsReady (r : Prepared) : Type 0 where
  pub uses : AreUses r.program r.uses
  pub layouts : AreLayouts r.program r.layouts
  pub shapes : AreShapes r.program r.shapes
  pub statics : AreStatics r.program (all_statics r.program) r.statics
  pub firsts : AreFirsts r.program r.firsts
  pub methods : AreMethods r.program r.uses.types r.methods
  pub numbered : AreNumbered r.program r.methods.rows (length r.program.parts)

-- It is one of the methods.
abbrev pub IsRow : Prepared → MethodRow → Type 0
IsRow r row = (k : ℕ) × (slice_get r.methods.rows k ≡ Some row)
