-- The statics of a program: what they hold, and what they hold at first (JVMS 4.7.2).
use Rattle.std.specs.Prelude.{◌≡◌, ℕ, pos, List, map, option_map, unwrap_or}
use Rattle.jparts.specs.declared.jpool.entry.Entry.{Entry}
use Rattle.jclass.specs.declared.class.ClassParts.{ClassParts}
use Rattle.jclass.specs.declared.class.MemberInfo.{MemberInfo}
use Rattle.jvalues.specs.declared.jops.value.Value.{Value}
use Rattle.jvalues.specs.declared.jops.value.Value.TheVariants.{Int, Long, Ref}
use Rattle.jmemory.specs.declared.jheap.cell.CellType.{CellType}
use Rattle.jmemory.specs.declared.jheap.cell.CellType.TheVariants as cells
use Rattle.jresolution.specs.declared.jprogram.part.CodePart.{CodePart}
use Rattle.jresolution.specs.jprogram.ProgramClasses.{Program}
use Rattle.jresolution.specs.jprogram.ClassFileParts.{text}
use Rattle.jresolution.specs.juses.PoolTables.{Pairs, pool_at}
use Rattle.jresolution.specs.jlayout.FieldLayout as layout
use Rattle.jsemantics.specs.jmachine.ObjectInstructions.{units_of}
use Rattle.jsemantics.specs.jmachine.OpeningState.{first_value}
use Rattle.jsemantics.specs.jmachine.Store.{constant_at}
use Rattle.jready.specs.declared.statics.First.{First}
use Rattle.jready.specs.declared.statics.First.TheVariants as firsts
use Rattle.jready.specs.declared.statics.StaticRow.{StaticRow}
use Rattle.jready.specs.InlineOperands.{cell_of}

-- what a cell holds before anything is put there: 0 or null
abbrev pub nothing : CellType → Value ℕ
nothing cells.Int = Int (pos 0)
nothing cells.Long = Long (pos 0)
nothing c = Ref 0

-- what a cell holds at first, where the strings that were made are known
abbrev pub first_in : List (List ℕ × ℕ) → List Entry → CellType → First → Value ℕ
first_in made pool cell (firsts.Known v) = v
first_in made pool cell (firsts.Text i) = unwrap_or (option_map Ref (constant_at made (units_of (text pool i)))) (nothing cell)

-- A static of a class.
pub record IsStatic (p : Program) (c : ClassParts) (m : MemberInfo) (row : StaticRow) : Type 0 where
  -- its class has this pool
  pub pooled : pool_at p row.class ≡ c.pool
  pub celled : cell_of (layout.field_type p c m) ≡ row.cell
  pub begins : (made : List (List ℕ × ℕ)) → first_value p made c m ≡ first_in made c.pool row.cell row.first

-- those of a class, each with its part
abbrev pub own_statics : CodePart → List (CodePart × MemberInfo)
own_statics part = map (λ (m : MemberInfo). (part, m)) (layout.statics_of part)

-- Statics, each with the part of its class, in their order.
abbrev pub AreStatics : Program → List (CodePart × MemberInfo) → List StaticRow → Type 0
AreStatics p all rows = Pairs (λ (x : CodePart × MemberInfo) (row : StaticRow). IsStatic p x.0.class x.1 row) all rows
