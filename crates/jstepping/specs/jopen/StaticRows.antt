-- What the statics of a program hold at first, and the strings that are made for them, by the rows of the statics.
use Rattle.std.specs.Prelude.{ℕ, List, [], Option, Some, None, map}
use Rattle.std.specs.List.{filter_map}
use Rattle.jvalues.specs.declared.jops.value.Value.{Value}
use Rattle.jparts.specs.declared.jpool.entry.Entry.{Entry}
use Rattle.jresolution.specs.jprogram.ProgramClasses.{Program}
use Rattle.jresolution.specs.jprogram.ClassFileParts.{text}
use Rattle.jresolution.specs.juses.PoolTables.{pool_at}
use Rattle.jsemantics.specs.jmachine.ObjectInstructions.{units_of}
use Rattle.jsemantics.specs.jmachine.OpeningState.{distinct}
use Rattle.jready.specs.declared.statics.First.{First}
use Rattle.jready.specs.declared.statics.First.TheVariants as firsts
use Rattle.jready.specs.declared.statics.StaticRow.{StaticRow}
use Rattle.jready.specs.Statics.{first_in}

-- the units of the string that a static holds at first, if it holds one
abbrev pub text_first : List Entry → First → Option (List ℕ)
text_first pool (firsts.Known v) = None
text_first pool (firsts.Text i) = Some (units_of (text pool i))

abbrev pub row_text : Program → StaticRow → Option (List ℕ)
row_text p row = text_first (pool_at p row.class) row.first

-- those of statics, each once, where it stands first
abbrev pub texts_of : Program → List StaticRow → List (List ℕ)
texts_of p rows = distinct [] (filter_map (row_text p) rows)

-- what a static holds at first, where these strings were made
abbrev pub row_value : Program → List (List ℕ × ℕ) → StaticRow → Value ℕ
row_value p made row = first_in made (pool_at p row.class) row.cell row.first

abbrev pub values_of : Program → List (List ℕ × ℕ) → List StaticRow → List (Value ℕ)
values_of p made rows = map (row_value p made) rows
