-- What a text of the pool may be used as: a class's name, or a descriptor (JVMS 4.2.1, 4.3).
use Rattle.std.specs.Prelude.{ℕ, List, Option, Some, None, map, option_and_then}
use Rattle.std.specs.Option.{option_map}
use Rattle.jparts.specs.declared.jpool.entry.Entry.{Entry}
use Rattle.jparts.specs.declared.jpool.uses.TextUse.{TextUse}
use Rattle.jparts.specs.jpool.ClassNames.{is_class_name}
use Rattle.jparts.specs.jpool.Descriptors.{is_array_descriptor, is_field_descriptor, method_slots}
use Rattle.jparts.specs.jpool.PoolEntries.{utf8_parts}

-- what a text may be used as
unfoldable pub use_of : List ℕ → TextUse
use_of text = record {
  is_class_name = is_class_name text;
  is_array = is_array_descriptor text;
  is_field = is_field_descriptor text;
  slots = method_slots text;
}

-- the use of each entry's text, where it is one
abbrev pub uses_of : List Entry → List (Option TextUse)
uses_of entries = map (λ e. option_map use_of (option_and_then utf8_parts (Some e))) entries

-- what a table of uses has at an index
abbrev pub use_in : Option (Option TextUse) → Option TextUse
use_in None = None
use_in (Some one) = one
