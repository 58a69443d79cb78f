-- What is known of a pool's texts: a number for each, and what it says as a descriptor.
use Rattle.std.specs.Prelude.{◌≡◌, ℕ, Bool, List, Some, map, option_and_then}
use Rattle.std.specs.List.{position, position_or_len}
use Rattle.std.specs.Str.{bytes_eq}
use Rattle.std.specs.BTreeMap.{BTreeMap}
use Rattle.std.specs.Global.{Vec}
use Rattle.jparts.specs.declared.jpool.entry.Entry.{Entry}
use Rattle.jclass.specs.declared.class.ClassParts.{ClassParts}
use Rattle.jresolution.specs.jprogram.NameTable.{place_at}
use Rattle.jresolution.specs.jprogram.ClassFileParts.{or_empty}
use Rattle.jresolution.specs.jprogram.ProgramClasses.{Program}
use Rattle.jlinking.specs.declared.jmembers.descs.DescMarks.{DescMarks}
use Rattle.jlinking.specs.jmembers.MemberDeclarations.{text_left_out, text_missing}
use Rattle.jparts.specs.jpool.PoolEntries.{utf8_parts}

-- the text of an entry, empty where it is none
abbrev pub entry_text : Entry → List ℕ
entry_text e = or_empty (option_and_then utf8_parts (Some e))

-- ---- numbers

abbrev pub has_text : List ℕ → Entry → Bool
has_text text e = bytes_eq (entry_text e) text

-- the place of the first entry of a text, and the number of the entries where there is none: two texts of a pool have one number
-- exactly where they are equal
abbrev pub number_of : List Entry → List ℕ → ℕ
number_of entries text = position_or_len (has_text text) entries

abbrev pub numbers_of : List Entry → List Entry → List ℕ
numbers_of entries some = map (λ e. number_of entries (entry_text e)) some

-- a table has the place of the first entry of each text
abbrev pub AreFirst : List Entry → BTreeMap (Vec ℕ) ℕ → Type 0
AreFirst entries places = (text : List ℕ) → place_at places text ≡ position (has_text text) entries

-- ---- descriptors

abbrev pub marks_of : Program → List ℕ → DescMarks
marks_of p text = record { left_out = text_left_out text; missing = text_missing p text }

abbrev pub marks_in : Program → Entry → DescMarks
marks_in p e = marks_of p (entry_text e)

abbrev pub desc_marks : Program → List Entry → List DescMarks
desc_marks p entries = map (marks_in p) entries

-- ---- a class that is gone through

-- a class of a program, by its place
pub record Declaring : Type 0 where
  pub program : Program
  pub place : ℕ
  pub class : ClassParts

abbrev pub declaring : Program → ℕ → ClassParts → Declaring
declaring program place class = record { program = program; place = place; class = class }
