-- The second pass: what the entries of the pool hold and name (JVMS 4.4), entry by entry.
use Rattle.std.specs.Prelude.{ℕ, ◌-◌, ◌&&◌, Bool, List, length, Option, Some, None, Ok, Err, option_map}
use Rattle.std.specs.List.{list_all}
use Rattle.std.specs.Result.{is_ok}
use Rattle.jground.specs.jbase.MemoryFailures.{◌>>=◌}
use Rattle.jground.specs.jbase.FirstFaults.{or_else}
use Rattle.jground.specs.jformat.Format.{Answer, Format, is_good, unless, unless_fault}
use Rattle.jground.specs.jtext.Modified
use Rattle.jparts.specs.declared.jpool.entry.Entry.{Entry}
use Rattle.jparts.specs.declared.jpool.entry.Entry.TheVariants.{Utf8}
use Rattle.jparts.specs.jpool.ConstantPools
use Rattle.jparts.specs.jpool.ConstantPools.{first_fault}
use Rattle.jclass.specs.declared.fault.ClassFault.{ClassFault}
use Rattle.jclass.specs.declared.fault.ClassFault.TheVariants.{Text}
use Rattle.jclass.specs.IndexFormats.{pool_fault}
use Rattle.jclass.specs.ClassFileShape
use Rattle.jclass.specs.ClassFileShape.{HeadParts}

-- whether bytes are modified UTF-8
unfoldable pub is_modified : List ℕ → Bool
is_modified bytes = is_ok (Modified.text.read bytes)

-- what is behind a value that was read
abbrev pub behind : {K A : Type 0} → Answer K A → Option (List ℕ)
behind (Ok x) = Some x.1
behind (Err d) = None

abbrev pub text_fault : Entry → Option ClassFault
text_fault = elim [ Utf8 bytes ↦ unless (is_modified bytes) Text | _ ↦ None ]

-- the first fault of an entry among all
unfoldable pub entry_fault : List Entry → Entry → Option ClassFault
entry_fault pool one = or_else (text_fault one) (option_map pool_fault (ConstantPools.entry_fault pool one))

unfoldable pub no_fault : List Entry → Bool
no_fault pool = list_all (λ one. is_good (entry_fault pool one)) pool

abbrev pub judged : ℕ → HeadParts × List ℕ → Answer ClassFault HeadParts
judged left x = unless_fault x (first_fault (entry_fault x.0.1.1.1) left x.0.1.1.1)

-- The head, whose first entry stands behind ten bytes, and then the faults of its entries, each at its tag.
unfoldable pub head : Format ClassFault HeadParts
head = record {
  spell = ClassFileShape.head.spell;
  fits = λ h. ClassFileShape.head.fits h && no_fault h.1.1.1;
  read = λ bytes. ClassFileShape.head.read bytes >>= judged (length bytes - 10);
}
