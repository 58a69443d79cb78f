-- The first pass: the shape of a class file (JVMS 4.1), its attributes as runs of bytes.
use Rattle.std.specs.Prelude.{ℕ, ◌||◌, List, Some, None, Result, Ok, nat_lt, if◌then◌else◌}
use Rattle.jground.specs.jbase.MemoryFailures.{◌>>=◌}
use Rattle.jground.specs.declared.jformat.error.Fault.{Fault}
use Rattle.jground.specs.jformat.Format.{Format, ◌·◌, such, literal}
use Rattle.jground.specs.jformat.BodyFormats.{Body, whole, counted}
use Rattle.jparts.specs.declared.jpool.entry.Entry.{Entry}
use Rattle.jparts.specs.jpool.PoolEntries
use Rattle.jclass.specs.declared.fault.ClassFault.{ClassFault}
use Rattle.jclass.specs.declared.fault.ClassFault.TheVariants.{Magic, Version, Trailing}
use Rattle.jclass.specs.IndexFormats.{u2, u4, run, told_as, pool_fault}

-- the major version, of Java SE 6 to 8
abbrev pub major : Format ClassFault ℕ
major = such (λ n. if nat_lt n 50 || nat_lt 52 n then Some Version else None) u2

-- the number of indices, and the entries
unfoldable pub entries : Format ClassFault (List Entry)
entries = told_as pool_fault PoolEntries.shape

abbrev pub HeadParts : Type 0
HeadParts = Unit {0} × (ℕ × (ℕ × List Entry))

-- up to the end of the pool
unfoldable pub head : Format ClassFault HeadParts
head = literal u4 Magic 0xcafebabe · u2 · major · entries

-- an attribute: its name and its bytes
abbrev pub attribute : Format ClassFault (ℕ × List ℕ)
attribute = u2 · run

abbrev pub RawMember : Type 0
RawMember = ℕ × (ℕ × (ℕ × List (ℕ × List ℕ)))

-- a field or a method: its flags, its name, its descriptor and its attributes
abbrev pub member : Format ClassFault RawMember
member = u2 · u2 · u2 · counted u2 attribute

abbrev pub RawTail : Type 0
RawTail = ℕ × (ℕ × (ℕ × (List ℕ × (List RawMember × (List RawMember × List (ℕ × List ℕ))))))

-- flags, this class, the class above it, interfaces, fields, methods, attributes
unfoldable pub tail : Format ClassFault RawTail
tail = u2 · u2 · u2 · counted u2 u2 · counted u2 member · counted u2 member · counted u2 attribute

-- all of a class file
unfoldable pub shape : Body ClassFault (HeadParts × RawTail)
shape = whole Trailing (head · tail)

-- whether bytes have the shape of a class file
abbrev pub has_shape : List ℕ → Result (Unit {0}) (Fault ClassFault)
has_shape bytes = shape.read bytes >>= λ _. Ok tt
