-- A class file (JVMS 4.1): its spelling, and its first fault.
use Rattle.std.specs.Prelude.{◌≡◌, ℕ, List, length, Result, Ok, ◌==◌, IsTrue, if◌then◌else◌}
use Rattle.jground.specs.declared.jformat.error.Fault.{Fault}
use Rattle.jground.specs.jbase.MemoryFailures.{◌>>=◌}
use Rattle.jground.specs.jformat.Format.{Answer, Format, fault, ◌·◌, ◌▹◌, via}
use Rattle.jground.specs.jformat.BodyFormats.{Body, whole, counted}
use Rattle.jground.specs.jformat.RepeatedReads.{passes}
use Rattle.jparts.specs.declared.jpool.entry.Entry.{Entry}
use Rattle.jclass.specs.declared.access.Access.{Access}
use Rattle.jclass.specs.declared.class.Attribute.{Attribute}
use Rattle.jclass.specs.declared.class.MemberInfo.{MemberInfo}
use Rattle.jclass.specs.declared.class.ClassParts.{ClassParts}
use Rattle.jclass.specs.declared.fault.ClassFault.{ClassFault}
use Rattle.jclass.specs.declared.fault.ClassFault.TheVariants.{Trailing}
use Rattle.jclass.specs.IndexFormats.{u2, access, index}
use Rattle.jclass.specs.FlagRules.{names_class, names_super}
use Rattle.jclass.specs.ClassFileShape.{HeadParts, has_shape}
use Rattle.jclass.specs.PoolChecks.{head}
use Rattle.jclass.specs.Attributes.{class_attribute}
use Rattle.jclass.specs.MemberFormat.{field, method}

abbrev pub TailParts : Type 0
TailParts = Access × (ℕ × (ℕ × (List ℕ × (List MemberInfo × (List MemberInfo × List Attribute)))))

-- The third pass: what stands behind the pool, front to back.
unfoldable pub tail : List Entry → Format ClassFault TailParts
tail pool = access · index (names_class pool) · index (names_super pool) · counted u2 (index (names_class pool))
    · counted u2 (field pool) · counted u2 (method pool) · counted u2 (class_attribute pool)

abbrev pub class_from : HeadParts × TailParts → ClassParts
class_from p = record {
  minor = p.0.1.0;
  major = p.0.1.1.0;
  pool = p.0.1.1.1;
  flags = p.1.0;
  this_class = p.1.1.0;
  super_class = p.1.1.1.0;
  interfaces = p.1.1.1.1.0;
  fields = p.1.1.1.1.1.0;
  methods = p.1.1.1.1.1.1.0;
  attributes = p.1.1.1.1.1.1.1;
}

abbrev pub class_parts : ClassParts → HeadParts × TailParts
class_parts c = (
  (tt, (c.minor, (c.major, c.pool))),
  (c.flags, (c.this_class, (c.super_class, (c.interfaces, (c.fields, (c.methods, c.attributes)))))),
)

-- the second and third pass
unfoldable pub strict : Format ClassFault ClassParts
strict = via class_from class_parts (head ▹ λ h. tail h.1.1.1)

-- A class file: its shape, then what its pool holds, then the rest by its pool. The first pass that finds a fault ends the reading.
unfoldable pub class_file : Body ClassFault ClassParts
class_file = passes has_shape (λ _. tt) (λ _. whole Trailing strict)

-- Bytes spell a class file where they are its parts' spellings, and the parts meet the demands on them.
abbrev pub Spells : List ℕ → ClassParts → Type 0
Spells bytes c = IsTrue (class_file.fits c) × (bytes ≡ class_file.spell c)

-- where nothing may stand behind a value that isn't looked at
abbrev pub ends : Answer ClassFault (Unit {0}) → Result (Unit {0}) (Fault ClassFault)
ends r = r >>= λ x. if length x.1 == 0 then Ok tt else fault Trailing x.1
