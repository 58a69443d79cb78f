-- A field type in a text, as the value that it stands for.
use Rattle.jparts.specs.declared.jpool.descriptor.FieldType.{FieldType}
use Rattle.jparts.specs.declared.jpool.scan.ScannedType.{ScannedType}

abbrev pub piece : ScannedType → FieldType
piece p = record { depth = p.depth; base = p.base; class = p.class.now }
