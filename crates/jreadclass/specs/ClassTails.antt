-- What the third pass of reading keeps, as the definition of a class file has it.
use Rattle.jclass.specs.Class.{TailParts}
use Rattle.jreadclass.specs.declared.read.Tail.{Tail}

abbrev pub tail_parts : Tail → TailParts
tail_parts t = (t.flags, (t.this_class, (t.super_class, (t.interfaces, (t.fields, (t.methods, t.attributes))))))
