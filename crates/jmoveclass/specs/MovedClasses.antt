-- A moved class: each of its methods takes its caller's context, and its pool names what they need; all else is as it was.
use Rattle.std.specs.Prelude.{ℕ, List}
use Rattle.std.specs.List.{filter}
use Rattle.jparts.specs.declared.jpool.entry.Entry.{Entry}
use Rattle.jclass.specs.declared.class.ClassParts.{ClassParts}
use Rattle.jclass.specs.declared.class.MemberInfo.{MemberInfo}
use Rattle.jresolution.specs.declared.jprogram.part.CodePart.{CodePart}
use Rattle.jresolution.specs.jprogram.ProgramClasses.{Program}
use Rattle.jmoveclass.specs.KeptAttributes.{class_keeps}
use Rattle.jmoveclass.specs.MovedMembers.{with_method}
use Rattle.jmoveclass.specs.PoolPuts.{with_each}

-- a class with these methods and this pool, and the attributes that are kept
abbrev pub class_with : ClassParts → List MemberInfo × List Entry → ClassParts
class_with c x = record c { pool = x.1; methods = x.0; attributes = filter (class_keeps c.pool) c.attributes }

-- a class of a domain
unfoldable pub moved_class : Program → ℕ → ClassParts → ClassParts
moved_class p domain c = class_with c (with_each (with_method p c domain) c.methods c.pool)

abbrev pub moved_part : Program → CodePart → CodePart
moved_part p part = record { domain = part.domain; class = moved_class p part.domain part.class }
