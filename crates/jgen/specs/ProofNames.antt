-- Names by which proofs and the contracts of inner functions call what the definitions say in place. What `javasec` and `dispatch` promise
-- reaches none of them.
use Rattle.std.specs.Prelude.{List, codes, ◌∷◌, [], ◌==◌, if◌then◌else◌, ℕ, ◌/◌}
use Rattle.jparts.specs.declared.jpool.entry.Entry.TheVariants.{Unused}
use Rattle.jgen.specs.ClassFileItems.{Item}
use Rattle.jgen.specs.GeneratedClasses.{method, main_method}
use Rattle.jgen.specs.declared.laying.Draft.{Draft}
use Rattle.jgen.specs.declared.draws.Kind.{Kind}
use Rattle.jgen.specs.GeneratedFiles.{grant}

-- ---- of GeneratedClasses

abbrev pub f_named : List Item → List Item
f_named attribute = method 9 (codes "f") (codes "(I)V") attribute

-- a pool with index 0 alone, and no bytes
abbrev pub blank : Draft
blank = record { pool = Unused ∷ []; body = [] }

-- it stands in class 0 alone
abbrev pub main_of : ℕ → ℕ → List Item
main_of size i = if i == 0 then main_method size else []

-- ---- of Draws

-- what a state gives: its upper 15 bits
abbrev pub drawn : ℕ → ℕ
drawn x = x / 65536

-- ---- of GeneratedFiles

-- the line of a code source whose class is granted the permission
abbrev pub granted : Kind → ℕ → List ℕ
granted kind i = if kind.granted then grant i else []
