-- Numbers by which most limits, and most contexts, are told apart: of the names and actions in limits; of the numbers in pairs.
use Rattle.std.specs.Prelude.{ℕ, ◌+◌, ◌*◌, ◌/◌, ◌%◌, ◌^◌, List, ◌∷◌, fold}
use Rattle.jperm.specs.declared.permission.BasicClass.{BasicClass}
use Rattle.jperm.specs.declared.permission.BasicClass.TheVariants.{Runtime, Security}
use Rattle.jperm.specs.declared.permission.Permission.{Permission}
use Rattle.jperm.specs.declared.permission.Permission.TheVariants.{All, Basic, Property, File, Unresolved}
use Rattle.jinterned.specs.declared.pairs.Pair.{Pair}

-- modulo 2 ^ 64
abbrev pub plus : ℕ → ℕ → ℕ
plus x y = (x + y) % 2 ^ 64

-- a number times one more than its double, modulo 2 ^ 64
abbrev pub squared : ℕ → ℕ
squared x = x * ((x * 2 % 2 ^ 64 + 1) % 2 ^ 64) % 2 ^ 64

-- the halves change places
abbrev pub turned : ℕ → ℕ
turned x = x / 2 ^ 32 + x % 2 ^ 32 * 2 ^ 32

-- a digest with one more number
unfoldable pub stirred : ℕ → ℕ → ℕ
stirred sum n = turned (squared (plus sum n))

-- on from that of what stands in front
abbrev pub digest_text : ℕ → List ℕ → ℕ
digest_text sum text = fold stirred sum text

abbrev pub class_number : BasicClass → ℕ
class_number Runtime = 65538
class_number Security = 65539

-- each begins with a number that is no unit of a name; of a path only the name that was written is taken
abbrev pub digest_permission : ℕ → Permission → ℕ
digest_permission sum All = stirred sum 65537
digest_permission sum (Basic class name) = digest_text (stirred sum (class_number class)) name
digest_permission sum (Property name actions) = stirred (digest_text (stirred sum 65540) name) actions
digest_permission sum (File path name actions) = stirred (digest_text (stirred sum 65541) name) actions
digest_permission sum (Unresolved class) = digest_text (stirred sum 65542) class

abbrev pub digest_limits : List Permission → ℕ
digest_limits limits = fold digest_permission 0 limits

-- a pair as one number
abbrev pub number_of : Pair → ℕ
number_of p = p.limits * 2 ^ 32 + p.domain

-- over all bits
unfoldable pub spread : Pair → ℕ
spread p = number_of p * 11400714819323198485 % 2 ^ 64

-- a digest with one more pair
abbrev pub with_one : ℕ → Pair → ℕ
with_one sum p = stirred sum (spread p)

-- a digest with four more pairs
abbrev pub with_four : ℕ → Pair → Pair → Pair → Pair → ℕ
with_four sum a b c d = stirred sum (plus (stirred (stirred 0 (number_of a)) (spread b)) (plus (stirred 0 (number_of c)) (spread d)))

-- on from that of what stands in front: four by four, and what is left one by one
unfoldable pub digest_from : ℕ → List Pair → ℕ
digest_from sum (a ∷ b ∷ c ∷ d ∷ ps) = digest_from (with_four sum a b c d) ps
digest_from sum ps = fold with_one sum ps

abbrev pub digest_pairs : List Pair → ℕ
digest_pairs pairs = digest_from 0 pairs
