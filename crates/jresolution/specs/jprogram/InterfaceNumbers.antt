-- The numbers of a program's interfaces: each by how many stand in front of it.
use Rattle.std.specs.Prelude.{◌≡◌, ℕ, Bool, List, length, take, slice_get, Option, Some, None, if◌then◌else◌}
use Rattle.std.specs.List.{filter}
use Rattle.jresolution.specs.declared.jprogram.part.CodePart.{CodePart}
use Rattle.jresolution.specs.jprogram.ClassFileParts.{is_interface}
use Rattle.jresolution.specs.jprogram.NameSlots.{held}

abbrev pub is_face : CodePart → Bool
is_face part = is_interface part.class.flags

-- how many interfaces stand in front of a place
abbrev pub faces_before : List CodePart → ℕ → ℕ
faces_before parts i = length (filter is_face (take i parts))

-- a number for what is an interface
abbrev pub number_if : Bool → ℕ → Option ℕ
number_if face n = if face then Some n else None

abbrev pub number_of_part : ℕ → Option CodePart → Option ℕ
number_of_part n None = None
number_of_part n (Some part) = number_if (is_face part) n

-- the number of the interface at a place; none where no interface is
abbrev pub face_number : List CodePart → ℕ → Option ℕ
face_number parts i = number_of_part (faces_before parts i) (slice_get parts i)

-- a list has the number of each
abbrev pub AreFaces : List CodePart → List (Option ℕ) → Type 0
AreFaces parts numbers = (i : ℕ) → held (slice_get numbers i) ≡ face_number parts i
