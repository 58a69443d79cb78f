-- What a memo remembers: places, each with nothing or with a key and its answer.
use Rattle.std.specs.Prelude.{◌≡◌, ◌%◌, ℕ, List, Option, Some, None, slice_get, ⊤}
use Rattle.std.specs.List.{All}

-- The key's place holds the key with this answer.
abbrev pub Holds : {K V : Type 0} → (K → ℕ) → List (Option (K × V)) → K → V → Type 0
Holds numbered places k v = slice_get places (numbered k % 4096) ≡ Some (Some (k, v))

-- A place holds nothing, or a key with the function's answer.
abbrev pub IsRight : {K V : Type 0} → (K → V) → Option (K × V) → Type 0
IsRight f None = ⊤
IsRight f (Some (k, v)) = v ≡ f k

-- What is remembered are answers of the function.
unfoldable pub Remembers : {K V : Type 0} → (K → V) → List (Option (K × V)) → Type 0
Remembers f places = All (IsRight f) places
