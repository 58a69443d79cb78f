-- A function on each item of a list.
use Rattle.std.specs.Prelude.{List, [], ◌∷◌, Option, Some, None, Result, Ok}
use Rattle.jground.specs.jbase.MemoryFailures.{◌>>=◌}

-- the values of all items, or the fault of the first item that has one
unfoldable pub each : {A B F : Type 0} → (A → Result B F) → List A → Result (List B) F
each f [] = Ok []
each f (x ∷ xs) = f x >>= λ y. each f xs >>= λ ys. Ok (y ∷ ys)

abbrev pub put_front : {B : Type 0} → Option B → Option (List B) → Option (List B)
put_front (Some y) (Some ys) = Some (y ∷ ys)
put_front _ _ = None

-- the values of all items, where each has one
unfoldable pub each_some : {A B : Type 0} → (A → Option B) → List A → Option (List B)
each_some f [] = Some []
each_some f (x ∷ xs) = put_front (f x) (each_some f xs)
