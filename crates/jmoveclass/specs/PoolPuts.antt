-- What is put into a pool item by item, and what a call that puts something into a pool did.
use Rattle.std.specs.Prelude.{◌≡◌, List, [], ◌∷◌, ◌++◌, Result, Ok, Err}
use Rattle.jparts.specs.declared.jpool.entry.Entry.{Entry}
use Rattle.jmove.specs.declared.method.MoveError.{MoveError}
use Rattle.jmove.specs.PoolAdditions.{Adding, Refused, giving, ◌>>◌}

-- for each item of a list what is put for it, in their order; what each gives is joined
unfoldable pub with_each : {T A : Type 0} → (T → Adding (List A)) → List T → Adding (List A)
with_each f [] = giving []
with_each f (t ∷ ts) = f t >> λ some. with_each f ts >> λ others. giving (some ++ others)

-- It put what it was to put; or no memory was left, or a pool has no room for all that was to be put.
abbrev pub Puts : {A X : Type 0} → (X → A) → Adding A → Result X MoveError → List Entry → List Entry → Type 0
Puts view f (Ok x) old new = f old ≡ (view x, new)
Puts view f (Err e) old new = Refused e (f old).1
