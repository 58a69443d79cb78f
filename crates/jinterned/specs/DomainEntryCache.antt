-- What is remembered of contexts that domains enter.
use Rattle.std.specs.Prelude.{◌≡◌, ℕ, ◌+◌, ◌*◌, ◌%◌, ◌^◌, ◌<◌, List, length, Option, Some, slice_get}
use Rattle.jctx.specs.declared.item.Item.{Item}
use Rattle.jctx.specs.Contexts.{enter}
use Rattle.jinterned.specs.declared.entered.Entered.{Entered}

-- by what number it is looked for
abbrev pub key : ℕ → ℕ → ℕ
key c d = (c * 31 % 2 ^ 64 + d) % 2 ^ 64

-- A number stands for what a domain makes of the context of another that it enters.
abbrev pub IsEntered : List (List Item) → ℕ → ℕ → ℕ → Type 0
IsEntered contexts c d n = (items : List Item) → slice_get contexts c ≡ Some items → slice_get contexts n ≡ Some (enter items d)

-- The context is there, and the number stands for what it becomes.
abbrev pub IsRight : List (List Item) → Entered → ℕ → Type 0
IsRight contexts k n = (k.context < length contexts) × IsEntered contexts k.context k.domain n

-- All that is remembered is right.
abbrev pub AreRight : List (List Item) → List (Option (Entered × ℕ)) → Type 0
AreRight contexts places = (p : ℕ) (k : Entered) (n : ℕ) → slice_get places p ≡ Some (Some (k, n)) → IsRight contexts k n
