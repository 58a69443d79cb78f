-- The parts in which methods are put.
use Rattle.std.specs.Prelude.{ℕ, List, [], ◌∷◌, ◌++◌, codes}
use Rattle.jgen.specs.ClassFileItems.{Item, U1, U2, U4, Text}
use Rattle.jgen.specs.GeneratedClasses.{check_code, frames, handler}

-- what f begins with, up to its check: so many bytes has its attribute, and so many its code
abbrev pub check_part : ℕ → ℕ → List Item
check_part attribute length =
    U2 9 ∷ Text (codes "f") ∷ Text (codes "(I)V") ∷ U2 1 ∷ Text (codes "Code") ∷ U4 attribute ∷ U2 4 ∷ U2 1 ∷ U4 length ∷ check_code

-- what stands behind the code of f
abbrev pub handler_part : ℕ → ℕ → List Item
handler_part at behind = handler at ++ frames behind

-- what main begins with
abbrev pub main_part : ℕ → ℕ → List Item
main_part attribute length =
    U2 9 ∷ Text (codes "main") ∷ Text (codes "([Ljava/lang/String;)V") ∷ U2 1 ∷ Text (codes "Code") ∷ U4 attribute ∷ U2 1 ∷ U2 1 ∷ U4 length ∷ []

-- and what it ends with
abbrev pub main_end : List Item
main_end = U1 0xb1 ∷ U2 0 ∷ U2 0 ∷ []
