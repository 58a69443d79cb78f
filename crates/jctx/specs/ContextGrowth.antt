-- Contexts that grow item by item.
use Rattle.std.specs.Prelude.{Bool, List, [], ◌∷◌, ◌++◌, if◌then◌else◌}
use Rattle.std.specs.List.{list_any}
use Rattle.jctx.specs.declared.item.Item.{Item}
use Rattle.jctx.specs.ContextItems.{covers}

-- whether an item of the context covers the item
abbrev pub hidden : List Item → Item → Bool
hidden c i = list_any (λ e. covers e i) c

-- the context with the item behind, unless it is covered
abbrev pub added : List Item → Item → List Item
added c i = if hidden c i then c else c ++ i ∷ []

-- the context with each of the items added in turn
abbrev pub joined : List Item → List Item → List Item
joined c [] = c
joined c (i ∷ items) = joined (added c i) items
