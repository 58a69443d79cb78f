-- Names by which proofs and the contracts of inner functions call what the definitions say in place. What `javasec` and `dispatch` promise
-- reaches none of them.
use Rattle.std.specs.Prelude.{[], Option, List, unwrap_or}
use Rattle.jctx.specs.declared.item.Item.{Item}

-- ---- of Contexts

-- the items of a given context
abbrev pub given_items : Option (List Item) → List Item
given_items c = unwrap_or c []
