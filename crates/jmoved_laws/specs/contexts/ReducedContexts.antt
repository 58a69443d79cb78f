-- Contexts of which it is known that no item is covered by an earlier one, and that their domains are some alone.
use Rattle.std.specs.Prelude.{◌≡◌, ◌==◌, ℕ, true, List}
use Rattle.std.specs.List.{AllByRecursion, list_any}
use Rattle.jctx.specs.declared.item.Item.{Item}
use Rattle.jctx.specs.ContextLaws.{IsKept}

pub record Fine (ds : List ℕ) : Type 0 where
  pub context : List Item
  pub kept : IsKept context
  pub within : AllByRecursion (λ i. list_any (◌==◌ i.domain) ds ≡ true) context

-- one for each list of domains, so that a machine may keep them whatever the domains are
abbrev pub Everywhere : Type 0
Everywhere = (ds : List ℕ) → Fine ds
