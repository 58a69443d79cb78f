-- Security contexts as lists of items, in place of stacks (Wallach, Appel and Felten, 2000): what they decide, and how one is made
-- where a method is called and where a privilege is taken.
use Rattle.std.specs.Prelude.{ℕ, Bool, List, [], ◌∷◌, ◌++◌, Option, Some, None, map, if◌then◌else◌, unwrap_or}
use Rattle.std.specs.List.{list_any}
use Rattle.jperm.specs.declared.permission.Permission.{Permission}
use Rattle.jdomain.specs.declared.verdict.Verdict.{Verdict}
use Rattle.jdomain.specs.declared.verdict.Verdict.TheVariants.{Granted, Denied}
use Rattle.jdomain.specs.DomainStacks.{Stack, Bottom, Entry, Mark, Unmarked, Privileged, Given, Nothing, Within}
use Rattle.jctx.specs.declared.item.Item.{Item}
use Rattle.jctx.specs.ContextItems.{fails, covers, plain, with_limits}

-- denied by the domain of the first item that fails, else granted
abbrev pub verdict : (ℕ → Permission → Bool) → Permission → List Item → Verdict
verdict has asked [] = Granted
verdict has asked (i ∷ c) = if fails has asked i then Denied i.domain else verdict has asked c

-- the items that have none before them, among the earlier ones or here, that covers them
abbrev pub keep_after : List Item → List Item → List Item
keep_after earlier [] = []
keep_after earlier (i ∷ c) = if list_any (λ e. covers e i) earlier then keep_after (i ∷ earlier) c else i ∷ keep_after (i ∷ earlier) c

-- the items of a context that no earlier item covers
abbrev pub keep : List Item → List Item
keep c = keep_after [] c

-- the context of a method of a domain that is called in a context
abbrev pub enter : List Item → ℕ → List Item
enter c d = keep (plain d ∷ c)

-- what a privilege takes over of the context behind it: nothing, or each item with the limits added
abbrev pub limited : Option (List Permission) → List Item → List Item
limited x c = elim x [ None ↦ [] | Some limits ↦ map (with_limits limits) c ]

-- the context of a privilege that a method of a domain takes in a context
abbrev pub privileged : ℕ → Option (List Item) → Option (List Permission) → List Item → List Item
privileged d given limits c = keep (plain d ∷ unwrap_or given [] ++ limited limits c)

-- ---- the context of a stack

abbrev mutual
  pub along : Stack → List Item
  along Bottom = []
  along (Entry d mark older) = along_mark d mark (along older)

  -- the context of an entry over that of the older ones
  pub along_mark : ℕ → Mark → List Item → List Item
  along_mark d Unmarked c = enter c d
  along_mark d (Privileged given limits) c = privileged d (along_given given) limits c

  pub along_given : Given → Option (List Item)
  along_given Nothing = None
  along_given (Within stack) = Some (along stack)
