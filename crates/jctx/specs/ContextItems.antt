-- The items of a security context: each a domain that is asked, and the limits under which it is.
use Rattle.std.specs.Prelude.{ℕ, Bool, not, ◌&&◌, ◌==◌, List, []}
use Rattle.jperm.specs.declared.permission.Permission.{Permission}
use Rattle.jdomain.specs.DomainStacks.{some_implies}
use Rattle.jctx.specs.declared.item.Item.{Item}
use Rattle.jctx.specs.PrivilegeLimits.{is_within, add_limits}

-- whether the item's domain lacks the permission and none of its limits implies it
abbrev pub fails : (ℕ → Permission → Bool) → Permission → Item → Bool
fails has asked i = not (has i.domain asked) && not (some_implies i.limits asked)

-- whether an item covers another: it has the other's domain, and each of its limits is one of the other's
abbrev pub covers : Item → Item → Bool
covers earlier i = (earlier.domain == i.domain) && is_within earlier.limits i.limits

-- the item of a domain without limits
abbrev pub plain : ℕ → Item
plain d = record { limits = []; domain = d }

-- the item with limits added
abbrev pub with_limits : List Permission → Item → Item
with_limits new i = record { limits = add_limits i.limits new; domain = i.domain }
