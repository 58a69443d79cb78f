-- Locals of frames as chains that share their first locals, types by number.
use Rattle.std.specs.Prelude.{◌≡◌, ℕ, suc, ◌≤◌, ◌<◌, ◌==◌, Bool, true, List, [], ◌∷◌, length, reverse, Option, is_some, if◌then◌else◌}
use Rattle.std.specs.List.{list_all, list_any}
use Rattle.jresolution.specs.declared.jprogram.part.ClassRef.{ClassRef}
use Rattle.jresolution.specs.declared.juses.types.TypeRef.{TypeRef}
use Rattle.jresolution.specs.declared.juses.types.TypeRef.TheVariants as refs
use Rattle.jtyping.specs.jrule.OperandSlots.{slot_count}
use Rattle.jtyping.specs.jrule.TypeSubstitution.{is_this}
use Rattle.jverify.specs.declared.chains.Node.{Node}

-- What the chain of a node holds, the newest local first. The nodes stand newest first, and the oldest is node 1; node 0 is before the
-- first local.
unfoldable pub chain : List Node → ℕ → List TypeRef
chain [] k = []
chain (n ∷ older) k = if k == suc (length older) then n.kind ∷ chain older n.parent else chain older k

-- the same, the first local first
abbrev pub values : List Node → ℕ → List TypeRef
values nodes k = reverse (chain nodes k)

-- a `new` stands where one is named
abbrev pub is_made : (ℕ → Option ClassRef) → TypeRef → Bool
is_made makes (refs.Uninit o) = is_some (makes o)
is_made makes t = true

abbrev pub all_made : (ℕ → Option ClassRef) → List TypeRef → Bool
all_made makes = list_all (is_made makes)

-- ---- what nodes say

-- A node behind older ones says what its chain is.
pub record IsNode (older : List Node) (n : Node) : Type 0 where
  pub parent : n.parent ≤ length older
  pub places : n.places ≡ slot_count (n.kind ∷ chain older n.parent)
  pub flag : n.flag ≡ list_any is_this (n.kind ∷ chain older n.parent)

abbrev pub AreNodes : List Node → Type 0
AreNodes [] = Unit {0}
AreNodes (n ∷ older) = IsNode older n × AreNodes older

-- Each node says whether the `new`s are there that its chain names.
abbrev pub AreMade : (ℕ → Option ClassRef) → List Node → Type 0
AreMade makes [] = Unit {0}
AreMade makes (n ∷ older) = (n.made ≡ all_made makes (n.kind ∷ chain older n.parent)) × AreMade makes older

-- ---- nodes among others

-- A node is that of a number.
pub record IsLink (nodes : List Node) (k : ℕ) (n : Node) : Type 0 where
  pub parent : n.parent < k
  pub chained : chain nodes k ≡ n.kind ∷ chain nodes n.parent
  pub places : n.places ≡ slot_count (chain nodes k)
  pub flag : n.flag ≡ list_any is_this (chain nodes k)

-- it says whether the `new`s are there
abbrev pub SaysMade : List Node → ℕ → Node → Type 0
SaysMade nodes k n = (makes : ℕ → Option ClassRef) → AreMade makes nodes → n.made ≡ all_made makes (chain nodes k)

-- Nodes came to others, whose chains stay.
pub record Extends (old new : List Node) : Type 0 where
  pub more : length old ≤ length new
  pub same : (k : ℕ) → k ≤ length old → chain new k ≡ chain old k
