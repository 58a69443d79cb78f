-- What a search of interfaces goes through (JVMS 5.4.3): a condition under which it ends, and what it keeps.
use Rattle.std.specs.Prelude.{◌≡◌, ℕ, ◌≤◌, Bool, true, false, List, [], ◌∷◌, ◌++◌, length, Option, Some, None, IsTrue, nat_lt, slice_get, slice_set}
use Rattle.std.specs.List.{list_all}
use Rattle.jground.specs.jbase.FirstFaults.{first_some, or_else}
use Rattle.jresolution.specs.declared.jprogram.member.Member.{Member}
use Rattle.jresolution.specs.declared.jprogram.searching.Sort.{Sort}
use Rattle.jresolution.specs.declared.jprogram.searching.Sort.TheVariants as sort
use Rattle.jresolution.specs.jprogram.ProgramClasses.{Program, face_names, known, over, place_of, superinterfaces}
use Rattle.jresolution.specs.jprogram.MemberResolution.{field_at, method_at, resolve_field, resolve_method}
use denote.Ref.{Bor}

-- No class or interface stands among its own interfaces: each name has a height, greater than those of the interfaces that it lists.
pub record IsLayered (p : Program) : Type 0 where
  pub height : List ℕ → ℕ
  pub within : (c : List ℕ) → height c ≤ length (known p)
  pub lower : (c : List ℕ) → IsTrue (list_all (λ d. nat_lt (height d) (height c)) (face_names p c))

-- ---- what is looked for

-- a member of the class of a name
abbrev pub member_at : Program → Sort → List ℕ → List ℕ → List ℕ → Option Member
member_at p sort.Method name desc class = method_at p name desc class
member_at p sort.Field name desc class = field_at p name desc class

-- how it is looked for, with the name of a class
abbrev pub resolve_by : Program → Sort → List ℕ → List ℕ → List ℕ → Option Member
resolve_by p sort.Method = resolve_method p
resolve_by p sort.Field = resolve_field p

-- what a class itself adds to what its interfaces have: of fields its own, as methods are looked for in all classes before
abbrev pub own : Program → Sort → List ℕ → List ℕ → List ℕ → Option Member
own p sort.Method name desc class = None
own p sort.Field name desc class = field_at p name desc class

-- the first in a class, so far, and in its interfaces
unfoldable pub at_and_over : Program → Sort → List ℕ → List ℕ → List ℕ → Option Member
at_and_over p sort name desc class = or_else (own p sort name desc class) (first_some (member_at p sort name desc) (superinterfaces p class))

-- ---- what a search keeps

-- the names that are still to be gone through: the last of the list is the next
abbrev pub waiting_names : List (Bor (List ℕ)) → List (List ℕ)
waiting_names [] = []
waiting_names (x ∷ xs) = waiting_names xs ++ x.now ∷ []

abbrev pub is_marked : Option Bool → Bool
is_marked None = false
is_marked (Some b) = b

abbrev pub is_closed_at : List Bool → Option ℕ → Bool
is_closed_at closed None = false
is_closed_at closed (Some i) = is_marked (slice_get closed i)

-- a user's class of this name was gone through already
abbrev pub is_closed : Program → List Bool → List ℕ → Bool
is_closed p closed name = is_closed_at closed (place_of p.parts name)

abbrev pub closing_at : List Bool → Option ℕ → List Bool
closing_at closed None = closed
closing_at closed (Some i) = slice_set closed i true

-- the marks where it is gone through
abbrev pub closing : Program → List Bool → List ℕ → List Bool
closing p closed name = closing_at closed (place_of p.parts name)

-- what is looked for isn't in an interface that was gone through, nor in those above it
pub record AreClosed (p : Program) (find : List ℕ → Option Member) (closed : List Bool) : Type 0 where
  pub each : length closed ≡ length p.parts
  pub without : (c : List ℕ) → is_closed p closed c ≡ true → first_some find (over p (length (known p)) (c ∷ [])) ≡ None
