-- The inspecting machine's rules: what is kept is a stack, and a frame carries its entry (class documentation of AccessController).
use Rattle.std.specs.Prelude.{ℕ, Bool, List, [], ◌∷◌, Option, Some, None, unwrap_or}
use Rattle.jperm.specs.declared.permission.Permission.{Permission}
use Rattle.jdomain.specs.DomainStacks.{Stack, Bottom, Entry, Mark, Unmarked, Privileged, Given, Nothing, Within, walk}
use Rattle.jlib.specs.declared.side.Side.TheVariants.{Source}
use Rattle.jsemantics.specs.jmachine.Security.{Rules}

-- what a frame carries: its method's domain and its mark
pub record Carried : Type 0 where
  pub domain : ℕ
  pub mark : Mark

-- frames on a stack, the newest first
abbrev pub on_stack : List Carried → Stack → Stack
on_stack [] s = s
on_stack (e ∷ entries) s = Entry e.domain e.mark (on_stack entries s)

-- the stack of a thread: its frames, the newest first, and what it inherited below them, which is nothing for the first thread
abbrev pub stack_of : List Carried → Option Stack → Stack
stack_of entries below = on_stack entries (unwrap_or below Bottom)

abbrev pub given_by : Option Stack → Given
given_by = elim [ None ↦ Nothing | Some s ↦ Within s ]

-- the frame that calls, marked
abbrev pub marked : Mark → List Carried → Carried
marked mark = elim [ [] ↦ record { domain = 0; mark = mark } | e ∷ entries ↦ record { domain = e.domain; mark = mark } ]

-- A call hands over no context, so that none is entered.
unfoldable pub rules : (ℕ → Permission → Bool) → Rules Stack Carried
rules has = record {
  side = Source;
  entry_of = λ d. record { domain = d; mark = Unmarked };
  first = None;
  enter = λ s d. s;
  check = λ asked ctx entries below. walk has asked (stack_of entries below);
  check_kept = λ asked s. walk has asked s;
  snapshot = λ ctx entries below. stack_of entries below;
  inherit = λ ctx entries below. stack_of entries below;
  privileged = λ d ctx given limits entries. record { caller = marked (Privileged (given_by given) limits) entries; context = None };
}
