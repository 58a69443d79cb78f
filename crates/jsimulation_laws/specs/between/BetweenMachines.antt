-- Two machines that stand between the inspecting one and the plain one. Both keep contexts, and their frames carry a domain and a mark. The
-- one runs programs as they were written, and decides by the context of what its frames carry. The other runs moved programs by the contexts
-- that it is handed, and never looks at its frames. So they differ in the programs that they run, and in where they have contexts from; in
-- what they keep and carry they don't.
use Rattle.std.specs.Prelude.{ℕ, Bool, List, [], ◌∷◌, Option, Some, None, unwrap_or}
use Rattle.jperm.specs.declared.permission.Permission.{Permission}
use Rattle.jdomain.specs.DomainStacks as stacks
use Rattle.jlib.specs.declared.side.Side.TheVariants.{Source, Passing}
use Rattle.jctx.specs.declared.item.Item.{Item}
use Rattle.jctx.specs.Contexts.{along_given, enter, privileged, verdict}
use Rattle.jsemantics.specs.jmachine.Security.{Rules}
use Rattle.jsemantics.specs.jrules.InspectingRules.{Carried}

-- ---- what frames carry

-- a mark, with the context that its privilege was given, and with limits
pub data Mark : Type 0 where
  Unmarked : Mark
  Privileged : Option (List Item) → Option (List Permission) → Mark

-- the domain of the frame's method, and its mark
pub record Noted : Type 0 where
  pub domain : ℕ
  pub mark : Mark

abbrev pub noted : ℕ → Mark → Noted
noted d mark = record { domain = d; mark = mark }

abbrev pub unmarked : ℕ → Noted
unmarked d = noted d Unmarked

-- the frame that calls, marked
abbrev pub marked : Mark → List Noted → Noted
marked mark [] = noted 0 mark
marked mark (e ∷ entries) = noted e.domain mark

-- the same with contexts in place of stacks
abbrev pub mark_along : stacks.Mark → Mark
mark_along stacks.Unmarked = Unmarked
mark_along (stacks.Privileged given limits) = Privileged (along_given given) limits

-- what the inspecting machine's frames carry, with contexts in place of stacks
abbrev pub noted_along : Carried → Noted
noted_along e = noted e.domain (mark_along e.mark)

-- ---- the context of what frames carry

-- of an entry over that of the older ones
abbrev pub within_mark : ℕ → Mark → List Item → List Item
within_mark d Unmarked c = enter c d
within_mark d (Privileged given limits) c = privileged d given limits c

-- of a thread's frames, the newest first, over what it inherited
abbrev pub context_of : List Noted → Option (List Item) → List Item
context_of [] inherited = unwrap_or inherited []
context_of (e ∷ entries) inherited = within_mark e.domain e.mark (context_of entries inherited)

-- ---- the rules

-- of programs as they were written, by what their frames carry; a call hands over no context
unfoldable pub sourced : (ℕ → Permission → Bool) → Rules (List Item) Noted
sourced has = record {
  side = Source;
  entry_of = unmarked;
  first = None;
  enter = λ c d. c;
  check = λ asked ctx entries inherited. verdict has asked (context_of entries inherited);
  check_kept = λ asked c. verdict has asked c;
  snapshot = λ ctx entries inherited. context_of entries inherited;
  inherit = λ ctx entries inherited. context_of entries inherited;
  privileged = λ d ctx given limits entries. record { caller = marked (Privileged given limits) entries; context = None };
}

-- of moved programs, by what they are handed
unfoldable pub shadowed : (ℕ → Permission → Bool) → Rules (List Item) Noted
shadowed has = record {
  side = Passing;
  entry_of = unmarked;
  first = Some [];
  enter = enter;
  check = λ asked ctx entries inherited. verdict has asked (unwrap_or ctx []);
  check_kept = λ asked c. verdict has asked c;
  snapshot = λ ctx entries inherited. unwrap_or ctx [];
  inherit = λ ctx entries inherited. unwrap_or ctx [];
  privileged = λ d ctx given limits entries. record {
    caller = marked (Privileged given limits) entries;
    context =
        Some (privileged (unwrap_or d 0) given limits (unwrap_or ctx []));
  };
}
