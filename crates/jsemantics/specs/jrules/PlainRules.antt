-- The plain machine's rules: what is kept is a context, which each method is given, and frames carry nothing (Wallach, Appel and Felten, 2000).
use Rattle.std.specs.Prelude.{ℕ, Bool, List, [], Some, unwrap_or}
use Rattle.jperm.specs.declared.permission.Permission.{Permission}
use Rattle.jlib.specs.declared.side.Side.TheVariants.{Passing}
use Rattle.jctx.specs.declared.item.Item.{Item}
use Rattle.jctx.specs.Contexts.{enter, privileged, verdict}
use Rattle.jsemantics.specs.jmachine.Security.{Rules}

-- A call that was given no context is under one that restricts nothing.
unfoldable pub rules : (ℕ → Permission → Bool) → Rules (List Item) (Unit {0})
rules has = record {
  side = Passing;
  entry_of = λ d. tt;
  first = Some [];
  enter = enter;
  check = λ asked ctx entries below. verdict has asked (unwrap_or ctx []);
  check_kept = λ asked c. verdict has asked c;
  snapshot = λ ctx entries below. unwrap_or ctx [];
  inherit = λ ctx entries below. unwrap_or ctx [];
  privileged = λ d ctx given limits entries. record { caller = tt; context = Some (privileged (unwrap_or d 0) given limits (unwrap_or ctx [])) };
}
