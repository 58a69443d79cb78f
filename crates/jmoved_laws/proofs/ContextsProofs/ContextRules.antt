-- The plain machine's rules of contexts that are kept and have domains of some alone.
use Rattle.std.proofs.Common.{◌≡◌, ℕ, Bool, true, false, List, [], ◌∷◌, ◌++◌, map, Option, Some, None, option_map, refl, ap}
use Rattle.std.specs.Prelude.{◌==◌, unwrap_or}
use Rattle.std.specs.List.{AllByRecursion, list_any}
use Rattle.jperm.specs.declared.permission.Permission.{Permission}
use Rattle.jlib.specs.declared.side.Side.TheVariants.{Passing}
use Rattle.jresolution.proofs.JprogramProofs.NameReachability.{clash}
use Rattle.jctx.specs.declared.item.Item.{Item}
use Rattle.jctx.specs.Contexts.{enter, limited, privileged, verdict}
use Rattle.jctx.specs.ProofNames.{given_items}
use Rattle.jctx.specs.ContextItems.{plain, with_limits}
use Rattle.jctx.proofs.MinimalContexts.{all_kept, keep-keep}
use Rattle.jsemantics.specs.jmachine.AccessQueries.{AgreeAt, Answer, Ask, Checks, ChecksKept, Snapshots, Inherits, Enters, Privileges, Kept, Entered, Allowed}
use Rattle.jsemantics.specs.jmachine.Security.{Rules}
use Rattle.jsemantics.specs.jrules.PlainRules as plainly
use Rattle.jmoved_laws.specs.contexts.ReducedContexts.{Everywhere, Fine}
use Rattle.jmoved_laws.proofs.ContextsProofs.Asks.{AskWell}
use Rattle.jmoved_laws.proofs.ContextsProofs.FrameInvariant.{all_both}

-- ---- how they are made

module _ (ds : List ℕ) where
  abbrev pub Is : ℕ → Type 0
  Is d = list_any (◌==◌ d) ds ≡ true

  abbrev AllIn : List Item → Type 0
  AllIn c = AllByRecursion (λ i. Is i.domain) c

  abbrev pub context_at : Everywhere → List Item
  context_at x = (x ds).context

  abbrev none : Fine ds
  none = record { context = []; kept = refl; within = tt }

  abbrev given_fine : Option Everywhere → Fine ds
  given_fine None = none
  given_fine (Some x) = x ds

  given_in : (given : Option Everywhere) → AllIn (given_items (option_map context_at given))
  given_in None = tt
  given_in (Some x) = (x ds).within

  with_in : (limits : List Permission) (c : List Item) → AllIn c → AllIn (map (with_limits limits) c)
  with_in limits [] h = tt
  with_in limits (i ∷ c) h = (h.0, with_in limits c h.1)

  limited_in : (limits : Option (List Permission)) (c : List Item) → AllIn c → AllIn (limited limits c)
  limited_in None c h = tt
  limited_in (Some limits) c h = with_in limits c h

  -- a call of a method of one of the domains; of another none is made
  pub entered_by : Fine ds → (d : ℕ) (b : Bool) → list_any (◌==◌ d) ds ≡ b → Fine ds
  entered_by x d true is = record {
    context = enter x.context d;
    kept = keep-keep (plain d ∷ x.context);
    within = all_kept Is [] (plain d ∷ x.context) (is, x.within);
  }
  entered_by x d false other = x

  -- and a privilege
  pub allowed_by : (d : ℕ) → Option Everywhere → Option (List Permission) → Fine ds → (b : Bool) → list_any (◌==◌ d) ds ≡ b → Fine ds
  allowed_by d given limits x true is = record {
    context = privileged d (option_map context_at given) limits x.context;
    kept = keep-keep (plain d ∷ given_items (option_map context_at given) ++ limited limits x.context);
    within = all_kept Is [] (plain d ∷ given_items (option_map context_at given) ++ limited limits x.context)
        (is, all_both (λ (i : Item). Is i.domain) (given_items (option_map context_at given)) (limited limits x.context) (given_in given) (limited_in limits x.context x.within));
  }
  allowed_by d given limits x false other = none

  abbrev allowed : Option ℕ → Option Everywhere → Option (List Permission) → Option Everywhere → Fine ds
  allowed None given limits ctx = none
  allowed (Some d) given limits ctx = allowed_by d given limits (given_fine ctx) (list_any (◌==◌ d) ds) refl

-- ---- the rules

-- they decide by the contexts of these domains
abbrev pub fine_rules : List ℕ → (ℕ → Permission → Bool) → Rules Everywhere (Unit {0})
fine_rules ds has = record {
  side = Passing;
  entry_of = λ d. tt;
  first = Some (λ es. none es);
  enter = λ x d es. entered_by es (x es) d (list_any (◌==◌ d) es) refl;
  check = λ asked ctx entries below. verdict has asked (unwrap_or (option_map (context_at ds) ctx) []);
  check_kept = λ asked x. verdict has asked (context_at ds x);
  snapshot = λ ctx entries below es. given_fine es ctx;
  inherit = λ ctx entries below es. given_fine es ctx;
  privileged = λ d ctx given limits entries. record { caller = tt; context = Some (λ es. allowed es d given limits ctx) };
}

abbrev pub same_entry : Unit {0} → Unit {0}
same_entry e = e

-- ---- they answer as the plain machine's

module _ (ds : List ℕ) where
  given_same : (ctx : Option Everywhere) → (given_fine ds ctx).context ≡ unwrap_or (option_map (context_at ds) ctx) []
  given_same None = refl
  given_same (Some x) = refl

  entered_is : (x : Fine ds) (d : ℕ) (b : Bool) (e : list_any (◌==◌ d) ds ≡ b) → Is ds d → (entered_by ds x d b e).context ≡ enter x.context d
  unfolding entered_by
  entered_is x d true e is = refl
  entered_is x d false e is = clash (list_any (◌==◌ d) ds) is e

  allowed_is : (d : ℕ) (given : Option Everywhere) (limits : Option (List Permission)) (ctx : Option Everywhere) (b : Bool) (e : list_any (◌==◌ d) ds ≡ b) → Is ds d
      → (allowed_by ds d given limits (given_fine ds ctx) b e).context ≡ privileged d (option_map (context_at ds) given) limits (unwrap_or (option_map (context_at ds) ctx) [])
  unfolding allowed_by
  allowed_is d given limits ctx true e is = ap (privileged d (option_map (context_at ds) given) limits) (given_same ctx)
  allowed_is d given limits ctx false e is = clash (list_any (◌==◌ d) ds) is e

  abbrev Answers : Type 0
  Answers = Answer (List Item) (Unit {0})

  abbrev kept_as : List Item → Answers
  kept_as c = Kept c

  abbrev entered_as : List Item → Answers
  entered_as c = Entered c

  abbrev allowed_as : List Item → Answers
  allowed_as c = Allowed (record { caller = tt; context = Some c })

  pub agree_at : (has : ℕ → Permission → Bool) (es : List (Unit {0})) (inherited : Option Everywhere) (ask : Ask Everywhere) → AskWell {K = Everywhere} (Is ds) ask
      → AgreeAt (context_at ds) same_entry (fine_rules ds has) (plainly.rules has) es inherited ask
  unfolding plainly.rules
  agree_at has es inherited (Checks asked ctx) h = refl
  agree_at has es inherited (ChecksKept asked k) h = refl
  agree_at has es inherited (Snapshots ctx) h = ap kept_as (given_same ctx)
  agree_at has es inherited (Inherits ctx) h = ap kept_as (given_same ctx)
  agree_at has es inherited (Enters x d) h = ap entered_as (entered_is (x ds) d (list_any (◌==◌ d) ds) refl h)
  agree_at has es inherited (Privileges None ctx given limits) h = absurd h
  agree_at has es inherited (Privileges (Some d) ctx given limits) h = ap allowed_as (allowed_is d given limits ctx (list_any (◌==◌ d) ds) refl h)
