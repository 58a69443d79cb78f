-- What calls of doPrivileged want.
use Rattle.std.proofs.Common.{◌≡◌, ◌∙◌, ℕ, zero, suc, List, Option, Some, None, refl, sym, ap, subst}
use Rattle.std.specs.Prelude.{ℤ, IfOk, Ok, Err, Result, option_and_then, option_map}
use Rattle.jperm.specs.declared.permission.Permission as perms
use Rattle.jmemory.specs.jheap.Heaps.{Heaped}
use Rattle.jlib.specs.declared.side.Side.{Side}
use Rattle.jvalues.specs.declared.jops.value.Value.{Value}
use Rattle.jvalues.specs.declared.jops.value.Value.TheVariants.{Int, Long, Ref, Ctx}
use Rattle.jresolution.specs.jprogram.ProgramClasses.{Program}
use Rattle.jsemantics.specs.jmachine.CallTargets.{by_interface}
use Rattle.jsemantics.specs.jmachine.HeapObjects.{Object}
use Rattle.jsemantics.specs.jmachine.AccessQueries.{privileges, privileges_by}
use Rattle.jsemantics.specs.jmachine.PrivilegeActions.{acting, acting_on, given, limited_by, limits, privilege, run_action}
use Rattle.jsemantics.specs.jmachine.Security.{Privilege}
use Rattle.jsemantics.specs.jmachine.InstructionSites.{Site}
use Rattle.jsemantics.specs.jmachine.Store.{Store, object_at}
use Rattle.jruntime.specs.declared.jstate.shapes.Shapes.{Shapes}
use Rattle.jruntime.specs.jstate.HeapMeanings.{Things, store_by}
use Rattle.jlibcalls.specs.declared.jcontexts.requests.PrivilegedForm.{PrivilegedForm}
use Rattle.jlibcalls.specs.declared.jcontexts.requests.Request.{Request}
use Rattle.jlibcalls.specs.declared.jcontexts.requests.Besides.TheVariants as besides
use Rattle.jlibcalls.specs.declared.jcontexts.wanting.Privileging.{Privileging}
use Rattle.jlibcalls.specs.declared.jcontexts.wanting.Privileging.TheVariants as found
use Rattle.jlibcalls.specs.jcontexts.LimitPermissions.{Limits}
use Rattle.jlibcalls.specs.jcontexts.PrivilegeCalls.{FindsBy, WantsAction, WantsBy, WantsRequest, WantsWithin, asks_with, request_asks, request_row, row_with}
use Rattle.jlibcalls.specs.jcontexts.PrivilegeRequests.{requested}
use Rattle.jlibcalls.proofs.JcontextsProofs.PrivilegedArguments.{is_requested}

-- ---- the action

module _ (E : Type 0) (domain ctx context : Option ℕ) (limited : Option (List perms.Permission)) where
  pub null_action : (o : ℕ) → o ≡ 0 → (s : Store ℕ) → WantsAction E s domain ctx limited (Ref o) context found.Null
  null_action zero is s = record { row = λ r at entries. refl; asked = λ side at. refl }
  null_action (suc n) is s = cc

  pub int_action : (n : ℤ) (s : Store ℕ) → WantsAction E s domain ctx limited (Int n) context found.Stuck
  int_action n s = record { row = λ r at entries. refl; asked = λ side at. refl }

  pub long_action : (n : ℤ) (s : Store ℕ) → WantsAction E s domain ctx limited (Long n) context found.Stuck
  long_action n s = record { row = λ r at entries. refl; asked = λ side at. refl }

  pub ctx_action : (k : ℕ) (s : Store ℕ) → WantsAction E s domain ctx limited (Ctx k) context found.Stuck
  ctx_action k s = record { row = λ r at entries. refl; asked = λ side at. refl }

  acts_on : (at : Site) (side : Side) (n : ℕ) (p : Privilege ℕ E) (x : Option (Object ℕ))
      → acting_on at side n p x ≡ option_and_then (acting n p) (option_map (by_interface at.world at.full (run_action side)) x)
  acts_on at side n p None = refl
  acts_on at side n p (Some x) = refl

  pub some_action : (o : ℕ) → (o ≡ 0 → ⊥) → (s : Store ℕ)
      → WantsAction E s domain ctx limited (Ref o) context (found.Asks (record { domain = domain; ctx = ctx; given = context; limits = limited; action = o }))
  some_action zero some s = absurd (some refl)
  some_action (suc n) some s = record {
    row = λ r at entries. acts_on at r.side (suc n) (r.privileged domain ctx context limited entries) (object_at s (suc n));
    asked = λ side at. refl;
  }

-- ---- the context

module _ (E : Type 0) (h : Heaped) (kept : List ℕ) (domain ctx : Option ℕ) (limited : Option (List perms.Permission)) (context v : Value ℕ) where
  -- what the operand is
  abbrev pub GivenAs : Option (Option ℕ) → Type 0
  GivenAs g = (p : Program) (shapes : Shapes) (things : Things) (constants : List (List ℕ × ℕ)) → things.kept ≡ kept → g ≡ given (store_by p shapes things constants h) context

  abbrev pub WithinAs : Privileging → Type 0
  WithinAs w = (p : Program) (shapes : Shapes) (things : Things) (constants : List (List ℕ × ℕ)) → things.kept ≡ kept
      → WantsWithin E (store_by p shapes things constants h) domain ctx limited context v w

  pub no_context : GivenAs None → WithinAs found.Stuck
  no_context is p shapes things constants are = let s = store_by p shapes things constants h in let none : given s context ≡ None = sym (is p shapes things constants are) in
      record {
        row = λ r at entries. ap (option_and_then (privilege r at s entries domain ctx limited v)) none;
        asked = λ side at. ap (option_and_then (privileges side at s domain ctx limited v)) none;
      }

  pub some_context : (g : Option ℕ) (w : Privileging) → GivenAs (Some g) → ((s : Store ℕ) → WantsAction E s domain ctx limited v g w) → WithinAs w
  some_context g w is wants p shapes things constants are =
      let s = store_by p shapes things constants h in let some : given s context ≡ Some g = sym (is p shapes things constants are) in
      record {
        row = λ r at entries. ap (option_and_then (privilege r at s entries domain ctx limited v)) some ∙ (wants s).row r at entries;
        asked = λ side at. ap (option_and_then (privileges side at s domain ctx limited v)) some ∙ (wants s).asked side at;
      }

-- ---- the limits

module _ (E : Type 0) (h : Heaped) (kept : List ℕ) (domain ctx : Option ℕ) (context v : Value ℕ) where
  abbrev pub ByAs : Option (Option (List perms.Permission)) → Privileging → Type 0
  ByAs limited w = (p : Program) (shapes : Shapes) (things : Things) (constants : List (List ℕ × ℕ)) → things.kept ≡ kept
      → WantsBy E (store_by p shapes things constants h) domain ctx limited context v w

  pub no_limits : ByAs None found.Stuck
  no_limits p shapes things constants are = record { row = λ r at entries. refl; asked = λ side at. refl }

  pub null_limits : ByAs (Some None) found.Null
  null_limits p shapes things constants are = record { row = λ r at entries. refl; asked = λ side at. refl }

  pub some_limits : (ps : List perms.Permission) (w : Privileging) → WithinAs E h kept domain ctx (Some ps) context v w → ByAs (Some (Some ps)) w
  some_limits ps w wants p shapes things constants are =
      let x = wants p shapes things constants are in record { row = λ r at entries. x.row r at entries; asked = λ side at. x.asked side at }

  pub limits_at : (ps : List perms.Permission) (limited : Option (Option (List perms.Permission))) (w : Privileging) → limited ≡ Some (Some ps)
      → WithinAs E h kept domain ctx (Some ps) context v w → ByAs limited w
  limits_at ps limited w is wants = subst (λ l. ByAs l w) (sym is) (some_limits ps w wants)

-- ---- requests

module _ (E : Type 0) (permissions : List perms.Permission) (kept : List ℕ) (shapes : Shapes) (h : Heaped) where
  abbrev pub RequestAs : Request → Privileging → Type 0
  RequestAs q w = (p : Program) (things : Things) (constants : List (List ℕ × ℕ)) → things.permissions ≡ permissions → things.kept ≡ kept
      → WantsRequest E (store_by p shapes things constants h) q w

  pub alone_wants : (q : Request) (w : Privileging) → q.besides ≡ besides.Nothing
      → ((s : Store ℕ) → WantsAction E s q.domain None None q.action None w) → RequestAs q w
  alone_wants q w is wants p things constants held are =
      let s = store_by p shapes things constants h in
      record {
        row = λ r at entries. ap (row_with r at s entries q.domain q.action) is ∙ (wants s).row r at entries;
        asked = λ side at. ap (asks_with side at s q.domain q.action) is ∙ (wants s).asked side at;
      }

  pub within_wants : (q : Request) (context : Value ℕ) (w : Privileging) → q.besides ≡ besides.Context context
      → WithinAs E h kept q.domain None None context q.action w → RequestAs q w
  within_wants q context w is wants p things constants held are =
      let s = store_by p shapes things constants h in let x = wants p shapes things constants are in
      record {
        row = λ r at entries. ap (row_with r at s entries q.domain q.action) is ∙ x.row r at entries;
        asked = λ side at. ap (asks_with side at s q.domain q.action) is ∙ x.asked side at;
      }

  pub limited_wants : (q : Request) (ctx : Option ℕ) (array context : Value ℕ) (limited : Option (Option (List perms.Permission))) (w : Privileging)
      → q.besides ≡ besides.Limits ctx array context → Limits permissions shapes h array limited
      → ByAs E h kept q.domain ctx context q.action limited w → RequestAs q w
  limited_wants q ctx array context limited w is found_so wants p things constants held are =
      let s = store_by p shapes things constants h in let x = wants p shapes things constants are in
      let so : limits s array ≡ limited = found_so p things constants held in
      record {
        row = λ r at entries. ap (row_with r at s entries q.domain q.action) is
            ∙ ap (option_and_then (limited_by r at s entries q.domain ctx context q.action)) so ∙ x.row r at entries;
        asked = λ side at. ap (asks_with side at s q.domain q.action) is
            ∙ ap (option_and_then (privileges_by side at s q.domain ctx context q.action)) so ∙ x.asked side at;
      }

  -- ---- calls

  module _ (side : Side) (form : PrivilegedForm) (values : List (Value ℕ)) where
    pub nothing_found : None ≡ requested side form values → FindsBy E side form permissions kept shapes h values found.Stuck
    nothing_found is p things constants held are =
        let s = store_by p shapes things constants h in let x = is_requested E s side form values in
        record {
          row = λ r at own entries inherited. x.0 r at own entries inherited ∙ ap (option_and_then (request_row r at s entries)) (sym is);
          asked = λ other at. x.1 other at ∙ ap (option_and_then (request_asks other at s)) (sym is);
        }

    found_one : (q : Request) (w : Privileging) → Some q ≡ requested side form values → RequestAs q w → FindsBy E side form permissions kept shapes h values w
    found_one q w is wants p things constants held are =
        let s = store_by p shapes things constants h in let x = is_requested E s side form values in let y = wants p things constants held are in
        record {
          row = λ r at own entries inherited. x.0 r at own entries inherited ∙ ap (option_and_then (request_row r at s entries)) (sym is) ∙ y.row r at entries;
          asked = λ other at. x.1 other at ∙ ap (option_and_then (request_asks other at s)) (sym is) ∙ y.asked other at;
        }

    pub found_so : {F : Type 0} (q : Request) (result : Result Privileging F) → Some q ≡ requested side form values → IfOk result (λ w. RequestAs q w)
        → IfOk result (λ w. FindsBy E side form permissions kept shapes h values w)
    found_so q (Ok w) is wants = found_one q w is wants
    found_so q (Err e) is wants = tt

-- What is given with an action, by its kind.
pub ruleset actions = (int_action, long_action, ctx_action, null_action, some_action)
