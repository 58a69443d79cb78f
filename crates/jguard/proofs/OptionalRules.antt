-- Rules over what may be missing: they answer as the rules do where nothing is.
use Rattle.std.proofs.Common.{◌≡◌, ◌∙◌, ℕ, List, [], ◌∷◌, map, Option, Some, None, option_map, refl, sym, ap}
use Rattle.std.specs.Prelude.{unwrap_or}
use Rattle.jperm.specs.declared.permission.Permission.{Permission}
use Rattle.jdomain.specs.declared.verdict.Verdict.TheVariants.{Granted}
use Rattle.jsemantics.specs.jmachine.StateMaps.{privilege_map}
use Rattle.jsemantics.specs.jmachine.NaturalityLaws.{RulesAgree}
use Rattle.jsemantics.specs.jmachine.Security.{Privilege, Rules}

-- ---- what isn't missing

abbrev flat : {K : Type 0} → Option (Option K) → Option (Option K)
flat None = Some None
flat (Some None) = None
flat (Some (Some k)) = Some (Some k)

abbrev in_front : {E : Type 0} → Option E → Option (List E) → Option (List E)
in_front None rest = None
in_front (Some e) rest = option_map (λ es. e ∷ es) rest

abbrev gathered : {E : Type 0} → List (Option E) → Option (List E)
gathered [] = Some []
gathered (e ∷ es) = in_front e (gathered es)

flat_some : {K : Type 0} (o : Option K) → flat (option_map Some o) ≡ Some o
flat_some None = refl
flat_some (Some k) = refl

gathered_some : {E : Type 0} (es : List E) → gathered (map Some es) ≡ Some es
gathered_some [] = refl
gathered_some (e ∷ es) = ap (option_map (λ xs. e ∷ xs)) (gathered_some es)

abbrev by_all : {A B C T : Type 0} → T → (A → B → C → T) → Option A → Option B → Option C → T
by_all other go None b c = other
by_all other go (Some x) None c = other
by_all other go (Some x) (Some y) None = other
by_all other go (Some x) (Some y) (Some z) = go x y z

all_there : {A B C T : Type 0} (other : T) (go : A → B → C → T) (a : Option A) (b : Option B) (c : Option C) (x : A) (y : B) (z : C)
    → a ≡ Some x → b ≡ Some y → c ≡ Some z → by_all other go a b c ≡ go x y z
all_there other go a b c x y z i j k =
    ap (λ o. by_all other go o b c) i ∙ ap (λ o. by_all other go (Some x) o c) j ∙ ap (λ o. by_all other go (Some x) (Some y) o) k

-- ---- rules

module _ {K E : Type 0} (q : Rules K E) where
  -- of a thread
  abbrev by_thread : {T : Type 0} → T → (Option K → List E → Option K → T) → Option (Option K) → List (Option E) → Option (Option K) → T
  by_thread other go ctx entries below = by_all other go (flat ctx) (gathered entries) (flat below)

  abbrev nothing : Privilege (Option K) (Option E)
  nothing = record { caller = None; context = None }

  abbrev allowed : Option ℕ → Option (List Permission) → Option K → Option K → List E → Privilege (Option K) (Option E)
  allowed d limits ctx given entries = privilege_map Some Some (q.privileged d ctx given limits entries)

  pub lifted : Rules (Option K) (Option E)
  lifted = record {
    side = q.side;
    entry_of = λ d. Some (q.entry_of d);
    first = option_map Some q.first;
    enter = λ k d. option_map (λ k. q.enter k d) k;
    check = λ asked ctx entries below. by_thread Granted (q.check asked) ctx entries below;
    check_kept = λ asked k. unwrap_or (option_map (q.check_kept asked) k) Granted;
    snapshot = λ ctx entries below. by_thread None (λ c es b. Some (q.snapshot c es b)) ctx entries below;
    inherit = λ ctx entries below. by_thread None (λ c es b. Some (q.inherit c es b)) ctx entries below;
    privileged = λ d ctx given limits entries. by_all nothing (allowed d limits) (flat ctx) (flat given) (gathered entries);
  }

  all_so : {T : Type 0} (other : T) (go : Option K → List E → Option K → T) (ctx : Option K) (entries : List E) (below : Option K)
      → go ctx entries below ≡ by_thread other go (option_map Some ctx) (map Some entries) (option_map Some below)
  all_so other go ctx entries below =
      sym (all_there other go (flat (option_map Some ctx)) (gathered (map Some entries)) (flat (option_map Some below)) ctx entries below
      (flat_some ctx) (gathered_some entries) (flat_some below))

  pub agrees : RulesAgree Some Some q lifted
  unfolding lifted
  agrees = record {
    side = refl;
    entries = λ d. refl;
    first = refl;
    check = λ asked ctx entries below. all_so Granted (q.check asked) ctx entries below;
    enter = λ k d. refl;
    check_kept = λ asked k. refl;
    snapshot = λ ctx entries below. all_so None (λ c es b. Some (q.snapshot c es b)) ctx entries below;
    inherit = λ ctx entries below. all_so None (λ c es b. Some (q.inherit c es b)) ctx entries below;
    privileged = λ d ctx given limits entries.
        sym (all_there nothing (allowed d limits) (flat (option_map Some ctx)) (flat (option_map Some given)) (gathered (map Some entries)) ctx given entries
        (flat_some ctx) (flat_some given) (gathered_some entries));
  }
