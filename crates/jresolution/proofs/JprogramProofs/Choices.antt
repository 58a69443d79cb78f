-- Walks upwards along the methods of a name and a descriptor.
use Rattle.std.proofs.Common.{◌≡◌, ℕ, ◌+◌, ◌-◌, ◌<◌, ◌≤◌, Bool, true, false, cond, List, [], ◌∷◌, Option, Some, None, refl, ap, ◌∙◌}
use Rattle.std.specs.Prelude.{not, option_and_then}
use Rattle.std.specs.List.{cons_option, find, list_any}
use Rattle.jground.specs.jbase.FirstFaults.{first_some, or_else}
use Rattle.jresolution.specs.declared.jprogram.member.Member.{Member}
use Rattle.jresolution.specs.jprogram.ProgramClasses.{Program, above_name, chain, onward}
use Rattle.jresolution.specs.jprogram.MemberResolution.{before, first_taking, is_static, method_at, methods_along, same_method, takes_call}
use Rattle.jresolution.specs.jprogram.OverrideChains.{decide, decided_at, instance_at, is_decided, opens, taking_at}
use Rattle.jresolution.proofs.JprogramProofs.Chains.{chain_at, chain_end}

-- ---- those between

opened_by : (p : Program) (r b : Member) (same shows : Bool) (rest : List Member) (later : Option Bool) → opens p r b ≡ shows → list_any (opens p r) rest ≡ is_decided later
    → list_any (opens p r) (cond same [] (b ∷ rest)) ≡ is_decided (or_else (cond same (Some false) (cond shows (Some true) None)) later)
opened_by p r b true shows rest later e h = refl
opened_by p r b false true rest later e h = rw e refl
opened_by p r b false false rest later e h = rw e h

opened_one : (p : Program) (r : Member) (o : Option Member) (ms : List Member) (later : Option Bool) → list_any (opens p r) (before r ms) ≡ is_decided later
    → list_any (opens p r) (before r (cons_option o ms)) ≡ is_decided (or_else (option_and_then (decide p r) o) later)
unfolding before
opened_one p r None ms later h = h
opened_one p r (Some b) ms later h = opened_by p r b (same_method b r) (opens p r b) (before r ms) later refl h

pub opened_is : (p : Program) (r : Member) (name desc : List ℕ) (names : List (List ℕ)) → list_any (opens p r) (before r (methods_along p name desc names)) ≡ is_decided (first_some (decided_at p r name desc) names)
unfolding before first_some decided_at
opened_is p r name desc [] = refl
opened_is p r name desc (c ∷ cs) = opened_one p r (method_at p name desc c) (methods_along p name desc cs) (first_some (decided_at p r name desc) cs) (opened_is p r name desc cs)

-- ---- the first that takes a call

first_of : (b : Bool) (m : Member) (later : Option Member) → cond b (Some m) later ≡ or_else (cond b (Some m) None) later
first_of true m later = refl
first_of false m later = refl

taking_one : (p : Program) (r : Member) (o : Option Member) (ms : List Member) → first_taking p r (cons_option o ms) ≡ or_else (option_and_then (λ m. cond (takes_call p r m ms) (Some m) None) o) (first_taking p r ms)
unfolding first_taking
taking_one p r None ms = refl
taking_one p r (Some m) ms = first_of (takes_call p r m ms) m (first_taking p r ms)

pub taking_here : (p : Program) (r : Member) (name desc : List ℕ) (n i : ℕ) (c : List ℕ) → i < n
    → first_taking p r (methods_along p name desc (chain p (n - i) c)) ≡ or_else (taking_at p r name desc (n - (i + 1)) c) (first_taking p r (methods_along p name desc (onward (chain p (n - (i + 1))) (above_name p c))))
unfolding taking_at
taking_here p r name desc n i c lt =
    ap (λ (cs : List (List ℕ)). first_taking p r (methods_along p name desc cs)) (chain_at p n i c lt)
    ∙ taking_one p r (method_at p name desc c) (methods_along p name desc (onward (chain p (n - (i + 1))) (above_name p c)))

pub taking_end : (p : Program) (r : Member) (name desc : List ℕ) (n i : ℕ) (c : List ℕ) → n ≤ i → first_taking p r (methods_along p name desc (chain p (n - i) c)) ≡ None
unfolding first_taking
taking_end p r name desc n i c le = ap (λ (cs : List (List ℕ)). first_taking p r (methods_along p name desc cs)) (chain_end p n i c le)

-- ---- the first instance method

instance_one : (p : Program) (o : Option Member) (ms : List Member) (later : Option Member) → find (λ m. not (is_static p m)) ms ≡ later
    → find (λ m. not (is_static p m)) (cons_option o ms) ≡ or_else (option_and_then (λ m. cond (not (is_static p m)) (Some m) None) o) later
instance_one p None ms later h = h
instance_one p (Some m) ms later h = ap (λ (o : Option Member). cond (not (is_static p m)) (Some m) o) h ∙ first_of (not (is_static p m)) m later

pub instance_is : (p : Program) (name desc : List ℕ) (names : List (List ℕ)) → find (λ m. not (is_static p m)) (methods_along p name desc names) ≡ first_some (instance_at p name desc) names
unfolding first_some instance_at
instance_is p name desc [] = refl
instance_is p name desc (c ∷ cs) = instance_one p (method_at p name desc c) (methods_along p name desc cs) (first_some (instance_at p name desc) cs) (instance_is p name desc cs)
