-- Overriding along the classes between: of the methods there only those count that are shown beyond their package.
use Rattle.std.proofs.Common.{◌≡◌, ℕ, Bool, true, false, ◌&&◌, ◌||◌, List, [], ◌∷◌, refl, ◌∙◌}
use Rattle.std.specs.Prelude.{not}
use Rattle.std.specs.List.{list_any}
use Rattle.std.specs.Cmp.Lexicographic.{nat_list_eq_equiv}
use Rattle.jresolution.specs.declared.jprogram.member.Member.{Member}
use Rattle.jresolution.specs.declared.jprogram.reach.Reach.{Reach}
use Rattle.jresolution.specs.declared.jprogram.reach.Reach.TheVariants as reach
use Rattle.jresolution.specs.jprogram.ClassFileParts.{package_of, same_package}
use Rattle.jresolution.specs.jprogram.ProgramClasses.{Program}
use Rattle.jresolution.specs.jprogram.MemberResolution.{gives_way, is_private, is_static, overrides, overrides_at_once, owner_of, reach_of}
use Rattle.jresolution.specs.jprogram.OverrideChains.{is_instance, is_package, is_shown, opens, overrides_by}

-- `m` is the method below, `b` the one between and `r` the one above: their reaches and packages
bridge : (rr rb : Reach) (im ib any pm pb pmb : Bool) → (pmb ≡ true → pb ≡ true → pm ≡ true)
    → ((im && (gives_way rr pm || (is_package rr && any))) || (im && gives_way rb pmb && (ib && not (is_private rb) && (gives_way rr pb || (is_package rr && any)))))
    ≡ (im && (gives_way rr pm || (is_package rr && (ib && not (is_private rb) && is_shown rb && pb || any))))
bridge reach.Public rb true ib any pm pb pmb h = refl
bridge reach.Protected rb true ib any pm pb pmb h = refl
bridge reach.Package rb true ib any true pb pmb h = refl
bridge reach.Package reach.Public true true true false true pmb h = refl
bridge reach.Package reach.Public true true true false false pmb h = refl
bridge reach.Package reach.Public true true false false pb pmb h = refl
bridge reach.Package reach.Public true false true false pb pmb h = refl
bridge reach.Package reach.Public true false false false pb pmb h = refl
bridge reach.Package reach.Protected true true true false true pmb h = refl
bridge reach.Package reach.Protected true true true false false pmb h = refl
bridge reach.Package reach.Protected true true false false pb pmb h = refl
bridge reach.Package reach.Protected true false true false pb pmb h = refl
bridge reach.Package reach.Protected true false false false pb pmb h = refl
bridge reach.Package reach.Package true true true false pb pmb h = refl
bridge reach.Package reach.Package true true false false true true h = let no : false ≡ true = h refl refl in absurd cc
bridge reach.Package reach.Package true true false false true false h = refl
bridge reach.Package reach.Package true true false false false true h = refl
bridge reach.Package reach.Package true true false false false false h = refl
bridge reach.Package reach.Package true false true false pb pmb h = refl
bridge reach.Package reach.Package true false false false true true h = refl
bridge reach.Package reach.Package true false false false true false h = refl
bridge reach.Package reach.Package true false false false false true h = refl
bridge reach.Package reach.Package true false false false false false h = refl
bridge reach.Package reach.Private true true true false pb pmb h = refl
bridge reach.Package reach.Private true true false false pb pmb h = refl
bridge reach.Package reach.Private true false true false pb pmb h = refl
bridge reach.Package reach.Private true false false false pb pmb h = refl
bridge reach.Private reach.Public true true any true pb pmb h = refl
bridge reach.Private reach.Public true false any true pb pmb h = refl
bridge reach.Private reach.Protected true true any true pb pmb h = refl
bridge reach.Private reach.Protected true false any true pb pmb h = refl
bridge reach.Private reach.Package true true true true true true h = refl
bridge reach.Private reach.Package true true true true true false h = refl
bridge reach.Private reach.Package true true true true false true h = refl
bridge reach.Private reach.Package true true true true false false h = refl
bridge reach.Private reach.Package true true false true true true h = refl
bridge reach.Private reach.Package true true false true true false h = refl
bridge reach.Private reach.Package true true false true false true h = refl
bridge reach.Private reach.Package true true false true false false h = refl
bridge reach.Private reach.Package true false true true true true h = refl
bridge reach.Private reach.Package true false true true true false h = refl
bridge reach.Private reach.Package true false true true false true h = refl
bridge reach.Private reach.Package true false true true false false h = refl
bridge reach.Private reach.Package true false false true true true h = refl
bridge reach.Private reach.Package true false false true true false h = refl
bridge reach.Private reach.Package true false false true false true h = refl
bridge reach.Private reach.Package true false false true false false h = refl
bridge reach.Private reach.Private true ib any true pb pmb h = refl
bridge reach.Private reach.Public true true any false pb pmb h = refl
bridge reach.Private reach.Public true false any false pb pmb h = refl
bridge reach.Private reach.Protected true true any false pb pmb h = refl
bridge reach.Private reach.Protected true false any false pb pmb h = refl
bridge reach.Private reach.Package true true true false true true h = refl
bridge reach.Private reach.Package true true true false true false h = refl
bridge reach.Private reach.Package true true true false false true h = refl
bridge reach.Private reach.Package true true true false false false h = refl
bridge reach.Private reach.Package true true false false true true h = refl
bridge reach.Private reach.Package true true false false true false h = refl
bridge reach.Private reach.Package true true false false false true h = refl
bridge reach.Private reach.Package true true false false false false h = refl
bridge reach.Private reach.Package true false true false true true h = refl
bridge reach.Private reach.Package true false true false true false h = refl
bridge reach.Private reach.Package true false true false false true h = refl
bridge reach.Private reach.Package true false true false false false h = refl
bridge reach.Private reach.Package true false false false true true h = refl
bridge reach.Private reach.Package true false false false true false h = refl
bridge reach.Private reach.Package true false false false false true h = refl
bridge reach.Private reach.Package true false false false false false h = refl
bridge reach.Private reach.Private true ib any false pb pmb h = refl
bridge rr rb false ib any pm pb pmb h = refl

alone : (rr : Reach) (im pm : Bool) → (im && gives_way rr pm) ≡ (im && (gives_way rr pm || (is_package rr && false)))
alone rr false pm = refl
alone reach.Public true pm = refl
alone reach.Protected true pm = refl
alone reach.Package true true = refl
alone reach.Package true false = refl
alone reach.Private true pm = refl

one_package : (a b c : List ℕ) → same_package a b ≡ true → same_package b c ≡ true → same_package a c ≡ true
one_package a b c ab bc = nat_list_eq_equiv.congr (package_of a) (package_of b) (package_of c) ab ∙ bc

pub overrides_shortly : (p : Program) (m : Member) (between : List Member) (r : Member) → overrides p m between r ≡ overrides_by p m (list_any (opens p r) between) r
unfolding overrides overrides_at_once overrides_by opens
overrides_shortly p m [] r = alone (reach_of p r) (is_instance p m) (same_package (owner_of p m) (owner_of p r))
overrides_shortly p m (b ∷ between) r =
    let any : Bool = list_any (opens p r) between in
    rw (overrides_shortly p m between r, overrides_shortly p b between r)
    (bridge (reach_of p r) (reach_of p b) (is_instance p m) (not (is_static p b)) any (same_package (owner_of p m) (owner_of p r)) (same_package (owner_of p b) (owner_of p r)) (same_package (owner_of p m) (owner_of p b))
    (one_package (owner_of p m) (owner_of p b) (owner_of p r)))
