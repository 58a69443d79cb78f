-- The class files that are read at paths are parts that may be linked.
use Rattle.std.proofs.Common.{◌≡◌, ◌∙◌, ℕ, ◌+◌, ◌<◌, ◌≤◌, ◌&&◌, Bool, true, List, [], ◌∷◌, ◌++◌, get_or, length, map, take, refl, sym, ap, subst, arith, le-leb, lt-ltb}
use Rattle.std.proofs.lemmas.List.{length-map, map-append, take_all, take_more}
use Rattle.jlinking.specs.jlink.LinkedPrograms.{AreParts, domains_rise}
use Rattle.jresolution.specs.declared.jprogram.part.CodePart.{CodePart}
use Rattle.jtasks.specs.declared.jstages.job_setup.ClassPath.{ClassPath}
use Rattle.jtasks.specs.jstages.JobPlans.{ArePaths, Rise, domains_of}

abbrev pub domains_in : List CodePart → List ℕ
domains_in parts = map (λ (p : CodePart). p.domain) parts

true_both : (a b : Bool) → a ≡ true → b ≡ true → (a && b) ≡ true
true_both a b e f = rw (e, f) refl

they_rise : (least : ℕ) (parts : List CodePart) → Rise least (domains_in parts) → domains_rise least parts ≡ true
unfolding domains_rise
they_rise least [] h = refl
they_rise least (part ∷ parts) h = true_both _ _ (le-leb least part.domain h.0) (true_both _ _ (lt-ltb part.domain 4096 h.1.0) (they_rise part.domain parts h.1.1))

are_parts : (classes : List ClassPath) (parts : List CodePart) → domains_in parts ≡ domains_of classes → ArePaths classes → AreParts parts
are_parts classes parts same are =
    let count : length (domains_in parts) ≡ length parts = length-map _ _ in
    let all : length (domains_of classes) ≡ length classes = length-map _ _ in
    let n = ap length same in
    let few = are.few in
    record {
      few = omega (arith, count, all, n, few);
      domains = they_rise 0 parts (subst (Rise 0) (sym same) are.rise);
    }

-- one more is read
pub domains_more : (classes : List ClassPath) (i : ℕ) (one : ClassPath) (old new : List CodePart) (part : CodePart) → i < length classes → one ≡ get_or classes i one
    → part.domain ≡ one.domain → new ≡ old ++ part ∷ [] → domains_in old ≡ domains_of (take i classes) → domains_in new ≡ domains_of (take (i + 1) classes)
domains_more classes i one old new part lt at same grown so_far =
    let next : take (i + 1) classes ≡ take i classes ++ one ∷ [] = take_more classes i one lt ∙ ap (λ (c : ClassPath). take i classes ++ c ∷ []) (sym at) in
    ap domains_in grown ∙ map-append (λ (p : CodePart). p.domain) old (part ∷ []) ∙ ap (λ (ds : List ℕ). ds ++ part.domain ∷ []) so_far
    ∙ ap (λ (d : ℕ). domains_of (take i classes) ++ d ∷ []) same ∙ sym (map-append (λ (c : ClassPath). c.domain) (take i classes) (one ∷ [])) ∙ ap domains_of (sym next)

-- all are read
pub read_parts : (classes : List ClassPath) (i : ℕ) (parts : List CodePart) → length classes ≤ i → domains_in parts ≡ domains_of (take i classes) → ArePaths classes → AreParts parts
read_parts classes i parts end same are = are_parts classes parts (same ∙ ap domains_of (take_all i classes end)) are
