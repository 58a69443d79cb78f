-- Texts that are put one behind the other.
use Rattle.std.proofs.Common.{◌≡◌, ℕ, suc, ◌+◌, ◌-◌, ◌≤◌, ◌<◌, ◌^◌, List, ◌++◌, length, get_or, drop, Result, Ok, Err, sym, ap, ◌∙◌, arith, append_assoc, append-nil}
use Rattle.std.specs.Prelude.{OnOk, decimal}
use Rattle.std.proofs.lemmas.Fmt.{length-decimal-le}
use Rattle.std.proofs.lemmas.List.{drop_all, drop_more}
use Rattle.jgen.specs.declared.draws.Kind.{Kind}
use Rattle.jgen.specs.GeneratedClasses.{name}
use Rattle.jgen.specs.GeneratedFiles.{grants, source, sources}
use Rattle.jgen.specs.ProofNames.{granted}

pub more : (out mid new done next : List ℕ) → mid ≡ out ++ done → new ≡ mid ++ next → new ≡ out ++ (done ++ next)
more out mid new done next first second = second ∙ ap (λ (l : List ℕ). l ++ next) first ∙ append_assoc out done next

pub then_more : {T E : Type 0} (out mid new done next : List ℕ) (r : Result T E) → mid ≡ out ++ done → OnOk r (new ≡ mid ++ next) → OnOk r (new ≡ out ++ (done ++ next))
then_more out mid new done next (Ok x) first second = more out mid new done next first second
then_more out mid new done next (Err e) first second = tt

pub name_short : (i : ℕ) → i < 2 ^ 32 → length (name i) ≤ 0xff
name_short i small = omega (arith, length-decimal-le 10 i (omega arith) (omega (arith, small)) (omega (arith, small)))

-- ---- lines

sources_step : (i size : ℕ) → i < size → sources i (size - i) ≡ source i ++ sources (i + 1) (size - (i + 1))
unfolding sources
sources_step i size h = let e : size - i ≡ suc (size - (i + 1)) = omega (arith, h) in ap (sources i) e

pub sources_next : (i size : ℕ) (old new all : List ℕ) → i < size → new ≡ old ++ source i → old ++ sources i (size - i) ≡ all → new ++ sources (i + 1) (size - (i + 1)) ≡ all
sources_next i size old new all h put so_far =
    let rest = sources (i + 1) (size - (i + 1)) in
    ap (λ (l : List ℕ). l ++ rest) put ∙ append_assoc old (source i) rest ∙ sym (ap (λ (l : List ℕ). old ++ l) (sources_step i size h)) ∙ so_far

pub sources_end : (i size : ℕ) (found all : List ℕ) → size ≤ i → found ++ sources i (size - i) ≡ all → found ≡ all
unfolding sources
sources_end i size found all h so_far =
    let e : size - i ≡ 0 = omega (arith, h) in
    sym (append-nil found) ∙ sym (ap (λ (n : ℕ). found ++ sources i n) e) ∙ so_far

grants_step : (ks : List Kind) (i : ℕ) (k : Kind) → i < length ks → grants i (drop i ks) ≡ granted (get_or ks i k) i ++ grants (i + 1) (drop (i + 1) ks)
unfolding grants
grants_step ks i k h = ap (grants i) (drop_more ks i k h)

pub grants_next : (ks : List Kind) (i : ℕ) (k : Kind) (old new all : List ℕ) → i < length ks → new ≡ old ++ granted (get_or ks i k) i → old ++ grants i (drop i ks) ≡ all
    → new ++ grants (i + 1) (drop (i + 1) ks) ≡ all
grants_next ks i k old new all h put so_far =
    let rest = grants (i + 1) (drop (i + 1) ks) in
    ap (λ (l : List ℕ). l ++ rest) put ∙ append_assoc old (granted (get_or ks i k) i) rest ∙ sym (ap (λ (l : List ℕ). old ++ l) (grants_step ks i k h)) ∙ so_far

pub grants_end : (ks : List Kind) (i : ℕ) (found all : List ℕ) → length ks ≤ i → found ++ grants i (drop i ks) ≡ all → found ≡ all
unfolding grants
grants_end ks i found all h so_far = sym (append-nil found) ∙ sym (ap (λ (l : List Kind). found ++ grants i l) (drop_all i ks h)) ∙ so_far
