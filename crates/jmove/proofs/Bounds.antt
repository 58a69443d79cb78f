-- How long moved code can be.
use Rattle.std.proofs.Common.{◌≡◌, ℕ, ◌+◌, ◌*◌, ◌≤◌, List, [], ◌∷◌, refl, ap, ◌∙◌, sym, arith}
use Rattle.jparts.specs.declared.jcode.names.Access.{Access}
use Rattle.jparts.specs.declared.jcode.names.Access.TheVariants.{Load, Store}
use Rattle.jparts.specs.declared.jcode.op.Op.{Op}
use Rattle.jparts.specs.declared.jcode.op.Placed.{Placed}
use Rattle.jparts.specs.jcode.Instructions.{size}
use Rattle.jmove.specs.declared.method.Expand.{Expand}
use Rattle.jmove.specs.declared.method.Expand.TheVariants.{Same, Call, Check, Snapshot, Privileged, PrivilegedWith, PrivilegedLimited}
use Rattle.jmove.specs.declared.method.Setting.{Setting}
use Rattle.jmove.specs.AssemblyLines.{reach, end_of, Laid}
use Rattle.jmove.specs.MethodExpansion.{move_ref, push_int, call_static, calling, prologue, expansion, expansions}
use Rattle.jmove.proofs.LineSequences.{end_reach}
use Rattle.jmove.proofs.Sizes.{size_some, size_moved, push_size, call_size, calling_size, move_at_most}

pub expansion_above : (s : Setting) (k : Expand) (o : Op) (at p : ℕ) → reach at (expansion s k o) ≤ at + size p o + 10
expansion_above s Same o at p = omega (arith, size_moved at p o)
expansion_above s (Call n) o at p =
    let at' = at + size at (move_ref Load s.local) in
    omega (arith, size_moved at' p o, calling_size at' n o, move_at_most at Load s.local)
expansion_above s (Check n) o at p = let at' = at + size at (move_ref Load s.local) in omega (arith, size_some p o, call_size at' n, move_at_most at Load s.local)
expansion_above s (Snapshot n) o at p = let at' = at + size at (move_ref Load s.local) in omega (arith, size_some p o, call_size at' n, move_at_most at Load s.local)
expansion_above s (Privileged n) o at p = let at' = at + size at (push_int s.domain) in omega (arith, size_some p o, push_size at s.domain, call_size at' n)
expansion_above s (PrivilegedWith n) o at p = let at' = at + size at (push_int s.domain) in omega (arith, size_some p o, push_size at s.domain, call_size at' n)
expansion_above s (PrivilegedLimited n) o at p =
    let at' = at + size at (move_ref Load s.local) in
    let at'' = at' + size at' (push_int s.domain) in
    omega (arith, size_some p o, move_at_most at Load s.local, push_size at' s.domain, call_size at'' n)

pub laid_above : (from to : ℕ) (is : List Placed) → Laid from is to → from ≤ to
laid_above from to [] h = omega arith
laid_above from to (i ∷ is) h = omega (arith, laid_above (from + size from i.op) to is h.1)

pub bound : (s : Setting) (ks : List Expand) (is : List Placed) (at from to : ℕ) → Laid from is to → end_of at (expansions s ks is) + 11 * from ≤ at + 11 * to
bound s [] is at from to h = omega (arith, laid_above from to is h)
bound s (k ∷ ks) [] at from to h = omega arith
bound s (k ∷ ks) (i ∷ is) at from to h =
    let os = expansion s k i.op in
    omega (arith, end_reach at i.at os (expansions s ks is), expansion_above s k i.op at from, size_some from i.op, bound s ks is (reach at os) (from + size from i.op) to h.1)

pub prologue_above : (slots enter : ℕ) (s : Setting) → reach 0 (prologue slots s enter) ≤ 14
prologue_above slots enter s =
    let a = 0 + size 0 (move_ref Load slots) in
    let b = a + size a (push_int s.domain) in
    let c = b + size b (call_static enter) in
    omega (arith, move_at_most 0 Load slots, push_size a s.domain, call_size b enter, move_at_most c Store s.local)

-- what begins a body takes as many bytes for each domain and each reference
pub prologue_reach : (slots local domain enter a b : ℕ) → ((at : ℕ) (access : Access) → size at (move_ref access slots) ≡ a) → ((at : ℕ) (access : Access) → size at (move_ref access local) ≡ b)
    → reach 0 (prologue slots (record { local = local; domain = domain }) enter) ≡ a + 6 + b
prologue_reach slots local domain enter a b h e =
    let p = 0 + size 0 (move_ref Load slots) in
    let q = p + size p (push_int domain) in
    let r = q + size q (call_static enter) in
    omega (arith, h 0 Load, push_size p domain, call_size q enter, e r Store)

-- and so does what instructions become
reach_alike : (s t : Setting) (k : Expand) (o : Op) (at : ℕ) → s.local ≡ t.local → reach at (expansion s k o) ≡ reach at (expansion t k o)
reach_alike s t Same o at e = refl
reach_alike s t (Call n) o at e = ap (λ (l : ℕ). reach at (move_ref Load l ∷ calling n o ∷ [])) e
reach_alike s t (Check n) o at e = ap (λ (l : ℕ). reach at (move_ref Load l ∷ call_static n ∷ [])) e
reach_alike s t (Snapshot n) o at e = ap (λ (l : ℕ). reach at (move_ref Load l ∷ call_static n ∷ [])) e
reach_alike s t (Privileged n) o at e = omega (arith, push_size at s.domain, push_size at t.domain, call_size (at + size at (push_int s.domain)) n, call_size (at + size at (push_int t.domain)) n)
reach_alike s t (PrivilegedWith n) o at e = omega (arith, push_size at s.domain, push_size at t.domain, call_size (at + size at (push_int s.domain)) n, call_size (at + size at (push_int t.domain)) n)
reach_alike s t (PrivilegedLimited n) o at e =
    let a = at + size at (move_ref Load s.local) in
    let b = at + size at (move_ref Load t.local) in
    let same : a ≡ b = ap (λ (l : ℕ). at + size at (move_ref Load l)) e in
    omega (arith, push_size a s.domain, push_size b t.domain, call_size (a + size a (push_int s.domain)) n, call_size (b + size b (push_int t.domain)) n)

pub end_alike : (s t : Setting) (ks : List Expand) (is : List Placed) (at : ℕ) → s.local ≡ t.local → end_of at (expansions s ks is) ≡ end_of at (expansions t ks is)
end_alike s t [] is at e = refl
end_alike s t (k ∷ ks) [] at e = refl
end_alike s t (k ∷ ks) (i ∷ is) at e =
    end_reach at i.at (expansion s k i.op) (expansions s ks is) ∙ ap (λ (p : ℕ). end_of p (expansions s ks is)) (reach_alike s t k i.op at e)
    ∙ end_alike s t ks is (reach at (expansion t k i.op)) e ∙ sym (end_reach at i.at (expansion t k i.op) (expansions t ks is))
