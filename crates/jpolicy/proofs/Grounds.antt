-- What the whole reading gives, in the terms of the grammar.
use Rattle.std.proofs.Common.{◌≡◌, ℕ, Bool, true, false, cond, List, [], ◌∷◌, Result, Ok, Err, refl, sym, ap, ◌∙◌, subst}
use Rattle.std.specs.Prelude.{IfOk, IfErr}
use Rattle.std.specs.Str.{IsUtf8, is_utf8, chars}
use Rattle.std.specs.Str.Lossy.{utf8_valid_len}
use Rattle.std.proofs.lemmas.Str.{IsUtf8-from_is_utf8, is_utf8-from_IsUtf8}
use Rattle.jground.specs.declared.jformat.error.Fault.{Fault}
use Rattle.jpolicy.specs.declared.grant.Grant.{Grant}
use Rattle.jground.specs.declared.jbase.fault_or_memory.FaultOrMemory.{FaultOrMemory}
use Rattle.jground.specs.declared.jbase.fault_or_memory.FaultOrMemory.TheVariants as stops
use Rattle.jground.specs.jbase.MemoryFailures.{Gives}
use Rattle.jground.specs.declared.jformat.error.At.{At}
use Rattle.jpolicy.specs.declared.fault.PolicyFault.{PolicyFault}
use Rattle.jpolicy.specs.declared.fault.PolicyFault.TheVariants.{NotUtf8, Syntax, SelfExpansion}
use Rattle.jpolicy.specs.Expansion.{Properties}
use Rattle.jpolicy.specs.Tokens.{tokens}
use Rattle.jpolicy.specs.declared.token.Placed.{Placed}
use Rattle.jpolicy.specs.Productions.{policy_at, fault_at}
use Rattle.jpolicy.specs.Grammar.{Items, Says}
use Rattle.jpolicy.specs.Policies.{IsPolicy, IsFirst, FaultIn, IsFault, left_of, place_of, outward, policy, policy_in}
use Rattle.jpolicy.proofs.Constructs.{policy_sound, policy_complete, policy_first}

outward_ok : (text : List ℕ) (r : Result (List Grant) (Fault PolicyFault)) (gs : List Grant) → outward text r ≡ Ok gs → r ≡ Ok gs
outward_ok text (Ok hs) gs e = let same : hs ≡ gs = cc in ap (λ (xs : List Grant). Ok xs) same
outward_ok text (Err f) gs e = absurd cc

read_by : (p : Properties) (bytes : List ℕ) (gs : List Grant) (b : Bool) → is_utf8 bytes ≡ b → cond b (policy_in p (chars bytes)) (Err (record { at = utf8_valid_len bytes; kind = NotUtf8 })) ≡ Ok gs → IsPolicy p bytes gs
read_by p bytes gs true is e = (IsUtf8-from_is_utf8 bytes is, policy_sound p (tokens (chars bytes)) gs (outward_ok (chars bytes) (policy_at p (tokens (chars bytes))) gs e))
read_by p bytes gs false is e = absurd cc

pub found_so : (p : Properties) (bytes : List ℕ) (result : Result (List Grant) (FaultOrMemory (At PolicyFault))) → Gives (λ x. x) result (policy p bytes) → IfOk result (λ gs. IsPolicy p bytes gs)
unfolding policy
found_so p bytes (Ok gs) h = read_by p bytes gs (is_utf8 bytes) refl h
found_so p bytes (Err e) h = tt

policy_is : (p : Properties) (bytes : List ℕ) (gs : List Grant) → IsPolicy p bytes gs → policy p bytes ≡ Ok gs
unfolding policy
policy_is p bytes gs d = rw (is_utf8-from_IsUtf8 bytes d.0, policy_complete p (tokens (chars bytes)) gs d.1) refl

pub only_so : (p : Properties) (bytes : List ℕ) (result : Result (List Grant) (FaultOrMemory (At PolicyFault))) → Gives (λ x. x) result (policy p bytes) → (gs : List Grant) → IsPolicy p bytes gs → Gives (λ x. x) result (Ok gs)
only_so p bytes result h gs d = subst (λ (v : Result (List Grant) (At PolicyFault)). Gives (λ x. x) result v) (policy_is p bytes gs d) h

-- ---- which fault it is

kept_place : (d : Fault PolicyFault) (ts : List Placed) → d ≡ fault_at d.kind ts → d.left ≡ left_of ts
kept_place d [] e = ap (λ (c : Fault PolicyFault). c.left) e
kept_place d (t ∷ ts) e = ap (λ (c : Fault PolicyFault). c.left) e

in_text : (p : Properties) (text : List ℕ) (a : At PolicyFault) (r : Result (List Grant) (Fault PolicyFault)) → policy_at p (tokens text) ≡ r → outward text r ≡ Err a → IsFirst p text a.at a.kind
in_text p text a (Ok gs) is e = absurd cc
in_text p text a (Err d) is e =
    let h = policy_first p (tokens text) d is in
    let same : record { at = place_of text d.left; kind = d.kind } ≡ a = cc in
    let place : a.at ≡ place_of text d.left = ap (λ (b : At PolicyFault). b.at) (sym same) in
    let kind : d.kind ≡ a.kind = ap (λ (b : At PolicyFault). b.kind) same in
    (h.0, h.1, h.2, place ∙ ap (place_of text) (kept_place d h.1 h.3), h.4, h.5, subst (λ (k : PolicyFault). Says (Items p) h.0 h.1 k) kind h.6)

of_text : (p : Properties) (bytes : List ℕ) (at : ℕ) (kind : PolicyFault) → IsUtf8 bytes → IsFirst p (chars bytes) at kind → FaultIn p bytes at kind
of_text p bytes at NotUtf8 utf8 h = absurd h.6
of_text p bytes at Syntax utf8 h = (utf8, h)
of_text p bytes at SelfExpansion utf8 h = (utf8, h)

fault_by : (p : Properties) (bytes : List ℕ) (a : At PolicyFault) (b : Bool) → is_utf8 bytes ≡ b → cond b (policy_in p (chars bytes)) (Err (record { at = utf8_valid_len bytes; kind = NotUtf8 })) ≡ Err a → FaultIn p bytes a.at a.kind
fault_by p bytes a true is e = of_text p bytes a.at a.kind (IsUtf8-from_is_utf8 bytes is) (in_text p (chars bytes) a (policy_at p (tokens (chars bytes))) refl e)
fault_by p bytes a false is e =
    let same : record { at = utf8_valid_len bytes; kind = NotUtf8 } ≡ a = cc in
    subst (λ (d : At PolicyFault). FaultIn p bytes d.at d.kind) same (λ utf8. (let holds = is_utf8-from_IsUtf8 bytes utf8 in absurd cc), refl)

pub first_so : (p : Properties) (bytes : List ℕ) (result : Result (List Grant) (FaultOrMemory (At PolicyFault))) → Gives (λ x. x) result (policy p bytes) → IfErr result (λ e. IsFault p bytes e)
unfolding policy
first_so p bytes (Ok gs) h = tt
first_so p bytes (Err (stops.Fault a)) h = fault_by p bytes a (is_utf8 bytes) refl h
first_so p bytes (Err stops.Memory) h = tt
