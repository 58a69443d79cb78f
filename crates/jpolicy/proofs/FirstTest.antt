-- What the first test of the bytes gives.
use Rattle.std.proofs.Common.{◌≡◌, ℕ, false, List, Result, Err, refl, inl, inr}
use Rattle.std.specs.Str.{IsUtf8, is_utf8, chars}
use Rattle.std.specs.Str.Lossy.{utf8_valid_len}
use Rattle.std.proofs.lemmas.Bool.{cases_Bool}
use Rattle.std.proofs.lemmas.Str.{IsUtf8-from_is_utf8, is_utf8-from_IsUtf8}
use Rattle.jpolicy.specs.declared.grant.Grant.{Grant}
use Rattle.jground.specs.declared.jbase.fault_or_memory.FaultOrMemory.{FaultOrMemory}
use Rattle.jground.specs.jbase.MemoryFailures.{Gives}
use Rattle.jground.specs.declared.jformat.error.At.{At}
use Rattle.jpolicy.specs.declared.fault.PolicyFault.{PolicyFault}
use Rattle.jpolicy.specs.declared.fault.PolicyFault.TheVariants.{NotUtf8}
use Rattle.jpolicy.specs.Expansion.{Properties}
use Rattle.jpolicy.specs.Policies.{policy, policy_in}

not_utf8 : (bytes : List ℕ) → ¬ (IsUtf8 bytes) → is_utf8 bytes ≡ false
not_utf8 bytes bad = elim (cases_Bool (is_utf8 bytes)) [ inl hit ↦ absurd (bad (IsUtf8-from_is_utf8 bytes hit)) | inr miss ↦ miss ]

pub policy_of_text : (properties : Properties) (bytes text : List ℕ) (result : Result (List Grant) (FaultOrMemory (At PolicyFault))) → text ≡ bytes → IsUtf8 bytes → Gives (λ x. x) result (policy_in properties (chars text)) → Gives (λ x. x) result (policy properties bytes)
unfolding policy
policy_of_text properties bytes text result same utf8 h = rw (is_utf8-from_IsUtf8 bytes utf8, ← same) h

pub policy_of_none : (properties : Properties) (bytes : List ℕ) (at : ℕ) → ¬ (IsUtf8 bytes) → at ≡ utf8_valid_len bytes → policy properties bytes ≡ Err (record { at = at; kind = NotUtf8 })
unfolding policy
policy_of_none properties bytes at bad is = rw (not_utf8 bytes bad, is) refl
