-- The policy that the bytes of a file spell (policy file documentation).
use Rattle.std.specs.Prelude.{◌≡◌, ℕ, ◌-◌, List, [], ◌∷◌, ◌++◌, length, take, Result, Ok, Err, if◌then◌else◌}
use Rattle.std.specs.Str.{IsUtf8, chars, encode_utf8_all, is_utf8}
use Rattle.std.specs.Str.Lossy.{utf8_valid_len}
use Rattle.jground.specs.declared.jbase.fault_or_memory.FaultOrMemory.{FaultOrMemory}
use Rattle.jground.specs.declared.jbase.fault_or_memory.FaultOrMemory.TheVariants as stops
use Rattle.jground.specs.declared.jformat.error.At.{At}
use Rattle.jground.specs.declared.jformat.error.Fault.{Fault}
use Rattle.jpolicy.specs.declared.fault.PolicyFault.{PolicyFault}
use Rattle.jpolicy.specs.declared.fault.PolicyFault.TheVariants.{NotUtf8}
use Rattle.jpolicy.specs.declared.grant.Grant.{Grant}
use Rattle.jpolicy.specs.Expansion.{Properties}
use Rattle.jpolicy.specs.declared.token.Placed.{Placed}
use Rattle.jpolicy.specs.Grammar.{Items, Begins, NotAllowed, Says}
use Rattle.jpolicy.specs.Productions.{policy_at}
use Rattle.jpolicy.specs.Tokens.{tokens}

-- the bytes in front of the last so many characters
abbrev pub place_of : List ℕ → ℕ → ℕ
place_of text left = length (encode_utf8_all (take (length text - left) text))

-- a fault by its place in the bytes
abbrev pub outward : List ℕ → Result (List Grant) (Fault PolicyFault) → Result (List Grant) (At PolicyFault)
outward text = elim [ Ok grants ↦ Ok grants | Err fault ↦ Err (record { at = place_of text fault.left; kind = fault.kind }) ]

-- the grants that characters spell
abbrev pub policy_in : Properties → List ℕ → Result (List Grant) (At PolicyFault)
policy_in properties text = outward text (policy_at properties (tokens text))

-- the grants that bytes spell; bytes that are not UTF-8 have their fault at the first ill-formed group
unfoldable pub policy : Properties → List ℕ → Result (List Grant) (At PolicyFault)
policy properties bytes = if is_utf8 bytes then policy_in properties (chars bytes) else Err (record { at = utf8_valid_len bytes; kind = NotUtf8 })

-- Characters, properties and grants are related by the grammar of the tokens.
abbrev pub IsPolicy : Properties → List ℕ → List Grant → Type 0
IsPolicy properties bytes grants = IsUtf8 bytes × Items properties (tokens (chars bytes)) grants

-- how many characters there are from the next token on
abbrev pub left_of : List Placed → ℕ
left_of [] = 0
left_of (t ∷ ts) = t.left

-- A fault is of the first token that the grammar doesn't allow: those in front of it begin a policy, and with it none begins.
abbrev pub IsFirst : Properties → List ℕ → ℕ → PolicyFault → Type 0
IsFirst properties text at kind =
    (front : List Placed) × (rest : List Placed) × (tokens text ≡ front ++ rest) × (at ≡ place_of text (left_of rest)) ×
    Begins (Items properties) front × NotAllowed (Items properties) front rest × Says (Items properties) front rest kind

-- a fault of bytes that are not UTF-8, at the first ill-formed group, or of the first token that isn't allowed
abbrev pub FaultIn : Properties → List ℕ → ℕ → PolicyFault → Type 0
FaultIn properties bytes at NotUtf8 = ¬ (IsUtf8 bytes) × (at ≡ utf8_valid_len bytes)
FaultIn properties bytes at kind = IsUtf8 bytes × IsFirst properties (chars bytes) at kind

-- a fault of the bytes; want of memory says nothing of them
abbrev pub IsFault : Properties → List ℕ → FaultOrMemory (At PolicyFault) → Type 0
IsFault properties bytes (stops.Fault d) = FaultIn properties bytes d.at d.kind
IsFault properties bytes stops.Memory = Unit {0}
