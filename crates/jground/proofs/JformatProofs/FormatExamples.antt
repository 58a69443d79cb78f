-- Formats as later crates need them, and what their laws and readings compute to.
use Rattle.std.proofs.Common.{◌≡◌, ℕ, ◌+◌, Bool, true, false, cond, eqb, List, [], ◌∷◌, Option, Some, None, Ok, Err, refl, arith}
use Rattle.std.specs.Prelude.{ℤ, pos, negsuc}
use Rattle.std.specs.Int.{w16, w32}
use Rattle.jground.specs.jformat.Format.{Format, byte, number, signed, ◌·◌}
use Rattle.jground.specs.jformat.BodyFormats.{Body, whole, block, sized, counted, many, many_at, times_at}
use Rattle.jground.specs.jformat.UnionFormats.{Cases, case, two_of, sole, ◌∣◌, union, IsOnce}
use Rattle.jground.specs.jformat.StatefulFormats.{many_by, many_from}
use Rattle.jground.proofs.JformatProofs.FormatLaws.{IsFormat, HasBytes, cond_law, wide16, wide32, byte_law, number_law, signed_law, pair_law}
use Rattle.jground.proofs.JformatProofs.Blocks.{IsBody, sized_law, block_law, counted_law, whole_law, many_law}
use Rattle.jground.proofs.JformatProofs.StatefulFormats.{many_by_law}
use Rattle.jground.proofs.JformatProofs.UnionCases.{IsCases, case_law, sole_law, either_law, union_law}

-- the kinds of fault are numbers here: 0 for what is cut, 1 for what is left over, a tag that isn't known for itself
abbrev u1 : Format ℕ ℕ
u1 = byte 0

abbrev u2 : Format ℕ ℕ
u2 = number w16 0

abbrev u4 : Format ℕ ℕ
u4 = number w32 0

-- ---- a union of six forms; another has no spelling

data Value : Type 0 where
  Name : List ℕ → Value
  Count : ℕ → Value
  Pair : ℕ → ℕ → Value
  Handle : ℕ → ℕ → Value
  Start : Value
  End : Value
  Lost : Value

abbrev name_parts : Value → Option (List ℕ)
name_parts (Name text) = Some text
name_parts _ = None

abbrev count_parts : Value → Option ℕ
count_parts (Count n) = Some n
count_parts _ = None

abbrev pair_parts : Value → Option (ℕ × ℕ)
pair_parts (Pair m n) = Some (m, n)
pair_parts _ = None

abbrev handle_parts : Value → Option (ℕ × ℕ)
handle_parts (Handle m n) = Some (m, n)
handle_parts _ = None

abbrev is_start : Value → Bool
is_start Start = true
is_start _ = false

abbrev is_end : Value → Bool
is_end End = true
is_end _ = false

abbrev cases : Cases ℕ Value
cases = case 1 Name name_parts (sized u2 0) ∣ case 3 Count count_parts u4 ∣ case 9 (two_of Pair) pair_parts (u2 · u2)
    ∣ case 15 (two_of Handle) handle_parts (u1 · u2) ∣ sole 16 Start is_start ∣ sole 18 End is_end

u2_law : IsFormat u2
u2_law = number_law w16 0 wide16

u4_law : IsFormat u4
u4_law = number_law w32 0 wide32

two_law : IsFormat (u2 · u2)
two_law = pair_law u2 u2 u2_law u2_law

cases_law : IsCases cases
cases_law =
    either_law refl (case_law name_parts (λ p. refl) (sized_law u2 0 u2_law))
    (either_law refl (case_law count_parts (λ p. refl) u4_law)
    (either_law refl (case_law pair_parts (λ p. refl) (pair_law u2 u2 u2_law u2_law))
    (either_law refl (case_law handle_parts (λ p. refl) (pair_law u1 u2 (byte_law 0) u2_law))
    (either_law refl (sole_law is_start refl)
    (sole_law is_end refl)))))

once : (v : Value) → IsOnce cases v
once Lost = (refl, refl)
once _ = (refl, refl)

value : Format ℕ Value
value = union 0 (λ t. t) cases

value_law : IsFormat value
unfolding value
value_law = union_law 0 (λ t. t) cases once cases_law

-- a count, and a byte behind it
count_read : (union 0 (λ t. t) cases).read (3 ∷ 0 ∷ 0 ∷ 1 ∷ 5 ∷ 9 ∷ []) ≡ Ok (Count 261, 9 ∷ [])
count_read = refl

-- no form begins with 2
unknown_read : (union 0 (λ t. t) cases).read (2 ∷ 0 ∷ 5 ∷ []) ≡ Err (record { left = 3; kind = 2 })
unknown_read = refl

-- ---- a block whose length stands in front of it, with a counted list of signed numbers inside

abbrev table : Format ℕ (List ℤ)
table = block u4 0 (whole 1 (counted u2 (signed w16 0)))

table_law : IsFormat table
table_law = block_law u4 0 (whole 1 (counted u2 (signed w16 0))) u4_law (whole_law 1 (counted u2 (signed w16 0)) (counted_law u2 (signed w16 0) u2_law (signed_law w16 0 wide16)))

table_read : table.read (0 ∷ 0 ∷ 0 ∷ 6 ∷ 0 ∷ 2 ∷ 255 ∷ 128 ∷ 0 ∷ 5 ∷ 77 ∷ []) ≡ Ok (negsuc 127 ∷ pos 5 ∷ [], 77 ∷ [])
unfolding times_at
table_read = refl

-- a byte too many in the block: the fault stands before it, two bytes from the end of all
table_longer : table.read (0 ∷ 0 ∷ 0 ∷ 5 ∷ 0 ∷ 1 ∷ 0 ∷ 5 ∷ 9 ∷ 77 ∷ []) ≡ Err (record { left = 2; kind = 1 })
unfolding times_at
table_longer = refl

-- ---- values to the end

abbrev numbers : Body ℕ (List ℕ)
numbers = many 1 u2

numbers_law : IsBody numbers
numbers_law = many_law 1 u2 u2_law (λ n fit. omega (arith, wide16.len n))

numbers_read : numbers.read (0 ∷ 5 ∷ 1 ∷ 0 ∷ []) ≡ Ok (5 ∷ 256 ∷ [])
unfolding many_at
numbers_read = refl

-- a number that isn't wholly there
numbers_cut : numbers.read (0 ∷ 5 ∷ 1 ∷ []) ≡ Err (record { left = 1; kind = 0 })
unfolding many_at
numbers_cut = refl

-- ---- values by a state: the first has one byte, each other one two

abbrev wider : ℕ → Format ℕ ℕ
wider place = cond (eqb place 0) u1 u2

wider_law : (place : ℕ) → IsFormat (wider place)
wider_law place = cond_law (eqb place 0) u1 u2 (byte_law 0) u2_law

choice_has : (b : Bool) → HasBytes (cond b u1 u2)
choice_has true n fit = omega arith
choice_has false n fit = omega (arith, wide16.len n)

abbrev places : Body ℕ (List ℕ)
places = many_by 1 wider (λ place n. place + 1) 0

places_law : IsBody places
places_law = many_by_law 1 wider (λ place n. place + 1) wider_law (λ place. choice_has (eqb place 0)) 0

places_read : places.read (5 ∷ 0 ∷ 7 ∷ 1 ∷ 0 ∷ []) ≡ Ok (5 ∷ 7 ∷ 256 ∷ [])
unfolding many_from
places_read = refl
