-- The operands of each opcode are a format.
use Rattle.std.proofs.Common.{◌≡◌, ℕ, zero, suc, ◌%◌, ◌-◌, ℤ, true, eqb, List, [], ◌∷◌, length, Option, None, refl, ap, arith}
use Rattle.std.specs.Int.{w8, w16, w32, to_be_bytes, from_be_bytes}
use Rattle.jground.specs.jformat.Format.{IsBytes, known, ◌·◌, such}
use Rattle.jground.specs.jformat.BodyFormats.{counted}
use Rattle.jground.specs.jformat.StatefulFormats.{counted_from}
use Rattle.jground.specs.jformat.UnionFormats.{IsOnce}
use Rattle.jground.proofs.JformatProofs.FormatLaws.{IsWide, IsFormat, wide16, wide32, void_law, byte_law, number_law, signed_law, pair_law, then_law, via_law, such_law, literal_law, known_law}
use Rattle.jground.proofs.JformatProofs.Blocks.{counted_law}
use Rattle.jground.proofs.JformatProofs.UnionCases.{IsCases, case_law, sole_law, either_law, union_law}
use Rattle.jground.proofs.JformatProofs.StatefulFormats.{counted_from_law}
use Rattle.jground.specs.jbase.FirstFaults.{fault_if}
use Rattle.jparts.specs.declared.jcode.fault.CodeFault.TheVariants.{Truncated, BadOperand}
use Rattle.jparts.specs.declared.jcode.names.ArrayType.{ArrayType}
use Rattle.jparts.specs.declared.jcode.names.ArrayType.TheVariants as arrays
use Rattle.jparts.specs.declared.jcode.names.LocalKind.{LocalKind}
use Rattle.jparts.specs.declared.jcode.names.LocalKind.TheVariants as kinds
use Rattle.jparts.specs.declared.jcode.names.Access.{Access}
use Rattle.jparts.specs.declared.jcode.names.Access.TheVariants.{Load, Store}
use Rattle.jparts.specs.declared.jcode.op.Wide.{Wide}
use Rattle.jparts.specs.declared.jcode.op.Wide.TheVariants as wides
use Rattle.jparts.specs.declared.jcode.head.Head.{Head}
use Rattle.jparts.specs.declared.jcode.head.Head.TheVariants as heads
use Rattle.jparts.specs.declared.jcode.head.OtherHead.{OtherHead}
use Rattle.jparts.specs.declared.jcode.head.OtherHead.TheVariants as other
use Rattle.jparts.specs.jcode.OperandFormats.{u1, u2, u4, i1, i2, i4, nil, nils, padding, bounded, table_switch, case_count, falls, case_behind, key_of, lookup_switch, interface_call, array_number, array_case, array_cases, array_type, local_number, local_of, increment_of, wide_local, wide_cases, not_wide, wide, operands}
use Rattle.jparts.specs.ProofNames.{bounds, span}

-- ---- numbers

one_byte : (bytes : List ℕ) → length bytes ≡ 1 → IsBytes bytes → to_be_bytes w8 (from_be_bytes w8 bytes) ≡ bytes
one_byte [] len fits = absurd (omega arith)
one_byte (b ∷ []) len fits = ap (λ (n : ℕ). n ∷ []) (omega (arith, fits 0))
one_byte (b ∷ c ∷ bs) len fits = absurd (omega arith)

wide8 : IsWide w8
wide8 = record {
  len = λ n. refl;
  back = λ bytes len fits. one_byte bytes len fits;
  again = λ n lt. omega arith;
  below = λ bytes fits. omega (arith, fits 0);
  bound = refl;
}

u1_law : IsFormat u1
u1_law = byte_law Truncated

u2_law : IsFormat u2
u2_law = number_law w16 Truncated wide16

u4_law : IsFormat u4
u4_law = number_law w32 Truncated wide32

i1_law : IsFormat i1
i1_law = signed_law w8 Truncated wide8

i2_law : IsFormat i2
i2_law = signed_law w16 Truncated wide16

i4_law : IsFormat i4
i4_law = signed_law w32 Truncated wide32

-- ---- switches

nil_law : IsFormat nil
nil_law = literal_law u1 BadOperand 0 u1_law

nils_law : (n : ℕ) → IsFormat (nils n)
unfolding nils
nils_law zero = void_law
nils_law (suc n) = via_law (λ _. tt) (λ _. (tt, tt)) (nil · nils n) (λ p fit. refl) (λ u fit. refl) (pair_law nil (nils n) nil_law (nils_law n))

bounded_law : IsFormat bounded
unfolding bounded
bounded_law = then_law bounds (λ b. counted (known (span b.0 b.1)) i4) (such_law (λ b. fault_if _ BadOperand) (i4 · i4) (pair_law i4 i4 i4_law i4_law)) (λ b. counted_law (known (span b.0 b.1)) i4 (known_law (span b.0 b.1)) i4_law)

table_law : (at : ℕ) → IsFormat (table_switch at)
unfolding table_switch
table_law at = via_law _ _ (padding at · i4 · bounded) (λ p fit. refl) (λ s fit. refl) (pair_law (padding at) (i4 · bounded) (nils_law (3 - at % 4)) (pair_law i4 bounded i4_law bounded_law))

keyed_law : (before : Option ℤ) → IsFormat (case_behind before)
keyed_law before = via_law _ _ (such (falls before) i4 · i4) (λ p fit. refl) (λ c fit. refl) (pair_law (such (falls before) i4) i4 (such_law (falls before) i4 i4_law) i4_law)

lookup_law : (at : ℕ) → IsFormat (lookup_switch at)
unfolding lookup_switch
lookup_law at =
    let cases = counted_from_law case_count case_behind key_of (such_law (λ n. fault_if _ BadOperand) u4 u4_law) keyed_law None in
    via_law _ _ (padding at · i4 · counted_from case_count case_behind key_of None) (λ p fit. refl) (λ s fit. refl)
    (pair_law (padding at) (i4 · counted_from case_count case_behind key_of None) (nils_law (3 - at % 4)) (pair_law i4 (counted_from case_count case_behind key_of None) i4_law cases))

-- ---- calls by an interface, arrays, wide instructions

call_law : IsFormat interface_call
unfolding interface_call
call_law =
    let slots = such_law (λ n. fault_if (eqb n 0) BadOperand) u1 u1_law in
    via_law _ _ (u2 · such (λ n. fault_if (eqb n 0) BadOperand) u1 · nil) (λ p fit. refl) (λ s fit. refl)
    (pair_law u2 (such (λ n. fault_if (eqb n 0) BadOperand) u1 · nil) u2_law (pair_law (such (λ n. fault_if (eqb n 0) BadOperand) u1) nil slots nil_law))

array_once : (a : ArrayType) → IsOnce array_cases a
array_once arrays.Boolean = (refl, refl)
array_once arrays.Char = (refl, refl)
array_once arrays.Byte = (refl, refl)
array_once arrays.Short = (refl, refl)
array_once arrays.Int = (refl, refl)
array_once arrays.Long = (refl, refl)

array_case_law : (one : ArrayType) → IsCases (array_case one)
array_case_law one = let same : eqb (array_number one) (array_number one) ≡ true = grind arith in sole_law (λ other. eqb (array_number other) (array_number one)) same

array_law : IsFormat array_type
unfolding array_type
array_law = union_law Truncated (λ _. BadOperand) array_cases array_once
    (either_law refl (array_case_law arrays.Boolean) (either_law refl (array_case_law arrays.Char) (either_law refl (array_case_law arrays.Byte)
    (either_law refl (array_case_law arrays.Short) (either_law refl (array_case_law arrays.Int) (array_case_law arrays.Long))))))

wide_once : (w : Wide) → IsOnce wide_cases w
wide_once (wides.Local kinds.Int Load n) = (refl, refl)
wide_once (wides.Local kinds.Long Load n) = (refl, refl)
wide_once (wides.Local kinds.Ref Load n) = (refl, refl)
wide_once (wides.Local kinds.Int Store n) = (refl, refl)
wide_once (wides.Local kinds.Long Store n) = (refl, refl)
wide_once (wides.Local kinds.Ref Store n) = (refl, refl)
wide_once (wides.Iinc n by) = (refl, refl)

wide_local_law : (kind : LocalKind) (access : Access) → IsCases (wide_local kind access)
wide_local_law kind access =
    let same : eqb (local_number kind access) (local_number kind access) ≡ true = grind arith in
    case_law (local_of kind access) (λ n. rw same refl) u2_law

wide_law : IsFormat wide
unfolding wide
wide_law = union_law Truncated not_wide wide_cases wide_once
    (either_law refl (wide_local_law kinds.Int Load) (either_law refl (wide_local_law kinds.Long Load) (either_law refl (wide_local_law kinds.Ref Load)
    (either_law refl (wide_local_law kinds.Int Store) (either_law refl (wide_local_law kinds.Long Store) (either_law refl (wide_local_law kinds.Ref Store)
    (case_law increment_of (λ p. refl) (pair_law u2 i2 u2_law i2_law))))))))

-- ---- by the opcode

other_law : (at : ℕ) (h : OtherHead) → IsFormat (operands at (heads.Other h))
other_law at other.Bipush = i1_law
other_law at other.Sipush = i2_law
other_law at other.Iinc = pair_law u1 i1 u1_law i1_law
other_law at other.TableSwitch = table_law at
other_law at other.LookupSwitch = lookup_law at
other_law at other.CallInterface = call_law
other_law at other.NewArray = array_law
other_law at other.Wide = wide_law
other_law at other.GotoWide = i4_law

pub operands_law : (at : ℕ) (h : Head) → IsFormat (operands at h)
operands_law at (heads.Plain h) = void_law
operands_law at (heads.Byte h) = u1_law
operands_law at (heads.Index h) = u2_law
operands_law at (heads.Branch h) = i2_law
operands_law at (heads.Other h) = other_law at h
