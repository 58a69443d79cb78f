-- Each opcode has its own number.
use Rattle.std.proofs.Common.{◌≡◌, ℕ, eqb, ltb, List, [], ◌∷◌, Option, Some, None, Result, Ok, Err, refl, sym, ap, ◌∙◌, inl, inr}
use Rattle.std.specs.List.{find}
use Rattle.std.proofs.lemmas.Bool.{cases_Bool, eqb-true}
use Rattle.jparts.specs.declared.jcode.names.LocalKind.{LocalKind}
use Rattle.jparts.specs.declared.jcode.names.LocalKind.TheVariants as kinds
use Rattle.jparts.specs.declared.jcode.names.Access.TheVariants.{Load, Store}
use Rattle.jparts.specs.declared.jcode.names.Slot.{Slot}
use Rattle.jparts.specs.declared.jcode.names.Slot.TheVariants as slots
use Rattle.jparts.specs.declared.jcode.names.SmallInt.TheVariants as ints
use Rattle.jparts.specs.declared.jcode.names.SmallLong.TheVariants as longs
use Rattle.jparts.specs.declared.jcode.names.Element.{Element}
use Rattle.jparts.specs.declared.jcode.names.Element.TheVariants as elements
use Rattle.jvalues.specs.declared.jnames.names.OpTwo.TheVariants as twos
use Rattle.jvalues.specs.declared.jnames.names.Division.TheVariants as divisions
use Rattle.jvalues.specs.declared.jnames.names.OpOne.TheVariants as ones
use Rattle.jvalues.specs.declared.jnames.names.Shuffle.TheVariants.{Pop, Pop2, Dup, DupX1, DupX2, Dup2, Dup2X1, Dup2X2, Swap}
use Rattle.jvalues.specs.declared.jnames.names.Compare.{Compare}
use Rattle.jvalues.specs.declared.jnames.names.Compare.TheVariants.{Eq, Ne, Lt, Ge, Gt, Le}
use Rattle.jparts.specs.declared.jcode.names.RefTest.TheVariants.{Same, Other, Null, NonNull}
use Rattle.jparts.specs.declared.jcode.names.Returned.TheVariants as results
use Rattle.jparts.specs.declared.jcode.names.FieldOp.TheVariants.{GetStatic, PutStatic, GetField, PutField}
use Rattle.jparts.specs.declared.jcode.names.CallOp.TheVariants.{Virtual, Special, Static}
use Rattle.jparts.specs.declared.jcode.names.ObjectOp.TheVariants.{ArrayLength, Throw}
use Rattle.jparts.specs.declared.jcode.names.CastOp.TheVariants.{CheckCast, InstanceOf}
use Rattle.jparts.specs.declared.jcode.fault.CodeFault.{CodeFault}
use Rattle.jparts.specs.declared.jcode.fault.CodeFault.TheVariants.{LeftOut, UnknownOpcode}
use Rattle.jparts.specs.declared.jcode.head.Head.{Head}
use Rattle.jparts.specs.declared.jcode.head.Head.TheVariants as heads
use Rattle.jparts.specs.declared.jcode.head.OneByteOp.{OneByteOp}
use Rattle.jparts.specs.declared.jcode.head.OneByteOp.TheVariants as plain
use Rattle.jparts.specs.declared.jcode.head.ByteHead.{ByteHead}
use Rattle.jparts.specs.declared.jcode.head.ByteHead.TheVariants as byte
use Rattle.jparts.specs.declared.jcode.head.IndexHead.{IndexHead}
use Rattle.jparts.specs.declared.jcode.head.IndexHead.TheVariants as index
use Rattle.jparts.specs.declared.jcode.head.BranchHead.{BranchHead}
use Rattle.jparts.specs.declared.jcode.head.BranchHead.TheVariants as branch
use Rattle.jparts.specs.declared.jcode.head.OtherHead.{OtherHead}
use Rattle.jparts.specs.declared.jcode.head.OtherHead.TheVariants as other
use Rattle.jparts.specs.jcode.Opcodes.{head_number, all_heads, or_fault, head_at}

-- ---- what is found has the number

found_has : {H : Type 0} (number : H → ℕ) (n : ℕ) (hs : List H) (h : H) → find (λ x. eqb (number x) n) hs ≡ Some h → number h ≡ n
found_has number n [] h e = absurd cc
found_has {H} number n (x ∷ xs) h e = elim (cases_Bool (eqb (number x) n)) [
  | inl hit ↦ let e' : Some x ≡ Some h = rw hit at e in let same : x ≡ h = cc in ap number (sym same) ∙ eqb-true _ _ hit
  | inr miss ↦ let e' : find (λ x. eqb (number x) n) xs ≡ Some h = rw miss at e in found_has number n xs h e'
]

abbrev refused : CodeFault → Result Head CodeFault
refused kind = Err kind

unless_fault : (n : ℕ) (o : Option Head) (h : Head) → or_fault n o ≡ Ok h → o ≡ Some h
unless_fault n (Some x) h e = let same : x ≡ h = cc in ap Some same
unless_fault n None h e = elim (cases_Bool (ltb n 202)) [
  | inl low ↦ let no : refused (LeftOut n) ≡ Ok h = rw low at e in absurd cc
  | inr high ↦ let no : refused (UnknownOpcode n) ≡ Ok h = rw high at e in absurd cc
]

-- A byte that names an opcode is its number.
pub number_of_head : (n : ℕ) (h : Head) → head_at n ≡ Ok h → head_number h ≡ n
unfolding head_at
number_of_head n h e = found_has head_number n all_heads h (unless_fault n (find (λ x. eqb (head_number x) n) all_heads) h e)

-- ---- a number names its opcode

each_slot : (P : Slot → Type 0) → P slots.Zero → P slots.One → P slots.Two → P slots.Three → (s : Slot) → P s
each_slot P a b c d slots.Zero = a
each_slot P a b c d slots.One = b
each_slot P a b c d slots.Two = c
each_slot P a b c d slots.Three = d

each_element : (P : Element → Type 0) → P elements.Int → P elements.Long → P elements.Ref → P elements.Byte → P elements.Char → P elements.Short → (e : Element) → P e
each_element P a b c d e f elements.Int = a
each_element P a b c d e f elements.Long = b
each_element P a b c d e f elements.Ref = c
each_element P a b c d e f elements.Byte = d
each_element P a b c d e f elements.Char = e
each_element P a b c d e f elements.Short = f

each_compare : (P : Compare → Type 0) → P Eq → P Ne → P Lt → P Ge → P Gt → P Le → (t : Compare) → P t
each_compare P a b c d e f Eq = a
each_compare P a b c d e f Ne = b
each_compare P a b c d e f Lt = c
each_compare P a b c d e f Ge = d
each_compare P a b c d e f Gt = e
each_compare P a b c d e f Le = f

local_named : (kind : LocalKind) (access : _) (s : Slot) → head_at (head_number (heads.Plain (plain.Local kind access s))) ≡ Ok (heads.Plain (plain.Local kind access s))
unfolding head_at
local_named kinds.Int Load s = each_slot (λ s. head_at (head_number (heads.Plain (plain.Local kinds.Int Load s))) ≡ Ok (heads.Plain (plain.Local kinds.Int Load s))) refl refl refl refl s
local_named kinds.Long Load s = each_slot (λ s. head_at (head_number (heads.Plain (plain.Local kinds.Long Load s))) ≡ Ok (heads.Plain (plain.Local kinds.Long Load s))) refl refl refl refl s
local_named kinds.Ref Load s = each_slot (λ s. head_at (head_number (heads.Plain (plain.Local kinds.Ref Load s))) ≡ Ok (heads.Plain (plain.Local kinds.Ref Load s))) refl refl refl refl s
local_named kinds.Int Store s = each_slot (λ s. head_at (head_number (heads.Plain (plain.Local kinds.Int Store s))) ≡ Ok (heads.Plain (plain.Local kinds.Int Store s))) refl refl refl refl s
local_named kinds.Long Store s = each_slot (λ s. head_at (head_number (heads.Plain (plain.Local kinds.Long Store s))) ≡ Ok (heads.Plain (plain.Local kinds.Long Store s))) refl refl refl refl s
local_named kinds.Ref Store s = each_slot (λ s. head_at (head_number (heads.Plain (plain.Local kinds.Ref Store s))) ≡ Ok (heads.Plain (plain.Local kinds.Ref Store s))) refl refl refl refl s

plain_named : (p : OneByteOp) → head_at (head_number (heads.Plain p)) ≡ Ok (heads.Plain p)
unfolding head_at
plain_named plain.Nop = refl
plain_named plain.AconstNull = refl
plain_named (plain.IntConst ints.MinusOne) = refl
plain_named (plain.IntConst ints.Zero) = refl
plain_named (plain.IntConst ints.One) = refl
plain_named (plain.IntConst ints.Two) = refl
plain_named (plain.IntConst ints.Three) = refl
plain_named (plain.IntConst ints.Four) = refl
plain_named (plain.IntConst ints.Five) = refl
plain_named (plain.LongConst longs.Zero) = refl
plain_named (plain.LongConst longs.One) = refl
plain_named (plain.Local kind access slot) = local_named kind access slot
plain_named (plain.ArrayLoad e) = each_element (λ e. head_at (head_number (heads.Plain (plain.ArrayLoad e))) ≡ Ok (heads.Plain (plain.ArrayLoad e))) refl refl refl refl refl refl e
plain_named (plain.ArrayStore e) = each_element (λ e. head_at (head_number (heads.Plain (plain.ArrayStore e))) ≡ Ok (heads.Plain (plain.ArrayStore e))) refl refl refl refl refl refl e
plain_named (plain.Stack Pop) = refl
plain_named (plain.Stack Pop2) = refl
plain_named (plain.Stack Dup) = refl
plain_named (plain.Stack DupX1) = refl
plain_named (plain.Stack DupX2) = refl
plain_named (plain.Stack Dup2) = refl
plain_named (plain.Stack Dup2X1) = refl
plain_named (plain.Stack Dup2X2) = refl
plain_named (plain.Stack Swap) = refl
plain_named (plain.Two twos.Iadd) = refl
plain_named (plain.Two twos.Ladd) = refl
plain_named (plain.Two twos.Isub) = refl
plain_named (plain.Two twos.Lsub) = refl
plain_named (plain.Two twos.Imul) = refl
plain_named (plain.Two twos.Lmul) = refl
plain_named (plain.Two twos.Ishl) = refl
plain_named (plain.Two twos.Lshl) = refl
plain_named (plain.Two twos.Ishr) = refl
plain_named (plain.Two twos.Lshr) = refl
plain_named (plain.Two twos.Iushr) = refl
plain_named (plain.Two twos.Lushr) = refl
plain_named (plain.Two twos.Iand) = refl
plain_named (plain.Two twos.Land) = refl
plain_named (plain.Two twos.Ior) = refl
plain_named (plain.Two twos.Lor) = refl
plain_named (plain.Two twos.Ixor) = refl
plain_named (plain.Two twos.Lxor) = refl
plain_named (plain.Two twos.Lcmp) = refl
plain_named (plain.Divide divisions.Idiv) = refl
plain_named (plain.Divide divisions.Irem) = refl
plain_named (plain.Divide divisions.Ldiv) = refl
plain_named (plain.Divide divisions.Lrem) = refl
plain_named (plain.One ones.Ineg) = refl
plain_named (plain.One ones.Lneg) = refl
plain_named (plain.One ones.I2l) = refl
plain_named (plain.One ones.L2i) = refl
plain_named (plain.One ones.I2b) = refl
plain_named (plain.One ones.I2c) = refl
plain_named (plain.One ones.I2s) = refl
plain_named (plain.Return results.Int) = refl
plain_named (plain.Return results.Long) = refl
plain_named (plain.Return results.Ref) = refl
plain_named (plain.Return results.Nothing) = refl
plain_named (plain.Object ArrayLength) = refl
plain_named (plain.Object Throw) = refl

byte_named : (h : ByteHead) → head_at (head_number (heads.Byte h)) ≡ Ok (heads.Byte h)
unfolding head_at
byte_named byte.Ldc = refl
byte_named (byte.Local kinds.Int Load) = refl
byte_named (byte.Local kinds.Long Load) = refl
byte_named (byte.Local kinds.Ref Load) = refl
byte_named (byte.Local kinds.Int Store) = refl
byte_named (byte.Local kinds.Long Store) = refl
byte_named (byte.Local kinds.Ref Store) = refl

index_named : (h : IndexHead) → head_at (head_number (heads.Index h)) ≡ Ok (heads.Index h)
unfolding head_at
index_named index.LdcWide = refl
index_named index.Ldc2 = refl
index_named (index.Field GetStatic) = refl
index_named (index.Field PutStatic) = refl
index_named (index.Field GetField) = refl
index_named (index.Field PutField) = refl
index_named (index.Call Virtual) = refl
index_named (index.Call Special) = refl
index_named (index.Call Static) = refl
index_named index.New = refl
index_named index.NewRefArray = refl
index_named (index.Cast CheckCast) = refl
index_named (index.Cast InstanceOf) = refl

branch_named : (h : BranchHead) → head_at (head_number (heads.Branch h)) ≡ Ok (heads.Branch h)
unfolding head_at
branch_named (branch.If t) = each_compare (λ t. head_at (head_number (heads.Branch (branch.If t))) ≡ Ok (heads.Branch (branch.If t))) refl refl refl refl refl refl t
branch_named (branch.IfInt t) = each_compare (λ t. head_at (head_number (heads.Branch (branch.IfInt t))) ≡ Ok (heads.Branch (branch.IfInt t))) refl refl refl refl refl refl t
branch_named (branch.IfRef Same) = refl
branch_named (branch.IfRef Other) = refl
branch_named (branch.IfRef Null) = refl
branch_named (branch.IfRef NonNull) = refl
branch_named branch.Goto = refl

other_named : (h : OtherHead) → head_at (head_number (heads.Other h)) ≡ Ok (heads.Other h)
unfolding head_at
other_named other.Bipush = refl
other_named other.Sipush = refl
other_named other.Iinc = refl
other_named other.TableSwitch = refl
other_named other.LookupSwitch = refl
other_named other.CallInterface = refl
other_named other.NewArray = refl
other_named other.Wide = refl
other_named other.GotoWide = refl

pub head_of_number : (h : Head) → head_at (head_number h) ≡ Ok h
head_of_number (heads.Plain h) = plain_named h
head_of_number (heads.Byte h) = byte_named h
head_of_number (heads.Index h) = index_named h
head_of_number (heads.Branch h) = branch_named h
head_of_number (heads.Other h) = other_named h
