-- The opcodes (JVMS 6.5): the number of each, and which stands for a number.
use Rattle.std.specs.Prelude.{ℕ, ◌+◌, ◌==◌, nat_lt, if◌then◌else◌, map, List, [], ◌∷◌, ◌++◌, Option, Some, None, Result, Ok, Err}
use Rattle.std.specs.List.{find}
use Rattle.jparts.specs.declared.jcode.names.LocalKind.{LocalKind}
use Rattle.jparts.specs.declared.jcode.names.LocalKind.TheVariants as kinds
use Rattle.jparts.specs.declared.jcode.names.Access.{Access}
use Rattle.jparts.specs.declared.jcode.names.Access.TheVariants.{Load, Store}
use Rattle.jparts.specs.declared.jcode.names.Slot.{Slot}
use Rattle.jparts.specs.declared.jcode.names.Slot.TheVariants as slots
use Rattle.jparts.specs.declared.jcode.names.SmallInt.{SmallInt}
use Rattle.jparts.specs.declared.jcode.names.SmallInt.TheVariants as ints
use Rattle.jparts.specs.declared.jcode.names.SmallLong.{SmallLong}
use Rattle.jparts.specs.declared.jcode.names.SmallLong.TheVariants as longs
use Rattle.jparts.specs.declared.jcode.names.Element.{Element}
use Rattle.jparts.specs.declared.jcode.names.Element.TheVariants as elements
use Rattle.jvalues.specs.declared.jnames.names.OpTwo.{OpTwo}
use Rattle.jvalues.specs.declared.jnames.names.OpTwo.TheVariants as twos
use Rattle.jvalues.specs.declared.jnames.names.Division.{Division}
use Rattle.jvalues.specs.declared.jnames.names.Division.TheVariants as divisions
use Rattle.jvalues.specs.declared.jnames.names.OpOne.{OpOne}
use Rattle.jvalues.specs.declared.jnames.names.OpOne.TheVariants as ones
use Rattle.jvalues.specs.declared.jnames.names.Shuffle.{Shuffle}
use Rattle.jvalues.specs.declared.jnames.names.Shuffle.TheVariants.{Pop, Pop2, Dup, DupX1, DupX2, Dup2, Dup2X1, Dup2X2, Swap}
use Rattle.jvalues.specs.declared.jnames.names.Compare.{Compare}
use Rattle.jvalues.specs.declared.jnames.names.Compare.TheVariants.{Eq, Ne, Lt, Ge, Gt, Le}
use Rattle.jparts.specs.declared.jcode.names.RefTest.{RefTest}
use Rattle.jparts.specs.declared.jcode.names.RefTest.TheVariants.{Same, Other, Null, NonNull}
use Rattle.jparts.specs.declared.jcode.names.Returned.{Returned}
use Rattle.jparts.specs.declared.jcode.names.Returned.TheVariants as results
use Rattle.jparts.specs.declared.jcode.names.FieldOp.TheVariants.{GetStatic, PutStatic, GetField, PutField}
use Rattle.jparts.specs.declared.jcode.names.CallOp.TheVariants.{Virtual, Special, Static}
use Rattle.jparts.specs.declared.jcode.names.ObjectOp.TheVariants.{ArrayLength, Throw}
use Rattle.jparts.specs.declared.jcode.names.CastOp.TheVariants.{CheckCast, InstanceOf}
use Rattle.jparts.specs.declared.jcode.fault.CodeFault.{CodeFault}
use Rattle.jparts.specs.declared.jcode.fault.CodeFault.TheVariants.{LeftOut, UnknownOpcode}
use Rattle.jparts.specs.declared.jcode.head.Head.{Head}
use Rattle.jparts.specs.declared.jcode.head.Head.TheVariants as heads
use Rattle.jparts.specs.declared.jcode.head.OneByteOp.{OneByteOp}
use Rattle.jparts.specs.declared.jcode.head.OneByteOp.TheVariants as plain
use Rattle.jparts.specs.declared.jcode.head.ByteHead.{ByteHead}
use Rattle.jparts.specs.declared.jcode.head.ByteHead.TheVariants as byte
use Rattle.jparts.specs.declared.jcode.head.IndexHead.{IndexHead}
use Rattle.jparts.specs.declared.jcode.head.IndexHead.TheVariants as index
use Rattle.jparts.specs.declared.jcode.head.BranchHead.{BranchHead}
use Rattle.jparts.specs.declared.jcode.head.BranchHead.TheVariants as branch
use Rattle.jparts.specs.declared.jcode.head.OtherHead.{OtherHead}
use Rattle.jparts.specs.declared.jcode.head.OtherHead.TheVariants as other

-- ---- places in a row of opcodes

abbrev pub slot_step : Slot → ℕ
slot_step = elim [ slots.Zero ↦ 0 | slots.One ↦ 1 | slots.Two ↦ 2 | slots.Three ↦ 3 ]

abbrev pub int_step : SmallInt → ℕ
int_step = elim [ ints.MinusOne ↦ 0 | ints.Zero ↦ 1 | ints.One ↦ 2 | ints.Two ↦ 3 | ints.Three ↦ 4 | ints.Four ↦ 5 | ints.Five ↦ 6 ]

abbrev pub long_step : SmallLong → ℕ
long_step = elim [ longs.Zero ↦ 0 | longs.One ↦ 1 ]

abbrev pub element_step : Element → ℕ
element_step = elim [ elements.Int ↦ 0 | elements.Long ↦ 1 | elements.Ref ↦ 4 | elements.Byte ↦ 5 | elements.Char ↦ 6 | elements.Short ↦ 7 ]

abbrev pub shuffle_step : Shuffle → ℕ
shuffle_step = elim [ Pop ↦ 0 | Pop2 ↦ 1 | Dup ↦ 2 | DupX1 ↦ 3 | DupX2 ↦ 4 | Dup2 ↦ 5 | Dup2X1 ↦ 6 | Dup2X2 ↦ 7 | Swap ↦ 8 ]

abbrev pub compare_step : Compare → ℕ
compare_step = elim [ Eq ↦ 0 | Ne ↦ 1 | Lt ↦ 2 | Ge ↦ 3 | Gt ↦ 4 | Le ↦ 5 ]

-- ---- the number of each opcode

abbrev pub slot_base : LocalKind → Access → ℕ
slot_base kinds.Int Load = 0x1a
slot_base kinds.Long Load = 0x1e
slot_base kinds.Ref Load = 0x2a
slot_base kinds.Int Store = 0x3b
slot_base kinds.Long Store = 0x3f
slot_base kinds.Ref Store = 0x4b

abbrev pub two_number : OpTwo → ℕ
two_number twos.Iadd = 0x60
two_number twos.Ladd = 0x61
two_number twos.Isub = 0x64
two_number twos.Lsub = 0x65
two_number twos.Imul = 0x68
two_number twos.Lmul = 0x69
two_number twos.Ishl = 0x78
two_number twos.Lshl = 0x79
two_number twos.Ishr = 0x7a
two_number twos.Lshr = 0x7b
two_number twos.Iushr = 0x7c
two_number twos.Lushr = 0x7d
two_number twos.Iand = 0x7e
two_number twos.Land = 0x7f
two_number twos.Ior = 0x80
two_number twos.Lor = 0x81
two_number twos.Ixor = 0x82
two_number twos.Lxor = 0x83
two_number twos.Lcmp = 0x94

abbrev pub division_number : Division → ℕ
division_number = elim [ divisions.Idiv ↦ 0x6c | divisions.Irem ↦ 0x70 | divisions.Ldiv ↦ 0x6d | divisions.Lrem ↦ 0x71 ]

abbrev pub one_number : OpOne → ℕ
one_number = elim [ ones.Ineg ↦ 0x74 | ones.Lneg ↦ 0x75 | ones.I2l ↦ 0x85 | ones.L2i ↦ 0x88 | ones.I2b ↦ 0x91 | ones.I2c ↦ 0x92 | ones.I2s ↦ 0x93 ]

abbrev pub return_number : Returned → ℕ
return_number = elim [ results.Int ↦ 0xac | results.Long ↦ 0xad | results.Ref ↦ 0xb0 | results.Nothing ↦ 0xb1 ]

abbrev pub ref_test_number : RefTest → ℕ
ref_test_number = elim [ Same ↦ 0xa5 | Other ↦ 0xa6 | Null ↦ 0xc6 | NonNull ↦ 0xc7 ]

abbrev pub head_number : Head → ℕ
head_number (heads.Plain plain.Nop) = 0x00
head_number (heads.Plain plain.AconstNull) = 0x01
head_number (heads.Plain (plain.IntConst n)) = 0x02 + int_step n
head_number (heads.Plain (plain.LongConst n)) = 0x09 + long_step n
head_number (heads.Plain (plain.Local kind access slot)) = slot_base kind access + slot_step slot
head_number (heads.Plain (plain.ArrayLoad element)) = 0x2e + element_step element
head_number (heads.Plain (plain.ArrayStore element)) = 0x4f + element_step element
head_number (heads.Plain (plain.Stack op)) = 0x57 + shuffle_step op
head_number (heads.Plain (plain.Two op)) = two_number op
head_number (heads.Plain (plain.Divide op)) = division_number op
head_number (heads.Plain (plain.One op)) = one_number op
head_number (heads.Plain (plain.Return kind)) = return_number kind
head_number (heads.Plain (plain.Object op)) = elim op [ ArrayLength ↦ 0xbe | Throw ↦ 0xbf ]
head_number (heads.Byte byte.Ldc) = 0x12
head_number (heads.Byte (byte.Local kinds.Int Load)) = 0x15
head_number (heads.Byte (byte.Local kinds.Long Load)) = 0x16
head_number (heads.Byte (byte.Local kinds.Ref Load)) = 0x19
head_number (heads.Byte (byte.Local kinds.Int Store)) = 0x36
head_number (heads.Byte (byte.Local kinds.Long Store)) = 0x37
head_number (heads.Byte (byte.Local kinds.Ref Store)) = 0x3a
head_number (heads.Index index.LdcWide) = 0x13
head_number (heads.Index index.Ldc2) = 0x14
head_number (heads.Index (index.Field op)) = 0xb2 + (elim op [ GetStatic ↦ 0 | PutStatic ↦ 1 | GetField ↦ 2 | PutField ↦ 3 ])
head_number (heads.Index (index.Call op)) = 0xb6 + (elim op [ Virtual ↦ 0 | Special ↦ 1 | Static ↦ 2 ])
head_number (heads.Index index.New) = 0xbb
head_number (heads.Index index.NewRefArray) = 0xbd
head_number (heads.Index (index.Cast op)) = elim op [ CheckCast ↦ 0xc0 | InstanceOf ↦ 0xc1 ]
head_number (heads.Branch (branch.If test)) = 0x99 + compare_step test
head_number (heads.Branch (branch.IfInt test)) = 0x9f + compare_step test
head_number (heads.Branch (branch.IfRef test)) = ref_test_number test
head_number (heads.Branch branch.Goto) = 0xa7
head_number (heads.Other other.Bipush) = 0x10
head_number (heads.Other other.Sipush) = 0x11
head_number (heads.Other other.Iinc) = 0x84
head_number (heads.Other other.TableSwitch) = 0xaa
head_number (heads.Other other.LookupSwitch) = 0xab
head_number (heads.Other other.CallInterface) = 0xb9
head_number (heads.Other other.NewArray) = 0xbc
head_number (heads.Other other.Wide) = 0xc4
head_number (heads.Other other.GotoWide) = 0xc8

-- ---- the opcode of a number

abbrev pub all_kinds : List LocalKind
all_kinds = kinds.Int ∷ kinds.Long ∷ kinds.Ref ∷ []

abbrev pub all_slots : List Slot
all_slots = slots.Zero ∷ slots.One ∷ slots.Two ∷ slots.Three ∷ []

abbrev pub all_ints : List SmallInt
all_ints = ints.MinusOne ∷ ints.Zero ∷ ints.One ∷ ints.Two ∷ ints.Three ∷ ints.Four ∷ ints.Five ∷ []

abbrev pub all_elements : List Element
all_elements = elements.Int ∷ elements.Long ∷ elements.Ref ∷ elements.Byte ∷ elements.Char ∷ elements.Short ∷ []

abbrev pub all_shuffles : List Shuffle
all_shuffles = Pop ∷ Pop2 ∷ Dup ∷ DupX1 ∷ DupX2 ∷ Dup2 ∷ Dup2X1 ∷ Dup2X2 ∷ Swap ∷ []

abbrev pub all_two : List OpTwo
all_two = twos.Iadd ∷ twos.Ladd ∷ twos.Isub ∷ twos.Lsub ∷ twos.Imul ∷ twos.Lmul ∷ twos.Ishl ∷ twos.Lshl ∷ twos.Ishr ∷ twos.Lshr ∷ twos.Iushr
    ∷ twos.Lushr
    ∷ twos.Iand ∷ twos.Land ∷ twos.Ior ∷ twos.Lor ∷ twos.Ixor ∷ twos.Lxor ∷ twos.Lcmp ∷ []

abbrev pub all_divisions : List Division
all_divisions = divisions.Idiv ∷ divisions.Irem ∷ divisions.Ldiv ∷ divisions.Lrem ∷ []

abbrev pub all_one : List OpOne
all_one = ones.Ineg ∷ ones.Lneg ∷ ones.I2l ∷ ones.L2i ∷ ones.I2b ∷ ones.I2c ∷ ones.I2s ∷ []

abbrev pub all_compares : List Compare
all_compares = Eq ∷ Ne ∷ Lt ∷ Ge ∷ Gt ∷ Le ∷ []

abbrev pub of_kind : LocalKind → List OneByteOp
of_kind kind = map (plain.Local kind Load) all_slots ++ map (plain.Local kind Store) all_slots

abbrev pub all_plain : List OneByteOp
all_plain = plain.Nop ∷ plain.AconstNull ∷ map plain.IntConst all_ints ++ plain.LongConst longs.Zero ∷ plain.LongConst longs.One
    ∷ of_kind kinds.Int ++ of_kind kinds.Long ++ of_kind kinds.Ref
    ++ map plain.ArrayLoad all_elements ++ map plain.ArrayStore all_elements ++ map plain.Stack all_shuffles
    ++ map plain.Two all_two ++ map plain.Divide all_divisions ++ map plain.One all_one
    ++ plain.Return results.Int ∷ plain.Return results.Long ∷ plain.Return results.Ref ∷ plain.Return results.Nothing
    ∷ plain.Object ArrayLength ∷ plain.Object Throw ∷ []

abbrev pub all_bytes : List ByteHead
all_bytes = byte.Ldc ∷ map (λ kind. byte.Local kind Load) all_kinds ++ map (λ kind. byte.Local kind Store) all_kinds

abbrev pub all_indices : List IndexHead
all_indices = index.LdcWide ∷ index.Ldc2 ∷ index.Field GetStatic ∷ index.Field PutStatic ∷ index.Field GetField ∷ index.Field PutField
    ∷ index.Call Virtual ∷ index.Call Special ∷ index.Call Static ∷ index.New ∷ index.NewRefArray ∷ index.Cast CheckCast ∷ index.Cast InstanceOf ∷ []

abbrev pub all_branches : List BranchHead
all_branches = map branch.If all_compares ++ map branch.IfInt all_compares
    ++ branch.IfRef Same ∷ branch.IfRef Other ∷ branch.IfRef Null ∷ branch.IfRef NonNull ∷ branch.Goto ∷ []

abbrev pub all_others : List OtherHead
all_others = other.Bipush ∷ other.Sipush ∷ other.Iinc ∷ other.TableSwitch ∷ other.LookupSwitch ∷ other.CallInterface ∷ other.NewArray ∷ other.Wide
    ∷ other.GotoWide ∷ []

-- all opcodes that aren't left out
abbrev pub all_heads : List Head
all_heads = map heads.Plain all_plain ++ map heads.Byte all_bytes ++ map heads.Index all_indices ++ map heads.Branch all_branches
    ++ map heads.Other all_others

-- Other numbers below 0xca are of opcodes that are left out; there are no opcodes from 0xca on.
abbrev pub or_fault : ℕ → Option Head → Result Head CodeFault
or_fault n = elim [ Some h ↦ Ok h | None ↦ if nat_lt n 0xca then Err (LeftOut n) else Err (UnknownOpcode n) ]

-- what a first byte says
unfoldable pub head_at : ℕ → Result Head CodeFault
head_at n = or_fault n (find (λ h. head_number h == n) all_heads)
