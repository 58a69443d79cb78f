-- An instruction is a format, and code is one of all bytes.
use Rattle.std.proofs.Common.{◌≡◌, ℕ, ◌-◌, ◌≤◌, ℤ, true, false, eqb, List, [], ◌∷◌, ◌++◌, length, Option, Some, None, Result, Ok, Err, refl, sym, ap, subst, ◌∙◌, arith, inl, inr}
use Rattle.std.specs.Prelude.{IsTrue, ◌==◌, if◌then◌else◌}
use Rattle.std.specs.List.{list_all}
use Rattle.std.proofs.lemmas.Bool.{cases_Bool, eqb-true}
use Rattle.jground.specs.jbase.FirstFaults.{first_some}
use Rattle.jground.specs.declared.jformat.error.Fault.{Fault}
use Rattle.jground.specs.jformat.Format.{IsBytes, Answer, unless_fault}
use Rattle.jground.proofs.JformatProofs.ReadingSteps.{IsBytes-rest, bind_ok, bind_err, ok_is, both, first_true, second_true, fault_within}
use Rattle.jground.proofs.JformatProofs.FormatLaws.{Takes, IsFormat, HasBytes, as_case_law}
use Rattle.jground.proofs.JformatProofs.Blocks.{IsBody}
use Rattle.jground.proofs.JformatProofs.StatefulFormats.{many_by_law}
use Rattle.jparts.specs.declared.jcode.fault.CodeFault.{CodeFault}
use Rattle.jparts.specs.declared.jcode.fault.CodeFault.TheVariants.{Truncated, BadTarget}
use Rattle.jparts.specs.declared.jcode.names.LocalKind.TheVariants as kinds
use Rattle.jparts.specs.declared.jcode.op.Op.{Op}
use Rattle.jparts.specs.declared.jcode.op.Op.TheVariants as ops
use Rattle.jparts.specs.declared.jcode.op.IntConst.TheVariants as consts
use Rattle.jparts.specs.declared.jcode.op.Ldc.TheVariants as ldcs
use Rattle.jparts.specs.declared.jcode.op.LocalOp.TheVariants as locals
use Rattle.jparts.specs.declared.jcode.op.Goto.TheVariants as gotos
use Rattle.jparts.specs.declared.jcode.op.NewOp.TheVariants as news
use Rattle.jparts.specs.declared.jcode.op.Switch.TheVariants as switches
use Rattle.jparts.specs.declared.jcode.op.Placed.{Placed}
use Rattle.jparts.specs.declared.jcode.head.Head.{Head}
use Rattle.jparts.specs.declared.jcode.head.Head.TheVariants as heads
use Rattle.jparts.specs.declared.jcode.head.OneByteOp.{OneByteOp}
use Rattle.jparts.specs.declared.jcode.head.OneByteOp.TheVariants as plain
use Rattle.jparts.specs.declared.jcode.head.ByteHead.TheVariants as byte
use Rattle.jparts.specs.declared.jcode.head.IndexHead.{IndexHead}
use Rattle.jparts.specs.declared.jcode.head.IndexHead.TheVariants as index
use Rattle.jparts.specs.declared.jcode.head.BranchHead.{BranchHead}
use Rattle.jparts.specs.declared.jcode.head.BranchHead.TheVariants as branch
use Rattle.jparts.specs.declared.jcode.head.OtherHead.{OtherHead}
use Rattle.jparts.specs.declared.jcode.head.OtherHead.TheVariants as other
use Rattle.jparts.specs.jcode.Opcodes.{head_number, head_at}
use Rattle.jparts.specs.jcode.OperandFormats.{Operand, operands}
use Rattle.jparts.specs.jcode.Instructions.{op_from, Parts, parts, behind, behind_fits, read_behind, at_front, behind_head, instruction_at, instruction, placed_at, placed, place_behind, instructions, leads, first_lost, lost_fault, code}
use Rattle.jparts.specs.ProofNames.{lost}
use Rattle.jparts.proofs.JcodeProofs.OpcodeLaws.{number_of_head, head_of_number}
use Rattle.jparts.proofs.JcodeProofs.OperandLaws.{operands_law}

-- ---- names for what definitions say in place

abbrev op_at : ℕ → Placed → Option Op
op_at at p = if p.at == at then Some p.op else None

-- ---- an opcode with its operands, and an instruction

abbrev Returns : (h : Head) → Operand h → Type 0
Returns h x = ◌≡◌ {A = Parts} (parts (op_from h x)) (h, x)

plain_back : (p : OneByteOp) (x : Unit {0}) → Returns (heads.Plain p) x
plain_back plain.Nop x = refl
plain_back plain.AconstNull x = refl
plain_back (plain.IntConst n) x = refl
plain_back (plain.LongConst n) x = refl
plain_back (plain.Local kinds.Int access slot) x = refl
plain_back (plain.Local kinds.Long access slot) x = refl
plain_back (plain.Local kinds.Ref access slot) x = refl
plain_back (plain.ArrayLoad element) x = refl
plain_back (plain.ArrayStore element) x = refl
plain_back (plain.Stack op) x = refl
plain_back (plain.Two op) x = refl
plain_back (plain.Divide op) x = refl
plain_back (plain.One op) x = refl
plain_back (plain.Return kind) x = refl
plain_back (plain.Object op) x = refl

index_back : (h : IndexHead) (n : ℕ) → Returns (heads.Index h) n
index_back index.LdcWide n = refl
index_back index.Ldc2 n = refl
index_back (index.Field op) n = refl
index_back (index.Call op) n = refl
index_back index.New n = refl
index_back index.NewRefArray n = refl
index_back (index.Cast op) n = refl

branch_back : (h : BranchHead) (by : ℤ) → Returns (heads.Branch h) by
branch_back (branch.If test) by = refl
branch_back (branch.IfInt test) by = refl
branch_back (branch.IfRef test) by = refl
branch_back branch.Goto by = refl

other_back : (h : OtherHead) (x : Operand (heads.Other h)) → Returns (heads.Other h) x
other_back other.Bipush x = refl
other_back other.Sipush x = refl
other_back other.Iinc x = refl
other_back other.TableSwitch x = refl
other_back other.LookupSwitch x = refl
other_back other.CallInterface x = refl
other_back other.NewArray x = refl
other_back other.Wide x = refl
other_back other.GotoWide x = refl

op_back : (h : Head) (x : Operand h) → Returns h x
op_back (heads.Plain h) x = plain_back h x
op_back (heads.Byte byte.Ldc) x = refl
op_back (heads.Byte (byte.Local kinds.Int access)) x = refl
op_back (heads.Byte (byte.Local kinds.Long access)) x = refl
op_back (heads.Byte (byte.Local kinds.Ref access)) x = refl
op_back (heads.Index h) x = index_back h x
op_back (heads.Branch h) x = branch_back h x
op_back (heads.Other h) x = other_back h x

op_forth : (op : Op) → op_from (parts op).0 (parts op).1 ≡ op
op_forth ops.Nop = refl
op_forth ops.AconstNull = refl
op_forth (ops.IntConst (consts.Small n)) = refl
op_forth (ops.IntConst (consts.Byte n)) = refl
op_forth (ops.IntConst (consts.Short n)) = refl
op_forth (ops.LongConst n) = refl
op_forth (ops.Ldc (ldcs.Narrow n)) = refl
op_forth (ops.Ldc (ldcs.Wide n)) = refl
op_forth (ops.Ldc2 n) = refl
op_forth (ops.IntLocal (locals.At access n)) = refl
op_forth (ops.IntLocal (locals.Slot access slot)) = refl
op_forth (ops.LongLocal (locals.At access n)) = refl
op_forth (ops.LongLocal (locals.Slot access slot)) = refl
op_forth (ops.RefLocal (locals.At access n)) = refl
op_forth (ops.RefLocal (locals.Slot access slot)) = refl
op_forth (ops.ArrayLoad element) = refl
op_forth (ops.ArrayStore element) = refl
op_forth (ops.Stack op) = refl
op_forth (ops.Two op) = refl
op_forth (ops.Divide op) = refl
op_forth (ops.One op) = refl
op_forth (ops.Iinc n by) = refl
op_forth (ops.If test by) = refl
op_forth (ops.IfInt test by) = refl
op_forth (ops.IfRef test by) = refl
op_forth (ops.Goto (gotos.Narrow by)) = refl
op_forth (ops.Goto (gotos.Wide by)) = refl
op_forth (ops.Switch (switches.Table s)) = refl
op_forth (ops.Switch (switches.Lookup s)) = refl
op_forth (ops.Return kind) = refl
op_forth (ops.Field op n) = refl
op_forth (ops.Call op n) = refl
op_forth (ops.CallInterface n slots) = refl
op_forth (ops.New (news.Object n)) = refl
op_forth (ops.New (news.Array element)) = refl
op_forth (ops.New (news.RefArray n)) = refl
op_forth (ops.Object op) = refl
op_forth (ops.Cast op n) = refl
op_forth (ops.Wide w) = refl

-- ---- an instruction

front_ok : {A : Type 0} (bytes : List ℕ) (r : Answer CodeFault A) (x : A × List ℕ) → at_front bytes r ≡ Ok x → r ≡ Ok x
front_ok bytes (Ok y) x e = e
front_ok bytes (Err d) x e = absurd cc

front_within : {A : Type 0} (bytes : List ℕ) (r : Answer CodeFault A) (d : Fault CodeFault) → at_front bytes r ≡ Err d → d.left ≤ length bytes
front_within bytes (Ok y) d e = absurd cc
front_within bytes (Err c) d e = fault_within c.kind bytes bytes d (omega arith) cc

head_takes : (at t : ℕ) (rest : List ℕ) (x : Op × List ℕ) (o : Result Head CodeFault) → head_at t ≡ o → IsBytes rest → at_front (t ∷ rest) (behind_head at rest o) ≡ Ok x → Takes (instruction at).spell (instruction at).fits (t ∷ rest) x
unfolding instruction behind behind_fits read_behind
head_takes at t rest x (Err kind) is fits e = absurd cc
head_takes at t rest x (Ok h) is fits e =
    let a = bind_ok ((operands at h).read rest) (λ y. Ok (op_from h y.0, y.1)) x (front_ok (t ∷ rest) (behind_head at rest (Ok h)) x e) in
    let s = (operands_law at h).takes rest a.0 fits a.1 in
    let made : Op × List ℕ = (op_from h a.0.0, a.0.1) in
    let spelled : (instruction at).spell made.0 ≡ t ∷ (operands at h).spell a.0.0 =
    ap (λ (p : Parts). head_number p.0 ∷ (operands at p.0).spell p.1) (op_back h a.0.0) ∙ ap (λ (n : ℕ). n ∷ (operands at h).spell a.0.0) (number_of_head t h is) in
    let fitting : (instruction at).fits made.0 ≡ (operands at h).fits a.0.0 =
    ap (λ (p : Parts). (operands at p.0).fits p.1) (op_back h a.0.0) in
    let all : Takes (instruction at).spell (instruction at).fits (t ∷ rest) made = record {
      parts = ap (λ (r : List ℕ). t ∷ r) s.parts ∙ ap (λ (r : List ℕ). r ++ made.1) (sym spelled);
      rest_fits = s.rest_fits;
      fit = fitting ∙ s.fit;
    } in
    subst (λ (y : Op × List ℕ). Takes (instruction at).spell (instruction at).fits (t ∷ rest) y) (ok_is (Fault CodeFault) made x a.2) all

instruction_takes : (at : ℕ) (bytes : List ℕ) (x : Op × List ℕ) → IsBytes bytes → instruction_at at bytes ≡ Ok x → Takes (instruction at).spell (instruction at).fits bytes x
instruction_takes at [] x fits e = absurd cc
instruction_takes at (t ∷ rest) x fits e = head_takes at t rest x (head_at t) refl (IsBytes-rest t rest fits) e

instruction_again : (at : ℕ) (op : Op) (rest : List ℕ) → IsTrue ((instruction at).fits op) → instruction_at at ((instruction at).spell op ++ rest) ≡ Ok (op, rest)
unfolding instruction behind behind_fits read_behind
instruction_again at op rest fit =
    let p = parts op in
    let one = (operands_law at p.0).again p.1 rest fit in
    let named = head_of_number p.0 in
    rw (named, one) (ap (λ (o : Op). Ok (o, rest)) (op_forth op))

instruction_within : (at : ℕ) (bytes : List ℕ) (d : Fault CodeFault) → instruction_at at bytes ≡ Err d → d.left ≤ length bytes
instruction_within at [] d e = fault_within Truncated [] [] d (omega arith) cc
instruction_within at (t ∷ rest) d e = front_within (t ∷ rest) (behind_head at rest (head_at t)) d e

head_shorter : (at t : ℕ) (rest : List ℕ) (x : Op × List ℕ) (o : Result Head CodeFault) → at_front (t ∷ rest) (behind_head at rest o) ≡ Ok x → length x.1 ≤ length (t ∷ rest)
unfolding read_behind
head_shorter at t rest x (Err kind) e = absurd cc
head_shorter at t rest x (Ok h) e =
    let a = bind_ok ((operands at h).read rest) (λ y. Ok (op_from h y.0, y.1)) x (front_ok (t ∷ rest) (behind_head at rest (Ok h)) x e) in
    let le = (operands_law at h).reading.shorter rest a.0 a.1 in
    let made : Op × List ℕ = (op_from h a.0.0, a.0.1) in
    rw (sym (ok_is (Fault CodeFault) made x a.2)) (omega arith)

instruction_shorter : (at : ℕ) (bytes : List ℕ) (x : Op × List ℕ) → instruction_at at bytes ≡ Ok x → length x.1 ≤ length bytes
instruction_shorter at [] x e = absurd cc
instruction_shorter at (t ∷ rest) x e = head_shorter at t rest x (head_at t) e

pub instruction_law : (at : ℕ) → IsFormat (instruction at)
unfolding instruction
instruction_law at = record {
  takes = instruction_takes at;
  again = λ op rest fit. instruction_again at op rest fit;
  reading = record { within = instruction_within at; shorter = instruction_shorter at };
}

-- ---- instructions one behind the other

op_at_back : (at : ℕ) (op : Op) → op_at at (placed_at at op) ≡ Some op
op_at_back at op = let same : eqb at at ≡ true = grind arith in rw same refl

op_at_forth : (at : ℕ) (p : Placed) (op : Op) → op_at at p ≡ Some op → p ≡ placed_at at op
op_at_forth at p op e = elim (cases_Bool (eqb p.at at)) [
  | inl hit ↦
      let e' : Some p.op ≡ Some op = rw hit at e in
      let same : p.op ≡ op = cc in
      ap (λ (n : ℕ). placed_at n p.op) (eqb-true _ _ hit) ∙ ap (placed_at at) same
  | inr miss ↦ let no : None ≡ Some op = rw miss at e in absurd cc
]

pub placed_law : (at : ℕ) → IsFormat (placed at)
placed_law at = as_case_law (placed_at at) (op_at at) (instruction at) (op_at_back at) (op_at_forth at) (instruction_law at)

-- what stands at a place has that place
pub fits_at : (at : ℕ) (p : Placed) → IsTrue ((placed at).fits p) → (p.at ≡ at) × (IsTrue ((instruction at).fits p.op)) × ((placed at).spell p ≡ (instruction at).spell p.op)
fits_at at p fit = elim (cases_Bool (eqb p.at at)) [
  | inl hit ↦ (eqb-true _ _ hit, rw hit at fit, rw hit refl)
  | inr miss ↦ let no : false ≡ true = rw miss at fit in absurd cc
]

placed_some : (at : ℕ) → HasBytes (placed at)
unfolding instruction
placed_some at p fit = let f = fits_at at p fit in rw f.2 (omega arith)

pub instructions_law : IsBody instructions
unfolding instructions
instructions_law = many_by_law Truncated placed place_behind placed_law placed_some 0

-- ---- code

all_lead : (ps qs : List Placed) → first_some (lost ps) qs ≡ None → IsTrue (list_all (leads ps) qs)
unfolding first_some
all_lead ps [] e = refl
all_lead ps (q ∷ qs) e = elim (cases_Bool (leads ps q)) [
  | inl good ↦ both _ _ good (all_lead ps qs (rw good at e))
  | inr bad ↦ let no : Some q.at ≡ None = rw bad at e in absurd cc
]

none_is_lost : (ps qs : List Placed) → IsTrue (list_all (leads ps) qs) → first_some (lost ps) qs ≡ None
unfolding first_some
none_is_lost ps [] fit = refl
none_is_lost ps (q ∷ qs) fit =
    let good : leads ps q ≡ true = first_true (leads ps q) (list_all (leads ps) qs) fit in
    rw good (none_is_lost ps qs (second_true (leads ps q) (list_all (leads ps) qs) fit))

good_code : (bytes : List ℕ) (qs ps : List Placed) (o : Option ℕ) → unless_fault qs (lost_fault bytes o) ≡ Ok ps → (o ≡ None) × (qs ≡ ps)
good_code bytes qs ps None e = (refl, ok_is (Fault CodeFault) qs ps e)
good_code bytes qs ps (Some at) e = absurd cc

bad_code : (bytes : List ℕ) (ps : List Placed) (o : Option ℕ) (d : Fault CodeFault) → unless_fault ps (lost_fault bytes o) ≡ Err d → d.left ≤ length bytes
bad_code bytes ps None d e = absurd cc
bad_code bytes ps (Some at) d e =
    let made : Fault CodeFault = record { left = length bytes - at; kind = BadTarget } in
    let same : made ≡ d = cc in
    rw (sym same) (omega arith)

pub code_law : IsBody code
unfolding code first_lost
code_law = record {
  takes = λ bytes ps fits e.
      let a = bind_ok (instructions.read bytes) (λ qs. unless_fault qs (lost_fault bytes (first_lost qs))) ps e in
      let g = good_code bytes a.0 ps (first_lost a.0) a.2 in
      let t = instructions_law.takes bytes a.0 fits a.1 in
      let lead : IsTrue (list_all (leads a.0) a.0) = all_lead a.0 a.0 g.0 in
      subst (λ (qs : List Placed). IsTrue (code.fits qs) × (bytes ≡ code.spell qs)) g.1 (both _ _ t.0 lead, t.1);
  again = λ ps fit.
      let one = instructions_law.again ps (first_true (instructions.fits ps) (list_all (leads ps) ps) fit) in
      let none = none_is_lost ps ps (second_true (instructions.fits ps) (list_all (leads ps) ps) fit) in
      rw (one, none) refl;
  within = λ bytes d e. elim (bind_err (instructions.read bytes) (λ qs. unless_fault qs (lost_fault bytes (first_lost qs))) d e) [
    | inl h ↦ instructions_law.within bytes d h
    | inr h ↦ bad_code bytes h.0 (first_lost h.0) d h.2
  ];
}
