-- An instruction with other distances has a spelling at another place, where these are numbers of 16 bits.
use Rattle.std.proofs.Common.{◌≡◌, ℕ, zero, suc, ◌+◌, ◌-◌, ◌<◌, ◌≤◌, ◌%◌, ℤ, pos, negsuc, Bool, true, false, cond, ◌&&◌, List, [], ◌∷◌, map, length, Option, None, refl, arith, nat_lt}
use Rattle.std.specs.Prelude.{FitsSigned, IsTrue, ◌==◌}
use Rattle.std.specs.List.{list_all}
use Rattle.std.specs.Int.{w16, w32, cast_unsigned, cast_signed}
use Rattle.std.specs.Ordering.{int_eq}
use Rattle.std.proofs.lemmas.Bool.{lt-ltb, ltb-true, ne_eqb}
use Rattle.std.proofs.lemmas.Bool.Decides.{Decides-int_eq}
use Rattle.std.proofs.lemmas.Int.{to_z-of_z}
use Rattle.std.proofs.lemmas.List.{length-map}
use Rattle.jground.specs.jbase.FirstFaults.{fault_if}
use Rattle.jground.specs.jformat.Format.{is_good}
use Rattle.jground.specs.jformat.StatefulFormats.{fits_from}
use Rattle.jground.proofs.JformatProofs.ReadingSteps.{both, first_true, second_true}
use Rattle.jparts.specs.declared.jcode.names.Access.{Access}
use Rattle.jparts.specs.declared.jcode.names.Access.TheVariants.{Load, Store}
use Rattle.jparts.specs.declared.jcode.names.LocalKind.TheVariants.{Ref}
use Rattle.jparts.specs.declared.jcode.op.Op.{Op}
use Rattle.jparts.specs.declared.jcode.op.Op.TheVariants as ops
use Rattle.jparts.specs.declared.jcode.op.Goto.TheVariants as gotos
use Rattle.jparts.specs.declared.jcode.op.IntConst.TheVariants as consts
use Rattle.jparts.specs.declared.jcode.op.Ldc.TheVariants as ldcs
use Rattle.jparts.specs.declared.jcode.op.LocalOp.TheVariants.{At, Slot}
use Rattle.jparts.specs.declared.jcode.op.NewOp.TheVariants as news
use Rattle.jparts.specs.declared.jcode.op.Switch.TheVariants as switches
use Rattle.jparts.specs.declared.jcode.op.Wide.TheVariants.{Local}
use Rattle.jparts.specs.declared.jcode.op.Case.{Case}
use Rattle.jparts.specs.declared.jcode.op.TableSwitch.{TableSwitch}
use Rattle.jparts.specs.declared.jcode.op.LookupSwitch.{LookupSwitch}
use Rattle.jparts.specs.declared.jcode.op.Placed.{Placed}
use Rattle.jparts.specs.declared.jcode.fault.CodeFault.TheVariants.{BadOperand}
use Rattle.jparts.specs.jcode.InstructionForms.{form, branches}
use Rattle.jparts.specs.jcode.OperandFormats.{nil, u1, u2, i2, i4, nils, padding, bounded, case_behind, case_count, key_of, table_switch, lookup_switch, wide, interface_call}
use Rattle.jparts.specs.jcode.Instructions.{behind_fits, lands}
use Rattle.jmove.specs.AssemblyLines.{with_branches, table_with, lookup_with}
use Rattle.jmove.specs.ProofNames.{case_with}
use Rattle.jmove.specs.MethodExpansion.{move_ref, push_int, call_static, calling}

-- ---- numbers

pub below : (n : ℕ) → n ≤ 0xffff → IsTrue (u2.fits n)
below n h = lt-ltb n 65536 (omega arith)

unsigned16 : (z : ℤ) → FitsSigned w16 z → cast_unsigned w16 z < 65536
unsigned16 (pos n) h = let l : n < 32768 = h.sfits in omega arith
unsigned16 (negsuc n) h = omega arith

unsigned32 : (z : ℤ) → FitsSigned w16 z → cast_unsigned w32 z < 4294967296
unsigned32 (pos n) h = let l : n < 32768 = h.sfits in omega arith
unsigned32 (negsuc n) h = omega arith

wider : (z : ℤ) → FitsSigned w16 z → FitsSigned w32 z
wider (pos n) h = let l : n < 32768 = h.sfits in record { sfits = omega arith }
wider (negsuc n) h = let l : n < 32768 = h.sfits in record { sfits = omega arith }

pub narrow : (z : ℤ) → FitsSigned w16 z → IsTrue (i2.fits z)
narrow z h = both (nat_lt (cast_unsigned w16 z) 65536) (int_eq (cast_signed w16 (cast_unsigned w16 z)) z) (lt-ltb (cast_unsigned w16 z) 65536 (unsigned16 z h)) ((Decides-int_eq (cast_signed w16 (cast_unsigned w16 z)) z).1 (to_z-of_z w16 z h))

pub four : (z : ℤ) → FitsSigned w16 z → IsTrue (i4.fits z)
four z h = both (nat_lt (cast_unsigned w32 z) 4294967296) (int_eq (cast_signed w32 (cast_unsigned w32 z)) z) (lt-ltb (cast_unsigned w32 z) 4294967296 (unsigned32 z h)) ((Decides-int_eq (cast_signed w32 (cast_unsigned w32 z)) z).1 (to_z-of_z w32 z (wider z h)))

-- ---- switches

nils_fit : (n : ℕ) → IsTrue ((nils n).fits tt)
unfolding nils
nils_fit zero = refl
nils_fit (suc n) = nils_fit n

fours : (f : ℤ → ℤ) (xs : List ℤ) → ((z : ℤ) → FitsSigned w16 (f z)) → IsTrue (list_all i4.fits (map f xs))
fours f [] g = refl
fours f (x ∷ xs) g = both (i4.fits (f x)) (list_all i4.fits (map f xs)) (four (f x) (g x)) (fours f xs g)

cases_fit : (f : ℤ → ℤ) (t : Option ℤ) (cs : List Case) → ((z : ℤ) → FitsSigned w16 (f z)) → IsTrue (fits_from (λ t. (case_behind t).fits) key_of t cs) → IsTrue (fits_from (λ t. (case_behind t).fits) key_of t (map (case_with f) cs))
unfolding fits_from
cases_fit f t [] g h = refl
cases_fit f t (c ∷ cs) g h =
    let here = first_true ((case_behind t).fits c) (fits_from (λ t. (case_behind t).fits) key_of (key_of t c) cs) h in
    let later = second_true ((case_behind t).fits c) (fits_from (λ t. (case_behind t).fits) key_of (key_of t c) cs) h in
    both ((case_behind t).fits (case_with f c)) (fits_from (λ t. (case_behind t).fits) key_of (key_of t c) (map (case_with f) cs))
    (both _ _ (first_true _ _ here) (four (f c.branch) (g c.branch))) (cases_fit f (key_of t c) cs g later)

table_fits : (f : ℤ → ℤ) (q at : ℕ) (s : TableSwitch) → ((z : ℤ) → FitsSigned w16 (f z)) → IsTrue ((table_switch q).fits s) → IsTrue ((table_switch at).fits (table_with f s))
unfolding table_switch bounded
table_fits f q at s g h =
    let rest = second_true ((padding q).fits tt) _ h in
    let bound = second_true (i4.fits s.default) _ rest in
    let limits = first_true _ _ bound in
    let number = second_true (list_all i4.fits s.branches) _ (second_true _ _ bound) in
    both _ _ (nils_fit (3 - at % 4)) (both _ _ (four (f s.default) (g s.default)) (both _ _ limits (both _ _ (fours f s.branches g) (rw (length-map s.branches f) number))))

lookup_fits : (f : ℤ → ℤ) (q at : ℕ) (s : LookupSwitch) → ((z : ℤ) → FitsSigned w16 (f z)) → IsTrue ((lookup_switch q).fits s) → IsTrue ((lookup_switch at).fits (lookup_with f s))
unfolding lookup_switch
lookup_fits f q at s g h =
    let rest = second_true ((padding q).fits tt) _ h in
    let cases = second_true (i4.fits s.default) _ rest in
    let number = second_true (fits_from (λ t. (case_behind t).fits) key_of None s.cases) (case_count.fits (length s.cases)) cases in
    both _ _ (nils_fit (3 - at % 4)) (both _ _ (four (f s.default) (g s.default)) (both _ _ (cases_fit f None s.cases g (first_true _ _ cases)) (rw (length-map s.cases (case_with f)) number)))

-- ---- instructions

pub op_fits : (f : ℤ → ℤ) (q at : ℕ) (op : Op) → ((z : ℤ) → FitsSigned w16 (f z)) → IsTrue (behind_fits q op) → IsTrue (behind_fits at (with_branches f op))
unfolding behind_fits
op_fits f q at ops.Nop g h = h
op_fits f q at ops.AconstNull g h = h
op_fits f q at (ops.IntConst (consts.Small n)) g h = h
op_fits f q at (ops.IntConst (consts.Byte n)) g h = h
op_fits f q at (ops.IntConst (consts.Short n)) g h = h
op_fits f q at (ops.LongConst c) g h = h
op_fits f q at (ops.Ldc (ldcs.Narrow n)) g h = h
op_fits f q at (ops.Ldc (ldcs.Wide n)) g h = h
op_fits f q at (ops.Ldc2 m) g h = h
op_fits f q at (ops.IntLocal (At access n)) g h = h
op_fits f q at (ops.IntLocal (Slot access n)) g h = h
op_fits f q at (ops.LongLocal (At access n)) g h = h
op_fits f q at (ops.LongLocal (Slot access n)) g h = h
op_fits f q at (ops.RefLocal (At access n)) g h = h
op_fits f q at (ops.RefLocal (Slot access n)) g h = h
op_fits f q at (ops.ArrayLoad element) g h = h
op_fits f q at (ops.ArrayStore element) g h = h
op_fits f q at (ops.Stack op) g h = h
op_fits f q at (ops.Two op) g h = h
op_fits f q at (ops.Divide op) g h = h
op_fits f q at (ops.One op) g h = h
op_fits f q at (ops.Iinc m by) g h = h
op_fits f q at (ops.If test by) g h = narrow (f by) (g by)
op_fits f q at (ops.IfInt test by) g h = narrow (f by) (g by)
op_fits f q at (ops.IfRef test by) g h = narrow (f by) (g by)
op_fits f q at (ops.Goto (gotos.Narrow by)) g h = narrow (f by) (g by)
op_fits f q at (ops.Goto (gotos.Wide by)) g h = four (f by) (g by)
op_fits f q at (ops.Switch (switches.Table s)) g h = table_fits f q at s g h
op_fits f q at (ops.Switch (switches.Lookup s)) g h = lookup_fits f q at s g h
op_fits f q at (ops.Return kind) g h = h
op_fits f q at (ops.Field op m) g h = h
op_fits f q at (ops.Call op m) g h = h
op_fits f q at (ops.CallInterface m slots) g h = h
op_fits f q at (ops.New (news.Object n)) g h = h
op_fits f q at (ops.New (news.Array element)) g h = h
op_fits f q at (ops.New (news.RefArray n)) g h = h
op_fits f q at (ops.Object op) g h = h
op_fits f q at (ops.Cast op m) g h = h
op_fits f q at (ops.Wide op) g h = h

pub push_fits : (at n : ℕ) → n ≤ 0x7fff → IsTrue (behind_fits at (push_int n))
unfolding behind_fits
push_fits at n h = narrow (pos n) (record { sfits = omega arith })

pub call_fits : (at n : ℕ) → n ≤ 0xffff → IsTrue (behind_fits at (call_static n))
unfolding behind_fits
call_fits at n h = below n h

wide_fits : (at : ℕ) (access : Access) (n : ℕ) → n ≤ 0xffff → IsTrue (behind_fits at (ops.Wide (Local Ref access n)))
unfolding behind_fits wide
wide_fits at Load n h = below n h
wide_fits at Store n h = below n h

short_fits : (at : ℕ) (access : Access) (n : ℕ) → IsTrue (nat_lt n 256) → IsTrue (behind_fits at (ops.RefLocal (At access n)))
unfolding behind_fits
short_fits at access n h = h

move_by : (at : ℕ) (access : Access) (n : ℕ) (b : Bool) → nat_lt n 256 ≡ b → n ≤ 0xffff → IsTrue (behind_fits at (cond b (ops.RefLocal (At access n)) (ops.Wide (Local Ref access n))))
move_by at access n true e h = short_fits at access n e
move_by at access n false e h = wide_fits at access n h

pub move_fits : (at : ℕ) (access : Access) (n : ℕ) → n ≤ 0xffff → IsTrue (behind_fits at (move_ref access n))
move_fits at access n h = move_by at access n (nat_lt n 256) refl h

-- a call's slots with one more, where they aren't 255
more_slots : (b : Bool) (slots : ℕ) → nat_lt slots 255 ≡ b → IsTrue (u1.fits slots && is_good (fault_if (slots == 0) BadOperand))
    → IsTrue (u1.fits (cond b (slots + 1) slots) && is_good (fault_if (cond b (slots + 1) slots == 0) BadOperand))
more_slots true slots e h =
    let less : slots < 255 = ltb-true slots 255 e in
    let some : (slots + 1 == 0) ≡ false = ne_eqb (slots + 1) 0 (omega arith) in
    rw (lt-ltb (slots + 1) 256 (omega arith), some) refl
more_slots false slots e h = h

pub calling_fits : (is : List Placed) (q n : ℕ) (op : Op) → n ≤ 0xffff → IsTrue (behind_fits q op) → IsTrue (list_all (lands is q) (branches (form op)))
    → IsTrue (behind_fits q (calling n op)) × IsTrue (list_all (lands is q) (branches (form (calling n op))))
unfolding behind_fits interface_call form branches
calling_fits is q n ops.Nop small h l = (h, l)
calling_fits is q n ops.AconstNull small h l = (h, l)
calling_fits is q n (ops.IntConst c) small h l = (h, l)
calling_fits is q n (ops.LongConst c) small h l = (h, l)
calling_fits is q n (ops.Ldc op) small h l = (h, l)
calling_fits is q n (ops.Ldc2 m) small h l = (h, l)
calling_fits is q n (ops.IntLocal op) small h l = (h, l)
calling_fits is q n (ops.LongLocal op) small h l = (h, l)
calling_fits is q n (ops.RefLocal op) small h l = (h, l)
calling_fits is q n (ops.ArrayLoad element) small h l = (h, l)
calling_fits is q n (ops.ArrayStore element) small h l = (h, l)
calling_fits is q n (ops.Stack op) small h l = (h, l)
calling_fits is q n (ops.Two op) small h l = (h, l)
calling_fits is q n (ops.Divide op) small h l = (h, l)
calling_fits is q n (ops.One op) small h l = (h, l)
calling_fits is q n (ops.Iinc m by) small h l = (h, l)
calling_fits is q n (ops.If test by) small h l = (h, l)
calling_fits is q n (ops.IfInt test by) small h l = (h, l)
calling_fits is q n (ops.IfRef test by) small h l = (h, l)
calling_fits is q n (ops.Goto op) small h l = (h, l)
calling_fits is q n (ops.Switch s) small h l = (h, l)
calling_fits is q n (ops.Return kind) small h l = (h, l)
calling_fits is q n (ops.Field op m) small h l = (h, l)
calling_fits is q n (ops.Call op m) small h l = (below n small, refl)
calling_fits is q n (ops.CallInterface m slots) small h l =
    let rest = second_true (u2.fits m) _ h in
    let count = first_true (u1.fits slots && is_good (fault_if (slots == 0) BadOperand)) (nil.fits tt) rest in
    (both _ _ (below n small) (both _ _ (more_slots (nat_lt slots 255) slots refl count) refl), refl)
calling_fits is q n (ops.New op) small h l = (h, l)
calling_fits is q n (ops.Object op) small h l = (h, l)
calling_fits is q n (ops.Cast op m) small h l = (h, l)
calling_fits is q n (ops.Wide op) small h l = (h, l)
