-- How many bytes instructions have, wherever they stand.
use Rattle.std.proofs.Common.{◌≡◌, ℕ, ℤ, ◌+◌, ◌≤◌, length, refl, arith, cond, Bool, true, false, nat_lt, if◌then◌else◌}
use Rattle.jparts.specs.declared.jcode.names.Access.{Access}
use Rattle.jparts.specs.declared.jcode.names.Access.TheVariants.{Load, Store}
use Rattle.jparts.specs.declared.jcode.op.Op.{Op}
use Rattle.jparts.specs.declared.jcode.op.Op.TheVariants as ops
use Rattle.jparts.specs.declared.jcode.head.Head.{Head}
use Rattle.jparts.specs.declared.jcode.head.Head.TheVariants as heads
use Rattle.jparts.specs.declared.jcode.head.OtherHead.TheVariants as other
use Rattle.jparts.specs.declared.jcode.names.LocalKind.TheVariants.{Ref}
use Rattle.jparts.specs.declared.jcode.op.LocalOp.TheVariants.{At}
use Rattle.jparts.specs.declared.jcode.op.Wide.TheVariants.{Local}
use Rattle.jparts.specs.jcode.OperandFormats.{Operand, operands, wide, interface_call}
use Rattle.jparts.specs.jcode.Instructions.{size, instruction, behind, parts}
use Rattle.jparts.proofs.JcodeProofs.Sizes.{table_length, lookup_length}
use Rattle.jmove.specs.AssemblyLines.{with_branches}
use Rattle.jmove.specs.MethodExpansion.{move_ref, push_int, call_static, calling}

pub size_some : (at : ℕ) (op : Op) → 1 ≤ size at op
unfolding size instruction
size_some at op = omega arith

-- ---- at another place an instruction is at most three bytes longer

spell_moved : (at p : ℕ) (h : Head) (x : Operand h) → length ((operands at h).spell x) ≤ length ((operands p h).spell x) + 3
spell_moved at p (heads.Plain h) x = omega arith
spell_moved at p (heads.Byte h) x = omega arith
spell_moved at p (heads.Index h) x = omega arith
spell_moved at p (heads.Branch h) x = omega arith
spell_moved at p (heads.Other other.Bipush) x = omega arith
spell_moved at p (heads.Other other.Sipush) x = omega arith
spell_moved at p (heads.Other other.Iinc) x = omega arith
spell_moved at p (heads.Other other.TableSwitch) x = omega (arith, table_length at x, table_length p x)
spell_moved at p (heads.Other other.LookupSwitch) x = omega (arith, lookup_length at x, lookup_length p x)
spell_moved at p (heads.Other other.CallInterface) x = omega arith
spell_moved at p (heads.Other other.NewArray) x = omega arith
spell_moved at p (heads.Other other.Wide) x = omega arith
spell_moved at p (heads.Other other.GotoWide) x = omega arith

pub size_moved : (at p : ℕ) (op : Op) → size at op ≤ size p op + 3
unfolding size instruction behind
size_moved at p op = omega (arith, spell_moved at p (parts op).0 (parts op).1)

-- ---- the instructions of prologues and expansions

pub push_size : (at n : ℕ) → size at (push_int n) ≡ 3
unfolding size instruction behind
push_size at n = refl

pub call_size : (at n : ℕ) → size at (call_static n) ≡ 3
unfolding size instruction behind
call_size at n = refl

pub short_size : (at : ℕ) (access : Access) (n : ℕ) → size at (ops.RefLocal (At access n)) ≡ 2
unfolding size instruction behind
short_size at access n = refl

pub wide_size : (at : ℕ) (access : Access) (n : ℕ) → size at (ops.Wide (Local Ref access n)) ≡ 4
unfolding size instruction behind wide
wide_size at Load n = refl
wide_size at Store n = refl

pub calling_size : (at n : ℕ) (op : Op) → size at (calling n op) ≡ size at op
unfolding size instruction behind interface_call
calling_size at n ops.Nop = refl
calling_size at n ops.AconstNull = refl
calling_size at n (ops.IntConst c) = refl
calling_size at n (ops.LongConst c) = refl
calling_size at n (ops.Ldc op) = refl
calling_size at n (ops.Ldc2 m) = refl
calling_size at n (ops.IntLocal op) = refl
calling_size at n (ops.LongLocal op) = refl
calling_size at n (ops.RefLocal op) = refl
calling_size at n (ops.ArrayLoad element) = refl
calling_size at n (ops.ArrayStore element) = refl
calling_size at n (ops.Stack op) = refl
calling_size at n (ops.Two op) = refl
calling_size at n (ops.Divide op) = refl
calling_size at n (ops.One op) = refl
calling_size at n (ops.Iinc m by) = refl
calling_size at n (ops.If test by) = refl
calling_size at n (ops.IfInt test by) = refl
calling_size at n (ops.IfRef test by) = refl
calling_size at n (ops.Goto op) = refl
calling_size at n (ops.Switch s) = refl
calling_size at n (ops.Return kind) = refl
calling_size at n (ops.Field op m) = refl
calling_size at n (ops.Call op m) = refl
calling_size at n (ops.CallInterface m slots) = refl
calling_size at n (ops.New op) = refl
calling_size at n (ops.Object op) = refl
calling_size at n (ops.Cast op m) = refl
calling_size at n (ops.Wide op) = refl

two_or_four : (b : Bool) (x y : Op) (at : ℕ) → size at x ≡ 2 → size at y ≡ 4 → (size at (cond b x y) ≡ cond b 2 4) × (cond b 2 4 ≤ 4)
two_or_four true x y at h e = (h, omega arith)
two_or_four false x y at h e = (e, omega arith)

pub move_size : (at : ℕ) (access : Access) (n : ℕ) → size at (move_ref access n) ≡ (if nat_lt n 256 then 2 else 4)
move_size at access n = (two_or_four (nat_lt n 256) (ops.RefLocal (At access n)) (ops.Wide (Local Ref access n)) at (short_size at access n) (wide_size at access n)).0

pub move_at_most : (at : ℕ) (access : Access) (n : ℕ) → size at (move_ref access n) ≤ 4
move_at_most at access n = let t = two_or_four (nat_lt n 256) (ops.RefLocal (At access n)) (ops.Wide (Local Ref access n)) at (short_size at access n) (wide_size at access n) in omega (arith, t.0, t.1)

pub ruleset sizes = (push_size, call_size, calling_size)

-- ---- they have no branches

led_either : (g : ℤ → ℤ) (b : Bool) (x y : Op) → with_branches g x ≡ x → with_branches g y ≡ y → with_branches g (cond b x y) ≡ cond b x y
led_either g true x y h e = h
led_either g false x y h e = e

pub led_move : (g : ℤ → ℤ) (access : Access) (n : ℕ) → with_branches g (move_ref access n) ≡ move_ref access n
led_move g access n = led_either g (nat_lt n 256) (ops.RefLocal (At access n)) (ops.Wide (Local Ref access n)) refl refl

pub ruleset emitted = (push_size, call_size, led_move)
