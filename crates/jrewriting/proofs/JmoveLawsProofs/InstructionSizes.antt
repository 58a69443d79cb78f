-- A size doesn't depend on how far branches lead.
use Rattle.std.proofs.Common.{◌≡◌, ℕ, suc, ◌+◌, ℤ, List, [], ◌∷◌, length, refl, ap, sym, subst, arith}
use Rattle.std.proofs.lemmas.List.{length-map}
use Rattle.jparts.specs.declared.jcode.op.Op.TheVariants as ops
use Rattle.jparts.specs.declared.jcode.op.Goto.TheVariants as gotos
use Rattle.jparts.specs.declared.jcode.op.Switch.TheVariants as switches
use Rattle.jparts.specs.declared.jcode.op.TableSwitch.{TableSwitch}
use Rattle.jparts.specs.declared.jcode.op.LookupSwitch.{LookupSwitch}
use Rattle.jparts.specs.jcode.OperandFormats.{table_switch, lookup_switch}
use Rattle.jparts.specs.jcode.Instructions.{size, instruction, behind}
use Rattle.jparts.proofs.JcodeProofs.Sizes.{table_length, lookup_length}
use Rattle.jmove.specs.AssemblyLines.{Line, Label, Do, end_of, table_with, lookup_with, placed, Laid}
use Rattle.jmove.specs.ProofNames.{case_with, distance}
use Rattle.jrewriting.specs.jmove_laws.CodeSizes.{SameSize}

table_same : (f : ℤ → ℤ) (at : ℕ) (s : TableSwitch) → length ((table_switch at).spell (table_with f s)) ≡ length ((table_switch at).spell s)
table_same f at s = omega (arith, table_length at (table_with f s), table_length at s, length-map s.branches f)

lookup_same : (f : ℤ → ℤ) (at : ℕ) (s : LookupSwitch) → length ((lookup_switch at).spell (lookup_with f s)) ≡ length ((lookup_switch at).spell s)
lookup_same f at s = omega (arith, lookup_length at (lookup_with f s), lookup_length at s, length-map s.cases (case_with f))

pub size_same : SameSize
unfolding size instruction behind
size_same f at ops.Nop = refl
size_same f at ops.AconstNull = refl
size_same f at (ops.IntConst c) = refl
size_same f at (ops.LongConst c) = refl
size_same f at (ops.Ldc op) = refl
size_same f at (ops.Ldc2 m) = refl
size_same f at (ops.IntLocal op) = refl
size_same f at (ops.LongLocal op) = refl
size_same f at (ops.RefLocal op) = refl
size_same f at (ops.ArrayLoad element) = refl
size_same f at (ops.ArrayStore element) = refl
size_same f at (ops.Stack op) = refl
size_same f at (ops.Two op) = refl
size_same f at (ops.Divide op) = refl
size_same f at (ops.One op) = refl
size_same f at (ops.Iinc m by) = refl
size_same f at (ops.If test by) = refl
size_same f at (ops.IfInt test by) = refl
size_same f at (ops.IfRef test by) = refl
size_same f at (ops.Goto (gotos.Narrow by)) = refl
size_same f at (ops.Goto (gotos.Wide by)) = refl
size_same f at (ops.Switch (switches.Table s)) = ap suc (table_same f at s)
size_same f at (ops.Switch (switches.Lookup s)) = ap suc (lookup_same f at s)
size_same f at (ops.Return kind) = refl
size_same f at (ops.Field op m) = refl
size_same f at (ops.Call op m) = refl
size_same f at (ops.CallInterface m slots) = refl
size_same f at (ops.New op) = refl
size_same f at (ops.Object op) = refl
size_same f at (ops.Cast op m) = refl
size_same f at (ops.Wide op) = refl

pub laid_placed : (f : ℕ → ℕ) (at : ℕ) (ls : List Line) → Laid at (placed f at ls) (end_of at ls)
laid_placed f at [] = refl
laid_placed f at (Label q ∷ ls) = laid_placed f at ls
laid_placed f at (Do from o ∷ ls) =
    (refl, subst (λ (n : ℕ). Laid (at + n) (placed f (at + size at o) ls) (end_of (at + size at o) ls)) (sym (size_same (distance f from at) at o)) (laid_placed f (at + size at o) ls))
