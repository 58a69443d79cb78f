-- What keeps a class from being moved: the first limit that a method would break, or a pool without room for what its methods name.
use Rattle.std.specs.Prelude.{◌≡◌, ℕ, length, Option, Some, None, option_map, ◌==◌, nat_lt, if◌then◌else◌}
use Rattle.jground.specs.jbase.FirstFaults.{first_along, or_else}
use Rattle.jclass.specs.declared.class.ClassParts.{ClassParts}
use Rattle.jclass.specs.declared.class.CodeBody.{CodeBody}
use Rattle.jclass.specs.declared.class.MemberInfo.{MemberInfo}
use Rattle.jmove.specs.declared.method.MoveError.{MoveError}
use Rattle.jmove.specs.declared.method.MoveError.TheVariants as errors
use Rattle.jmove.specs.MethodExpansion.{limit_of}
use Rattle.jresolution.specs.jprogram.ProgramClasses.{Program}
use Rattle.jresolution.specs.jprogram.ClassFileParts.{code_of}
use Rattle.jmoveclass.specs.declared.limit.ClassError.{ClassError}
use Rattle.jmoveclass.specs.declared.limit.ClassError.TheVariants.{At, Memory}
use Rattle.jmoveclass.specs.declared.limit.Limit.{Limit}
use Rattle.jmoveclass.specs.declared.limit.RewriteKind.{RewriteKind}
use Rattle.jmoveclass.specs.declared.limit.RewriteKind.TheVariants.{Slots, Locals, Stack, TooLong, PoolFull}
use Rattle.jmoveclass.specs.EntryLocals.{bare_beginning, slots}
use Rattle.jmoveclass.specs.CallExpansion.{expands}
use Rattle.jmoveclass.specs.MovedMembers.{method_in}
use Rattle.jmoveclass.specs.MovedClasses.{moved_class}

-- a limit by its own name; the last two are no limits of a method
abbrev pub kind_of : MoveError → RewriteKind
kind_of = elim [ errors.Slots ↦ Slots | errors.Locals ↦ Locals | errors.Stack ↦ Stack | errors.TooLong n ↦ TooLong n | _ ↦ PoolFull ]

abbrev pub code_limit : Program → ClassParts → MemberInfo → CodeBody → Option RewriteKind
code_limit p c m b = option_map kind_of (limit_of (method_in c m b (bare_beginning c m)) (expands p c.pool b.ops))

abbrev pub limit_with : Program → ClassParts → MemberInfo → Option CodeBody → Option RewriteKind
limit_with p c m = elim [ None ↦ (if slots c m == 255 then Some Slots else None) | Some b ↦ code_limit p c m b ]

-- the first limit that a method would break
unfoldable pub method_limit : Program → ClassParts → MemberInfo → Option RewriteKind
method_limit p c m = limit_with p c m (code_of m)

abbrev pub at_method : ℕ → Option RewriteKind → Option Limit
at_method j = elim [ None ↦ None | Some kind ↦ Some (record { method = Some j; kind = kind }) ]

-- none of the methods breaks a limit
abbrev pub HasNone : Program → ClassParts → Type 0
HasNone p c = first_along (λ j m. at_method j (method_limit p c m)) 0 c.methods ≡ None

-- no pool has more than 65,535 entries (JVMS 4.1)
abbrev pub pool_limit : ℕ → Option Limit
pool_limit count = if nat_lt 0xffff count then Some (record { method = None; kind = PoolFull }) else None

-- the methods in their order, and the pool last
unfoldable pub class_limit : Program → ℕ → ClassParts → Option Limit
class_limit p domain c = or_else (first_along (λ j m. at_method j (method_limit p c m)) 0 c.methods)
    (pool_limit (length (moved_class p domain c).pool))

-- an error says which limit is broken first; want of memory says nothing
abbrev pub ClassErrorIs : Option Limit → ClassError → Type 0
ClassErrorIs found (At limit) = found ≡ Some limit
ClassErrorIs found Memory = Unit {0}
