-- A method that is moved, and the pool that grows by what it names.
use Rattle.std.specs.Prelude.{◌≡◌, ℕ, nat_lt, if◌then◌else◌, List, length, Option, Some, None, Result, Ok, Err}
use Rattle.jparts.specs.declared.jpool.entry.Entry.{Entry}
use Rattle.jmove.specs.declared.method.Expand.{Expand}
use Rattle.jmove.specs.declared.method.MethodIn.{MethodIn}
use Rattle.jmove.specs.declared.method.MethodOut.{MethodOut}
use Rattle.jmove.specs.declared.method.MoveError.{MoveError}
use Rattle.jmove.specs.declared.method.MoveError.TheVariants.{PoolFull, Memory}
use Rattle.jmove.specs.declared.naming.Named.{Named}
use Rattle.jmove.specs.PoolAdditions.{with_body}
use Rattle.jmove.specs.MethodExpansion.{limit_of, moved_by}

-- by the indices of the pool that has grown, where a pool has room for all its entries
abbrev pub moved_in : MethodIn → ℕ → Named × List Entry → Result (MethodOut × List Entry) MoveError
moved_in m domain x = if nat_lt 0xffff (length x.1) then Err PoolFull else Ok (moved_by m domain x.0.enter x.0.context x.0.kinds, x.1)

abbrev pub unless_limit : {A : Type 0} → Option MoveError → Result A MoveError → Result A MoveError
unless_limit None moved = moved
unless_limit (Some limit) moved = Err limit

-- The call answers so; want of memory is free.
abbrev pub Answers : Result MethodOut MoveError → List Entry → Result (MethodOut × List Entry) MoveError → Type 0
Answers (Ok moved) pool value = value ≡ Ok (moved, pool)
Answers (Err Memory) pool value = Unit {0}
Answers (Err error) pool value = value ≡ Err error

-- The moved method of a domain, and the pool's entries then; or the first limit that it breaks, which is looked for before anything is put
-- into the pool; or PoolFull.
unfoldable pub move_method : MethodIn → List Expand → ℕ → List Entry → Result (MethodOut × List Entry) MoveError
move_method m ks domain pool = unless_limit (limit_of m ks) (moved_in m domain (with_body ks m.frames pool))
