-- What stands at a place of a method is what the machine looks for there.
use Rattle.std.proofs.Common.{◌≡◌, ℕ, ◌+◌, Bool, List, length, Option, Some, None, refl, ap, ◌∙◌}
use Rattle.std.specs.Prelude.{◌||◌, nat_lt, not, option_and_then, option_map, slice_get, if◌then◌else◌}
use Rattle.jparts.specs.declared.jpool.entry.Entry.{Entry}
use Rattle.jparts.specs.declared.jcode.op.Placed.{Placed}
use Rattle.jclass.specs.declared.class.CodeBody.{CodeBody}
use Rattle.jresolution.specs.declared.jprogram.member.MethodId.{MethodId}
use Rattle.jresolution.specs.declared.jprogram.part.CodePart.{CodePart}
use Rattle.jresolution.specs.jprogram.ProgramClasses.{Program}
use Rattle.jresolution.specs.juses.IndexedInstructions.{Instruction, body_in, code_at, goes_on, instruction, instruction_at, instruction_in}
use Rattle.jresolution.specs.juses.PoolTables.{pool_at, pool_in}
use Rattle.jsemantics.specs.jmachine.MachineSteps.{fetched, has_next, unless_last as machine_unless}
use Rattle.jready.specs.CodeLayout.{followed, unless_last}

-- ---- by the code of a method

abbrev by_code : Program → List Entry → ℕ → CodeBody → Option Instruction
by_code p pool i body = option_and_then (instruction p pool body.ops) (slice_get body.ops i)

in_part : (p : Program) (m i : ℕ) (o : Option CodePart) → option_and_then (λ c. option_and_then (instruction_in p c i) (body_in c m))
    (option_map (λ part. part.class) o)
    ≡ option_and_then (by_code p (pool_in o) i) (option_and_then (λ c. body_in c m) (option_map (λ part. part.class) o))
in_part p m i None = refl
in_part p m i (Some part) = refl

instruction_is : (p : Program) (m : MethodId) (i : ℕ) → instruction_at p m i ≡ option_and_then (by_code p (pool_at p m.class) i) (code_at p m)
unfolding instruction_at
instruction_is p m i = in_part p m.method i (slice_get p.parts m.class)

-- ---- what is fetched

fetched_by : (p : Program) (m : MethodId) (i : ℕ) (o : Option CodeBody) → code_at p m ≡ o
    → fetched p m i ≡ option_and_then (λ (it : Instruction). if not (goes_on it) || has_next o i then Some it else None)
    (option_and_then (by_code p (pool_at p m.class) i) o)
unfolding fetched
fetched_by p m i o is =
    ap (option_and_then (machine_unless p m i)) (instruction_is p m i ∙ ap (option_and_then (by_code p (pool_at p m.class) i)) is)
    ∙ ap (λ (q : Option CodeBody). option_and_then (λ (it : Instruction). if not (goes_on it) || has_next q i then Some it else None)
    (option_and_then (by_code p (pool_at p m.class) i) o)) is

inner : (p : Program) (pool : List Entry) (body : CodeBody) (more : Bool) (o : Option Placed)
    → option_and_then (unless_last more) (option_and_then (instruction p pool body.ops) o) ≡ option_and_then
    (λ one. followed more (instruction p pool body.ops one)) o
inner p pool body more None = refl
inner p pool body more (Some one) = refl

pub fetched_none : (p : Program) (m : MethodId) (i : ℕ) → code_at p m ≡ None → fetched p m i ≡ None
fetched_none p m i is = fetched_by p m i None is

pub fetched_at : (p : Program) (m : MethodId) (i : ℕ) (body : CodeBody) → code_at p m ≡ Some body
    → fetched p m i ≡ option_and_then (λ one. followed (nat_lt (i + 1) (length body.ops)) (instruction p (pool_at p m.class) body.ops one))
    (slice_get body.ops i)
fetched_at p m i body is = fetched_by p m i (Some body) is ∙ inner p (pool_at p m.class) body (nat_lt (i + 1) (length body.ops)) (slice_get body.ops i)
