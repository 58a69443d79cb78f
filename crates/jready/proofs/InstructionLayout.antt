-- The instructions of a method, one after the other.
use Rattle.std.proofs.Common.{◌≡◌, ℕ, ◌+◌, ◌<◌, Bool, List, [], ◌∷◌, ◌++◌, length, get_or, Some, sym, ap, subst, ◌∙◌}
use Rattle.std.specs.Prelude.{nat_lt, slice_get}
use Rattle.jparts.specs.declared.jcode.op.Placed.{Placed}
use Rattle.jresolution.specs.jprogram.ProgramClasses.{Program}
use Rattle.jresolution.specs.declared.juses.types.TypeRef.{TypeRef}
use Rattle.jresolution.specs.juses.IndexedInstructions.{instruction}
use Rattle.jresolution.specs.juses.PoolTables.{pool_at}
use Rattle.jready.specs.declared.instr.Instr.{Instr}
use Rattle.jready.specs.declared.tables.Tables.{Tables}
use Rattle.jready.specs.InlineOperands.{Exact}
use Rattle.jready.specs.CodeLayout.{AreLaid, Within, followed}
use Rattle.jready.specs.DecodedInstructions.{meant}
use Rattle.jready.specs.TableGrowth.{Grown}
use Rattle.jready.proofs.MethodNumbers.{at_index}
use Rattle.jready.proofs.TableGrowth.{laid_more}

pub laid_step : (p : Program) (types : List TypeRef) (t u : Tables) (class : ℕ) (ops : List Placed) (code new : List Instr) (first i : ℕ) (one : Placed)
    (found made : Instr) (more : Bool)
    → AreLaid p types t class ops code first i → length code ≡ first + i → i < length ops → one ≡ get_or ops i one → Grown t u
    → meant p u class found ≡ instruction p (pool_at p class) ops one → Within u found
    → meant p u class made ≡ followed more (meant p u class found) → (Within u found → Within u made) → Exact p types u class found
    → (Exact p types u class found → Exact p types u class made) → more ≡ nat_lt (i + 1) (length ops) → new ≡ code ++ made ∷ []
    → AreLaid p types u class ops new first (i + 1)
laid_step p types t u class ops code new first i one found made more laid len lt is g means within kept still exact holds last put =
    let at : slice_get ops i ≡ Some one = at_index ops i one lt is in
    let stands : meant p u class made ≡ followed (nat_lt (i + 1) (length ops)) (instruction p (pool_at p class) ops one)
    = kept ∙ ap (followed more) means ∙ ap (λ (b : Bool). followed b (instruction p (pool_at p class) ops one)) last in
    subst (λ (l : List Instr). AreLaid p types u class ops l first (i + 1)) (sym put)
    (laid_more p types t u class ops code first i one made g len at (record { means = stands; within = still within; exact = holds exact }) laid)
