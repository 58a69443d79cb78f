-- A code that is moved: what was put for its beginning, and then the method that it makes.
use Rattle.std.proofs.Common.{◌≡◌, ℕ, List, None, Result, sym, ◌∙◌}
use Rattle.jparts.specs.declared.jpool.entry.Entry.{Entry}
use Rattle.jparts.specs.declared.jmaps.types.MapType.{MapType}
use Rattle.jclass.specs.declared.class.Attribute.{Attribute}
use Rattle.jclass.specs.declared.class.ClassParts.{ClassParts}
use Rattle.jclass.specs.declared.class.CodeBody.{CodeBody}
use Rattle.jclass.specs.declared.class.MemberInfo.{MemberInfo}
use Rattle.jmove.specs.declared.method.MoveError.{MoveError}
use Rattle.jmove.specs.PoolAdditions.{Refused}
use Rattle.jmove.specs.MethodExpansion.{CanMove, limit_of}
use Rattle.jmove.proofs.LimitInvariance.{same_can_move, same_limit}
use Rattle.jresolution.specs.jprogram.ProgramClasses.{Program}
use Rattle.jmoveclass.specs.EntryLocals.{bare_beginning}
use Rattle.jmoveclass.specs.CallExpansion.{expands}
use Rattle.jmoveclass.specs.MovedMembers.{method_in, with_code, with_first, with_moved}
use Rattle.jmoveclass.specs.PoolPuts.{Puts}
use Rattle.jmoveclass.proofs.Growth.{moved_grows}
use Rattle.jmoveclass.proofs.LimitInvariance.{first_alike}
use Rattle.jmoveclass.proofs.ItemAdditions.{first_refused, then_puts}
use Rattle.jclass.specs.CodeFormat.{frames_in}

pub first_only_refused : (p : Program) (c : ClassParts) (domain : ℕ) (m : MemberInfo) (name : ℕ) (b : CodeBody) (e : MoveError) (pool : List Entry) → Refused e (with_first c m (frames_in b) pool).1 → Refused e (with_code p c domain m name b pool).1
unfolding with_code
first_only_refused p c domain m name b e pool r =
    first_refused (with_first c m (frames_in b)) (λ first. with_moved domain (expands p c.pool b.ops) name b (method_in c m b first)) e pool (λ first. moved_grows domain (expands p c.pool b.ops) name b (method_in c m b first)) r

pub code_puts : (p : Program) (c : ClassParts) (domain : ℕ) (m : MemberInfo) (name : ℕ) (b : CodeBody) (r : Result Attribute MoveError) (pool mid new : List Entry) (first : List MapType) → with_first c m (frames_in b) pool ≡ (first, mid)
    → Puts (λ x. x) (with_moved domain (expands p c.pool b.ops) name b (method_in c m b first)) r mid new → Puts (λ x. x) (with_code p c domain m name b) r pool new
unfolding with_code
code_puts p c domain m name b r pool mid new first is h =
    then_puts (λ x. x) (with_first c m (frames_in b)) (λ x. with_moved domain (expands p c.pool b.ops) name b (method_in c m b x)) r pool mid new first is h

pub code_can : (p : Program) (c : ClassParts) (m : MemberInfo) (b : CodeBody) (pool mid : List Entry) (first : List MapType) → with_first c m (frames_in b) pool ≡ (first, mid)
    → CanMove (method_in c m b (bare_beginning c m)) (expands p c.pool b.ops) → CanMove (method_in c m b first) (expands p c.pool b.ops)
code_can p c m b pool mid first is can =
    same_can_move (method_in c m b (bare_beginning c m)) (method_in c m b first) (expands p c.pool b.ops) (expands p c.pool b.ops) (first_alike c m b (expands p c.pool b.ops) pool mid first is) can

pub code_limit : (p : Program) (c : ClassParts) (m : MemberInfo) (b : CodeBody) (pool mid : List Entry) (first : List MapType) → with_first c m (frames_in b) pool ≡ (first, mid)
    → limit_of (method_in c m b (bare_beginning c m)) (expands p c.pool b.ops) ≡ None → limit_of (method_in c m b first) (expands p c.pool b.ops) ≡ None
code_limit p c m b pool mid first is none =
    sym (same_limit (method_in c m b (bare_beginning c m)) (method_in c m b first) (expands p c.pool b.ops) (expands p c.pool b.ops) (first_alike c m b (expands p c.pool b.ops) pool mid first is)) ∙ none
