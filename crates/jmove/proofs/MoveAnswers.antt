-- What move_method answers, by the expansions of the moved pool.
use Rattle.std.proofs.Common.{◌≡◌, ℕ, ◌≤◌, List, map, length, Some, None, Result, Ok, Err, refl, ap, ◌∙◌, sym, arith}
use Rattle.std.proofs.lemmas.Bool.{lt-ltb, le-ltb}
use Rattle.jparts.specs.declared.jpool.entry.Entry.{Entry}
use Rattle.jparts.specs.jpool.ConstantPools.{IsPool}
use Rattle.jparts.proofs.JpoolProofs.PoolExtension.{laid_count}
use Rattle.jmove.specs.declared.method.Expand.{Expand}
use Rattle.jmove.specs.declared.method.MethodIn.{MethodIn}
use Rattle.jmove.specs.declared.method.MethodOut.{MethodOut}
use Rattle.jmove.specs.declared.method.MoveError.{MoveError}
use Rattle.jmove.specs.declared.method.MoveError.TheVariants as errors
use Rattle.jmove.specs.declared.naming.Named.{Named}
use Rattle.jmove.specs.PoolAdditions.{with_body, Refused}
use Rattle.jmove.specs.MethodLimits.{Alike, bare_kind}
use Rattle.jmove.specs.MovedMethods.{Answers, move_method}
use Rattle.jmove.specs.MethodExpansion.{CanMove, limit_of, moved_by}
use Rattle.jmove.proofs.LimitInvariance.{renumbered, same_can_move, same_limit}

-- ---- the expansions of the moved pool

-- the method with these expansions
named_alike : (m : MethodIn) (ks : List Expand) (pool new : List Entry) (named : Named) → with_body ks m.frames pool ≡ (named, new) → Alike m m ks named.kinds
named_alike m ks pool new named is = record {
  slots = refl;
  max_stack = refl;
  max_locals = refl;
  ops = refl;
  frames = refl;
  kinds = sym (renumbered ks m.frames pool) ∙ ap (λ (x : Named × List Entry). map bare_kind x.0.kinds) is;
}

pub named_can : (m : MethodIn) (ks : List Expand) (pool new : List Entry) (named : Named) → with_body ks m.frames pool ≡ (named, new) → CanMove m ks → CanMove m named.kinds
named_can m ks pool new named is can = same_can_move m m ks named.kinds (named_alike m ks pool new named is) can

pub named_limit : (m : MethodIn) (ks : List Expand) (pool new : List Entry) (named : Named) → with_body ks m.frames pool ≡ (named, new) → limit_of m ks ≡ None → limit_of m named.kinds ≡ None
named_limit m ks pool new named is none = sym (same_limit m m ks named.kinds (named_alike m ks pool new named is)) ∙ none

-- ---- what the call answers

is_error : (e : MoveError) (pool : List Entry) (value : Result (MethodOut × List Entry) MoveError) → value ≡ Err e → Answers (Err e) pool value
is_error errors.Slots pool value h = h
is_error errors.Locals pool value h = h
is_error errors.Stack pool value h = h
is_error (errors.TooLong n) pool value h = h
is_error errors.PoolFull pool value h = h
is_error errors.Memory pool value h = tt

limit_is : (m : MethodIn) (ks : List Expand) (domain : ℕ) (pool : List Entry) (e : MoveError) → Some e ≡ limit_of m ks → move_method m ks domain pool ≡ Err e
unfolding move_method
limit_is m ks domain pool e is = rw (sym is) refl

pub limit_answer : (m : MethodIn) (ks : List Expand) (domain : ℕ) (pool : List Entry) (e : MoveError) → Some e ≡ limit_of m ks → Answers (Err e) pool (move_method m ks domain pool)
limit_answer m ks domain pool e is = is_error e pool (move_method m ks domain pool) (limit_is m ks domain pool e is)

pub full_answer : (m : MethodIn) (ks : List Expand) (domain : ℕ) (pool new : List Entry) (e : MoveError) → limit_of m ks ≡ None → Refused e (with_body ks m.frames pool).1 → Answers (Err e) new (move_method m ks domain pool)
unfolding move_method
full_answer m ks domain pool new errors.Slots none r = absurd r
full_answer m ks domain pool new errors.Locals none r = absurd r
full_answer m ks domain pool new errors.Stack none r = absurd r
full_answer m ks domain pool new (errors.TooLong n) none r = absurd r
full_answer m ks domain pool new errors.PoolFull none r = rw (none, lt-ltb 0xffff (length (with_body ks m.frames pool).1) r) refl
full_answer m ks domain pool new errors.Memory none r = tt

few : (pool : List Entry) → IsPool pool → length pool ≤ 0xffff
few pool is = omega (arith, laid_count pool is.laid)

pub whole_answer : (m : MethodIn) (ks : List Expand) (domain : ℕ) (pool new : List Entry) (named : Named) (moved : MethodOut) → limit_of m ks ≡ None → with_body ks m.frames pool ≡ (named, new) → IsPool new
    → moved ≡ moved_by m domain named.enter named.context named.kinds → move_method m ks domain pool ≡ Ok (moved, new)
unfolding move_method
whole_answer m ks domain pool new named moved none is there made =
    rw (none, is, le-ltb 0xffff (length new) (few new there), made) refl
