-- A class that is moved whole, and the limit that its pool breaks.
use Rattle.std.proofs.Common.{◌≡◌, ℕ, ◌<◌, ◌≤◌, List, length, Option, Some, None, refl, ap, sym, ◌∙◌, arith}
use Rattle.std.proofs.lemmas.Bool.{le-ltb, lt-ltb}
use Rattle.jground.specs.jbase.FirstFaults.{first_along, or_else}
use Rattle.jparts.specs.declared.jpool.entry.Entry.{Entry}
use Rattle.jparts.specs.jpool.ConstantPools.{IsPool}
use Rattle.jparts.proofs.JpoolProofs.PoolExtension.{laid_count}
use Rattle.jclass.specs.declared.class.ClassParts.{ClassParts}
use Rattle.jclass.specs.declared.class.MemberInfo.{MemberInfo}
use Rattle.jresolution.specs.jprogram.ProgramClasses.{Program}
use Rattle.jmoveclass.specs.declared.limit.Limit.{Limit}
use Rattle.jmoveclass.specs.declared.limit.RewriteKind.TheVariants.{PoolFull}
use Rattle.jmoveclass.specs.ClassLimits.{HasNone, at_method, class_limit, method_limit, pool_limit}
use Rattle.jmoveclass.specs.MovedMembers.{with_method}
use Rattle.jmoveclass.specs.MovedClasses.{class_with, moved_class}
use Rattle.jmoveclass.specs.PoolPuts.{with_each}

limit_is : (p : Program) (domain : ℕ) (c : ClassParts) → HasNone p c → class_limit p domain c ≡ pool_limit (length (moved_class p domain c).pool)
unfolding class_limit
limit_is p domain c none = ap (λ (o : Option Limit). or_else o (pool_limit (length (moved_class p domain c).pool))) none

pool_is : (p : Program) (domain : ℕ) (c : ClassParts) → (moved_class p domain c).pool ≡ (with_each (with_method p c domain) c.methods c.pool).1
unfolding moved_class
pool_is p domain c = refl

none_full : (n : ℕ) → n ≤ 0xffff → pool_limit n ≡ None
none_full n h = rw (le-ltb 0xffff n h) refl

some_full : (n : ℕ) → 0xffff < n → pool_limit n ≡ Some (record { method = None; kind = PoolFull })
some_full n h = rw (lt-ltb 0xffff n h) refl

class_is : (p : Program) (domain : ℕ) (c : ClassParts) (methods : List MemberInfo) (pool : List Entry) → with_each (with_method p c domain) c.methods c.pool ≡ (methods, pool) → class_with c (methods, pool) ≡ moved_class p domain c
unfolding moved_class
class_is p domain c methods pool h = ap (class_with c) (sym h)

pub is_moved : (p : Program) (domain : ℕ) (c : ClassParts) (methods : List MemberInfo) (pool : List Entry) (class : ClassParts) → HasNone p c → with_each (with_method p c domain) c.methods c.pool ≡ (methods, pool) → IsPool pool
    → class ≡ class_with c (methods, pool) → (class_limit p domain c ≡ None) × (class ≡ moved_class p domain c)
is_moved p domain c methods pool class none h is made =
    let few : length pool < 65536 = laid_count pool is.laid in
    let same : length (moved_class p domain c).pool ≡ length pool = ap (λ (l : List Entry). length l) (pool_is p domain c) ∙ ap (λ (x : List MemberInfo × List Entry). length x.1) h in
    (limit_is p domain c none ∙ none_full (length (moved_class p domain c).pool) (omega arith), made ∙ class_is p domain c methods pool h)

pub pool_full : (p : Program) (domain : ℕ) (c : ClassParts) → HasNone p c → 0xffff < length (with_each (with_method p c domain) c.methods c.pool).1 → class_limit p domain c ≡ Some (record { method = None; kind = PoolFull })
pool_full p domain c none full =
    let same : length (moved_class p domain c).pool ≡ length (with_each (with_method p c domain) c.methods c.pool).1 = ap (λ (l : List Entry). length l) (pool_is p domain c) in
    limit_is p domain c none ∙ some_full (length (moved_class p domain c).pool) (omega arith)

pub first_limit : (p : Program) (domain : ℕ) (c : ClassParts) (limit : Limit) → first_along (λ j m. at_method j (method_limit p c m)) 0 c.methods ≡ Some limit → class_limit p domain c ≡ Some limit
unfolding class_limit
first_limit p domain c limit h = ap (λ (o : Option Limit). or_else o (pool_limit (length (moved_class p domain c).pool))) h
