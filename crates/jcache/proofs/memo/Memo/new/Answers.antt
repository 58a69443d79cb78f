use Rattle.std.proofs.Common.{◌≡◌, ◌∙◌, ℕ, ◌-◌, List, [], ◌++◌, None, replicate, take, ap, ap₂, arith}
use Rattle.std.proofs.Math.Seq.{take-nil}
use Rattle.jcache.proofs.memo.Memo.new.Goals as goal

-- an empty list that is filled up
filled : {X : Type 0} (n m : ℕ) (x : X) (xs : List X) → xs ≡ [] → m ≡ 0 → take n xs ++ replicate (n - m) x ≡ replicate n x
filled n m x xs none zero =
    let all : n - m ≡ n = omega arith in
    ap₂ (λ ys k. ys ++ replicate k x) (ap (take n) none ∙ take-nil n) all

pub returns-clause-empty : goal.returns-clause-empty
returns-clause-empty g c = c.in_ok-resize.ensures.items ∙ filled 4096 c.new-places.result.len None c.new-places.result.items c.new-places.ensures.items c.new-places.ensures.len
