use Rattle.std.proofs.Common.{◌≡◌, ◌∙◌, ◌<◌, ◌-◌, List, ℕ, ap, length, subst}
use Rattle.std.specs.Prelude.{bit_and, get_or}
use Rattle.std.proofs.lemmas.List.{get_or_read}
use Rattle.jinterned.specs.DigestChains.{IsLast}
use Rattle.jinterned.proofs.DigestChains.{chain_there, last_of_all, on_head}
use Rattle.jinterned.proofs.index.Index.last.Goals as goal

read : (heads : List ℕ) (d n m : ℕ) → 0 < length heads → n ≡ length heads → m ≡ get_or heads (bit_and d (n - 1)) m → m ≡ get_or heads (bit_and d (length heads - 1)) 0
read heads d n m some long at =
    get_or_read heads (bit_and d (length heads - 1)) m (chain_there d (length heads) some) (at ∙ ap (λ k. get_or heads (bit_and d (k - 1)) m) long) 0

pub along-requires : goal.along-requires
along-requires c =
    let ds = c.self.inside.digests.items in
    let heads = c.self.inside.heads.items in
    let es = c.self.inside.earlier.items in
    let head = read heads c.args.digest c.len.result c.index.result.now c.self.invariant.0 (c.len.ensures ∙ c.self.inside.heads.ok.0) c.index.ensures in
    rw (c.deref.ensures.value, c.deref-2.ensures.value, head) (on_head ds heads es c.args.digest c.self.invariant)

pub returns : goal.returns
returns c =
    let ds = c.self.inside.digests.items in
    let heads = c.self.inside.heads.items in
    let es = c.self.inside.earlier.items in
    let p : ℕ = bit_and c.args.digest (length heads - 1) in
    let head = read heads c.args.digest c.len.result c.index.result.now c.self.invariant.0 (c.len.ensures ∙ c.self.inside.heads.ok.0) c.index.ensures in
    let inner : IsLast ds c.args.digest (get_or heads p 0) c.along.result =
    subst (λ (k : ℕ). IsLast ds c.args.digest k c.along.result) head (subst (λ (xs : List ℕ). IsLast xs c.args.digest c.index.result.now c.along.result) c.deref.ensures.value c.along.ensures) in
    subst (λ (xs : List ℕ). IsLast xs c.args.digest (length xs) c.along.result) c.self.view_is (last_of_all ds heads es c.args.digest c.self.invariant c.along.result inner)
