use Rattle.std.proofs.Common.{◌≡◌, ◌∙◌, List, ℕ, Some, ap, sym, subst}
use Rattle.std.specs.Prelude.{get_or, slice_get}
use Rattle.std.proofs.lemmas.List.{get_or_read}
use Rattle.jinterned.specs.DigestChains.{IsLast, IsOn}
use Rattle.jinterned.proofs.DigestChains.{earlier_there, last_before, on_earlier}
use Rattle.jinterned.proofs.index.Index.find_previous.Goals as goal

pub along-requires : goal.along-requires
along-requires c =
    let ds = c.self.inside.digests.items in
    let heads = c.self.inside.heads.items in
    let es = c.self.inside.earlier.items in
    let at : slice_get ds c.args.i ≡ Some c.args.digest = ap (λ (xs : List ℕ). slice_get xs c.args.i) c.self.view_is ∙ c.requires in
    let read : c.index.result.now ≡ get_or es c.args.i 0 = get_or_read es c.args.i _ (earlier_there ds heads es c.args.digest c.self.invariant c.args.i at) c.index.ensures 0 in
    rw (c.deref.ensures.value, c.deref-2.ensures.value, read) (on_earlier ds heads es c.args.digest c.self.invariant c.args.i at)

pub returns : goal.returns
returns c =
    let ds = c.self.inside.digests.items in
    let heads = c.self.inside.heads.items in
    let es = c.self.inside.earlier.items in
    let at : slice_get ds c.args.i ≡ Some c.args.digest = ap (λ (xs : List ℕ). slice_get xs c.args.i) c.self.view_is ∙ c.requires in
    let read : c.index.result.now ≡ get_or es c.args.i 0 = get_or_read es c.args.i _ (earlier_there ds heads es c.args.digest c.self.invariant c.args.i at) c.index.ensures 0 in
    let inner : IsLast ds c.args.digest (get_or es c.args.i 0) c.along.result =
    subst (λ (k : ℕ). IsLast ds c.args.digest k c.along.result) read (subst (λ (xs : List ℕ). IsLast xs c.args.digest c.index.result.now c.along.result) c.deref.ensures.value c.along.ensures) in
    subst (λ (xs : List ℕ). IsLast xs c.args.digest c.args.i c.along.result) c.self.view_is (last_before ds heads es c.args.digest c.self.invariant c.args.i c.along.result at inner)
