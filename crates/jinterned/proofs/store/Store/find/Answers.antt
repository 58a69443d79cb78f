use Rattle.std.proofs.Common.{◌∙◌, ◌-◌, ◌<◌, ◌≤◌, List, [], Some, length, sym, ap, arith}
use Rattle.std.specs.Prelude.{slice_get, get_or}
use Rattle.std.proofs.lemmas.Option.{slice_get-get_or}
use Rattle.jinterned.specs.declared.pairs.Pair.{Pair}
use Rattle.jinterned.specs.ContextStores.{Stored}
use Rattle.jinterned.specs.ContextDigests.{digest_pairs}
use Rattle.jinterned.proofs.DigestLookup.{begins, goes_on, has_digest, one_before}
use Rattle.jinterned.proofs.Sameness.{pairs_same, pairs_differ}
use Rattle.jinterned.proofs.store.Store.find.Goals as goal

pub loop-at-init : goal.loop-at-init
loop-at-init c = begins digest_pairs c.self.inside.lists c.self.inside.index c.args.pairs.now c.args.digest c.last-at.result c.self.invariant.1 c.requires c.last-at.ensures

pub returns-then-holds_at-clause-found : goal.returns-then-holds_at-clause-found
returns-then-holds_at-clause-found c =
    let lists : List (List Pair) = c.self.inside.lists in
    let i = c.loop-at.at - 1 in
    let below : i < length lists = omega (arith, c.loop-at-test.true, c.loop-at.invariant.within) in
    let same = pairs_same (get_or lists i []) c.args.pairs.now (sym c.holds_at.ensures ∙ c.if-holds_at.true) in
    ap (λ (s : Stored). slice_get s.lists i) (sym c.self.view_is) ∙ slice_get-get_or lists i [] below ∙ ap (λ (x : List Pair). Some x) same

pub find_previous-at-requires : goal.find_previous-at-requires
find_previous-at-requires c =
    has_digest digest_pairs c.self.inside.lists c.self.inside.index c.args.pairs.now c.args.digest c.loop-at.at (c.loop-at.at - 1) c.self.invariant.1 c.requires c.loop-at.invariant
    (one_before c.loop-at.at c.loop-at-test.true)

pub loop-at-smaller : goal.loop-at-smaller
loop-at-smaller c = omega (arith, c.find_previous-at.ensures.within, c.loop-at-test.true)

pub loop-at-preserved : goal.loop-at-preserved
loop-at-preserved c =
    let lists : List (List Pair) = c.self.inside.lists in
    let i = c.loop-at.at - 1 in
    let below : i < length lists = omega (arith, c.loop-at-test.true, c.loop-at.invariant.within) in
    let other = pairs_differ (get_or lists i []) c.args.pairs.now (sym c.holds_at.ensures ∙ c.if-holds_at.false) in
    goes_on digest_pairs lists c.self.inside.index c.args.pairs.now (get_or lists i []) c.args.digest c.loop-at.at i c.find_previous-at.result c.self.invariant.1 c.requires c.loop-at.invariant
    (one_before c.loop-at.at c.loop-at-test.true) (slice_get-get_or lists i [] below) other c.find_previous-at.ensures

pub returns-clause-only : goal.returns-clause-only
returns-clause-only c none i is =
    let zero : c.loop-at.at ≤ i = omega (arith, c.loop-at-test.false) in
    c.loop-at.invariant.past i zero (ap (λ (s : Stored). slice_get s.lists i) c.self.view_is ∙ is)
