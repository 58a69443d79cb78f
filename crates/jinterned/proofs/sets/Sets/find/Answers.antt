use Rattle.std.proofs.Common.{◌≡◌, ◌∙◌, ◌-◌, ◌<◌, ◌≤◌, List, [], Some, length, sym, ap, arith}
use Rattle.std.specs.Prelude.{slice_get, get_or}
use Rattle.std.proofs.lemmas.List.{get_or_read}
use Rattle.std.proofs.lemmas.Option.{slice_get-get_or}
use Rattle.jperm.specs.declared.permission.Permission.{Permission}
use Rattle.jinterned.specs.ContextDigests.{digest_limits}
use Rattle.jinterned.specs.InternedContexts.{same_limits}
use Rattle.jinterned.proofs.DigestLookup.{begins, goes_on, has_digest, one_before}
use Rattle.jinterned.proofs.Sameness.{limits_same, limits_differ}
use Rattle.jinterned.proofs.sets.Sets.find.Goals as goal

pub loop-at-init : goal.loop-at-init
loop-at-init c = begins digest_limits c.self.inside.sets.items c.self.inside.index c.args.limits.now c.args.digest c.last-at.result c.self.invariant.1 c.requires c.last-at.ensures

pub returns-then-are_same-clause-found : goal.returns-then-are_same-clause-found
returns-then-are_same-clause-found c =
    let sets : List (List Permission) = c.self.inside.sets.items in
    let i = c.loop-at.at - 1 in
    let below : i < length sets = omega (arith, c.loop-at-test.true, c.loop-at.invariant.within) in
    let there : slice_get sets i ≡ Some (get_or sets i []) = slice_get-get_or sets i [] below in
    let read : c.index.result.now ≡ get_or sets i [] = get_or_read sets i c.index.result.now below c.index.ensures [] in
    let one = ap (λ (l : List Permission). same_limits l c.args.limits.now) (sym read) in
    let same = limits_same c.permission_laws.ensures.same (get_or sets i []) c.args.limits.now (one ∙ sym c.are_same.ensures ∙ c.if-are_same.true) in
    ap (λ (s : List (List Permission)). slice_get s i) (sym c.self.view_is) ∙ there ∙ ap (λ (x : List Permission). Some x) same

pub find_previous-at-requires : goal.find_previous-at-requires
find_previous-at-requires c =
    has_digest digest_limits c.self.inside.sets.items c.self.inside.index c.args.limits.now c.args.digest c.loop-at.at (c.loop-at.at - 1) c.self.invariant.1 c.requires c.loop-at.invariant
    (one_before c.loop-at.at c.loop-at-test.true)

pub loop-at-smaller : goal.loop-at-smaller
loop-at-smaller c = omega (arith, c.find_previous-at.ensures.within, c.loop-at-test.true)

pub loop-at-preserved : goal.loop-at-preserved
loop-at-preserved c =
    let sets : List (List Permission) = c.self.inside.sets.items in
    let i = c.loop-at.at - 1 in
    let below : i < length sets = omega (arith, c.loop-at-test.true, c.loop-at.invariant.within) in
    let there : slice_get sets i ≡ Some (get_or sets i []) = slice_get-get_or sets i [] below in
    let read : c.index.result.now ≡ get_or sets i [] = get_or_read sets i c.index.result.now below c.index.ensures [] in
    let one = ap (λ (l : List Permission). same_limits l c.args.limits.now) (sym read) in
    let other = limits_differ c.permission_laws.ensures.same (get_or sets i []) c.args.limits.now (one ∙ sym c.are_same.ensures ∙ c.if-are_same.false) in
    goes_on digest_limits sets c.self.inside.index c.args.limits.now (get_or sets i []) c.args.digest c.loop-at.at i c.find_previous-at.result c.self.invariant.1 c.requires c.loop-at.invariant
    (one_before c.loop-at.at c.loop-at-test.true) there other c.find_previous-at.ensures

pub returns-clause-only : goal.returns-clause-only
returns-clause-only c none i is =
    let zero : c.loop-at.at ≤ i = omega (arith, c.loop-at-test.false) in
    c.loop-at.invariant.past i zero (ap (λ (s : List (List Permission)). slice_get s i) c.self.view_is ∙ is)
