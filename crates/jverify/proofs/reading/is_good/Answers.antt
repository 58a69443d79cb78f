use Rattle.std.proofs.Common.{◌≡◌, true, false, sym, ap, ◌∙◌}
use Rattle.std.specs.Prelude.{is_some, nat_le, not}
use Rattle.std.specs.List.{list_all}
use Rattle.jtyping.specs.jrule.OperandSlots.{slot_count}
use Rattle.jverify.specs.LocalChains.{chain, is_made}
use Rattle.jverify.specs.InternedMethods.{seen_body}
use Rattle.jverify.proofs.FrameTests.{bad_locals, bad_news, bad_place, bad_stack, few_enough, good_news, parts_good, too_many}
use Rattle.jverify.proofs.reading.is_good.Goals as goal

pub returns-then-is_none-clause-good : goal.returns-then-is_none-clause-good
returns-then-is_none-clause-good g c =
    let makes = g.N.News.makes c.args.news.now in
    bad_place makes (seen_body c.args.body.now) c.args.chains.now c.args.k.now (ap is_some (sym c.place_of.ensures) ∙ c.is_none.ensures ∙ ap not c.if-is_none.true)
    ∙ parts_good c.args.p.now makes (seen_body c.args.body.now) c.args.chains.now c.args.k.now

pub returns-then-from-places-clause-good : goal.returns-then-from-places-clause-good
returns-then-from-places-clause-good g c =
    let makes = g.N.News.makes c.args.news.now in
    let many : nat_le (slot_count (chain c.args.chains.now c.args.k.now.last)) c.args.body.now.max_locals ≡ false =
    ap (nat_le (slot_count (chain c.args.chains.now c.args.k.now.last))) (sym c.from.ensures) ∙ too_many _ c.from.result c.places.result c.places.ensures.count c.if-from-places.true in
    bad_locals makes (seen_body c.args.body.now) c.args.chains.now c.args.k.now many
    ∙ parts_good c.args.p.now makes (seen_body c.args.body.now) c.args.chains.now c.args.k.now

pub returns-then-not-is_within-clause-good : goal.returns-then-not-is_within-clause-good
returns-then-not-is_within-clause-good g c =
    let makes = g.N.News.makes c.args.news.now in
    bad_stack makes (seen_body c.args.body.now) c.args.chains.now c.args.k.now
    (ap (λ xs. nat_le (slot_count xs) c.args.body.now.max_stack) (sym c.as_slice.ensures) ∙ sym c.is_within.ensures ∙ c.if-not-is_within.true)
    ∙ parts_good c.args.p.now makes (seen_body c.args.body.now) c.args.chains.now c.args.k.now

pub returns-then-not-made-clause-good : goal.returns-then-not-made-clause-good
returns-then-not-made-clause-good g c =
    let makes = g.N.News.makes c.args.news.now in
    bad_news makes (seen_body c.args.body.now) c.args.chains.now c.args.k.now (sym (c.made.ensures makes c.requires.made) ∙ c.if-not-made.true)
    ∙ parts_good c.args.p.now makes (seen_body c.args.body.now) c.args.chains.now c.args.k.now

pub returns-clause-good : goal.returns-clause-good
returns-clause-good g c =
    let makes = g.N.News.makes c.args.news.now in
    let few : nat_le (slot_count (chain c.args.chains.now c.args.k.now.last)) c.args.body.now.max_locals ≡ true =
    ap (nat_le (slot_count (chain c.args.chains.now c.args.k.now.last))) (sym c.from.ensures) ∙ few_enough _ c.from.result c.places.result c.places.ensures.count c.if-from-places.false in
    c.are_made.ensures ∙ ap (list_all (is_made makes)) c.as_slice-2.ensures
    ∙ good_news makes (seen_body c.args.body.now) c.args.chains.now c.args.k.now
    (ap is_some (sym c.place_of.ensures) ∙ c.is_none.ensures ∙ ap not c.if-is_none.false) few
    (ap (λ xs. nat_le (slot_count xs) c.args.body.now.max_stack) (sym c.as_slice.ensures) ∙ sym c.is_within.ensures ∙ c.if-not-is_within.false)
    (sym (c.made.ensures makes c.requires.made) ∙ c.if-not-made.false)
    ∙ parts_good c.args.p.now makes (seen_body c.args.body.now) c.args.chains.now c.args.k.now
