use Rattle.std.proofs.Common.{◌≡◌, Some, sym, ap, ◌∙◌}
use Rattle.std.proofs.lemmas.Option.{slice_get-get_or}
use Rattle.jclass.specs.declared.class.MemberInfo.{MemberInfo}
use Rattle.jresolution.specs.jprogram.MemberDigests.{digest, first_at}
use Rattle.jresolution.proofs.JprogramProofs.DigestTables.{first_told}
use Rattle.jresolution.proofs.jprogram.members.place_by.Goals as goal

pub returns-then-is_called-clause-place : goal.returns-then-is_called-clause-place
returns-then-is_called-clause-place c =
    let first : first_at c.args.firsts.now (digest c.args.key.name.now c.args.key.desc.now) ≡ Some c.in_ok-first.first = ap (first_at c.args.firsts.now) (sym c.requires.key) ∙ sym c.in_ok-first.ensures in
    let there = slice_get-get_or c.args.members.now c.in_ok-first.first c.in-Some.one.now c.in-Some.ensures.lookup.3.0 ∙ ap (λ (x : MemberInfo). Some x) (sym c.in-Some.ensures.lookup.1) in
    sym (first_told c.args.class.now c.args.members.now c.args.firsts.now c.args.key.name.now c.args.key.desc.now c.in_ok-first.first c.in-Some.one.now c.requires.firsts first there (sym c.is_called.ensures ∙ c.if-is_called.true))
