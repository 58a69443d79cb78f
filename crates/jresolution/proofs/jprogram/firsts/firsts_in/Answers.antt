use Rattle.std.proofs.Common.{rules, subst}
use Rattle.jclass.specs.declared.class.ClassParts.{ClassParts}
use Rattle.jresolution.specs.jprogram.MemberDigests.{AreFirsts}
use Rattle.jresolution.proofs.JprogramProofs.DigestTables.{told_none, told_next, told_end, told_size}
use Rattle.jresolution.proofs.jprogram.firsts.firsts_in.Goals as goal

pub loop-i-init : goal.loop-i-init
loop-i-init c = (told_none c.new-all.result.items, search rules)

pub loop-i-preserved : goal.loop-i-preserved
loop-i-preserved c = rw c.in_ok-push.ensures.items (told_next c.args.parts.now c.loop-i.i c.index-parts-i.result c.loop-i.all.items c.in_ok-firsts.firsts c.loop-i-test.true c.index-parts-i.is c.loop-i.invariant.0 c.loop-i.invariant.1 (subst (λ (x : ClassParts). AreFirsts x c.in_ok-firsts.firsts) c.parts.ensures.same c.in_ok-firsts.ensures), told_size c.loop-i.all.items c.in_ok-firsts.firsts c.loop-i.i c.loop-i.invariant.1)

pub returns : goal.returns
returns c = told_end c.args.parts.now c.loop-i.i c.loop-i.all.items c.loop-i-test.false c.loop-i.invariant.0
