use Rattle.std.proofs.Common.{◌≡◌, ◌+◌, [], ◌∷◌, length, refl, ap, ◌∙◌, arith}
use Rattle.std.proofs.lemmas.List.{length-append}
use Rattle.jresolution.proofs.JusesProofs.Spans.{grows_on}
use Rattle.jready.proofs.TableGrowth.{grown_on}
use Rattle.jready.proofs.InstructionLayout.{laid_step}
use Rattle.jready.proofs.code.put_ops.Goals as goal

pub loop-i-preserved : goal.loop-i-preserved
loop-i-preserved c =
    let p = c.args.known.now.p.now in
    let old = c.loop-i.invariant in
    let i = c.loop-i.i in
    let one = c.in_ok-instr.ensures in
    let made = c.unless_last.result in
    let put = c.in_ok-push.ensures.ok in
    let len : length c.push.new.self ≡ length c.loop-i.code + 1 = ap length put ∙ length-append c.loop-i.code (made ∷ []) in
    record {
      laid = laid_step p c.args.known.now.uses.now.types c.loop-i.tables c.instr_of.new.tables c.args.class c.args.ops.now c.loop-i.code c.push.new.self
          (length c.args.code.now) i c.index-ops-i.result c.in_ok-instr.instr made _ old.laid old.count c.loop-i-test.true c.index-ops-i.is
          one.grown one.means one.within (c.unless_last.ensures.means p c.instr_of.new.tables c.args.class)
          (c.unless_last.ensures.within c.instr_of.new.tables) one.exact
          (c.unless_last.ensures.exact p c.args.known.now.uses.now.types c.instr_of.new.tables c.args.class) refl put;
      count = let n = old.count in omega arith;
      behind = grows_on c.args.code.now c.loop-i.code c.push.new.self old.behind (made ∷ [], put);
      grown = grown_on c.args.tables.now c.loop-i.tables c.instr_of.new.tables old.grown one.grown;
    }
