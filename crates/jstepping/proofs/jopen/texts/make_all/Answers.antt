use Rattle.std.proofs.Common.{List, ℕ, sym, subst}
use Rattle.jstepping.specs.jopen.OpeningTexts.{HasMade}
use Rattle.jstepping.proofs.JopenProofs.StringCreation.{made_full, made_next, no_texts}
use Rattle.jstepping.proofs.jopen.texts.make_all.Goals as goal

pub loop-row-init : goal.loop-row-init
loop-row-init c = record {
  built = c.requires.built;
  celled = λ shapes h. h;
  made = subst (λ (l : List (List ℕ)). HasMade c.args.constants.now.program c.args.cells l c.args.constants.now c.args.heap.now)
      (sym (no_texts c.args.constants.now.program)) c.requires.none;
}

pub loop-row-preserved : goal.loop-row-preserved
loop-row-preserved c =
    let made = c.in_ok-make_for.ensures in
    record {
      built = made.built;
      celled = λ shapes h. made.celled shapes (c.loop-row.invariant.celled shapes h);
      made = made_next c.args.constants.now.program c.args.cells c.args.rows.now c.loop-row.row-index _ c.loop-row.constants c.make_for.new.constants
          c.loop-row.heap c.make_for.new.heap made.program made.statics c.loop-row-test.true c.loop-row.invariant.made (rw c.if-not-branch.false at c.in_ok-make_for.ensures.makes);
    }

pub returns-then-not-branch-clause-made : goal.returns-then-not-branch-clause-made
returns-then-not-branch-clause-made c =
    let made = c.in_ok-make_for.ensures in
    made_full c.args.constants.now.program c.args.cells c.args.rows.now c.loop-row.row-index _ c.loop-row.constants c.make_for.new.constants
    c.loop-row.heap c.make_for.new.heap made.program made.statics c.loop-row-test.true c.loop-row.invariant.made (rw c.if-not-branch.true at c.in_ok-make_for.ensures.makes)

pub returns-then-not-branch-clause-celled : goal.returns-then-not-branch-clause-celled
returns-then-not-branch-clause-celled c = λ shapes h. c.in_ok-make_for.ensures.celled shapes (c.loop-row.invariant.celled shapes h)

pub returns-clause-celled : goal.returns-clause-celled
returns-clause-celled c = c.loop-row.invariant.celled
