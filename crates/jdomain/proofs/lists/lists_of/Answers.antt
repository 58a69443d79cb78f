use Rattle.jdomain.proofs.SharedLists.{all_there, lists_next}
use Rattle.jdomain.proofs.lists.lists_of.Goals as goal

pub loop-source-preserved : goal.loop-source-preserved
loop-source-preserved c = record {
  lists = rw c.in_ok-push.ensures.ok (lists_next c.args.shares.now c.loop-source.all c.number_of.new.all c.loop-source.numbers c.in_ok-number_of.field-0 c.loop-source.source-index c.args.sources.now c.source-item.result c.loop-source-test.true c.source-item.is c.in_ok-number_of.ensures.keeps c.loop-source.invariant.there c.in_ok-number_of.ensures.list c.loop-source.invariant.lists);
  there = rw c.in_ok-push.ensures.ok (all_there c.loop-source.all c.number_of.new.all c.loop-source.numbers c.in_ok-number_of.field-0 c.in_ok-number_of.ensures.keeps c.in_ok-number_of.ensures.list.0 c.loop-source.invariant.there);
  knows = c.in_ok-number_of.ensures.knows;
}
