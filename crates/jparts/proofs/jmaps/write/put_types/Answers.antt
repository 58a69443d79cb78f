use Rattle.jparts.proofs.JmapsProofs.FullLaws.{all_are}
use Rattle.jparts.proofs.jmaps.write.put_types.Goals as goal

pub put_each-requires : goal.put_each-requires
put_each-requires c = all_are c.args.items.now
