use Rattle.jclass.specs.Class.{class_parts}
use Rattle.jclass.proofs.ClassLaws.{tail_attributes, tail_methods}
use Rattle.jclass.proofs.write.put_tail_by.Goals as goal

pub put_counted-requires-3 : goal.put_counted-requires-3
put_counted-requires-3 c = rw (c.as_slice-3.ensures) (tail_methods c.args.pool.now (class_parts c.args.one.now).1 c.requires)

pub put_counted-requires-4 : goal.put_counted-requires-4
put_counted-requires-4 c = rw (c.as_slice-4.ensures) (tail_attributes c.args.pool.now (class_parts c.args.one.now).1 c.requires)
