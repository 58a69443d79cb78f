use Rattle.std.proofs.Common.{subst}
use Rattle.jground.specs.jbase.MemoryFailures.{Gives}
use Rattle.jclass.specs.IndexFormats.{u2}
use Rattle.jclass.specs.ClassFileShape
use Rattle.jclass.proofs.SkippedValues.{counted_unseen}
use Rattle.jclass.proofs.shape.skip_attributes.Goals as goal

pub returns : goal.returns
returns c = subst (λ f. Gives (λ x. (tt, x.now)) c.skip_counted.result f) (counted_unseen u2.read ClassFileShape.attribute.read c.args.bytes.now) c.skip_counted.ensures
