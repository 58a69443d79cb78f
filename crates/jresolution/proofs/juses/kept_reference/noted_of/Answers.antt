use Rattle.std.proofs.Common.{sym}
use Rattle.jresolution.proofs.juses.kept_reference.noted_of.Goals as goal

pub returns : goal.returns
returns c = (
  c.are_one.ensures c.if-not-are_one.false,
  c.is_same.ensures c.if-not-is_same.false,
  λ p pool types all. all c.number_of.result c.in_ok-found.found (sym c.in_ok-found.ensures),
)
