use Rattle.std.proofs.Common.{ap, ◌∙◌}
use Rattle.jresolution.specs.jprogram.InterfaceSearch.{waiting_names}
use Rattle.jresolution.proofs.JprogramProofs.InterfaceSearch.{waiting-push}
use Rattle.jresolution.proofs.jprogram.circles.put_above.Goals as goal

pub returns-in_ok-push-in-Some : goal.returns-in_ok-push-in-Some
returns-in_ok-push-in-Some c = rw c.in-Some.is (ap waiting_names c.in_ok-push-in-Some.ensures.items ∙ waiting-push c.args.waiting.now.items c.in-Some.above)
