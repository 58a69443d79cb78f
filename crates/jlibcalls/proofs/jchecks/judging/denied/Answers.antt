use Rattle.std.proofs.Common.{◌∙◌}
use Rattle.std.specs.Str.{chars}
use Rattle.jlibcalls.proofs.jchecks.judging.denied.Goals as goal

pub returns : goal.returns
unfolding chars
returns c = c.into_vec-units.ensures ∙ c.in_ok-from_text.ensures
