use Rattle.std.proofs.Common.{◌∙◌}
use Rattle.std.proofs.lemmas.Str.{is_utf8-from_IsUtf8}
use Rattle.jjob.proofs.LineNumbers.{not_utf8}
use Rattle.jjob.proofs.reading.text_of.Goals as goal

pub returns-in-Ok-clause-cases : goal.returns-in-Ok-clause-cases
returns-in-Ok-clause-cases c = (c.in-Ok.ensures.cases.0, is_utf8-from_IsUtf8 c.args.bytes.now c.in-Ok.ensures.cases.1)

pub returns-in-Err-clause-cases : goal.returns-in-Err-clause-cases
returns-in-Err-clause-cases c = (c.valid_up_to.ensures ∙ c.in-Err.ensures.valid_len, not_utf8 c.args.bytes.now c.in-Err.ensures.cases.0)
