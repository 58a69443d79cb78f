use Rattle.std.proofs.Common.{◌∙◌}
use Rattle.jpolicy.proofs.FirstTest.{policy_of_text, policy_of_none}
use Rattle.jpolicy.proofs.read.policy_of.Goals as goal

pub returns-in-Ok : goal.returns-in-Ok
returns-in-Ok c = policy_of_text c.args.properties.now c.args.bytes.now c.in-Ok.text.now c.policy_in.result c.in-Ok.ensures.cases.0 c.in-Ok.ensures.cases.1 c.policy_in.ensures

pub returns-in-Err : goal.returns-in-Err
returns-in-Err c = policy_of_none c.args.properties.now c.args.bytes.now c.valid_up_to.result c.in-Err.ensures.cases.0 (c.valid_up_to.ensures ∙ c.in-Err.ensures.valid_len)
