use Rattle.jpolicy.proofs.Grounds.{found_so, only_so, first_so}
use Rattle.jpolicy.proofs.read.read_policy.Goals as goal

pub returns : goal.returns
returns c = record {
  found = found_so c.args.props.now c.args.bytes.now c.policy_of.result c.policy_of.ensures;
  only = only_so c.args.props.now c.args.bytes.now c.policy_of.result c.policy_of.ensures;
  exact = c.policy_of.ensures;
  first = first_so c.args.props.now c.args.bytes.now c.policy_of.result c.policy_of.ensures;
}
