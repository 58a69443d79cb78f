use Rattle.jtyping.proofs.JwelltypedProofs.Successors.{gives_rule, number_led, number_onward}
use Rattle.jtyping.proofs.jwelltyped.laws.number_law.Goals as goal

pub returns-clause-gives : goal.returns-clause-gives
returns-clause-gives c = gives_rule

pub returns-clause-onward : goal.returns-clause-onward
returns-clause-onward c = number_onward

pub returns-clause-target : goal.returns-clause-target
returns-clause-target c = number_led
