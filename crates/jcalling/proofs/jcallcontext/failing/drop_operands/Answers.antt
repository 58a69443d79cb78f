use Rattle.jcalling.proofs.JcallcontextProofs.CallOutcomes.{drops, few_of}
use Rattle.jcalling.proofs.jcallcontext.failing.drop_operands.Goals as goal

pub shrink-requires : goal.shrink-requires
shrink-requires g c = few_of c.args.m.now c.args.count c.requires _ c.in-Some.is

pub returns : goal.returns
returns g c h at = drops c.args.m.now c.args.count _ c.shrink.new.self h c.in-Some.is c.shrink.ensures at
