use Rattle.jparts.proofs.JpoolProofs.DescriptorTexts.{read_found, read_only}
use Rattle.jparts.proofs.jpool.descriptor.read_descriptor.Goals as goal

pub returns-clause-found : goal.returns-clause-found
returns-clause-found c = read_found c.args.text.now c.read_either.result c.read_either.ensures

pub returns-clause-only : goal.returns-clause-only
returns-clause-only c = read_only c.args.text.now c.read_either.result c.read_either.ensures
