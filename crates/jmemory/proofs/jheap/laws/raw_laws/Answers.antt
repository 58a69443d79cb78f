use Rattle.jmemory.proofs.JheapProofs.RawLaws.{gives_back}
use Rattle.jmemory.proofs.jheap.laws.raw_laws.Goals as goal

pub returns : goal.returns
returns c = gives_back
