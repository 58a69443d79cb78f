use Rattle.std.proofs.Common.{◌≡◌, refl}
use Rattle.jparts.specs.jpool.Descriptors.{descriptor_of}
use Rattle.jresolution.specs.jprogram.ClassFileParts.{text}
use Rattle.jresolution.proofs.JusesProofs.CacheInvariants.{all_none}
use Rattle.jlinking.specs.jreferring.ClassNameAccess.{params_test}
use Rattle.jlinking.proofs.jreferring.code.methods_fault.Goals as goal

pub loop-j-init : goal.loop-j-init
loop-j-init c = (refl, all_none (λ i o. o ≡ params_test c.args.home.program.now c.args.home.from.now (descriptor_of (text c.args.home.pool.now i))) c.new-handed.result c.new-handed.ensures.empty)
