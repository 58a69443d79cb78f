use Rattle.std.proofs.Common.{arith}
use Rattle.jparts.proofs.JpoolProofs.EntrySpellings.{text_fits}
use Rattle.jparts.proofs.jpool.coding.put_text.Goals as goal

pub returns-in_err-put_u8-clause-fits : goal.returns-in_err-put_u8-clause-fits
returns-in_err-put_u8-clause-fits c = text_fits c.args.text.now (λ i. omega (arith, c.type_inv.text i)) c.requires

pub put_sized16-requires : goal.put_sized16-requires
put_sized16-requires c = text_fits c.args.text.now (λ i. omega (arith, c.type_inv.text i)) c.requires

pub returns-clause-fits : goal.returns-clause-fits
returns-clause-fits c = text_fits c.args.text.now (λ i. omega (arith, c.type_inv.text i)) c.requires
