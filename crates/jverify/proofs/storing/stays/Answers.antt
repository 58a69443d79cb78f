use Rattle.std.proofs.Common.{◌∙◌, sym}
use Rattle.jverify.proofs.LocalStores.{stays_put}
use Rattle.jverify.proofs.storing.stays.Goals as goal

pub returns : goal.returns
returns c truth =
    stays_put c.args.p.now c.args.locals.now c.args.n c.args.kind (sym c.is_long.ensures ∙ c.if-is_long.false) (c.is_unbroken.ensures c.if-not-is_unbroken.false) (c.has.ensures truth)
