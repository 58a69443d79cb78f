use Rattle.jtyping.specs.jrule.InternedFrames.{seen}
use Rattle.jverify.proofs.LocalStores.{store_form}
use Rattle.jverify.proofs.storing.local_rests.Goals as goal

pub returns-in-Store : goal.returns-in-Store
returns-in-Store c truth most =
    store_form (seen c.args.p.now c.args.f.now) c.args.form _ _ _ c.in-Move.is c.in-Store.is (c.store_rests.ensures truth) most
