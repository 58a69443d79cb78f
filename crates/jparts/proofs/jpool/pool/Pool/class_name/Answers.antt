use Rattle.jparts.proofs.JpoolProofs.PoolLaws.{no_class, class_has_name}
use Rattle.jparts.proofs.jpool.pool.Pool.class_name.Goals as goal

pub returns-in_err-name-clause-class : goal.returns-in_err-name-clause-class
returns-in_err-name-clause-class c h = absurd (no_class c.as_slice-entries.result.now c.args.i c.in_err-name.ensures (rw (c.as_slice-entries.ensures.value, c.self.view_is) h))

pub returns-clause-class : goal.returns-clause-class
returns-clause-class c h = class_has_name c.as_slice-entries.result.now c.args.i c.in_ok-name.name (λ t. t.now) c.text_of.result (rw c.as_slice-entries.ensures.value c.self.invariant) c.in_ok-name.ensures c.text_of.ensures
