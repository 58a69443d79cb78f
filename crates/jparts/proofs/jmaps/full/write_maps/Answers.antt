use Rattle.std.proofs.Common.{◌∙◌, ap}
use Rattle.jparts.specs.jmaps.StackMapFormat.{maps}
use Rattle.jparts.proofs.JmapsProofs.FullLaws.{written_is, written_again, written_expands}
use Rattle.jparts.proofs.jmaps.full.write_maps.Goals as goal

pub returns-clause-spelled : goal.returns-clause-spelled
returns-clause-spelled c = c.into_vec.ensures ∙ c.in_ok-put_by.ensures ∙ rw (c.in_ok-put_u16.ensures, c.new-out.ensures) (written_is c.args.frames.now)

pub returns-clause-again : goal.returns-clause-again
returns-clause-again c = λ fit.
    let spelled = c.into_vec.ensures ∙ c.in_ok-put_by.ensures ∙ rw (c.in_ok-put_u16.ensures, c.new-out.ensures) (written_is c.args.frames.now) in
    ap maps.read spelled ∙ written_again c.args.frames.now c.requires fit

pub returns-clause-same : goal.returns-clause-same
returns-clause-same c = written_expands c.args.frames.now c.requires
