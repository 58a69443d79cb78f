use Rattle.jrows.proofs.JobjsProofs.Statics.{all_out}
use Rattle.jrows.proofs.jobjs.fields.get_out.Goals as goal

pub returns-clause-row : goal.returns-clause-row
returns-clause-row g c = all_out c.way_laws.ensures c.push_one.result c.args.frames.now c.push_one.new.frames c.push_one.ensures.way c.push_one.ensures.frames
