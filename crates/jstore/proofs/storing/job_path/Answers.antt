use Rattle.jstore.proofs.Names.{job_utf8}
use Rattle.jstore.proofs.storing.job_path.Goals as goal

pub text_in-requires : goal.text_in-requires
text_in-requires c = rw (c.as_slice.ensures, c.in_ok-path.ensures) (job_utf8 c.args.to.now c.utf8.to)
