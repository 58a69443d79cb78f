use Rattle.jshow.proofs.Lines.{showed_cut}
use Rattle.jshow.proofs.counting.put_checked.Goals as goal

pub returns-in-Err : goal.returns-in-Err
returns-in-Err g c = showed_cut g.K.Sink.out g.K.Sink.faults _ _ _ _ _ c.in-Err.ensures.err c.in-Err.ensures.cause
