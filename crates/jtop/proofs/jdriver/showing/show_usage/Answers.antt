use Rattle.jshow.proofs.Lines.{cut_line}
use Rattle.jtop.proofs.jdriver.showing.show_usage.Goals as goal
use Rattle.std.specs.Prelude.{codes}

pub returns-in-Err-clause-answer : goal.returns-in-Err-clause-answer
returns-in-Err-clause-answer g c = cut_line (g.K.Sink.out c.args.out.now) (g.K.Sink.out c.put_all.new.out) (codes "usage: javasec VERB ARGUMENTS\n") c.in-Err.field-0.written c.in-Err.ensures.err
