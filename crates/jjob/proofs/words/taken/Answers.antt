use Rattle.std.proofs.Common.{◌∙◌, ap}
use Rattle.clap.specs.Words.{found_of, rows_of}
use Rattle.jjob.specs.ParseRows.{cause_of, said_in}
use Rattle.jjob.proofs.ParserAgreement.{refused_says, taken_says}
use Rattle.jjob.proofs.words.taken.Goals as goal

pub returns-in-Ok : goal.returns-in-Ok
returns-in-Ok c = taken_says c.args.words.now (rows_of (found_of c.in-Ok.matches)) c.in-Ok.ensures.kinds c.in-Ok.ensures.matches

pub returns-in-Err : goal.returns-in-Err
returns-in-Err c = refused_says (λ m. said_in (rows_of (found_of m))) c.args.words.now c.in-Err.error c.cause.result c.in-Err.ensures.kinds (c.cause.ensures ∙ ap cause_of c.kind.ensures)
