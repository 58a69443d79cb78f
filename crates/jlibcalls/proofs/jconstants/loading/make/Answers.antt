use Rattle.std.proofs.Common.{rules}
use Rattle.jlibcalls.proofs.JconstantsProofs.Tables.{last_made, one_more}
use Rattle.jlibcalls.proofs.jconstants.loading.make.Goals as goal

pub returns-clause-object : goal.returns-clause-object
returns-clause-object g c = search (rules, last_made, one_more)
