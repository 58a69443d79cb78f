use Rattle.std.proofs.Common.{rules}
use Rattle.jlibcalls.proofs.JconstantsProofs.UnnumberedRows.{none_known}
use Rattle.jlibcalls.proofs.JconstantsProofs.Tables.{none_made}
use Rattle.jlibcalls.proofs.jconstants.table.table_of.Goals as goal

pub returns-clause-made : goal.returns-clause-made
returns-clause-made c = search rules

pub returns-clause-table : goal.returns-clause-table
returns-clause-table c = search (rules, none_made, none_known)
