use Rattle.jsoundness_laws.proofs.LibraryProofs.TextRows.{builder_yields, print_end_yields, print_yields, string_yields}
use Rattle.jsoundness_laws.proofs.library.laws.text_laws.Goals as goal

pub returns-clause-string : goal.returns-clause-string
returns-clause-string g c = string_yields _ _

pub returns-clause-builder : goal.returns-clause-builder
returns-clause-builder g c = builder_yields _ _

pub returns-clause-print : goal.returns-clause-print
returns-clause-print g c = print_yields _ _

pub returns-clause-print_end : goal.returns-clause-print_end
returns-clause-print_end g c = print_end_yields _ _
