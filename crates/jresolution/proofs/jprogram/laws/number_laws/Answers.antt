use Rattle.jresolution.proofs.JprogramProofs.ClassNumbers as numbers
use Rattle.jresolution.proofs.jprogram.laws.number_laws.Goals as goal

pub returns-clause-named : goal.returns-clause-named
returns-clause-named c = numbers.number_name

pub returns-clause-number : goal.returns-clause-number
returns-clause-number c = numbers.number_found

pub returns-clause-own : goal.returns-clause-own
returns-clause-own c = numbers.own_number

pub returns-clause-library : goal.returns-clause-library
returns-clause-library c = numbers.library_number
