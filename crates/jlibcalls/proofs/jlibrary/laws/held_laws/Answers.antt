use Rattle.jlibcalls.proofs.JlibraryProofs.PermissionlessRows.{made_stays, rows_stay}
use Rattle.jlibcalls.proofs.JlibraryProofs.PermissionNumbers.{by_number, within}
use Rattle.jlibcalls.proofs.jlibrary.laws.held_laws.Goals as goal

pub returns-clause-rows : goal.returns-clause-rows
returns-clause-rows g c = rows_stay

pub returns-clause-made : goal.returns-clause-made
returns-clause-made g c = made_stays c.heap_laws.ensures.makes

pub returns-clause-number : goal.returns-clause-number
returns-clause-number g c = by_number

pub returns-clause-within : goal.returns-clause-within
returns-clause-within g c = within
