-- What a selected method is in a moved program.
use Rattle.jresolution.specs.declared.jprogram.member.Selected.{Selected}
use Rattle.jresolution.specs.declared.jprogram.member.Selected.TheVariants.{Abstract, Lib}
use Rattle.jsimulation_laws.specs.relation.InstructionExpansion.{moved_member, passing}

-- a method of the library in its passing form
abbrev pub moved_selected : Selected → Selected
moved_selected (Lib call) = Lib (passing call)
moved_selected (Abstract m) = Abstract (moved_member m)
moved_selected s = s
