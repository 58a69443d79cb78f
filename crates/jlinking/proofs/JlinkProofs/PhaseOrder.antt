-- The phases that resolve members begin where the first two found nothing.
use Rattle.std.specs.Prelude.{◌≡◌, None}
use Rattle.jground.specs.jbase.FirstFaults.{or_else}
use Rattle.jground.proofs.JbaseProofs.Firsts.{none_of}
use Rattle.jresolution.specs.jprogram.ProgramClasses.{Program}
use Rattle.jresolution.specs.jprogram.NameChecks.{naming_fault}
use Rattle.jresolution.specs.jprogram.SuperChecks.{supers_fault}
use Rattle.jresolution.specs.jprogram.InterfaceSearch.{IsLayered}
use Rattle.jresolution.specs.jprogram.OrderedPrograms.{StandsInOrder}
use Rattle.jresolution.proofs.JprogramProofs.ClassHeights as standing
use Rattle.jlinking.specs.jmembers.MemberDeclarations.{members_fault}
use Rattle.jlinking.specs.jreferring.CodeChecks.{code_fault}
use Rattle.jlinking.specs.jlink.LinkedPrograms.{Links, link_fault}
use Rattle.jlinking.specs.jlink.ClassOrder.{in_order, in_order_of}

pub layered : (p : Program) → naming_fault p ≡ None → supers_fault p ≡ None → IsLayered p
layered p names supers = standing.layered p (record { named = names; extended = supers })

pub linked_layered : (p : Program) → link_fault p ≡ None → IsLayered p
unfolding link_fault
linked_layered p e =
    let inner = or_else (members_fault p) (code_fault p) in
    let first = none_of (naming_fault p) (or_else (supers_fault p) inner) e in
    layered p (first.0) ((none_of (supers_fault p) inner (first.1)).0)

pub ordered : (p : Program) → link_fault p ≡ None → StandsInOrder p
ordered = in_order_of

pub links_ordered : (p : Program) → Links p → StandsInOrder p
links_ordered = in_order
