-- The classes of a program that links stand in order: what typing asks of them.
use Rattle.std.specs.Prelude.{◌≡◌, None, true, codes}
use Rattle.std.proofs.Common.{ap, ◌∙◌}
use Rattle.jground.specs.jbase.FirstFaults.{or_else}
use Rattle.jground.proofs.JbaseProofs.Firsts.{none_of}
use Rattle.jtypes.specs.declared.vtype.Name.{Name}
use Rattle.jtypes.specs.ClassTrees.{InterfacesExtendTheirs}
use Rattle.jresolution.specs.jprogram.ProgramClasses.{Program, extends, tree}
use Rattle.jresolution.specs.jprogram.NameChecks.{naming_fault}
use Rattle.jresolution.specs.jprogram.OrderedPrograms.{StandsInOrder}
use Rattle.jresolution.specs.jprogram.SuperChecks.{supers_fault}
use Rattle.jresolution.proofs.JprogramProofs.SuperclassOrder as extending
use Rattle.jlinking.specs.jmembers.MemberDeclarations.{members_fault}
use Rattle.jlinking.specs.jreferring.CodeChecks.{code_fault}
use Rattle.jlinking.specs.jlink.LinkedPrograms.{Links, link_fault}

pub in_order_of : (p : Program) → link_fault p ≡ None → StandsInOrder p
unfolding link_fault
in_order_of p e =
    let inner = or_else (members_fault p) (code_fault p) in
    let first = none_of (naming_fault p) (or_else (supers_fault p) inner) e in
    record { named = first.0; extended = (none_of (supers_fault p) inner (first.1)).0 }

pub in_order : (p : Program) → Links p → StandsInOrder p
in_order p links = in_order_of p links.rules

pub itself : (p : Program) (c : Name) → (tree p).extends c c ≡ true
itself p c = extending.extends_itself p c.0

pub chain : (p : Program) (c d e : Name) → Links p → (tree p).extends c d ≡ true → (tree p).extends d e ≡ true → (tree p).extends c e ≡ true
chain p c d e links first second = extending.extends_chain p (in_order p links) c.0 d.0 e.0 first second

pub below_object : (p : Program) (c d : Name) → d.0 ≡ codes "java/lang/Object" → (tree p).extends c d ≡ true
below_object p c d at = ap (extends p c.0) at ∙ extending.extends_object p c.0

pub interfaces : (p : Program) → Links p → InterfacesExtendTheirs (tree p)
interfaces p links = extending.interfaces_extend p (in_order p links)
