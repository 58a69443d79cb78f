use Rattle.std.proofs.Common.{◌≡◌, ◌+◌, drop, length, take}
use Rattle.jground.specs.jbase.FirstFaults.{first_along}
use Rattle.jlinking.specs.jmembers.MemberDeclarations.{at_member, field_test}
use Rattle.jlinking.specs.jmembers.MemberSets.{HasMet}
use Rattle.jlinking.proofs.jmembers.phase.fields_fault.Given as goal

abbrev pub invariant-loop-k : goal.invariant-loop-k
invariant-loop-k l =
    HasMet l.texts.class (take l.k l.texts.class.fields) l.met
    × (first_along (λ k m. at_member l.texts.place (length l.texts.class.methods + k) (field_test l.texts.program l.texts.class (take k l.texts.class.fields) m)) l.k (drop l.k l.texts.class.fields)
    ≡ first_along (λ k m. at_member l.texts.place (length l.texts.class.methods + k) (field_test l.texts.program l.texts.class (take k l.texts.class.fields) m)) 0 l.texts.class.fields)
