use Rattle.std.proofs.Common.{◌≡◌, drop, take}
use Rattle.jground.specs.jbase.FirstFaults.{first_along}
use Rattle.jlinking.specs.jmembers.MemberDeclarations.{at_member, method_test}
use Rattle.jlinking.specs.jmembers.MemberSets.{HasMet}
use Rattle.jlinking.proofs.jmembers.phase.methods_fault.Given as goal

abbrev pub invariant-loop-k : goal.invariant-loop-k
invariant-loop-k l =
    HasMet l.texts.class (take l.k l.texts.class.methods) l.met
    × (first_along (λ k m. at_member l.texts.place k (method_test l.texts.program l.texts.place l.texts.class (take k l.texts.class.methods) k m)) l.k (drop l.k l.texts.class.methods)
    ≡ first_along (λ k m. at_member l.texts.place k (method_test l.texts.program l.texts.place l.texts.class (take k l.texts.class.methods) k m)) 0 l.texts.class.methods)
