use Rattle.std.proofs.Common.{◌≡◌, ℕ, List, sym, subst, ap, ◌∙◌}
use Rattle.std.specs.Prelude.{slice_get}
use Rattle.jparts.specs.declared.jpool.entry.Entry.{Entry}
use Rattle.jresolution.specs.jprogram.ClassFileParts.{text}
use Rattle.jlinking.specs.jmembers.PoolTexts.{number_of}
use Rattle.jlinking.proofs.JmembersProofs.TextNumbers.{number_at, number_or}
use Rattle.jlinking.proofs.jmembers.numbers.Numbers.at.Goals as goal

pub returns-in-Some : goal.returns-in-Some
returns-in-Some c =
    let at : number_or c.self.inside.none (slice_get c.self.inside.numbers.items c.args.i) ≡ number_of c.self.inside.entries.now (text c.self.inside.entries.now c.args.i) =
    number_at c.self.inside.entries.now c.self.inside.numbers.items c.self.inside.none c.args.i c.self.invariant.0 c.self.invariant.1 in
    subst (λ (es : List Entry). c.in-Some.number ≡ number_of es (text es c.args.i)) c.self.view_is
    (ap (number_or c.self.inside.none) (sym c.in-Some.is ∙ c.number_at.ensures ∙ ap (λ (ns : List ℕ). slice_get ns c.args.i) c.as_slice.ensures.value) ∙ at)

pub returns-in-None : goal.returns-in-None
returns-in-None c =
    let at : number_or c.self.inside.none (slice_get c.self.inside.numbers.items c.args.i) ≡ number_of c.self.inside.entries.now (text c.self.inside.entries.now c.args.i) =
    number_at c.self.inside.entries.now c.self.inside.numbers.items c.self.inside.none c.args.i c.self.invariant.0 c.self.invariant.1 in
    subst (λ (es : List Entry). c.self.inside.none ≡ number_of es (text es c.args.i)) c.self.view_is
    (ap (number_or c.self.inside.none) (sym c.in-None.is ∙ c.number_at.ensures ∙ ap (λ (ns : List ℕ). slice_get ns c.args.i) c.as_slice.ensures.value) ∙ at)
