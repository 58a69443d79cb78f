use Rattle.std.proofs.Common.{◌∙◌, Some, ap}
use Rattle.jsemantics.specs.jmachine.Narrowing.{narrowed}
use Rattle.jresolution.specs.declared.juses.types.ElementRef.{ElementRef}
use Rattle.jresolution.specs.juses.InternedTypes.{element_named}
use Rattle.jrows.proofs.JactsProofs.NumberStores.{held_said}
use Rattle.jrows.proofs.jacts.storing.held_in.Goals as goal

pub returns-in-Some : goal.returns-in-Some
returns-in-Some c p =
    c.narrowed.ensures p ∙ ap (λ (e : ElementRef). narrowed (Some (element_named p e)) c.args.value) c.element_of.ensures
    ∙ held_said p c.args.shapes.now c.args.number c.in-Some.kind c.args.value c.in-Some.ensures
