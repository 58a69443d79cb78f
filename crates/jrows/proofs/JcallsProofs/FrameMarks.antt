-- What frames carry.
use Rattle.std.proofs.Common.{◌≡◌, ◌∙◌, ℕ, List, Option, Some, None, refl, sym, ap}
use Rattle.std.specs.Prelude.{option_map, slice_get}
use Rattle.std.proofs.lemmas.Option.{slice_get-map}
use Rattle.jvalues.specs.declared.jops.value.Value.{Value}
use Rattle.jresolution.specs.declared.jprogram.part.CodePart.{CodePart}
use Rattle.jresolution.specs.declared.jprogram.member.MethodId.{MethodId}
use Rattle.jresolution.specs.jprogram.ProgramClasses.{Program}
use Rattle.jsemantics.specs.jmachine.FrameOperations.{carrying, domain_in, domain_of, standing}
use Rattle.jsemantics.specs.jmachine.Unwinding.{resumed}
use Rattle.jruntime.specs.jstate.FrameLists.{Framed, with_newest}
use Rattle.jrows.specs.jcalls.FrameMarks.{marks_of, resumed_by}

-- what those of a class carry is what the rules give for the domain of its methods
mark_is : {E : Type 0} (entry_of : ℕ → E) (p : Program) (m : MethodId) (mark : E) → slice_get (marks_of entry_of p) m.class ≡ Some mark
    → mark ≡ entry_of (domain_of p m)
mark_is {E} entry_of p m mark h = found (slice_get p.parts m.class) (sym (slice_get-map (λ (part : CodePart). entry_of part.domain) p.parts m.class) ∙ h)
  where
    found : (part : Option CodePart) → option_map (λ (part : CodePart). entry_of part.domain) part ≡ Some mark → mark ≡ entry_of (domain_in part)
    found None h = cc
    found (Some part) h = let e : entry_of part.domain ≡ mark = cc in sym e

-- a frame that goes on carries what the rules give to one that nothing marks
pub is_resumed : {E : Type 0} (entry_of : ℕ → E) (p : Program) (marks : List E) (f g : Framed E) (place : ℕ) (operands : List (Value ℕ))
    → marks ≡ marks_of entry_of p
    → Some g ≡ resumed_by marks f place operands → g ≡ with_newest (resumed entry_of p f.newest place operands) f
is_resumed {E} entry_of p marks f g place operands is h = found (slice_get marks f.newest.method.class) refl h
  where
    found : (o : Option E) → slice_get marks f.newest.method.class ≡ o
        → Some g ≡ option_map (λ mark. with_newest (carrying mark (standing f.newest place operands)) f) o
        → g ≡ with_newest (resumed entry_of p f.newest place operands) f
    found None e h = cc
    found (Some mark) e h =
        let same : g ≡ with_newest (carrying mark (standing f.newest place operands)) f = cc in
        let mark_as = mark_is entry_of p f.newest.method mark (ap (λ ms. slice_get ms f.newest.method.class) (sym is) ∙ e) in
        same ∙ ap (λ k. with_newest (carrying k (standing f.newest place operands)) f) mark_as
