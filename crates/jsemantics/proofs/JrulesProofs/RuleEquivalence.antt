-- The answers of the two machines, joined by the laws of contexts.
use Rattle.std.proofs.Common.{◌≡◌, [], Option, Some, None, refl, sym, ap, ◌∙◌}
use Rattle.std.specs.Option.{option_map}
use Rattle.jdomain.specs.DomainStacks.{Stack}
use Rattle.jctx.specs.Contexts.{along, along_given, privileged}
use Rattle.jctx.specs.ContextLaws.{DecidesAsTheWalk, PrivilegedSame}
use Rattle.jsemantics.specs.jrules.InspectingRules as inspecting
use Rattle.jsemantics.specs.jrules.InspectingRules.{given_by, stack_of}
use Rattle.jsemantics.specs.jrules.PlainRules as plain
use Rattle.jsemantics.specs.jrules.RuleCorrespondence.{BeginsAlike, CallsAlike, ChecksAlike, HeldChecksAlike, KeepsAlike, PrivilegesAlike, context_of}

pub checks : DecidesAsTheWalk → ChecksAlike
unfolding inspecting.rules plain.rules
checks decides has asked entries below none inherited = sym (decides has asked (stack_of entries below))

pub held : DecidesAsTheWalk → HeldChecksAlike
unfolding inspecting.rules plain.rules
held decides has asked s = sym (decides has asked s)

pub keeps : KeepsAlike
unfolding inspecting.rules plain.rules
keeps = record { snapshot = λ has entries below none inherited. refl; inherit = λ has entries below none inherited. refl }

pub calls : CallsAlike
unfolding inspecting.rules plain.rules
calls has entries below d = refl

pub begins : BeginsAlike
unfolding inspecting.rules plain.rules
begins has s d = refl

-- the context of what is given
given_along : (given : Option Stack) → option_map along given ≡ along_given (given_by given)
given_along None = refl
given_along (Some s) = refl

pub privileges : PrivilegedSame → PrivilegesAlike
unfolding inspecting.rules plain.rules
privileges same has entries below d given None none = ap (λ g. Some (privileged d g None [])) (given_along given)
privileges same has entries below d given (Some limits) none =
    ap Some (same d (option_map along given) (Some limits) (context_of entries below)
    ∙ ap (λ g. privileged d g (Some limits) (context_of entries below)) (given_along given))
