-- Steps that execute calls.
use Rattle.std.proofs.Common.{◌∙◌, Some, sym, ap}
use Rattle.std.specs.Prelude.{option_map}
use Rattle.jresolution.specs.juses.IndexedInstructions.{Used}
use Rattle.jresolution.specs.juses.InstructionMeanings.{Call}
use Rattle.jsemantics.specs.jmachine.MachineSteps.{executed, step, step_at}
use Rattle.jready.specs.DecodedInstructions.{meant}
use Rattle.jserving.specs.jinvoke.InvokeLaws.{StepsAt, StepsLibrary, StepsUser}

pub steps_at : {E : Type 0} → StepsAt E
unfolding step
steps_at r p plan s f it frames is = ap (step_at r p plan s) frames ∙ ap (executed r p plan s f.newest f.below) (sym is)

pub steps_user : {E : Type 0} → StepsUser E
unfolding meant
steps_user r p plan s f t known by pool params k frames is called =
    steps_at r p plan s f (Some (Used (Call by called.call))) frames (sym (ap (option_map Used) called.means) ∙ is)

pub steps_library : {E : Type 0} → StepsLibrary E
unfolding meant
steps_library r p plan s f t known by pool params call frames is called =
    steps_at r p plan s f (Some (Used (Call by called.call))) frames (sym (ap (option_map Used) called.means) ∙ is)
