use Rattle.std.proofs.Common.{ap, sym, ◌∙◌}
use Rattle.jresolution.specs.juses.InstructionMeanings.{call_named}
use Rattle.jrows.specs.jcalls.MethodCalls.{selected_on}
use Rattle.jsemantics.specs.jmachine.World.{world}
use Rattle.jserving.specs.jinvoke.Answers.{id_on}
use Rattle.jserving.proofs.jinvoke.method_lookup.MethodLookup.selected.Goals as goal

pub returns-in-Special : goal.returns-in-Special
returns-in-Special c types =
    c.special.ensures types
    ∙ sym (ap (λ by. selected_on (world c.args.self.now) c.args.key.class by (call_named c.args.self.now types c.args.call.now) (id_on
    c.args.key.on)) c.in-Special.is)
