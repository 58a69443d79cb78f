use Rattle.std.proofs.Common.{sym, subst}
use Rattle.jready.specs.MethodNumbers.{AreFirsts}
use Rattle.jready.proofs.ready.Ready.of.Goals as goal

pub methods_of-requires : goal.methods_of-requires
methods_of-requires c = record {
  known = record {
    few = c.layouts_of.ensures.few;
    uses = c.uses-uses.ensures;
    layouts = c.in_ok-layouts.ensures.ok;
    methods = subst (AreFirsts c.args.program.now) (sym c.as_slice.ensures) c.in_ok-firsts.ensures;
  };
}
