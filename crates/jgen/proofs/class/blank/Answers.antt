use Rattle.std.proofs.Common.{List, ◌++◌, ◌∷◌, [], ap, subst, sym, ◌∙◌}
use Rattle.jparts.specs.declared.jpool.entry.Entry.{Entry}
use Rattle.jparts.specs.declared.jpool.entry.Entry.TheVariants.{Unused}
use Rattle.jparts.specs.jpool.ConstantPools.{IsPool}
use Rattle.jgen.proofs.MethodParts.{blank_pool}
use Rattle.jgen.proofs.class.blank.Goals as goal

pub from_entries-requires : goal.from_entries-requires
from_entries-requires c = subst (λ (l : List Entry). IsPool l) (sym (c.in_ok-push.ensures.ok ∙ ap (λ (l : List Entry). l ++ Unused ∷ []) c.new-entries.ensures)) blank_pool
