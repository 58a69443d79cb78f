use Rattle.std.proofs.Common.{◌∙◌, length, take, ap}
use Rattle.jinterned.specs.PairLists.{lists_of}
use Rattle.jinterned.proofs.PairLists.{cut_fronts, cut_lists, cut_within}
use Rattle.jinterned.proofs.lists.Lists.truncate.Goals as goal

pub invariant_of-self : goal.invariant_of-self
invariant_of-self c =
    rw c.truncate.ensures.items (
      cut_within c.args.count (length c.self.inside.pairs) c.self.inside.entries.items c.self.invariant.0,
      cut_fronts c.args.count c.self.inside.pairs c.self.inside.entries.items c.self.invariant.1,
    )

pub returns : goal.returns
returns c =
    ap (lists_of c.self.inside.pairs) c.truncate.ensures.items
    ∙ cut_lists c.args.count c.self.inside.pairs c.self.inside.entries.items
    ∙ ap (take c.args.count) c.self.view_is
