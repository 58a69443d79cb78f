use Rattle.std.proofs.Common.{◌∙◌, ◌==◌, ◌<◌, List, [], length, ap, arith}
use Rattle.std.specs.Prelude.{get_or}
use Rattle.jperm.specs.declared.permission.Permission.{Permission}
use Rattle.jinterned.specs.ContextStores.{Stored, context_in}
use Rattle.jinterned.specs.InternedContexts.{begins_with}
use Rattle.jinterned.proofs.ContextGrowth.{begins_other, begins_same}
use Rattle.jinterned.proofs.LimitNumbers.{named_at}
use Rattle.jinterned.proofs.store.Store.begins_with.Goals as goal

pub returns-then-pair-d : goal.returns-then-pair-d
returns-then-pair-d c =
    begins_other c.self.inside.sets (get_or c.self.inside.lists c.args.c []) c.args.d c.head-pair.result c.head-pair.ensures c.if-pair-d.true
    ∙ ap (λ (s : Stored). begins_with (context_in s c.args.c) c.args.d) c.self.view_is

pub get-requires : goal.get-requires
get-requires c =
    let there : c.args.c < length c.self.inside.lists = omega (arith, c.requires, ap (λ (s : Stored). length s.lists) c.self.view_is) in
    named_at (length c.self.inside.sets) c.self.inside.lists c.args.c 0 c.head-pair.result c.self.invariant.0 there c.head-pair.ensures

pub returns : goal.returns
returns c =
    ap (λ (l : List Permission). length l == 0) c.as_slice.ensures
    ∙ begins_same c.self.inside.sets (get_or c.self.inside.lists c.args.c []) c.args.d c.head-pair.result c.get.result.now c.head-pair.ensures c.if-pair-d.false c.get.ensures
    ∙ ap (λ (s : Stored). begins_with (context_in s c.args.c) c.args.d) c.self.view_is
