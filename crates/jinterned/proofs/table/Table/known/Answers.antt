use Rattle.std.proofs.Common.{◌∙◌, ◌%◌, List, sym, subst}
use Rattle.jctx.specs.declared.item.Item.{Item}
use Rattle.jinterned.specs.DomainEntryCache.{IsEntered, key}
use Rattle.jinterned.specs.ContextStores.{context_in, contexts_of}
use Rattle.jinterned.proofs.LimitNumbers.{context_there}
use Rattle.jinterned.proofs.CacheInvariants.{known_same, right_got}
use Rattle.jinterned.proofs.TableInvariants.{number_there}
use Rattle.jinterned.proofs.table.Table.known.Goals as goal

pub begins_with-requires : goal.begins_with-requires
begins_with-requires c = number_there c.self.inside.store c.args.self.now c.args.c c.self.view_is c.requires

pub returns-then-begins_with : goal.returns-then-begins_with
returns-then-begins_with c =
    subst (λ (cs : List (List Item)). IsEntered cs c.args.c c.args.d c.args.c) c.self.view_is
    (known_same c.context_laws.ensures.same (contexts_of c.self.inside.store) c.self.invariant.0 c.args.c c.args.d (context_in c.self.inside.store c.args.c)
    (context_there c.self.inside.store c.args.c (number_there c.self.inside.store c.args.self.now c.args.c c.self.view_is c.requires))
    (sym c.begins_with.ensures ∙ c.if-begins_with.true))

pub returns : goal.returns
returns c =
    right_got (contexts_of c.self.inside.store) c.args.self.now c.self.inside.known (record { context = c.args.c; domain = c.args.d }) (key c.args.c c.args.d % 4096) c.get.result
    c.self.view_is
    c.self.invariant.1
    c.get.ensures.found
