use Rattle.std.proofs.Common.{◌∙◌, List, length, option_map, sym, ap, subst}
use Rattle.std.specs.Option.{option_copied}
use Rattle.jinterned.specs.declared.pairs.Pair.{Pair}
use Rattle.jinterned.specs.ContextStores.{AreNamed, context_in, contexts_of, items_of}
use Rattle.jinterned.proofs.Results.{on_err}
use Rattle.jinterned.proofs.TableInvariants.{number_there, given_there, contexts_longer, contexts_same, holds_here, kept_privileged, privileged_here, same_table, table_here}
use Rattle.jinterned.proofs.table.Table.privileged.Goals as goal

pub privileged-requires-clause-there : goal.privileged-requires-clause-there
privileged-requires-clause-there c = number_there c.self.inside.store c.args.self.now c.args.c c.self.view_is c.requires.there

pub privileged-requires-clause-given : goal.privileged-requires-clause-given
privileged-requires-clause-given c = given_there c.self.inside.store c.args.self.now c.args.given c.self.view_is c.requires.given

pub invariant_of-self : goal.invariant_of-self
invariant_of-self c =
    same_table (contexts_of c.self.inside.store) (contexts_of c.privileged.new.self) c.self.inside.known
    (contexts_longer c.self.inside.store c.privileged.new.self c.named.ensures.named c.privileged.ensures.more c.privileged.ensures.lists)
    c.self.invariant

pub returns-in_err-privileged-clause-err : goal.returns-in_err-privileged-clause-err
returns-in_err-privileged-clause-err c =
    on_err c.from_residual.result
    (contexts_longer c.self.inside.store c.privileged.new.self c.named.ensures.named c.privileged.ensures.more c.privileged.ensures.lists ∙ c.self.view_is)

pub invariant_of-self-in_err-n : goal.invariant_of-self-in_err-n
invariant_of-self-in_err-n c =
    same_table (contexts_of c.self.inside.store) (contexts_of c.intern.new.self) c.self.inside.known
    (contexts_same c.privileged.new.self c.intern.new.self c.intern.ensures.sets c.in_err-n.ensures.err
    ∙ contexts_longer c.self.inside.store c.privileged.new.self c.named.ensures.named c.privileged.ensures.more c.privileged.ensures.lists)
    c.self.invariant

pub returns-in_err-n-clause-err : goal.returns-in_err-n-clause-err
returns-in_err-n-clause-err c =
    on_err c.from_residual-in_err-n.result
    (contexts_same c.privileged.new.self c.intern.new.self c.intern.ensures.sets c.in_err-n.ensures.err
    ∙ contexts_longer c.self.inside.store c.privileged.new.self c.named.ensures.named c.privileged.ensures.more c.privileged.ensures.lists
    ∙ c.self.view_is)

pub invariant_of-self-2 : goal.invariant_of-self-2
invariant_of-self-2 c =
    table_here c.privileged.new.self c.intern.new.self c.deref.result.now c.in_ok-n.n c.self.inside.known c.named-2.ensures.sets.1 c.named-2.ensures.named
    (subst (λ (ps : List Pair). AreNamed (length c.privileged.new.self.sets) ps) (sym c.deref.ensures.value) c.in_ok-privileged.ensures.named)
    c.intern.ensures.sets
    c.in_ok-n.ensures.ok
    (same_table (contexts_of c.self.inside.store) (contexts_of c.privileged.new.self) c.self.inside.known
    (contexts_longer c.self.inside.store c.privileged.new.self c.named.ensures.named c.privileged.ensures.more c.privileged.ensures.lists)
    c.self.invariant)
    (kept_privileged c.context_laws.ensures.privileged (items_of c.privileged.new.self.sets c.deref.result.now) c.args.d
    (option_map (context_in c.self.inside.store) c.args.given) (option_copied c.args.limits) (context_in c.self.inside.store c.args.c)
    (ap (items_of c.privileged.new.self.sets) c.deref.ensures.value ∙ c.in_ok-privileged.ensures.made))

pub returns-clause-ok : goal.returns-clause-ok
returns-clause-ok c =
    privileged_here c.self.inside.store c.privileged.new.self c.intern.new.self c.deref.result.now c.in_ok-n.n c.args.self.now c.args.d c.args.c c.args.given (option_copied c.args.limits)
    c.self.view_is
    (contexts_longer c.self.inside.store c.privileged.new.self c.named.ensures.named c.privileged.ensures.more c.privileged.ensures.lists)
    (holds_here c.privileged.new.self c.intern.new.self c.deref.result.now c.in_ok-n.n c.self.inside.known c.named-2.ensures.sets.1 c.named-2.ensures.named
    (subst (λ (ps : List Pair). AreNamed (length c.privileged.new.self.sets) ps) (sym c.deref.ensures.value) c.in_ok-privileged.ensures.named) c.intern.ensures.sets c.in_ok-n.ensures.ok)
    (ap (items_of c.privileged.new.self.sets) c.deref.ensures.value ∙ c.in_ok-privileged.ensures.made)
