use Rattle.std.proofs.Common.{◌∙◌, List, length, sym, ap, subst}
use Rattle.jinterned.specs.declared.pairs.Pair.{Pair}
use Rattle.jinterned.specs.ContextStores.{AreNamed, context_in, contexts_of, items_of}
use Rattle.jinterned.proofs.LimitNumbers.{context_there}
use Rattle.jinterned.proofs.Results.{on_err}
use Rattle.jinterned.proofs.TableInvariants.{number_there, contexts_same, entered_here, kept_entered, same_table, table_here}
use Rattle.jinterned.proofs.table.Table.make_entered.Goals as goal

pub entered-requires-clause-there : goal.entered-requires-clause-there
entered-requires-clause-there c = number_there c.self.inside.store c.args.self.now c.args.c c.self.view_is c.requires

pub entered-requires-clause-kept : goal.entered-requires-clause-kept
entered-requires-clause-kept c =
    c.self.invariant.0.2 c.args.c (context_in c.self.inside.store c.args.c)
    (context_there c.self.inside.store c.args.c (number_there c.self.inside.store c.args.self.now c.args.c c.self.view_is c.requires))

pub returns-in_err-n-clause-err : goal.returns-in_err-n-clause-err
returns-in_err-n-clause-err c =
    on_err c.from_residual-in_err-n.result (contexts_same c.self.inside.store c.intern.new.self c.intern.ensures.sets c.in_err-n.ensures.err ∙ c.self.view_is)

pub returns-clause-ok : goal.returns-clause-ok
returns-clause-ok c =
    entered_here c.self.inside.store c.intern.new.self c.deref.result.now c.in_ok-n.n c.self.inside.known c.named.ensures.sets.1 c.named.ensures.named (subst (λ (ps : List Pair). AreNamed (length c.self.inside.store.sets) ps) (sym c.deref.ensures.value) c.in_ok-entered.ensures.named)
    c.intern.ensures.sets
    c.in_ok-n.ensures.ok
    c.args.self.now
    c.args.c
    c.args.d
    c.self.view_is
    (ap (items_of c.self.inside.store.sets) c.deref.ensures.value ∙ c.in_ok-entered.ensures.made)

pub invariant_of-self-in_err-n : goal.invariant_of-self-in_err-n
invariant_of-self-in_err-n c =
    same_table (contexts_of c.self.inside.store) (contexts_of c.intern.new.self) c.self.inside.known
    (contexts_same c.self.inside.store c.intern.new.self c.intern.ensures.sets c.in_err-n.ensures.err)
    c.self.invariant

pub invariant_of-self-2 : goal.invariant_of-self-2
invariant_of-self-2 c =
    table_here c.self.inside.store c.intern.new.self c.deref.result.now c.in_ok-n.n c.self.inside.known c.named.ensures.sets.1 c.named.ensures.named (subst (λ (ps : List Pair). AreNamed (length c.self.inside.store.sets) ps) (sym c.deref.ensures.value) c.in_ok-entered.ensures.named)
    c.intern.ensures.sets
    c.in_ok-n.ensures.ok
    c.self.invariant
    (kept_entered c.context_laws.ensures.entered (items_of c.self.inside.store.sets c.deref.result.now) (context_in c.self.inside.store c.args.c) c.args.d
    (ap (items_of c.self.inside.store.sets) c.deref.ensures.value ∙ c.in_ok-entered.ensures.made))
