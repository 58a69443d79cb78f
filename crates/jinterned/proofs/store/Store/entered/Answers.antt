use Rattle.std.proofs.Common.{◌≡◌, length, subst}
use Rattle.std.specs.Prelude.{OnOk}
use Rattle.jctx.specs.Contexts.{enter, keep}
use Rattle.jinterned.specs.ContextStores.{Stored, AreNamed, context_in, items_of}
use Rattle.jinterned.proofs.EnteredDomains.{entered_others}
use Rattle.jinterned.proofs.Results.{on_ok_then}
use Rattle.jinterned.proofs.store.Store.entered.Goals as goal

pub returns-clause-made : goal.returns-clause-made
returns-clause-made c =
    subst (λ (s : Stored). keep (context_in s c.args.c) ≡ context_in s c.args.c → OnOk c.add_others.result (items_of s.sets c.add_others.new.made.items ≡ enter (context_in s c.args.c) c.args.d)) c.self.view_is
    (λ kept. on_ok_then c.add_others.result c.add_others.ensures.added (entered_others c.args.d _ _ _ kept c.in_ok-begin.ensures.begun))
    c.requires.kept

pub returns-clause-named : goal.returns-clause-named
returns-clause-named c =
    subst (λ (s : Stored). OnOk c.add_others.result (AreNamed (length s.sets) c.add_others.new.made.items)) c.self.view_is c.add_others.ensures.named
