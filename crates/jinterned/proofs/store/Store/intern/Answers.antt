use Rattle.std.proofs.Common.{◌∙◌, ◌++◌, ◌∷◌, [], List, length, map, inr, sym, ap, subst}
use Rattle.std.specs.Prelude.{slice_get}
use Rattle.std.proofs.lemmas.List.{map-append}
use Rattle.jperm.specs.declared.permission.Permission.{Permission}
use Rattle.jinterned.specs.declared.pairs.Pair.{Pair}
use Rattle.jinterned.specs.ContextDigests.{digest_pairs}
use Rattle.jinterned.specs.ContextStores.{AreNamed, Stored}
use Rattle.jinterned.proofs.DigestChains.{at_end}
use Rattle.jinterned.proofs.LimitNumbers.{all_named_behind}
use Rattle.jinterned.proofs.store.Store.intern.Goals as goal

pub invariant_of-self-2 : goal.invariant_of-self-2
invariant_of-self-2 c =
    let lists : List (List Pair) = c.self.inside.lists in
    let sets : List (List Permission) = c.self.inside.sets in
    let named : AreNamed (length sets) c.args.pairs.now = subst (λ (s : Stored). AreNamed (length s.sets) c.args.pairs.now) (sym c.self.view_is) c.requires in
    rw (c.in_ok-put_behind.ensures.lists, c.in_ok-put_behind.ensures.index) (
      all_named_behind (length sets) lists c.args.pairs.now c.self.invariant.0 named,
      ap (λ ds. ds ++ c.digest_pairs-digest.result ∷ []) c.self.invariant.1
          ∙ ap (λ d. map digest_pairs lists ++ d ∷ []) c.digest_pairs-digest.ensures
          ∙ sym (map-append digest_pairs lists (c.args.pairs.now ∷ [])),
    )

pub returns-clause-ok : goal.returns-clause-ok
returns-clause-ok c =
    let lists : List (List Pair) = c.self.inside.lists in
    let grown = c.in_ok-put_behind.ensures.lists in (
      ap (λ (ls : List (List Pair)). slice_get ls c.len-n.result) grown
          ∙ ap (slice_get (lists ++ c.args.pairs.now ∷ [])) c.len-n.ensures
          ∙ at_end lists c.args.pairs.now,
      inr (
        grown ∙ ap (λ (s : Stored). s.lists ++ c.args.pairs.now ∷ []) c.self.view_is,
        c.find.ensures.only c.in_default.is,
      ),
    )
