use Rattle.std.proofs.Common.{◌≡◌, ◌∙◌, ◌++◌, ◌∷◌, [], ℕ, List, Some, length, map, sym, ap, subst}
use Rattle.std.specs.Prelude.{slice_get}
use Rattle.std.proofs.lemmas.List.{map-append}
use Rattle.std.proofs.lemmas.Option.{slice_get_within}
use Rattle.jperm.specs.declared.permission.Permission.{Permission}
use Rattle.jinterned.specs.ContextDigests.{digest_limits}
use Rattle.jinterned.specs.InternedContexts.{IsNew}
use Rattle.jinterned.proofs.DigestChains.{at_end, front}
use Rattle.jinterned.proofs.Results.{if_that}
use Rattle.jinterned.proofs.ListAppends.{distinct_more}
use Rattle.jinterned.proofs.sets.Sets.intern.Goals as goal

pub invariant_of-self-2 : goal.invariant_of-self-2
invariant_of-self-2 c =
    let sets : List (List Permission) = c.self.inside.sets.items in
    let new : IsNew sets c.args.limits = subst (λ (s : List (List Permission)). IsNew s c.args.limits) (sym c.self.view_is) (c.find.ensures.only c.in_default.is) in
    rw (c.in_ok-put_behind.ensures.sets, c.in_ok-put_behind.ensures.index) (
      (
        front 0 sets (c.args.limits ∷ []) (slice_get_within sets 0 [] c.self.invariant.0.0) ∙ c.self.invariant.0.0,
        distinct_more sets c.args.limits c.self.invariant.0.1 new,
      ),
      ap (λ ds. ds ++ c.digest_limits-digest.result ∷ []) c.self.invariant.1
          ∙ ap (λ d. map digest_limits sets ++ d ∷ []) c.digest_limits-digest.ensures
          ∙ sym (map-append digest_limits sets (c.args.limits ∷ [])),
    )

pub returns-clause-ok : goal.returns-clause-ok
returns-clause-ok c =
    let sets : List (List Permission) = c.self.inside.sets.items in
    let n : c.len-n.result ≡ length sets = c.len-n.ensures ∙ c.self.inside.sets.ok.0 in
    if_that (λ (m : ℕ). slice_get c.put_behind.new.sets.items m ≡ Some c.args.limits) c.narrowed-2.result c.len-n.result c.narrowed-2.ensures
    (ap (λ (s : List (List Permission)). slice_get s c.len-n.result) c.in_ok-put_behind.ensures.sets
    ∙ ap (slice_get (sets ++ c.args.limits ∷ [])) n
    ∙ at_end sets c.args.limits)

pub returns-clause-more : goal.returns-clause-more
returns-clause-more c =
    record {
      more = c.args.limits ∷ [];
      is = c.in_ok-put_behind.ensures.sets ∙ ap (λ (s : List (List Permission)). s ++ c.args.limits ∷ []) c.self.view_is;
    }
