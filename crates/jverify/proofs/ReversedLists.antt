-- Lists that are turned round, by number and by name.
use Rattle.std.proofs.Common.{◌≡◌, List, [], ◌∷◌, ◌++◌, map, reverse, ap, ◌∙◌}
use Rattle.std.proofs.lemmas.List.{map-append, reverse-append}
use Rattle.jtypes.specs.declared.vtype.VType.{VType}
use Rattle.jresolution.specs.jprogram.ProgramClasses.{Program}
use Rattle.jresolution.specs.declared.juses.types.TypeRef.{TypeRef}
use Rattle.jresolution.specs.juses.InternedTypes.{named}
use Rattle.jtyping.proofs.JruleProofs.TypeSubstitution.{map_reversed}

pub in_order : (p : Program) (all params : List TypeRef) → all ≡ reverse params → map (named p) all ≡ reverse (map (named p) params)
in_order p all params is = ap (map (named p)) is ∙ map_reversed (named p) params

pub behind_this : (p : Program) (all params : List TypeRef) (this : TypeRef) (that : VType) → all ≡ reverse (params ++ this ∷ []) → named p this ≡ that → map (named p) all ≡ that ∷ reverse (map (named p) params)
behind_this p all params this that is same =
    in_order p all (params ++ this ∷ []) is
    ∙ ap reverse (map-append (named p) params (this ∷ []))
    ∙ reverse-append (map (named p) params) (named p this ∷ [])
    ∙ ap (λ (t : VType). t ∷ reverse (map (named p) params)) same
