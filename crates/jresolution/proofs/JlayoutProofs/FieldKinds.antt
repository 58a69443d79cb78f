-- What a descriptor says that a field holds.
use Rattle.std.proofs.Common.{◌≡◌, List, Option, Some, None, refl}
use Rattle.jtypes.specs.declared.vtype.VType.{VType}
use Rattle.jtypes.specs.declared.vtype.VType.TheVariants as types
use Rattle.jresolution.specs.juses.DescriptorTypes as typed
use Rattle.jresolution.specs.ProofNames
use Rattle.jresolution.specs.jlayout.FieldKinds.{or_top}
use Rattle.jresolution.specs.ProofNames.{held_type as held}

pub held_field : (o : Option VType) → or_top o ≡ held (ProofNames.held o)
held_field None = refl
held_field (Some t) = refl

-- that of a method is no field's
pub held_method : (params : Option (List VType)) (ret : Option (Option VType)) → types.Top ≡ held (typed.called params ret)
held_method None ret = refl
held_method (Some ps) None = refl
held_method (Some ps) (Some r) = refl
