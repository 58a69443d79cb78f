-- What is computed of overriding and selection, along chains of classes.
use Rattle.std.specs.Prelude.{ℕ, Bool, true, false, ◌&&◌, ◌||◌, not, List, Option, Some, None, option_and_then, if◌then◌else◌}
use Rattle.jresolution.specs.declared.jprogram.member.Member.{Member}
use Rattle.jresolution.specs.declared.jprogram.reach.Reach.{Reach}
use Rattle.jresolution.specs.declared.jprogram.reach.Reach.TheVariants as reach
use Rattle.jresolution.specs.jprogram.ClassFileParts.{same_package}
use Rattle.jresolution.specs.jprogram.ProgramClasses.{Program, above_name, chain, onward}
use Rattle.jresolution.specs.jprogram.MemberResolution.{gives_way, is_private, is_static, method_at, methods_along, owner_of, reach_of, same_method, takes_call}

-- ---- overriding

abbrev pub is_package : Reach → Bool
is_package reach.Package = true
is_package _ = false

-- shown beyond its package
abbrev pub is_shown : Reach → Bool
is_shown reach.Public = true
is_shown reach.Protected = true
is_shown _ = false

abbrev pub is_instance : Program → Member → Bool
is_instance p m = not (is_static p m) && not (is_private (reach_of p m))

-- a method of the package of one above it shows that one to all below
unfoldable pub opens : Program → Member → Member → Bool
opens p r b = is_instance p b && is_shown (reach_of p b) && same_package (owner_of p b) (owner_of p r)

-- a method overrides one above it, where it is known whether one between opens that
unfoldable pub overrides_by : Program → Member → Bool → Member → Bool
overrides_by p m opened r =
    is_instance p m && (gives_way (reach_of p r) (same_package (owner_of p m) (owner_of p r)) || (is_package (reach_of p r) && opened))

-- whether a method between opens one above; where it is that one, nothing above it counts
abbrev pub decide : Program → Member → Member → Option Bool
decide p r b = if same_method b r then Some false else (if opens p r b then Some true else None)

unfoldable pub decided_at : Program → Member → List ℕ → List ℕ → List ℕ → Option Bool
decided_at p r name desc class = option_and_then (decide p r) (method_at p name desc class)

abbrev pub is_decided : Option Bool → Bool
is_decided None = false
is_decided (Some b) = b

-- ---- selection

-- the methods of a name and a descriptor from a class upwards, at most so many classes
abbrev pub methods_above : Program → List ℕ → List ℕ → ℕ → Option (List ℕ) → List Member
methods_above p name desc left from = methods_along p name desc (onward (chain p left) from)

-- the method of a class, where it takes the call; so many classes stand above
unfoldable pub taking_at : Program → Member → List ℕ → List ℕ → ℕ → List ℕ → Option Member
taking_at p r name desc left class =
    option_and_then (λ m. if takes_call p r m (methods_above p name desc left (above_name p class)) then Some m else None)
    (method_at p name desc class)

-- the instance method of a class
unfoldable pub instance_at : Program → List ℕ → List ℕ → List ℕ → Option Member
instance_at p name desc class = option_and_then (λ m. if not (is_static p m) then Some m else None) (method_at p name desc class)
