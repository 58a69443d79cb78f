-- One type for another in place of an object before its `<init>`, types by number.
use Rattle.std.specs.Prelude.{ℕ, Bool, true, false, ◌==◌, if◌then◌else◌}
use Rattle.jresolution.specs.declared.juses.types.TypeRef.{TypeRef}
use Rattle.jresolution.specs.declared.juses.types.TypeRef.TheVariants as refs
use Rattle.jtyping.specs.declared.jrule.unready.Unready.{Unready}
use Rattle.jtyping.specs.declared.jrule.unready.Unready.TheVariants as unready

abbrev pub is_this : TypeRef → Bool
is_this refs.UninitThis = true
is_this t = false

abbrev pub is_new : ℕ → TypeRef → Bool
is_new o (refs.Uninit at) = at == o
is_new o t = false

abbrev pub is_for : Unready → TypeRef → Bool
is_for unready.This t = is_this t
is_for (unready.New o) t = is_new o t

abbrev pub swapped : Unready → TypeRef → TypeRef → TypeRef
swapped it new t = if is_for it t then new else t
