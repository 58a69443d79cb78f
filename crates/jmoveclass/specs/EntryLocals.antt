-- What the locals of a method hold where it begins, as its frames say it (JVMS 4.7.4, 4.10.1.6): `this`, where there is one, and the
-- parameters.
use Rattle.std.specs.Prelude.{ℕ, ◌+◌, Bool, ◌||◌, ◌==◌, List, [], ◌∷◌, ◌++◌, map, Option, Some, nat_lt, if◌then◌else◌}
use Rattle.std.specs.Str.{byte}
use Rattle.jparts.specs.declared.jpool.descriptor.Descriptor.{Descriptor}
use Rattle.jparts.specs.declared.jpool.descriptor.Descriptor.TheVariants as descriptors
use Rattle.jparts.specs.declared.jpool.descriptor.FieldType.{FieldType}
use Rattle.jparts.specs.jpool.Descriptors.{descriptor_of, is_class_sign, slots_of, type_text}
use Rattle.jparts.specs.declared.jmaps.types.MapType.{MapType}
use Rattle.jparts.specs.declared.jmaps.types.MapType.TheVariants as items
use Rattle.jclass.specs.declared.class.ClassParts.{ClassParts}
use Rattle.jclass.specs.declared.class.MemberInfo.{MemberInfo}
use Rattle.jmove.specs.PoolAdditions.{Adding, giving, with_class, ◌>>◌}
use Rattle.jresolution.specs.jprogram.MemberResolution.{is_init}
use Rattle.jresolution.specs.jprogram.ClassFileParts.{is_static, member_desc, this_name}
use Rattle.jmoveclass.specs.PoolPuts.{with_each}

-- ---- what a method is handed

abbrev pub params_in : Option Descriptor → List FieldType
params_in (Some (descriptors.Method params ret)) = params
params_in _ = []

-- the types of its parameters
abbrev pub params_of : ClassParts → MemberInfo → List FieldType
params_of c m = params_in (descriptor_of (member_desc c m))

-- the slots of its parameters, `this` included
abbrev pub slots : ClassParts → MemberInfo → ℕ
slots c m = slots_of (params_of c m) + (if is_static m.flags then 0 else 1)

-- ---- as items of frames

-- an array, or a class
abbrev pub is_reference : FieldType → Bool
is_reference t = nat_lt 0 t.depth || is_class_sign t.base

-- what a Class entry of it names: an array by its descriptor
abbrev pub class_name : FieldType → List ℕ
class_name t = if nat_lt 0 t.depth then type_text t else t.class

-- `class` is the index of its class
abbrev pub item : ℕ → FieldType → MapType
item class t = if is_reference t then items.Object class else (if t.base == byte "J" then items.Long else items.Int)

-- `this` isn't initialised yet where a constructor begins
abbrev pub this_item : Bool → ℕ → MapType
this_item init class = if init then items.UninitThis else items.Object class

-- ---- the classes that they name, which are put into the pool

abbrev pub with_item : FieldType → Adding (List MapType)
with_item t = if is_reference t then (with_class (class_name t) >> λ i. giving (item i t ∷ [])) else giving (item 0 t ∷ [])

abbrev pub with_this : ClassParts → MemberInfo → Adding (List MapType)
with_this c m = if is_static m.flags then giving [] else with_class (this_name c) >> λ i. giving (this_item (is_init c m) i ∷ [])

-- the class of `this` first, then those of the parameters in their order
unfoldable pub with_beginning : ClassParts → MemberInfo → Adding (List MapType)
with_beginning c m = with_this c m >> λ this. with_each with_item (params_of c m) >> λ others. giving (this ++ others)

-- ---- without indices

-- the same items, each index being 0: what limits depend on
abbrev pub bare_this : ClassParts → MemberInfo → List MapType
bare_this c m = if is_static m.flags then [] else this_item (is_init c m) 0 ∷ []

unfoldable pub bare_beginning : ClassParts → MemberInfo → List MapType
bare_beginning c m = bare_this c m ++ map (item 0) (params_of c m)
