-- The members of classes: which member a name and a descriptor stand for (JVMS 5.4.3), who may use it (5.4.4), which method overrides
-- which (5.4.5), and which is selected (5.4.6).
use Rattle.std.specs.Prelude.{◌≡◌, ℕ, Bool, true, false, ◌&&◌, ◌||◌, not, ◌==◌, List, [], ◌∷◌, Option, Some, None, option_map, option_and_then, slice_get, codes, if◌then◌else◌}
use Rattle.std.specs.List.{filter_map, find, position}
use Rattle.std.specs.Str.{bytes_eq}
use Rattle.jground.specs.jbase.FirstFaults.{first_some, or_else}
use Rattle.jparts.specs.declared.jpool.entry.Entry.{Entry}
use Rattle.jparts.specs.declared.jpool.entry.Entry.TheVariants as entries
use Rattle.jparts.specs.jpool.ConstantPools.{name_and_type_at}
use Rattle.jclass.specs.declared.class.ClassParts.{ClassParts}
use Rattle.jclass.specs.declared.class.MemberInfo.{MemberInfo}
use Rattle.jlib.specs.declared.side.Side.{Side}
use Rattle.jlib.specs.declared.side.Side.TheVariants as side
use Rattle.jlib.specs.declared.calls.LibCall.{LibCall}
use Rattle.jlib.specs.declared.calls.LibCall.TheVariants as calls
use Rattle.jlib.specs.LibraryClasses as library
use Rattle.jlib.specs.LibraryMembers as library_calls
use Rattle.jresolution.specs.declared.jprogram.part.ClassRef.TheVariants as refs
use Rattle.jresolution.specs.declared.jprogram.member.CallKind.{CallKind}
use Rattle.jresolution.specs.declared.jprogram.member.CallKind.TheVariants as call
use Rattle.jresolution.specs.declared.jprogram.member.ClassId.{ClassId}
use Rattle.jresolution.specs.declared.jprogram.member.ClassId.TheVariants as id
use Rattle.jresolution.specs.declared.jprogram.member.Member.{Member}
use Rattle.jresolution.specs.declared.jprogram.member.Member.TheVariants.{Field, Method, LibField, LibMethod}
use Rattle.jresolution.specs.declared.jprogram.member.MethodId.{MethodId}
use Rattle.jresolution.specs.declared.jprogram.member.Selected.{Selected}
use Rattle.jresolution.specs.declared.jprogram.member.Selected.TheVariants as selected
use Rattle.jresolution.specs.declared.jprogram.reach.Reach.{Reach}
use Rattle.jresolution.specs.declared.jprogram.reach.Reach.TheVariants as reach
use Rattle.jresolution.specs.jprogram.ClassFileParts as parts
use Rattle.jresolution.specs.jprogram.ProgramClasses as classes
use Rattle.jresolution.specs.jprogram.ProgramClasses.{Class, Program, User, Lib}

-- ---- the members of one class (JVMS 4.5, 4.6)

abbrev pub method_id : ℕ → ℕ → MethodId
method_id class method = record { class = class; method = method }

-- what the library has is a field or a method
abbrev pub lib_method : LibCall → Option Member
lib_method m = if library_calls.is_field m then None else Some (LibMethod m)

abbrev pub lib_field : LibCall → Option Member
lib_field m = if library_calls.is_field m then Some LibField else None

-- the first method of this name and descriptor that the class declares itself
abbrev pub method_in : Side → Class → List ℕ → List ℕ → Option Member
method_in side (User i c) name desc = option_map (λ j. Method (method_id i j)) (position (parts.is_called c name desc) c.methods)
method_in side (Lib c) name desc = option_and_then lib_method (library_calls.member_named side (library.name_of c) name desc)

-- the first field of this name and descriptor that the class declares itself
abbrev pub field_in : Side → Class → List ℕ → List ℕ → Option Member
field_in side (User i c) name desc = option_map (λ j. Field i j) (position (parts.is_called c name desc) c.fields)
field_in side (Lib c) name desc = option_and_then lib_field (library_calls.member_named side (library.name_of c) name desc)

-- of the class of a name
abbrev pub method_at : Program → List ℕ → List ℕ → List ℕ → Option Member
method_at p name desc class = option_and_then (λ c. method_in p.side c name desc) (classes.find p class)

abbrev pub field_at : Program → List ℕ → List ℕ → List ℕ → Option Member
field_at p name desc class = option_and_then (λ c. field_in p.side c name desc) (classes.find p class)

-- ---- resolution (JVMS 5.4.3)

abbrev pub init : List ℕ
init = codes "<init>"

-- a constructor, and not a static method of that name
abbrev pub is_init : ClassParts → MemberInfo → Bool
is_init c m = bytes_eq (parts.member_name c m) init && not (parts.is_static m.flags)

-- a method (5.4.3.3, 5.4.3.4): the first in the class and those above it, else the first in their superinterfaces; a constructor in the
-- class alone
unfoldable pub resolve_method : Program → List ℕ → List ℕ → List ℕ → Option Member
resolve_method p class name desc =
    if bytes_eq name init then method_at p name desc class
    else or_else (first_some (method_at p name desc) (classes.up p class))
    (first_some (λ x. first_some (method_at p name desc) (classes.superinterfaces p x)) (classes.up p class))

-- a field (5.4.3.2): the first in the class, then in its superinterfaces, then so in each class above it
unfoldable pub resolve_field : Program → List ℕ → List ℕ → List ℕ → Option Member
resolve_field p class name desc =
    first_some (λ x. or_else (field_at p name desc x) (first_some (field_at p name desc) (classes.superinterfaces p x))) (classes.up p class)

-- how a member is looked for, with the name of a class, its own name and its descriptor
abbrev pub LookUp : Type 0
LookUp = List ℕ → List ℕ → List ℕ → Option Member

abbrev pub looked_up : List Entry → ℕ → LookUp → ℕ × ℕ → Option Member
looked_up pool class look both = look (parts.class_text pool class) (parts.text pool both.0) (parts.text pool both.1)

abbrev pub referred : Program → List Entry → Option Entry → Option Member
referred p pool (Some (entries.Field class both)) = option_and_then (looked_up pool class (resolve_field p)) (name_and_type_at pool both)
referred p pool (Some (entries.Method class both)) = option_and_then (looked_up pool class (resolve_method p)) (name_and_type_at pool both)
referred p pool (Some (entries.InterfaceMethod class both)) = option_and_then (looked_up pool class (resolve_method p)) (name_and_type_at pool both)
referred p pool _ = None

-- the member that the entry at an index of a part's pool stands for
unfoldable pub resolved : Program → ℕ → ℕ → Option Member
resolved p class i = option_and_then (λ part. referred p part.class.pool (slice_get part.class.pool i)) (slice_get p.parts class)

-- ---- what a member says

abbrev pub part_of : Program → ℕ → Option ClassParts
part_of p i = option_map (λ part. part.class) (slice_get p.parts i)

-- a user's member, with its class
abbrev pub info_of : Program → Member → Option (ClassParts × MemberInfo)
info_of p (Field i j) = option_and_then (λ c. option_map (λ m. (c, m)) (slice_get c.fields j)) (part_of p i)
info_of p (Method m) = option_and_then (λ c. option_map (λ m. (c, m)) (slice_get c.methods m.method)) (part_of p m.class)
info_of p _ = None

abbrev pub user_is : (MemberInfo → Bool) → Option (ClassParts × MemberInfo) → Bool
user_is test = elim [ None ↦ false | Some one ↦ test one.1 ]

unfoldable pub is_static : Program → Member → Bool
is_static p = elim [ LibField ↦ true | LibMethod m ↦ library_calls.is_static m | m ↦ user_is (λ one. parts.is_static one.flags) (info_of p m) ]

-- the library's field may not be written
unfoldable pub is_final : Program → Member → Bool
is_final p = elim [ LibField ↦ true | LibMethod m ↦ false | m ↦ user_is (λ one. parts.is_final one.flags) (info_of p m) ]

-- the methods of the library's interfaces have no code
unfoldable pub is_abstract : Program → Member → Bool
is_abstract p LibField = false
is_abstract p (LibMethod m) = library.is_interface (library_calls.owner m)
is_abstract p m = user_is (λ one. parts.is_abstract one.flags) (info_of p m)

abbrev pub reach_in : Option (ClassParts × MemberInfo) → Reach
reach_in = elim [ None ↦ reach.Private | Some one ↦ parts.reach_of one.1.flags ]

-- all that the library has is public
unfoldable pub reach_of : Program → Member → Reach
reach_of p = elim [ LibField ↦ reach.Public | LibMethod m ↦ reach.Public | m ↦ reach_in (info_of p m) ]

abbrev pub name_in : Option (ClassParts × MemberInfo) → List ℕ
name_in = elim [ None ↦ [] | Some one ↦ parts.member_name one.0 one.1 ]

unfoldable pub name_of : Program → Member → List ℕ
name_of p = elim [ LibField ↦ library_calls.name_of_call calls.Out | LibMethod m ↦ library_calls.name_of_call m | m ↦ name_in (info_of p m) ]

abbrev pub desc_in : Option (ClassParts × MemberInfo) → List ℕ
desc_in = elim [ None ↦ [] | Some one ↦ parts.member_desc one.0 one.1 ]

unfoldable pub desc_of : Program → Member → List ℕ
desc_of p = elim [ LibField ↦ library_calls.desc_of calls.Out | LibMethod m ↦ library_calls.desc_of m | m ↦ desc_in (info_of p m) ]

abbrev pub owner_in : Option (ClassParts × MemberInfo) → List ℕ
owner_in = elim [ None ↦ [] | Some one ↦ parts.this_name one.0 ]

-- the name of the class that declares it
unfoldable pub owner_of : Program → Member → List ℕ
owner_of p LibField = library.name_of (library_calls.owner calls.Out)
owner_of p (LibMethod m) = library.name_of (library_calls.owner m)
owner_of p m = owner_in (info_of p m)

-- ---- access (JVMS 5.4.4)

-- a class of this name may name another one
unfoldable pub may_name : Program → List ℕ → List ℕ → Bool
may_name p from class = classes.holds classes.is_public (classes.find p class) || parts.same_package from class

abbrev pub allows : Program → Reach → List ℕ → List ℕ → Bool
allows p reach.Public owner from = true
allows p reach.Protected owner from = parts.same_package from owner || classes.extends p from owner
allows p reach.Package owner from = parts.same_package from owner
allows p reach.Private owner from = bytes_eq from owner

-- a class of this name may use a member
unfoldable pub may_use : Program → List ℕ → Member → Bool
may_use p from m = allows p (reach_of p m) (owner_of p m) from

-- ---- overriding (JVMS 5.4.5)

abbrev pub is_private : Reach → Bool
is_private = elim [ reach.Private ↦ true | _ ↦ false ]

-- a method of such a reach may be overridden, by one of its package or of another
abbrev pub gives_way : Reach → Bool → Bool
gives_way x one_package = elim x [ reach.Public ↦ true | reach.Protected ↦ true | reach.Package ↦ one_package | reach.Private ↦ false ]

-- a method overrides one of its name and descriptor that stands above it, leaving aside those between
unfoldable pub overrides_at_once : Program → Member → Member → Bool
overrides_at_once p m r =
    not (is_static p m) && not (is_private (reach_of p m)) && gives_way (reach_of p r) (parts.same_package (owner_of p m) (owner_of p r))

-- it overrides that one, or a method between that does; those between have the name and the descriptor too, nearest first
unfoldable pub overrides : Program → Member → List Member → Member → Bool
overrides p m [] r = overrides_at_once p m r
overrides p m (b ∷ between) r = overrides p m between r || (overrides_at_once p m b && overrides p b between r)

-- ---- selection (JVMS 5.4.6)

abbrev pub name_of_id : Program → ClassId → List ℕ
name_of_id p = elim [ id.User i ↦ classes.name_at p (refs.User i) | id.Lib c ↦ library.name_of c | id.Array ↦ classes.object ]

abbrev pub same_method : Member → Member → Bool
same_method (Method a) (Method b) = a.class == b.class && a.method == b.method
same_method _ _ = false

-- those in front of a method
unfoldable pub before : Member → List Member → List Member
before r [] = []
before r (m ∷ ms) = if same_method m r then [] else m ∷ before r ms

-- an instance method that is the resolved one or overrides it; `ms` stand above it
abbrev pub takes_call : Program → Member → Member → List Member → Bool
takes_call p r m ms = not (is_static p m) && (same_method m r || overrides p m (before r ms) r)

unfoldable pub first_taking : Program → Member → List Member → Option Member
first_taking p r [] = None
first_taking p r (m ∷ ms) = if takes_call p r m ms then Some m else first_taking p r ms

abbrev pub first_by : Program → CallKind → Member → List Member → Option Member
first_by p x r ms = elim x [ call.Virtual ↦ first_taking p r ms | _ ↦ find (λ m. not (is_static p m)) ms ]

-- the methods of a name and a descriptor in classes, in their order
abbrev pub methods_along : Program → List ℕ → List ℕ → List (List ℕ) → List Member
methods_along p name desc names = filter_map (method_at p name desc) names

-- a method with code, or one without
abbrev pub by_code : Program → Member → Selected → Selected
by_code p m coded = if is_abstract p m then selected.Abstract m else coded

abbrev pub as_selected : Program → Option Member → Selected
as_selected p (Some (Method m)) = by_code p (Method m) (selected.Method m)
as_selected p (Some (LibMethod m)) = by_code p (LibMethod m) (selected.Lib m)
as_selected p _ = selected.Missing

-- where a method is called on a class: for `invokevirtual` the first from the class upwards that is the method or overrides it, else the
-- first of its name and descriptor; instance methods alone
unfoldable pub select : Program → ClassId → Member → CallKind → Selected
select p on m call = as_selected p (first_by p call m (methods_along p (name_of p m) (desc_of p m) (classes.up p (name_of_id p on))))

-- ---- the first method of a run

-- the descriptor of `main`, which on the passing side is given a context
abbrev pub main_desc : Side → List ℕ
main_desc = elim [ side.Source ↦ codes "([Ljava/lang/String;)V" | side.Passing ↦ codes "([Ljava/lang/String;Lsps/Ctx;)V" ]

abbrev pub is_main : Side → ClassParts → MemberInfo → Bool
is_main side c m = parts.is_called c (codes "main") (main_desc side) m
    && (parts.is_public_reach (parts.reach_of m.flags) && parts.is_static m.flags && parts.has_code m)

-- `main` of the class of a name: public and static, with code
unfoldable pub main_of : Program → List ℕ → Option MethodId
main_of p name =
    option_and_then (elim [ User i c ↦ option_map (method_id i) (position (is_main p.side c) c.methods) | Lib c ↦ None ]) (classes.find p name)

-- a method is the `main` of one of the program's classes
abbrev pub IsMain : Program → MethodId → Type 0
IsMain p main = (name : List ℕ) × (main_of p name ≡ Some main)
