-- The types that the descriptors of the library's members say, in a program whose classes stand in order.
use Rattle.std.proofs.Common.{◌≡◌, ℕ, ◌⊎◌, inl, inr, Bool, false, sym, true, List, [], ◌∷◌, Option, Some, None, refl, ap, ◌∙◌}
use Rattle.std.specs.Prelude.{codes, is_some, option_map, reverse, if◌then◌else◌}
use Rattle.std.specs.Str.{byte}
use Rattle.jground.specs.jbase.ListMaps.{each_some, put_front}
use Rattle.jparts.specs.declared.jpool.descriptor.Descriptor.TheVariants as descriptors
use Rattle.jparts.specs.declared.jpool.descriptor.FieldType.{FieldType}
use Rattle.jparts.specs.jpool.Descriptors.{base_at, class_at, closing_at, descriptor_of, field_of, method_of, params_at, return_at, slots_of, type_at}
use Rattle.jparts.specs.jpool.ClassNames.{is_class_name}
use Rattle.jlib.specs.declared.calls.ControllerCall.TheVariants as controllers
use Rattle.jlib.specs.declared.calls.LibCall.TheVariants as calls
use Rattle.jlib.specs.declared.calls.RtCall.TheVariants as rt
use Rattle.jlib.specs.declared.classes.LibClass.{LibClass}
use Rattle.jlib.specs.declared.classes.LibClass.TheVariants as lib
use Rattle.jlib.specs.declared.classes.PermissionClass.TheVariants as permissions
use Rattle.jlib.specs.LibraryMembers.{desc_of}
use Rattle.jlib.specs.LibraryClasses as library
use Rattle.jtypes.specs.declared.vtype.ArrayType.{ArrayType}
use Rattle.jtypes.specs.declared.vtype.Element.TheVariants as elements
use Rattle.jtypes.specs.declared.vtype.VType.{VType}
use Rattle.jtypes.specs.declared.vtype.VType.TheVariants as types
use Rattle.jresolution.specs.jprogram.ProgramClasses.{Class, Program}
use Rattle.jresolution.specs.jprogram.OrderedPrograms.{StandsInOrder}
use Rattle.jresolution.proofs.JprogramProofs.ClassHeights.{lib_find, not_taken}
use Rattle.jresolution.specs.juses.DescriptorTypes.{Called, Held, Untyped, called, name, return_in, type_in, type_of, typed, typed_as}
use Rattle.jresolution.specs.ProofNames.{held}
use Rattle.jtyping.specs.ProofNames.{string}
use Rattle.jtyping.specs.jrule.PoolEffects.{of_library}
use Rattle.jsoundness_laws.proofs.LibraryProofs.ReservedNames.{not_found}

-- ---- types

abbrev class_type : ℕ → LibClass → FieldType
class_type depth c = record { depth = depth; base = byte "L"; class = library.name_of c }

abbrev letter : ℕ → FieldType
letter base = record { depth = 0; base = base; class = [] }

abbrev pub permission : VType
permission = of_library (lib.Permission permissions.Permission)

abbrev pub permissions_array : ArrayType
permissions_array = record { depth = 1; element = elements.Class (name (library.name_of (lib.Permission permissions.Permission))) }

abbrev pub texts_array : ArrayType
texts_array = record { depth = 1; element = elements.Class (name (library.name_of lib.String)) }

-- what a descriptor says
record Says (p : Program) (text : List ℕ) (params : List VType) (ret : Option VType) : Type 0 where
  ts : List FieldType
  back : Option FieldType
  vs : List VType
  is : descriptor_of text ≡ Some (descriptors.Method ts back)
  are : each_some (type_in p) ts ≡ Some vs
  gives : return_in p back ≡ Some ret
  turned : reverse vs ≡ params

says : (p : Program) (text : List ℕ) (params : List VType) (ret : Option VType) → Says p text params ret → typed p text ≡ Called params ret
unfolding typed
says p text params ret s =
    ap (typed_as p) s.is
    ∙ ap (λ (o : Option (List VType)). called o (return_in p s.back)) s.are
    ∙ ap (called (Some s.vs)) s.gives
    ∙ ap (λ (l : List VType). Called l ret) s.turned

module _ (p : Program) (good : StandsInOrder p) where
  class_in : (depth : ℕ) (c : LibClass) → library.stands_on p.side c ≡ true → type_in p (class_type depth c) ≡ Some (type_of depth (elements.Class (name (library.name_of c))))
  unfolding type_in
  class_in depth c on =
      ap (λ (o : Option Class). option_map (type_of depth) (option_map elements.Class (if is_some o then Some (name (library.name_of c)) else None)))
      (lib_find p (not_taken p good) c on)

  -- ---- lists of types

  no_types : each_some (type_in p) [] ≡ Some []
  unfolding each_some
  no_types = refl

  one_more : (t : FieldType) (ts : List FieldType) (v : VType) (vs : List VType) → type_in p t ≡ Some v → each_some (type_in p) ts ≡ Some vs
      → each_some (type_in p) (t ∷ ts) ≡ Some (v ∷ vs)
  unfolding each_some
  one_more t ts v vs first rest = ap (λ (o : Option VType). put_front o (each_some (type_in p) ts)) first ∙ ap (put_front (Some v)) rest

  gives_nothing : return_in p None ≡ Some None
  gives_nothing = refl

  gives_type : (t : FieldType) (v : VType) → type_in p t ≡ Some v → return_in p (Some t) ≡ Some (Some v)
  gives_type t v is = ap (option_map Some) is

  int_in : type_in p (letter (byte "I")) ≡ Some types.Int
  unfolding type_in
  int_in = refl

  char_in : type_in p (letter (byte "C")) ≡ Some types.Int
  unfolding type_in
  char_in = refl

  bool_in : type_in p (letter (byte "Z")) ≡ Some types.Int
  unfolding type_in
  bool_in = refl

  long_in : type_in p (letter (byte "J")) ≡ Some types.Long
  unfolding type_in
  long_in = refl

  string_in : type_in p (class_type 0 lib.String) ≡ Some string
  string_in = class_in 0 lib.String refl

  builder_in : type_in p (class_type 0 lib.StringBuilder) ≡ Some (of_library lib.StringBuilder)
  builder_in = class_in 0 lib.StringBuilder refl

  object_in : type_in p (class_type 0 lib.Object) ≡ Some (of_library lib.Object)
  object_in = class_in 0 lib.Object refl

  runnable_in : type_in p (class_type 0 lib.Runnable) ≡ Some (of_library lib.Runnable)
  runnable_in = class_in 0 lib.Runnable refl

  action_in : type_in p (class_type 0 lib.PrivilegedAction) ≡ Some (of_library lib.PrivilegedAction)
  action_in = class_in 0 lib.PrivilegedAction refl

  context_in : type_in p (class_type 0 lib.AccessControlContext) ≡ Some (of_library lib.AccessControlContext)
  context_in = class_in 0 lib.AccessControlContext refl

  permission_in : type_in p (class_type 0 (lib.Permission permissions.Permission)) ≡ Some permission
  permission_in = class_in 0 (lib.Permission permissions.Permission) refl

  limits_in : type_in p (class_type 1 (lib.Permission permissions.Permission)) ≡ Some (types.Array permissions_array)
  limits_in = class_in 1 (lib.Permission permissions.Permission) refl

  texts_in : type_in p (class_type 1 lib.String) ≡ Some (types.Array texts_array)
  texts_in = class_in 1 lib.String refl

  ctx_in : library.stands_on p.side lib.Ctx ≡ true → type_in p (class_type 0 lib.Ctx) ≡ Some types.Ctx
  ctx_in on = class_in 0 lib.Ctx on

  -- ---- descriptors

  pub nothing_says : typed p (codes "()V") ≡ Called [] None
  unfolding descriptor_of method_of field_of params_at closing_at type_at base_at class_at return_at slots_of is_class_name
  nothing_says = says p _ _ _ (record {
    ts = [];
    back = None;
    vs = [];
    is = refl;
    are = no_types;
    gives = gives_nothing;
    turned = refl;
  })

  pub text_says : typed p (codes "(Ljava/lang/String;)V") ≡ Called (string ∷ []) None
  unfolding descriptor_of method_of field_of params_at closing_at type_at base_at class_at return_at slots_of is_class_name
  text_says = says p _ _ _ (record {
    ts = class_type 0 lib.String ∷ [];
    back = None;
    vs = string ∷ [];
    is = refl;
    are = one_more _ _ _ _ string_in no_types;
    gives = gives_nothing;
    turned = refl;
  })

  pub texts_say : typed p (codes "(Ljava/lang/String;Ljava/lang/String;)V") ≡ Called (string ∷ string ∷ []) None
  unfolding descriptor_of method_of field_of params_at closing_at type_at base_at class_at return_at slots_of is_class_name
  texts_say = says p _ _ _ (record {
    ts = class_type 0 lib.String ∷ class_type 0 lib.String ∷ [];
    back = None;
    vs = string ∷ string ∷ [];
    is = refl;
    are = one_more _ _ _ _ string_in (one_more _ _ _ _ string_in no_types);
    gives = gives_nothing;
    turned = refl;
  })

  pub told_says : typed p (codes "()Ljava/lang/String;") ≡ Called [] (Some string)
  unfolding descriptor_of method_of field_of params_at closing_at type_at base_at class_at return_at slots_of is_class_name
  told_says = says p _ _ _ (record {
    ts = [];
    back = Some (class_type 0 lib.String);
    vs = [];
    is = refl;
    are = no_types;
    gives = gives_type _ _ string_in;
    turned = refl;
  })

  pub length_says : typed p (codes "()I") ≡ Called [] (Some types.Int)
  unfolding descriptor_of method_of field_of params_at closing_at type_at base_at class_at return_at slots_of is_class_name
  length_says = says p _ _ _ (record {
    ts = [];
    back = Some (letter (byte "I"));
    vs = [];
    is = refl;
    are = no_types;
    gives = gives_type _ _ int_in;
    turned = refl;
  })

  pub char_at_says : typed p (codes "(I)C") ≡ Called (types.Int ∷ []) (Some types.Int)
  unfolding descriptor_of method_of field_of params_at closing_at type_at base_at class_at return_at slots_of is_class_name
  char_at_says = says p _ _ _ (record {
    ts = letter (byte "I") ∷ [];
    back = Some (letter (byte "C"));
    vs = types.Int ∷ [];
    is = refl;
    are = one_more _ _ _ _ int_in no_types;
    gives = gives_type _ _ char_in;
    turned = refl;
  })

  pub equals_says : typed p (codes "(Ljava/lang/Object;)Z") ≡ Called (of_library lib.Object ∷ []) (Some types.Int)
  unfolding descriptor_of method_of field_of params_at closing_at type_at base_at class_at return_at slots_of is_class_name
  equals_says = says p _ _ _ (record {
    ts = class_type 0 lib.Object ∷ [];
    back = Some (letter (byte "Z"));
    vs = of_library lib.Object ∷ [];
    is = refl;
    are = one_more _ _ _ _ object_in no_types;
    gives = gives_type _ _ bool_in;
    turned = refl;
  })

  pub concat_says : typed p (codes "(Ljava/lang/String;)Ljava/lang/String;") ≡ Called (string ∷ []) (Some string)
  unfolding descriptor_of method_of field_of params_at closing_at type_at base_at class_at return_at slots_of is_class_name
  concat_says = says p _ _ _ (record {
    ts = class_type 0 lib.String ∷ [];
    back = Some (class_type 0 lib.String);
    vs = string ∷ [];
    is = refl;
    are = one_more _ _ _ _ string_in no_types;
    gives = gives_type _ _ string_in;
    turned = refl;
  })

  pub append_int_says : typed p (codes "(I)Ljava/lang/StringBuilder;") ≡ Called (types.Int ∷ []) (Some (of_library lib.StringBuilder))
  unfolding descriptor_of method_of field_of params_at closing_at type_at base_at class_at return_at slots_of is_class_name
  append_int_says = says p _ _ _ (record {
    ts = letter (byte "I") ∷ [];
    back = Some (class_type 0 lib.StringBuilder);
    vs = types.Int ∷ [];
    is = refl;
    are = one_more _ _ _ _ int_in no_types;
    gives = gives_type _ _ builder_in;
    turned = refl;
  })

  pub append_long_says : typed p (codes "(J)Ljava/lang/StringBuilder;") ≡ Called (types.Long ∷ []) (Some (of_library lib.StringBuilder))
  unfolding descriptor_of method_of field_of params_at closing_at type_at base_at class_at return_at slots_of is_class_name
  append_long_says = says p _ _ _ (record {
    ts = letter (byte "J") ∷ [];
    back = Some (class_type 0 lib.StringBuilder);
    vs = types.Long ∷ [];
    is = refl;
    are = one_more _ _ _ _ long_in no_types;
    gives = gives_type _ _ builder_in;
    turned = refl;
  })

  pub append_char_says : typed p (codes "(C)Ljava/lang/StringBuilder;") ≡ Called (types.Int ∷ []) (Some (of_library lib.StringBuilder))
  unfolding descriptor_of method_of field_of params_at closing_at type_at base_at class_at return_at slots_of is_class_name
  append_char_says = says p _ _ _ (record {
    ts = letter (byte "C") ∷ [];
    back = Some (class_type 0 lib.StringBuilder);
    vs = types.Int ∷ [];
    is = refl;
    are = one_more _ _ _ _ char_in no_types;
    gives = gives_type _ _ builder_in;
    turned = refl;
  })

  pub append_bool_says : typed p (codes "(Z)Ljava/lang/StringBuilder;") ≡ Called (types.Int ∷ []) (Some (of_library lib.StringBuilder))
  unfolding descriptor_of method_of field_of params_at closing_at type_at base_at class_at return_at slots_of is_class_name
  append_bool_says = says p _ _ _ (record {
    ts = letter (byte "Z") ∷ [];
    back = Some (class_type 0 lib.StringBuilder);
    vs = types.Int ∷ [];
    is = refl;
    are = one_more _ _ _ _ bool_in no_types;
    gives = gives_type _ _ builder_in;
    turned = refl;
  })

  pub append_text_says : typed p (codes "(Ljava/lang/String;)Ljava/lang/StringBuilder;") ≡ Called (string ∷ []) (Some (of_library lib.StringBuilder))
  unfolding descriptor_of method_of field_of params_at closing_at type_at base_at class_at return_at slots_of is_class_name
  append_text_says = says p _ _ _ (record {
    ts = class_type 0 lib.String ∷ [];
    back = Some (class_type 0 lib.StringBuilder);
    vs = string ∷ [];
    is = refl;
    are = one_more _ _ _ _ string_in no_types;
    gives = gives_type _ _ builder_in;
    turned = refl;
  })

  pub int_says : typed p (codes "(I)V") ≡ Called (types.Int ∷ []) None
  unfolding descriptor_of method_of field_of params_at closing_at type_at base_at class_at return_at slots_of is_class_name
  int_says = says p _ _ _ (record {
    ts = letter (byte "I") ∷ [];
    back = None;
    vs = types.Int ∷ [];
    is = refl;
    are = one_more _ _ _ _ int_in no_types;
    gives = gives_nothing;
    turned = refl;
  })

  pub long_says : typed p (codes "(J)V") ≡ Called (types.Long ∷ []) None
  unfolding descriptor_of method_of field_of params_at closing_at type_at base_at class_at return_at slots_of is_class_name
  long_says = says p _ _ _ (record {
    ts = letter (byte "J") ∷ [];
    back = None;
    vs = types.Long ∷ [];
    is = refl;
    are = one_more _ _ _ _ long_in no_types;
    gives = gives_nothing;
    turned = refl;
  })

  pub char_says : typed p (codes "(C)V") ≡ Called (types.Int ∷ []) None
  unfolding descriptor_of method_of field_of params_at closing_at type_at base_at class_at return_at slots_of is_class_name
  char_says = says p _ _ _ (record {
    ts = letter (byte "C") ∷ [];
    back = None;
    vs = types.Int ∷ [];
    is = refl;
    are = one_more _ _ _ _ char_in no_types;
    gives = gives_nothing;
    turned = refl;
  })

  pub bool_says : typed p (codes "(Z)V") ≡ Called (types.Int ∷ []) None
  unfolding descriptor_of method_of field_of params_at closing_at type_at base_at class_at return_at slots_of is_class_name
  bool_says = says p _ _ _ (record {
    ts = letter (byte "Z") ∷ [];
    back = None;
    vs = types.Int ∷ [];
    is = refl;
    are = one_more _ _ _ _ bool_in no_types;
    gives = gives_nothing;
    turned = refl;
  })

  pub runnable_says : typed p (codes "(Ljava/lang/Runnable;)V") ≡ Called (of_library lib.Runnable ∷ []) None
  unfolding descriptor_of method_of field_of params_at closing_at type_at base_at class_at return_at slots_of is_class_name
  runnable_says = says p _ _ _ (record {
    ts = class_type 0 lib.Runnable ∷ [];
    back = None;
    vs = of_library lib.Runnable ∷ [];
    is = refl;
    are = one_more _ _ _ _ runnable_in no_types;
    gives = gives_nothing;
    turned = refl;
  })

  pub passed_says : library.stands_on p.side lib.Ctx ≡ true → typed p (codes "(Ljava/lang/Runnable;Lsps/Ctx;)V") ≡ Called (types.Ctx ∷ of_library lib.Runnable ∷ []) None
  unfolding descriptor_of method_of field_of params_at closing_at type_at base_at class_at return_at slots_of is_class_name
  passed_says on = says p _ _ _ (record {
    ts = class_type 0 lib.Runnable ∷ class_type 0 lib.Ctx ∷ [];
    back = None;
    vs = of_library lib.Runnable ∷ types.Ctx ∷ [];
    is = refl;
    are = one_more _ _ _ _ runnable_in (one_more _ _ _ _ (ctx_in on) no_types);
    gives = gives_nothing;
    turned = refl;
  })

  pub check_says : typed p (codes "(Ljava/security/Permission;)V") ≡ Called (permission ∷ []) None
  unfolding descriptor_of method_of field_of params_at closing_at type_at base_at class_at return_at slots_of is_class_name
  check_says = says p _ _ _ (record {
    ts = class_type 0 (lib.Permission permissions.Permission) ∷ [];
    back = None;
    vs = permission ∷ [];
    is = refl;
    are = one_more _ _ _ _ permission_in no_types;
    gives = gives_nothing;
    turned = refl;
  })

  pub snapshot_says : typed p (codes "()Ljava/security/AccessControlContext;") ≡ Called [] (Some (of_library lib.AccessControlContext))
  unfolding descriptor_of method_of field_of params_at closing_at type_at base_at class_at return_at slots_of is_class_name
  snapshot_says = says p _ _ _ (record {
    ts = [];
    back = Some (class_type 0 lib.AccessControlContext);
    vs = [];
    is = refl;
    are = no_types;
    gives = gives_type _ _ context_in;
    turned = refl;
  })

  pub action_says : typed p (codes "(Ljava/security/PrivilegedAction;)Ljava/lang/Object;") ≡ Called (of_library lib.PrivilegedAction ∷ []) (Some (of_library lib.Object))
  unfolding descriptor_of method_of field_of params_at closing_at type_at base_at class_at return_at slots_of is_class_name
  action_says = says p _ _ _ (record {
    ts = class_type 0 lib.PrivilegedAction ∷ [];
    back = Some (class_type 0 lib.Object);
    vs = of_library lib.PrivilegedAction ∷ [];
    is = refl;
    are = one_more _ _ _ _ action_in no_types;
    gives = gives_type _ _ object_in;
    turned = refl;
  })

  pub within_says : typed p (desc_of (calls.Controller controllers.PrivilegedWith))
      ≡ Called (of_library lib.AccessControlContext ∷ of_library lib.PrivilegedAction ∷ []) (Some (of_library lib.Object))
  unfolding descriptor_of method_of field_of params_at closing_at type_at base_at class_at return_at slots_of is_class_name
  within_says = says p _ _ _ (record {
    ts = class_type 0 lib.PrivilegedAction ∷ class_type 0 lib.AccessControlContext ∷ [];
    back = Some (class_type 0 lib.Object);
    vs = of_library lib.PrivilegedAction ∷ of_library lib.AccessControlContext ∷ [];
    is = refl;
    are = one_more _ _ _ _ action_in (one_more _ _ _ _ context_in no_types);
    gives = gives_type _ _ object_in;
    turned = refl;
  })

  pub limited_says : typed p (desc_of (calls.Controller controllers.PrivilegedLimited))
      ≡ Called (types.Array permissions_array ∷ of_library lib.AccessControlContext ∷ of_library lib.PrivilegedAction ∷ []) (Some (of_library lib.Object))
  unfolding descriptor_of method_of field_of params_at closing_at type_at base_at class_at return_at slots_of is_class_name
  limited_says = says p _ _ _ (record {
    ts = class_type 0 lib.PrivilegedAction ∷ class_type 0 lib.AccessControlContext ∷ class_type 1 (lib.Permission permissions.Permission) ∷ [];
    back = Some (class_type 0 lib.Object);
    vs = of_library lib.PrivilegedAction ∷ of_library lib.AccessControlContext ∷ types.Array permissions_array ∷ [];
    is = refl;
    are = one_more _ _ _ _ action_in (one_more _ _ _ _ context_in (one_more _ _ _ _ limits_in no_types));
    gives = gives_type _ _ object_in;
    turned = refl;
  })

  pub enter_says : library.stands_on p.side lib.Ctx ≡ true → typed p (codes "(Lsps/Ctx;I)Lsps/Ctx;") ≡ Called (types.Int ∷ types.Ctx ∷ []) (Some types.Ctx)
  unfolding descriptor_of method_of field_of params_at closing_at type_at base_at class_at return_at slots_of is_class_name
  enter_says on = says p _ _ _ (record {
    ts = class_type 0 lib.Ctx ∷ letter (byte "I") ∷ [];
    back = Some (class_type 0 lib.Ctx);
    vs = types.Ctx ∷ types.Int ∷ [];
    is = refl;
    are = one_more _ _ _ _ (ctx_in on) (one_more _ _ _ _ int_in no_types);
    gives = gives_type _ _ (ctx_in on);
    turned = refl;
  })

  pub rt_check_says : library.stands_on p.side lib.Ctx ≡ true → typed p (codes "(Ljava/security/Permission;Lsps/Ctx;)V") ≡ Called (types.Ctx ∷ permission ∷ []) None
  unfolding descriptor_of method_of field_of params_at closing_at type_at base_at class_at return_at slots_of is_class_name
  rt_check_says on = says p _ _ _ (record {
    ts = class_type 0 (lib.Permission permissions.Permission) ∷ class_type 0 lib.Ctx ∷ [];
    back = None;
    vs = permission ∷ types.Ctx ∷ [];
    is = refl;
    are = one_more _ _ _ _ permission_in (one_more _ _ _ _ (ctx_in on) no_types);
    gives = gives_nothing;
    turned = refl;
  })

  pub rt_snapshot_says : library.stands_on p.side lib.Ctx ≡ true
      → typed p (codes "(Lsps/Ctx;)Ljava/security/AccessControlContext;") ≡ Called (types.Ctx ∷ []) (Some (of_library lib.AccessControlContext))
  unfolding descriptor_of method_of field_of params_at closing_at type_at base_at class_at return_at slots_of is_class_name
  rt_snapshot_says on = says p _ _ _ (record {
    ts = class_type 0 lib.Ctx ∷ [];
    back = Some (class_type 0 lib.AccessControlContext);
    vs = types.Ctx ∷ [];
    is = refl;
    are = one_more _ _ _ _ (ctx_in on) no_types;
    gives = gives_type _ _ context_in;
    turned = refl;
  })

  pub rt_action_says : typed p (desc_of (calls.Rt rt.Privileged)) ≡ Called (types.Int ∷ of_library lib.PrivilegedAction ∷ []) (Some (of_library lib.Object))
  unfolding descriptor_of method_of field_of params_at closing_at type_at base_at class_at return_at slots_of is_class_name
  rt_action_says = says p _ _ _ (record {
    ts = class_type 0 lib.PrivilegedAction ∷ letter (byte "I") ∷ [];
    back = Some (class_type 0 lib.Object);
    vs = of_library lib.PrivilegedAction ∷ types.Int ∷ [];
    is = refl;
    are = one_more _ _ _ _ action_in (one_more _ _ _ _ int_in no_types);
    gives = gives_type _ _ object_in;
    turned = refl;
  })

  pub rt_within_says : typed p (desc_of (calls.Rt rt.PrivilegedWith))
      ≡ Called (types.Int ∷ of_library lib.AccessControlContext ∷ of_library lib.PrivilegedAction ∷ []) (Some (of_library lib.Object))
  unfolding descriptor_of method_of field_of params_at closing_at type_at base_at class_at return_at slots_of is_class_name
  rt_within_says = says p _ _ _ (record {
    ts = class_type 0 lib.PrivilegedAction ∷ class_type 0 lib.AccessControlContext ∷ letter (byte "I") ∷ [];
    back = Some (class_type 0 lib.Object);
    vs = of_library lib.PrivilegedAction ∷ of_library lib.AccessControlContext ∷ types.Int ∷ [];
    is = refl;
    are = one_more _ _ _ _ action_in (one_more _ _ _ _ context_in (one_more _ _ _ _ int_in no_types));
    gives = gives_type _ _ object_in;
    turned = refl;
  })

  pub rt_limited_says : library.stands_on p.side lib.Ctx ≡ true
      → typed p (desc_of (calls.Rt rt.PrivilegedLimited))
      ≡ Called (types.Int ∷ types.Ctx ∷ types.Array permissions_array ∷ of_library lib.AccessControlContext ∷ of_library lib.PrivilegedAction ∷ []) (Some (of_library lib.Object))
  unfolding descriptor_of method_of field_of params_at closing_at type_at base_at class_at return_at slots_of is_class_name
  rt_limited_says on = says p _ _ _ (record {
    ts = class_type 0 lib.PrivilegedAction ∷ class_type 0 lib.AccessControlContext ∷ class_type 1 (lib.Permission permissions.Permission)
        ∷ class_type 0 lib.Ctx ∷ letter (byte "I") ∷ [];
    back = Some (class_type 0 lib.Object);
    vs = of_library lib.PrivilegedAction ∷ of_library lib.AccessControlContext ∷ types.Array permissions_array ∷ types.Ctx ∷ types.Int ∷ [];
    is = refl;
    are = one_more _ _ _ _ action_in (one_more _ _ _ _ context_in (one_more _ _ _ _ limits_in (one_more _ _ _ _ (ctx_in on) (one_more _ _ _ _ int_in no_types))));
    gives = gives_type _ _ object_in;
    turned = refl;
  })

  pub run_says : typed p (codes "()Ljava/lang/Object;") ≡ Called [] (Some (of_library lib.Object))
  unfolding descriptor_of method_of field_of params_at closing_at type_at base_at class_at return_at slots_of is_class_name
  run_says = says p _ _ _ (record {
    ts = [];
    back = Some (class_type 0 lib.Object);
    vs = [];
    is = refl;
    are = no_types;
    gives = gives_type _ _ object_in;
    turned = refl;
  })

  pub run_passed_says : library.stands_on p.side lib.Ctx ≡ true → typed p (codes "(Lsps/Ctx;)V") ≡ Called (types.Ctx ∷ []) None
  unfolding descriptor_of method_of field_of params_at closing_at type_at base_at class_at return_at slots_of is_class_name
  run_passed_says on = says p _ _ _ (record {
    ts = class_type 0 lib.Ctx ∷ [];
    back = None;
    vs = types.Ctx ∷ [];
    is = refl;
    are = one_more _ _ _ _ (ctx_in on) no_types;
    gives = gives_nothing;
    turned = refl;
  })

  pub action_passed_says : library.stands_on p.side lib.Ctx ≡ true → typed p (codes "(Lsps/Ctx;)Ljava/lang/Object;")
      ≡ Called (types.Ctx ∷ []) (Some (of_library lib.Object))
  unfolding descriptor_of method_of field_of params_at closing_at type_at base_at class_at return_at slots_of is_class_name
  action_passed_says on = says p _ _ _ (record {
    ts = class_type 0 lib.Ctx ∷ [];
    back = Some (class_type 0 lib.Object);
    vs = types.Ctx ∷ [];
    is = refl;
    are = one_more _ _ _ _ (ctx_in on) no_types;
    gives = gives_type _ _ object_in;
    turned = refl;
  })

  -- those of `main`
  pub main_says : typed p (codes "([Ljava/lang/String;)V") ≡ Called (types.Array texts_array ∷ []) None
  unfolding descriptor_of method_of field_of params_at closing_at type_at base_at class_at return_at slots_of is_class_name
  main_says = says p _ _ _ (record {
    ts = class_type 1 lib.String ∷ [];
    back = None;
    vs = types.Array texts_array ∷ [];
    is = refl;
    are = one_more _ _ _ _ texts_in no_types;
    gives = gives_nothing;
    turned = refl;
  })

  pub main_passed_says : library.stands_on p.side lib.Ctx ≡ true → typed p (codes "([Ljava/lang/String;Lsps/Ctx;)V") ≡ Called (types.Ctx ∷ types.Array texts_array ∷ []) None
  unfolding descriptor_of method_of field_of params_at closing_at type_at base_at class_at return_at slots_of is_class_name
  main_passed_says on = says p _ _ _ (record {
    ts = class_type 1 lib.String ∷ class_type 0 lib.Ctx ∷ [];
    back = None;
    vs = types.Array texts_array ∷ types.Ctx ∷ [];
    is = refl;
    are = one_more _ _ _ _ texts_in (one_more _ _ _ _ (ctx_in on) no_types);
    gives = gives_nothing;
    turned = refl;
  })

  -- a field's
  pub out_says : typed p (codes "Ljava/io/PrintStream;") ≡ Held (of_library lib.PrintStream)
  unfolding descriptor_of method_of field_of params_at closing_at type_at base_at class_at return_at slots_of is_class_name typed
  out_says = ap (λ (o : Option VType). held o) (class_in 0 lib.PrintStream refl)

  -- ---- where a descriptor names contexts, the program has them

  -- one of these types isn't there
  abbrev OneIsNot : List FieldType → Type 0
  OneIsNot [] = ⊥
  OneIsNot (t ∷ ts) = (type_in p t ≡ None) ⊎ OneIsNot ts

  put_none : (o : Option VType) → put_front o None ≡ None
  put_none None = refl
  put_none (Some v) = refl

  not_all : (ts : List FieldType) → OneIsNot ts → each_some (type_in p) ts ≡ None
  unfolding each_some
  not_all [] h = absurd h
  not_all (t ∷ ts) (inl none) = ap (λ (o : Option VType). put_front o (each_some (type_in p) ts)) none
  not_all (t ∷ ts) (inr more) = ap (put_front (type_in p t)) (not_all ts more) ∙ put_none (type_in p t)

  no_context : library.stands_on p.side lib.Ctx ≡ false → type_in p (class_type 0 lib.Ctx) ≡ None
  unfolding type_in
  no_context off =
      ap (λ (o : Option Class). option_map (type_of 0) (option_map elements.Class (if is_some o then Some (name (library.name_of lib.Ctx)) else None)))
      (not_found p good lib.Ctx off)

  untyped : (params : List VType) (ret : Option VType) → Untyped ≡ Called params ret → ⊥
  untyped params ret e = cc

  -- a descriptor with a context among its parameters
  context_on : (text : List ℕ) (ts : List FieldType) (back : Option FieldType) → descriptor_of text ≡ Some (descriptors.Method ts back)
      → (type_in p (class_type 0 lib.Ctx) ≡ None → OneIsNot ts) → (params : List VType) (ret : Option VType)
      → typed p text ≡ Called params ret → library.stands_on p.side lib.Ctx ≡ true
  unfolding typed
  context_on text ts back is one params ret e = go (library.stands_on p.side lib.Ctx) refl
    where
      go : (b : Bool) → library.stands_on p.side lib.Ctx ≡ b → library.stands_on p.side lib.Ctx ≡ true
      go true on = on
      go false off =
          let none : typed_as p (Some (descriptors.Method ts back)) ≡ Untyped = ap (λ (o : Option (List VType)). called o (return_in p back)) (not_all ts (one (no_context off))) in
          absurd (untyped params ret (sym none ∙ ap (typed_as p) (sym is) ∙ e))

  abbrev HasContexts : List ℕ → Type 0
  HasContexts text = (params : List VType) (ret : Option VType) → typed p text ≡ Called params ret → library.stands_on p.side lib.Ctx ≡ true

  pub passed_on : HasContexts (codes "(Ljava/lang/Runnable;Lsps/Ctx;)V")
  unfolding descriptor_of method_of field_of params_at closing_at type_at base_at class_at return_at slots_of is_class_name
  passed_on = context_on (codes "(Ljava/lang/Runnable;Lsps/Ctx;)V") (class_type 0 lib.Runnable ∷ class_type 0 lib.Ctx ∷ []) (None) refl (λ none. inr (inl none))

  pub enter_on : HasContexts (codes "(Lsps/Ctx;I)Lsps/Ctx;")
  unfolding descriptor_of method_of field_of params_at closing_at type_at base_at class_at return_at slots_of is_class_name
  enter_on = context_on (codes "(Lsps/Ctx;I)Lsps/Ctx;") (class_type 0 lib.Ctx ∷ letter (byte "I") ∷ []) (Some (class_type 0 lib.Ctx)) refl (λ none. inl none)

  pub rt_check_on : HasContexts (codes "(Ljava/security/Permission;Lsps/Ctx;)V")
  unfolding descriptor_of method_of field_of params_at closing_at type_at base_at class_at return_at slots_of is_class_name
  rt_check_on = context_on (codes "(Ljava/security/Permission;Lsps/Ctx;)V")
      (class_type 0 (lib.Permission permissions.Permission) ∷ class_type 0 lib.Ctx ∷ []) (None) refl (λ none. inr (inl none))

  pub rt_snapshot_on : HasContexts (codes "(Lsps/Ctx;)Ljava/security/AccessControlContext;")
  unfolding descriptor_of method_of field_of params_at closing_at type_at base_at class_at return_at slots_of is_class_name
  rt_snapshot_on = context_on (codes "(Lsps/Ctx;)Ljava/security/AccessControlContext;")
      (class_type 0 lib.Ctx ∷ []) (Some (class_type 0 lib.AccessControlContext)) refl (λ none. inl none)

  pub rt_limited_on : HasContexts (desc_of (calls.Rt rt.PrivilegedLimited))
  unfolding descriptor_of method_of field_of params_at closing_at type_at base_at class_at return_at slots_of is_class_name
  rt_limited_on = context_on (desc_of (calls.Rt rt.PrivilegedLimited))
      (class_type 0 lib.PrivilegedAction ∷ class_type 0 lib.AccessControlContext ∷ class_type 1 (lib.Permission permissions.Permission)
      ∷ class_type 0 lib.Ctx ∷ letter (byte "I") ∷ []) (Some (class_type 0 lib.Object)) refl (λ none. inr (inr (inr (inl none))))
