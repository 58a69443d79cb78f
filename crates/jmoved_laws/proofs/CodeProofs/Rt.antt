-- What the references to the methods of `sps/Rt` stand for.
use Rattle.std.proofs.Common.{◌≡◌, ℕ, Bool, false, List, [], ◌∷◌, Option, Some, None, refl, ap, ◌∙◌}
use Rattle.std.specs.Prelude.{codes, is_some, option_map, reverse, slice_get, if◌then◌else◌}
use Rattle.std.specs.Str.{byte, bytes_eq}
use Rattle.jground.specs.jbase.ListMaps.{each_some, put_front}
use Rattle.jparts.specs.declared.jpool.descriptor.Descriptor.TheVariants as descriptors
use Rattle.jparts.specs.declared.jpool.descriptor.FieldType.{FieldType}
use Rattle.jparts.specs.declared.jpool.entry.Entry.{Entry}
use Rattle.jparts.specs.jpool.Descriptors.{base_at, class_at, closing_at, descriptor_of, field_of, method_of, params_at, return_at, slots_of, type_at}
use Rattle.jparts.specs.jpool.ClassNames.{is_class_name}
use Rattle.jlib.specs.declared.side.Side.TheVariants.{Passing}
use Rattle.jlib.specs.declared.classes.LibClass.{LibClass}
use Rattle.jlib.specs.declared.classes.LibClass.TheVariants as lib
use Rattle.jlib.specs.declared.classes.PermissionClass.TheVariants as permission
use Rattle.jlib.specs.LibraryClasses as library
use Rattle.jlib.proofs.LibraryLookup.{class_only}
use Rattle.jmove.specs.declared.naming.Security.{Security}
use Rattle.jmove.specs.declared.naming.Security.TheVariants.{Enter, Check, Snapshot, Privileged, PrivilegedWith, PrivilegedLimited}
use Rattle.jmove.specs.PoolAdditions.{context_type, security_name, security_type}
use Rattle.jtypes.specs.declared.vtype.Element.TheVariants as elements
use Rattle.jtypes.specs.declared.vtype.VType.{VType}
use Rattle.jtypes.specs.declared.vtype.VType.TheVariants as types
use Rattle.jresolution.specs.declared.jprogram.member.Member.{Member}
use Rattle.jresolution.specs.jprogram.ProgramClasses.{Class, Program}
use Rattle.jresolution.specs.jprogram.MemberResolution.{init}
use Rattle.jresolution.specs.juses.InstructionMeanings.{AMethod, call_as, call_meant, entry_meant, method_entry}
use Rattle.jresolution.specs.juses.DescriptorTypes.{Called, called, name, return_in, type_in, type_of, typed, typed_as}
use Rattle.jrewriting.proofs.JrewriteProofs.PoolReferences.{IsSecurity}
use Rattle.jrewriting.proofs.JrewriteProofs.Security.{IsPassing, find_lib, found, no_init, rt_of, security_found}
use Rattle.jsimulation_laws.specs.relation.InstructionExpansion.{action, context, permission as permitted, permissions, rt_meaning, rt_params, rt_ret}
use Rattle.jmoved_laws.proofs.CodeProofs.Entries.{method_at, said}
use Rattle.jmoved_laws.proofs.CodeProofs.Types.{context_in}

-- ---- types

abbrev array_of : ℕ → LibClass → FieldType
array_of depth c = record { depth = depth; base = byte "L"; class = library.name_of c }

lib_in : (q : Program) → IsPassing q → (depth : ℕ) (c : LibClass) → library.class_named Passing (library.name_of c) ≡ Some c → type_in q (array_of depth c) ≡ Some (type_of depth (elements.Class (name (library.name_of c))))
unfolding type_in
lib_in q is depth c e = ap (λ (o : Option Class). option_map (type_of depth) (option_map elements.Class (if is_some o then Some (name (library.name_of c)) else None))) (find_lib q is (library.name_of c) c e)

abbrev int_type : FieldType
int_type = record { depth = 0; base = byte "I"; class = [] }

int_in : (q : Program) → type_in q int_type ≡ Some types.Int
unfolding type_in
int_in q = refl

-- types, one by one
abbrev AreIn : Program → List FieldType → List VType → Type 0
AreIn q [] [] = Unit {0}
AreIn q (t ∷ ts) (v ∷ vs) = (type_in q t ≡ Some v) × AreIn q ts vs
AreIn q _ _ = ⊥

each_in : (q : Program) (ts : List FieldType) (vs : List VType) → AreIn q ts vs → each_some (type_in q) ts ≡ Some vs
unfolding each_some
each_in q [] [] h = refl
each_in q (t ∷ ts) (v ∷ vs) h = ap (λ (o : Option VType). put_front o (each_some (type_in q) ts)) h.0 ∙ ap (put_front (Some v)) (each_in q ts vs h.1)
each_in q [] (v ∷ vs) h = absurd h
each_in q (t ∷ ts) [] h = absurd h

-- what a descriptor says
record SaysSo (q : Program) (text : List ℕ) (params : List VType) (ret : Option VType) : Type 0 where
  pub ts : List FieldType
  pub back : Option FieldType
  pub vs : List VType
  pub is : descriptor_of text ≡ Some (descriptors.Method ts back)
  pub are : AreIn q ts vs
  pub gives : return_in q back ≡ Some ret
  pub turned : reverse vs ≡ params

typed_so : (q : Program) (text : List ℕ) (params : List VType) (ret : Option VType) → SaysSo q text params ret → typed q text ≡ Called params ret
unfolding typed
typed_so q text params ret s =
    ap (typed_as q) s.is
    ∙ ap (λ (o : Option (List VType)). called o (return_in q s.back)) (each_in q s.ts s.vs s.are)
    ∙ ap (called (Some s.vs)) s.gives
    ∙ ap (λ (l : List VType). Called l ret) s.turned

gives_lib : (q : Program) → IsPassing q → (c : LibClass) → library.class_named Passing (library.name_of c) ≡ Some c → return_in q (Some (array_of 0 c)) ≡ Some (Some (type_of 0 (elements.Class (name (library.name_of c)))))
gives_lib q is c e = ap (option_map Some) (lib_in q is 0 c e)

gives_context : (q : Program) → IsPassing q → return_in q (Some context_type) ≡ Some (Some types.Ctx)
gives_context q is = ap (option_map Some) (context_in q is)

says_so : (q : Program) → IsPassing q → (m : Security) → SaysSo q (security_type m) (rt_params (rt_of m)) (rt_ret (rt_of m))
unfolding descriptor_of method_of field_of params_at closing_at type_at base_at class_at return_at slots_of is_class_name
says_so q is Enter = record {
  ts = context_type ∷ int_type ∷ [];
  back = Some context_type;
  vs = types.Ctx ∷ types.Int ∷ [];
  is = refl;
  are = (context_in q is, (int_in q, tt));
  gives = gives_context q is;
  turned = refl;
}
says_so q is Check = record {
  ts = array_of 0 (lib.Permission permission.Permission) ∷ context_type ∷ [];
  back = None;
  vs = permitted ∷ types.Ctx ∷ [];
  is = refl;
  are = (lib_in q is 0 (lib.Permission permission.Permission) (class_only Passing (lib.Permission permission.Permission) refl), (context_in q is, tt));
  gives = refl;
  turned = refl;
}
says_so q is Snapshot = record {
  ts = context_type ∷ [];
  back = Some (array_of 0 lib.AccessControlContext);
  vs = types.Ctx ∷ [];
  is = refl;
  are = (context_in q is, tt);
  gives = gives_lib q is lib.AccessControlContext (class_only Passing lib.AccessControlContext refl);
  turned = refl;
}
says_so q is Privileged = record {
  ts = array_of 0 lib.PrivilegedAction ∷ int_type ∷ [];
  back = Some (array_of 0 lib.Object);
  vs = action ∷ types.Int ∷ [];
  is = refl;
  are = (lib_in q is 0 lib.PrivilegedAction (class_only Passing lib.PrivilegedAction refl), (int_in q, tt));
  gives = gives_lib q is lib.Object (class_only Passing lib.Object refl);
  turned = refl;
}
says_so q is PrivilegedWith = record {
  ts = array_of 0 lib.PrivilegedAction ∷ array_of 0 lib.AccessControlContext ∷ int_type ∷ [];
  back = Some (array_of 0 lib.Object);
  vs = action ∷ context ∷ types.Int ∷ [];
  is = refl;
  are = (lib_in q is 0 lib.PrivilegedAction (class_only Passing lib.PrivilegedAction refl), (lib_in q is 0 lib.AccessControlContext (class_only Passing lib.AccessControlContext refl), (int_in q, tt)));
  gives = gives_lib q is lib.Object (class_only Passing lib.Object refl);
  turned = refl;
}
says_so q is PrivilegedLimited = record {
  ts = array_of 0 lib.PrivilegedAction ∷ array_of 0 lib.AccessControlContext ∷ array_of 1 (lib.Permission permission.Permission) ∷ context_type ∷ int_type ∷ [];
  back = Some (array_of 0 lib.Object);
  vs = action ∷ context ∷ types.Array permissions ∷ types.Ctx ∷ types.Int ∷ [];
  is = refl;
  are = (lib_in q is 0 lib.PrivilegedAction (class_only Passing lib.PrivilegedAction refl), (lib_in q is 0 lib.AccessControlContext (class_only Passing lib.AccessControlContext refl), (lib_in q is 1 (lib.Permission permission.Permission) (class_only Passing (lib.Permission permission.Permission) refl), (context_in q is, (int_in q, tt)))));
  gives = gives_lib q is lib.Object (class_only Passing lib.Object refl);
  turned = refl;
}

-- ---- the reference

rt_is : (q : Program) → IsPassing q → (m : Security) → call_meant q (said (codes "sps/Rt") (security_name m) (security_type m)) ≡ Some (rt_meaning (rt_of m))
unfolding call_meant
rt_is q is m =
    ap (λ (o : Option Member). call_as (name (codes "sps/Rt")) o (typed q (security_type m))) (security_found q is m)
    ∙ ap (call_as (name (codes "sps/Rt")) (Some (found m))) (typed_so q (security_type m) (rt_params (rt_of m)) (rt_ret (rt_of m)) (says_so q is m))

pub method_rt : (q : Program) → IsPassing q → (m : Security) (pool : List Entry) (j : ℕ) → IsSecurity m pool j → entry_meant q pool (slice_get pool j) ≡ Some (AMethod false (rt_meaning (rt_of m)))
method_rt q is m pool j s =
    method_at q pool j s.target
    ∙ ap (λ (o : List ℕ). method_entry q (said o s.target.says.name s.target.says.desc)) s.owner
    ∙ ap (λ (o : List ℕ). method_entry q (said (codes "sps/Rt") o s.target.says.desc)) s.name
    ∙ ap (λ (o : List ℕ). method_entry q (said (codes "sps/Rt") (security_name m) o)) s.desc
    ∙ ap (option_map (AMethod (bytes_eq (security_name m) init))) (rt_is q is m)
    ∙ ap (λ (b : Bool). Some (AMethod b (rt_meaning (rt_of m)))) (no_init m)
