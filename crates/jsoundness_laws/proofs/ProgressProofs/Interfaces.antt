-- Where `run` is called by an interface, a method of a user is given what its descriptor says.
use Rattle.std.proofs.Common.{◌≡◌, ℕ, zero, suc, true, false, List, [], ◌∷◌, ◌++◌, map, Option, Some, refl, sym, ap, subst, ◌∙◌}
use Rattle.std.specs.List.{AllByRecursion}
use Rattle.std.specs.Str.{bytes_eq}
use Rattle.std.specs.Prelude.{option_and_then, option_map}
use Rattle.jlib.specs.declared.calls.LibCall.{LibCall}
use Rattle.jlib.specs.declared.classes.LibClass.{LibClass}
use Rattle.jlib.specs.declared.side.Side.{Side}
use Rattle.jlib.specs.declared.side.Side.TheVariants.{Source, Passing}
use Rattle.jlib.specs.LibraryMembers as library_calls
use Rattle.jvalues.specs.declared.jops.value.Value.{Value}
use Rattle.jvalues.specs.declared.jops.value.Value.TheVariants.{Ref}
use Rattle.jtypes.specs.declared.vtype.VType.{VType}
use Rattle.jtypes.specs.declared.vtype.VType.TheVariants as types
use Rattle.jresolution.specs.declared.jprogram.member.Member.TheVariants.{LibMethod, Method as AMethod}
use Rattle.jresolution.specs.declared.jprogram.member.MethodId.{MethodId}
use Rattle.jresolution.specs.jprogram.ProgramClasses.{Program}
use Rattle.jresolution.specs.jprogram.MemberResolution.{desc_of, init, is_static, name_of}
use Rattle.jlinking.specs.jlink.NamedCalls.{IsNamedCall}
use Rattle.jresolution.specs.declared.juses.meaning.InvokeKind.TheVariants as how
use Rattle.jresolution.specs.juses.InstructionMeanings.{CallMeaning}
use Rattle.jresolution.specs.juses.DescriptorTypes.{Called, typed}
use Rattle.jtyping.specs.jrule.StackEffects.{Fits}
use Rattle.jtyping.specs.jrule.PoolEffects.{of_library}
use Rattle.jsemantics.specs.jmachine.CallTargets as machine
use Rattle.jsemantics.specs.jmachine.CallTargets.{Target, by_interface, on_value, target}
use Rattle.jsemantics.specs.jmachine.HeapObjects.{Object, library_name}
use Rattle.jsemantics.specs.jmachine.InstructionSites.{Site}
use Rattle.jsemantics.specs.jmachine.Store.{Store, object_at}
use Rattle.jsemantics.specs.jmachine.World.{world}
use Rattle.jsoundness_laws.specs.typed.TypedCalls.{IsCall, IsTarget}
use Rattle.jsoundness_laws.specs.typed.RuntimeAssignability.{IsValueType}
use Rattle.jsoundness_laws.specs.typed.ProgressLaws.{HasCode}
use Rattle.jsoundness_laws.specs.typed.TypedValues.{AllServe, AreOf, HasDimensions, IsA}
use Rattle.jsoundness_laws.proofs.TypedProofs.CallTargets.{calls_come, receiver_is}
use Rattle.jsoundness_laws.specs.library.LibraryResults.{run_given}
use Rattle.jsoundness_laws.proofs.ProgressProofs.ProgramPremises.{IsFounded}

-- a member that both sides call `run`
pub record IsRunOf (p : Program) (owner : LibClass) (call : LibCall) (ret : Option VType) : Type 0 where
  pub says : typed p (library_calls.desc_of call) ≡ Called (run_given p.side) ret
  pub static : library_calls.is_static call ≡ false
  pub code : HasCode call → ⊥
  pub named : bytes_eq (library_calls.name_of_call call) init ≡ false

abbrev pub meaning : Program → LibClass → LibCall → Option VType → CallMeaning
meaning p owner call ret = record { owner = library_name owner; params = run_given p.side; ret = ret; member = LibMethod call }

values_run : (side : Side) → AllByRecursion IsValueType (run_given side)
values_run Source = tt
values_run Passing = (tt, tt)

dimensions_run : (side : Side) → AllByRecursion HasDimensions (run_given side)
dimensions_run Source = tt
dimensions_run Passing = (tt, tt)

no_method : (call : LibCall) (m : MethodId) → LibMethod call ≡ AMethod m → ⊥
no_method call m e = cc

same_call : (a b : LibCall) → LibMethod a ≡ LibMethod b → a ≡ b
same_call a b e = cc

module _ (p : Program) (owner : LibClass) (call : LibCall) (ret : Option VType) (run : IsRunOf p owner call ret) where
  named_call : IsNamedCall p how.Interface (meaning p owner call ret)
  unfolding name_of
  named_call = record { plain = λ e. run.named; owned = λ x e. absurd (differ e) }
    where
      differ : false ≡ true → ⊥
      differ e = cc

  is_call : IsCall p how.Interface (meaning p owner call ret)
  unfolding desc_of is_static
  is_call = record {
    named = named_call;
    values = values_run p.side;
    dimensions = dimensions_run p.side;
    typed_as = run.says;
    static = run.static;
    there = λ m e. absurd (no_method call m e);
    owned = λ m e. absurd (no_method call m e);
    library = λ x e code. absurd (run.code (subst HasCode (sym (same_call call x e)) code));
  }

  module _ {K : Type 0} (sound : IsFounded p) (at : Site) (s : Store K) (in_world : at.world ≡ world p) where
    serves_all : (ts : List VType) (vs : List (Value K)) (n : ℕ) → AreOf (world p) s ts vs → IsA (world p) s (of_library owner) (Ref n)
        → AllServe (world p) s (map Fits ts ++ Fits (types.Object (library_name owner)) ∷ []) (vs ++ Ref n ∷ [])
    serves_all [] [] n are is = (is, tt)
    serves_all [] (v ∷ vs) n are is = absurd are
    serves_all (t ∷ ts) [] n are is = absurd are
    serves_all (t ∷ ts) (v ∷ vs) n are is = (are.0, serves_all ts vs n are.1 is)

    reaches : (vs : List (Value K)) (n : ℕ) (x : Object K) → object_at s n ≡ Some x
        → target at s how.Interface (meaning p owner call ret) (vs ++ Ref n ∷ []) ≡ Some (by_interface at.world at.full (meaning p owner call ret) x)
    unfolding target
    reaches vs zero x there = absurd (cc)
    reaches vs (suc n) x there =
        ap (option_and_then (on_value at s how.Interface (meaning p owner call ret))) (receiver_is vs (Ref (suc n)))
        ∙ ap (option_map (machine.on_object at how.Interface (meaning p owner call ret))) there

    some_is : (a b : Target) → Some a ≡ Some b → a ≡ b
    some_is a b e = cc

    -- what a call of `run` comes to may be given what is given
    pub interface_comes : (vs : List (Value K)) (n : ℕ) (x : Object K) → object_at s n ≡ Some x → AreOf (world p) s (run_given p.side) vs
        → IsA (world p) s (of_library owner) (Ref n)
        → IsTarget p s ret (vs ++ Ref n ∷ []) (by_interface at.world at.full (meaning p owner call ret) x)
    interface_comes vs n x there are is =
        let c = calls_come K p at s how.Interface (meaning p owner call ret) (vs ++ Ref n ∷ []) sound.stands sound.code in_world refl is_call (serves_all (run_given p.side) vs n are is) in
        subst (λ t. IsTarget p s ret (vs ++ Ref n ∷ []) t) (some_is c.0 (by_interface at.world at.full (meaning p owner call ret) x) (sym c.1 ∙ reaches vs n x there)) c.2
