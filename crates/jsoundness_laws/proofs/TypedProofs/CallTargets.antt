-- What calls come to in typed states.
use Rattle.std.proofs.Common.{◌≡◌, ℕ, zero, suc, Bool, true, false, ◌&&◌, not, List, [], ◌∷◌, ◌++◌, map, reverse, Option, Some, None, refl, sym, ap, subst, ◌∙◌}
use Rattle.std.specs.List.{AllByRecursion}
use Rattle.std.specs.Prelude.{option_and_then, option_map, slice_get, if◌then◌else◌}
use Rattle.std.specs.Str.{bytes_eq}
use Rattle.std.proofs.lemmas.List.{reverse-append, reverse-reverse}
use Rattle.jground.specs.jbase.FirstFaults.{fault_if, or_else}
use Rattle.jclass.specs.declared.class.CodeBody.{CodeBody}
use Rattle.jclass.specs.declared.class.MemberInfo.{MemberInfo}
use Rattle.jlib.specs.declared.calls.LibCall.{LibCall}
use Rattle.jlib.specs.declared.classes.LibClass.{LibClass}
use Rattle.jlib.specs.declared.classes.LibClass.TheVariants as lib
use Rattle.jlib.specs.LibraryMembers as library_calls
use Rattle.jlib.specs.LibraryClasses as library
use Rattle.jvalues.specs.declared.jops.value.Value.{Value}
use Rattle.jvalues.specs.declared.jops.value.Value.TheVariants.{Ref}
use Rattle.jtypes.specs.declared.vtype.Name.{Name}
use Rattle.jtypes.specs.declared.vtype.VType.{VType}
use Rattle.jtypes.specs.declared.vtype.VType.TheVariants as types
use Rattle.jtypes.specs.Assignability.{is_above_arrays}
use Rattle.jresolution.specs.declared.jprogram.member.CallKind.{CallKind}
use Rattle.jresolution.specs.declared.jprogram.member.CallKind.TheVariants as kinds
use Rattle.jresolution.specs.declared.jprogram.member.ClassId.{ClassId}
use Rattle.jresolution.specs.declared.jprogram.member.Member.{Member}
use Rattle.jresolution.specs.declared.jprogram.member.Member.TheVariants.{LibMethod, Method}
use Rattle.jresolution.specs.declared.jprogram.member.MethodId.{MethodId}
use Rattle.jresolution.specs.declared.jprogram.member.Selected.{Selected}
use Rattle.jresolution.specs.declared.jprogram.member.Selected.TheVariants as selected
use Rattle.jresolution.specs.declared.jprogram.part.ClassRef.{ClassRef}
use Rattle.jresolution.specs.declared.jprogram.part.ClassRef.TheVariants as refs
use Rattle.jresolution.specs.declared.jprogram.part.CodePart.{CodePart}
use Rattle.jresolution.specs.jprogram.ProgramClasses.{Program, extends, name_at, object, super_at, tree}
use Rattle.jresolution.specs.jprogram.MemberResolution.{as_selected, desc_of, init, is_abstract, is_init, is_static, name_of, name_of_id, select}
use Rattle.jresolution.specs.jprogram.ClassFileParts as parts
use Rattle.jresolution.specs.jprogram.ClassFileParts.{code_of, member_desc, this_name}
use Rattle.jresolution.specs.jprogram.OrderedPrograms.{StandsInOrder}
use Rattle.jresolution.proofs.JprogramProofs.SuperclassOrder.{extends_chain}
use Rattle.jresolution.proofs.JprogramProofs.NameReachability as settling
use Rattle.jlinking.specs.jlink.NamedCalls.{begins}
use Rattle.jlinking.specs.jlink.SelectedMethods.{IsCalledAs, IsSelectedAs}
use Rattle.jlinking.proofs.JlinkProofs.PresentValues.{has_some}
use Rattle.jlinking.proofs.JlinkProofs.MethodSelection.{selected_as}
use Rattle.jresolution.specs.declared.juses.meaning.InvokeKind.{InvokeKind}
use Rattle.jresolution.specs.declared.juses.meaning.InvokeKind.TheVariants as how
use Rattle.jresolution.specs.juses.InstructionMeanings.{CallMeaning}
use Rattle.jresolution.specs.juses.DescriptorTypes.{Called, name, typed}
use Rattle.jtyping.specs.jrule.StackEffects.{Fits, Want}
use Rattle.jtyping.specs.jrule.InstructionContext.{Here}
use Rattle.jtyping.specs.jrule.PoolEffects.{arguments, of_library}
use Rattle.jtyping.specs.jwelltyped.MethodPremises.{params_of, receiver as this_of}
use Rattle.jtyping.specs.jwelltyped.ProofNames.{return_of}
use Rattle.jsemantics.specs.jmachine.CallTargets.{Target, Fails, by_interface, from_above, is_hidden, no_access, on_object, on_value, reached, receiver, special, target, unless, wrong_class}
use Rattle.jsemantics.specs.ProofNames.{by_class, null_pointer}
use Rattle.jsemantics.specs.jmachine.HeapObjects.{Object, Instance, Thrown, Text, Builder, Piece, Permission, Context, Thread, Bare, Array, class_of, id_of}
use Rattle.jsemantics.specs.jmachine.InstructionSites.{Site}
use Rattle.jsemantics.specs.jmachine.Store.{Store, object_at}
use Rattle.jsemantics.specs.jmachine.World.{World, class_id, fits, is_instance, world}
use Rattle.jsoundness_laws.specs.typed.TypedCalls.{AllHaveCode, CallsComeTo, Coded, IsCall, IsGiven, IsReceived, IsRun, IsTarget, method, within}
use Rattle.jsoundness_laws.specs.typed.TypedFrames.{AllHave, Has, News}
use Rattle.jsoundness_laws.specs.typed.ProgressLaws.{HasCode}
use Rattle.jsoundness_laws.specs.typed.TypedValues.{AllServe, AreOf, HasDimensions, IsA, Serves, known}
use Rattle.jsoundness_laws.proofs.TypedProofs.Superclasses.{extends_super}
use Rattle.jsoundness_laws.proofs.TypedProofs.Codes.{itself_coded, selected_coded}
use Rattle.jsoundness_laws.proofs.TypedProofs.SubtypeTransitivity.{fits_after, is_object, or_left, or_right}
use Rattle.jsoundness_laws.proofs.TypedProofs.TypedValues.{has_of}
use Rattle.jsoundness_laws.proofs.TypedProofs.ValueKinds.{known_value, ref_fits, ref_value, whole_class}
use Rattle.jsoundness_laws.proofs.TypedProofs.Orders.{in_order}
use Rattle.jsoundness_laws.proofs.TypedProofs.SelectedMethods.{IsOf, abstract_is, desc_is, method_there, name_is, select_is, select_library, selected_library, selected_member, static_is, user_name}

-- ---- the arguments, and the object behind them

module _ {K : Type 0} (w : World) (s : Store K) where
  -- values that serve where some are to be of types and one of more is wanted
  record Parted (ts : List VType) (want : Want) (values : List (Value K)) : Type 0 where
    given : List (Value K)
    last : Value K
    is : values ≡ given ++ last ∷ []
    are : AreOf w s ts given
    serves : Serves w s want last

  parted : (ts : List VType) (want : Want) (values : List (Value K)) → AllServe w s (map Fits ts ++ want ∷ []) values → Parted ts want values
  parted [] want [] h = absurd h
  parted [] want (v ∷ []) h = record { given = []; last = v; is = refl; are = tt; serves = h.0 }
  parted [] want (v ∷ u ∷ values) h = absurd h.1
  parted (t ∷ ts) want [] h = absurd h
  parted (t ∷ ts) want (v ∷ values) h =
      let more = parted ts want values h.1 in
      record { given = v ∷ more.given; last = more.last; is = ap (λ (vs : List (Value K)). v ∷ vs) more.is; are = (h.0, more.are); serves = more.serves }

  all_are : (ts : List VType) (values : List (Value K)) → AllServe w s (map Fits ts ++ []) values → AreOf w s ts values
  all_are [] [] h = tt
  all_are [] (v ∷ values) h = absurd h
  all_are (t ∷ ts) [] h = absurd h
  all_are (t ∷ ts) (v ∷ values) h = (h.0, all_are ts values h.1)

  pub have_all : (here : Here) (news : News) (ts : List VType) (vs : List (Value K)) → AllByRecursion HasDimensions ts → AreOf w s ts vs → AllHave w s here news ts vs
  have_all here news [] [] d h = tt
  have_all here news [] (v ∷ vs) d h = absurd h
  have_all here news (t ∷ ts) [] d h = absurd h
  have_all here news (t ∷ ts) (v ∷ vs) d h = (has_of w s here news t v h.0 d.0, have_all here news ts vs d.1 h.1)

  pub have_last : (here : Here) (news : News) (ts : List VType) (vs : List (Value K)) (t : VType) (v : Value K) → AllHave w s here news ts vs → Has w s here news t v
      → AllHave w s here news (ts ++ t ∷ []) (vs ++ v ∷ [])
  have_last here news [] [] t v h x = (x, tt)
  have_last here news [] (u ∷ vs) t v h x = absurd h
  have_last here news (a ∷ ts) [] t v h x = absurd h
  have_last here news (a ∷ ts) (u ∷ vs) t v h x = (h.0, have_last here news ts vs t v h.1 x)

pub receiver_is : {K : Type 0} (vs : List (Value K)) (v : Value K) → receiver (vs ++ v ∷ []) ≡ Some v
unfolding receiver
receiver_is [] v = refl
receiver_is (u ∷ []) v = refl
receiver_is (u ∷ x ∷ vs) v = receiver_is (x ∷ vs) v

pub some_member : (a b : Member) → Some a ≡ Some b → a ≡ b
some_member a b e = cc

id_name : (p : Program) (r : ClassRef) → name_of_id p (class_id r) ≡ name_at p r
id_name p (refs.User i) = refl
id_name p (refs.Lib l) = refl

-- no `new` was met yet
abbrev none : News
none = record { made = λ o. 0; this = 0 }

-- ---- a method that may be given them

module _ {K : Type 0} (p : Program) (s : Store K) (coded : AllHaveCode p) (by : InvokeKind) (c : CallMeaning) (call : IsCall p by c) (plain : begins by ≡ false) where
  module _ (m : MethodId) (part : CodePart) (info : MemberInfo) (stands : slice_get p.parts m.class ≡ Some part) (declared : slice_get part.class.methods m.method ≡ Some info) where
    module _ (concrete : is_abstract p (Method m) ≡ false) (alike : IsCalledAs p c.member (Method m)) where
      some_code : (body : CodeBody) × (code_of info ≡ Some body)
      some_code = has_some (code_of info) (coded m part info stands declared (sym (abstract_is p m part info stands declared) ∙ concrete))

      abbrev code_is : Coded p m
      code_is = record { part = part; info = info; body = some_code.0; stands = stands; declared = declared; code = some_code.1 }

      typed_is : typed p (member_desc part.class info) ≡ Called c.params c.ret
      typed_is = ap (typed p) (sym (desc_is p m part info stands declared) ∙ alike.1) ∙ call.typed_as

      -- one that is static
      static_given : is_static p (Method m) ≡ true → (values : List (Value K)) → AreOf (world p) s c.params values → IsGiven p s m c.ret values
      static_given static values h =
          let params : (method p m code_is).params ≡ reverse c.params =
          ap (λ b. this_of b (is_init part.class info) (name (this_name part.class)) ++ params_of (typed p (member_desc part.class info))) (sym (static_is p m part info stands declared) ∙ static) ∙ ap params_of typed_is in
          record {
            coded = code_is;
            news = none;
            given = subst (λ ts. AllHave (world p) s (within p (method p m code_is)) none ts values) (sym (ap reverse params ∙ reverse-reverse c.params))
                (have_all (world p) s (within p (method p m code_is)) none c.params values call.dimensions h);
            returns = ap return_of typed_is;
          }

      is_plain : is_init part.class info ≡ false
      is_plain = ap (λ (n : List ℕ). bytes_eq n init && not (parts.is_static info.flags)) (sym (name_is p m part info stands declared) ∙ alike.0) ∙ ap (λ b. b && not (parts.is_static info.flags)) (call.named.plain plain)

      -- one of objects
      instance_given : is_static p (Method m) ≡ false → (given : List (Value K)) → AreOf (world p) s c.params given → (v : Value K) → IsA (world p) s (types.Object (name (this_name part.class))) v
          → IsGiven p s m c.ret (given ++ v ∷ [])
      instance_given static given h v x =
          let this : VType = types.Object (name (this_name part.class)) in
          let here = within p (method p m code_is) in
          let params : (method p m code_is).params ≡ this ∷ reverse c.params =
          ap (λ b. this_of b (is_init part.class info) (name (this_name part.class)) ++ params_of (typed p (member_desc part.class info))) (sym (static_is p m part info stands declared) ∙ static)
          ∙ ap (λ b. this_of false b (name (this_name part.class)) ++ params_of (typed p (member_desc part.class info))) is_plain
          ∙ ap (λ t. this ∷ params_of t) typed_is in
          let reversed : reverse (this ∷ reverse c.params) ≡ c.params ++ this ∷ [] =
          reverse-append (this ∷ []) (reverse c.params) ∙ ap (λ ts. ts ++ this ∷ []) (reverse-reverse c.params) in
          record {
            coded = code_is;
            news = none;
            given = subst (λ ts. AllHave (world p) s here none ts (given ++ v ∷ [])) (sym (ap reverse params ∙ reversed))
                (have_last (world p) s here none c.params given this v (have_all (world p) s here none c.params given call.dimensions h) x);
            returns = ap return_of typed_is;
          }

  -- ---- what is selected

  reached_is : (values : List (Value K)) (full : Bool) (found : Selected) → ((m : MethodId) → found ≡ selected.Method m → IsGiven p s m c.ret values)
      → ((x : LibCall) → found ≡ selected.Lib x → IsRun p s x c.ret values) → IsTarget p s c.ret values (reached full found)
  reached_is values true (selected.Method m) given run = tt
  reached_is values false (selected.Method m) given run = given m refl
  reached_is values full (selected.Lib x) given run = run x refl
  reached_is values full (selected.Abstract m) given run = tt
  reached_is values full selected.Missing given run = tt

  -- ---- calls of the library

  lib_typed : (x : LibCall) → desc_of p (LibMethod x) ≡ desc_of p c.member → typed p (library_calls.desc_of x) ≡ Called c.params c.ret
  unfolding desc_of
  lib_typed x same = ap (typed p) same ∙ call.typed_as

  lib_static : (x : LibCall) (b : Bool) → is_static p (LibMethod x) ≡ b → library_calls.is_static x ≡ b
  unfolding is_static
  lib_static x b e = e

  run_static : (x : LibCall) → HasCode x → desc_of p (LibMethod x) ≡ desc_of p c.member → is_static p (LibMethod x) ≡ true → (values : List (Value K)) → AreOf (world p) s c.params values
      → IsRun p s x c.ret values
  run_static x code same static values h = record {
    code = code;
    params = c.params;
    typed_as = lib_typed x same;
    arguments = values;
    given = h;
    received = subst (λ b. IsReceived p s x b values values) (sym (lib_static x true static)) refl;
  }

  run_on : (x : LibCall) → HasCode x → desc_of p (LibMethod x) ≡ desc_of p c.member → is_static p (LibMethod x) ≡ false → (given : List (Value K)) → AreOf (world p) s c.params given → (n : ℕ)
      → IsA (world p) s (of_library (library_calls.owner x)) (Ref (suc n)) → IsRun p s x c.ret (given ++ Ref (suc n) ∷ [])
  run_on x code same static given h n object = record {
    code = code;
    params = c.params;
    typed_as = lib_typed x same;
    arguments = given;
    given = h;
    received = subst (λ b. IsReceived p s x b given (given ++ Ref (suc n) ∷ [])) (sym (lib_static x false static)) (n, refl, object);
  }

  -- ---- on an object

  module _ (good : StandsInOrder p) (given : List (Value K)) (are : AreOf (world p) s c.params given) (n : ℕ) where
    abbrev on : List (Value K)
    on = given ++ Ref (suc n) ∷ []

    abbrev IsObjectOf : List ℕ → Type 0
    IsObjectOf d = IsA (world p) s (types.Object (name d)) (Ref (suc n))

    given_on : (class : List ℕ) (m : MethodId) → IsOf p class m → is_abstract p (Method m) ≡ false → IsCalledAs p c.member (Method m) → is_static p (Method m) ≡ false → IsObjectOf class
        → IsGiven p s m c.ret on
    given_on class m of concrete alike static object =
        let same : class ≡ this_name of.part.class = sym of.name ∙ user_name p m.class of.part of.stands in
        instance_given m of.part of.info of.stands of.declared concrete alike static given are (Ref (suc n)) (subst IsObjectOf same object)

    -- of the classes at or above a class of which it is
    selected_on : (full : Bool) (k : ClassId) (kind : CallKind) → ((d : List ℕ) → extends p (name_of_id p k) d ≡ true → IsObjectOf d) → IsTarget p s c.ret on (reached full (select p k c.member kind))
    selected_on full k kind below = reached_is on full (select p k c.member kind)
        (λ m e.
        let found = select_is p k c.member kind m e in
        given_on found.class m found.of found.concrete (subst (IsSelectedAs p c.member) e (selected_as p k c.member kind)) found.instance (below found.class found.above))
        (λ x e.
        let found = select_library p k c.member kind x e in
        run_on x (selected_coded p k c.member kind x e) (subst (IsSelectedAs p c.member) e (selected_as p k c.member kind)).1 found.instance given are n
        (below (library.name_of (library_calls.owner x)) found.above))

    -- ---- of the object's own class

    module _ (x : Object K) (t : VType) (is : known (world p) s (Ref (suc n)) ≡ Some t) (class : t ≡ class_of (world p).named x) where
      below_class : (e : List ℕ) → class_of (world p).named x ≡ types.Object (name e) → (d : List ℕ) → extends p e d ≡ true → IsObjectOf d
      unfolding world
      below_class e same d h = record {
        type = t;
        is = is;
        met = ap (λ t. fits (world p) t (types.Object (name d))) (class ∙ same) ∙ or_right ((tree p).is_interface (name d)) (extends p e d) h;
      }

      below_array : (a : _) → class_of (world p).named x ≡ types.Array a → (d : List ℕ) → extends p object d ≡ true → IsObjectOf d
      unfolding world
      below_array a same d h =
          let top = (in_order p good).last (name object) (name d) refl h in
          record {
            type = t;
            is = is;
            met = ap (λ t. fits (world p) t (types.Object (name d))) (class ∙ same) ∙ or_left (is_above_arrays (name d)) ((tree p).is_interface (name d)) (is_object (name d) top);
          }

    below_own : (x : Object K) (t : VType) → known (world p) s (Ref (suc n)) ≡ Some t → t ≡ class_of (world p).named x → (d : List ℕ) → extends p (name_of_id p (id_of x)) d ≡ true → IsObjectOf d
    unfolding world
    below_own (Instance i message fields) t is class d h = below_class (Instance i message fields) t is class (name_at p (refs.User i)) refl d h
    below_own (Thrown l message) t is class d h = below_class (Thrown l message) t is class (library.name_of l) refl d h
    below_own (Text units) t is class d h = below_class (Text units) t is class (library.name_of lib.String) refl d h
    below_own (Builder units) t is class d h = below_class (Builder units) t is class (library.name_of lib.StringBuilder) refl d h
    below_own (Piece units) t is class d h = below_class (Piece units) t is class (library.name_of lib.StringBuilder) refl d h
    below_own (Permission l held) t is class d h = below_class (Permission l held) t is class (library.name_of (lib.Permission l)) refl d h
    below_own (Context kept) t is class d h = below_class (Context kept) t is class (library.name_of lib.AccessControlContext) refl d h
    below_own (Thread number) t is class d h = below_class (Thread number) t is class (library.name_of lib.Thread) refl d h
    below_own (Bare l) t is class d h = below_class (Bare l) t is class (library.name_of l) refl d h
    below_own (Array a items) t is class d h = below_array (Array a items) t is class a refl d h

    -- ---- the kinds of calls

    unless_is : (a b : Bool) (t : Target) → IsTarget p s c.ret on t → IsTarget p s c.ret on (unless (or_else (fault_if a wrong_class) (fault_if b no_access)) t)
    unless_is true b t h = tt
    unless_is false true t h = tt
    unless_is false false t h = h

    virtual_is : (full : Bool) (x : Object K) (t : VType) → known (world p) s (Ref (suc n)) ≡ Some t → t ≡ class_of (world p).named x → IsTarget p s c.ret on (by_class (world p) full c x)
    unfolding world
    virtual_is full x t is class = selected_on full (id_of x) kinds.Virtual (below_own x t is class)

    interface_is : (full : Bool) (x : Object K) (t : VType) → known (world p) s (Ref (suc n)) ≡ Some t → t ≡ class_of (world p).named x → IsTarget p s c.ret on (by_interface (world p) full c x)
    unfolding world
    interface_is full x t is class =
        unless_is (not (is_instance (world p) (class_of (world p).named x) (types.Object c.owner))) (is_hidden (world p) (select p (id_of x) c.member kinds.Interface))
        (reached full (select p (id_of x) c.member kinds.Interface)) (selected_on full (id_of x) kinds.Interface (below_own x t is class))

    -- of this class, or of one above it
    module _ (this : ℕ) (object : IsObjectOf (name_at p (refs.User this))) where
      below_this : (d : List ℕ) → extends p (name_at p (refs.User this)) d ≡ true → IsObjectOf d
      unfolding world
      below_this d h =
          let fit = or_right ((tree p).is_interface (name d)) (extends p (name_at p (refs.User this)) d) h in
          record {
            type = object.type;
            is = object.is;
            met = fits_after (tree p) (in_order p good) object.type (types.Object (name (name_at p (refs.User this)))) (types.Object (name d)) (known_value (world p) s (Ref (suc n)) object.type object.is)
                object.met fit;
          }

      own_is : (full : Bool) → is_static p c.member ≡ false → c.owner.0 ≡ name_at p (refs.User this) → IsTarget p s c.ret on (reached full (as_selected p (Some c.member)))
      own_is full static same = reached_is on full (as_selected p (Some c.member))
          (λ m e.
          let found = selected_member p (Some c.member) m e in
          let member = some_member c.member (Method m) found.is in
          let above = subst (λ (n : List ℕ). extends p n (name_at p (refs.User m.class)) ≡ true) same (call.owned m member found.concrete) in
          let stands = method_there p m (call.there m member) in
          given_on (name_at p (refs.User m.class)) m stands found.concrete (sym (ap (name_of p) member), sym (ap (desc_of p) member)) (sym (ap (is_static p) member) ∙ static)
          (below_this (name_at p (refs.User m.class)) above))
          (λ x e.
          let member = some_member c.member (LibMethod x) (selected_library p (Some c.member) x e) in
          let code = itself_coded p (Some c.member) x e in
          let above = subst (λ (n : List ℕ). extends p n (library.name_of (library_calls.owner x)) ≡ true) same (call.library x member code) in
          run_on x code (sym (ap (desc_of p) member)) (sym (ap (is_static p) member) ∙ static) given are n (below_this (library.name_of (library_calls.owner x)) above))

      above_is : (full : Bool) (o : Option ClassRef) → super_at p (refs.User this) ≡ o → IsTarget p s c.ret on (reached full (from_above (world p) c.member o))
      unfolding world
      above_is full None e = tt
      above_is full (Some r) e = selected_on full (class_id r) kinds.Special
          (λ d h. below_this d (extends_chain p good (name_at p (refs.User this)) (name_at p r) d (extends_super p good this r e) (subst (λ (n : List ℕ). extends p n d ≡ true) (id_name p r) h)))

      special_is : (full : Bool) → is_static p c.member ≡ false → IsTarget p s c.ret on (reached full (special (world p) this c))
      unfolding world
      special_is full static = go (bytes_eq c.owner.0 (name_at p (refs.User this))) refl
        where
          go : (b : Bool) → bytes_eq c.owner.0 (name_at p (refs.User this)) ≡ b
              → IsTarget p s c.ret on (reached full (if b then as_selected p (Some c.member) else from_above (world p) c.member (super_at p (refs.User this))))
          go true e = own_is full static (settling.name_is c.owner.0 (name_at p (refs.User this)) e)
          go false e = above_is full (super_at p (refs.User this)) refl

  -- ---- without an object

  static_is_target : (full : Bool) (values : List (Value K)) → AreOf (world p) s c.params values → is_static p c.member ≡ true → IsTarget p s c.ret values (reached full (as_selected p (Some c.member)))
  static_is_target full values h static = reached_is values full (as_selected p (Some c.member))
      (λ m e.
      let found = selected_member p (Some c.member) m e in
      let member = some_member c.member (Method m) found.is in
      let stands = method_there p m (call.there m member) in
      static_given m stands.part stands.info stands.stands stands.declared found.concrete (sym (ap (name_of p) member), sym (ap (desc_of p) member)) (sym (ap (is_static p) member) ∙ static) values h)
      (λ x e.
      let member = some_member c.member (LibMethod x) (selected_library p (Some c.member) x e) in
      run_static x (itself_coded p (Some c.member) x e) (sym (ap (desc_of p) member)) (sym (ap (is_static p) member) ∙ static) values h)

-- ---- all

module _ {K : Type 0} (p : Program) (at : Site) (s : Store K) (good : StandsInOrder p) (coded : AllHaveCode p) (same : at.world ≡ world p) (c : CallMeaning) where
  abbrev Comes : InvokeKind → List (Value K) → Type 0
  Comes by values = (t : Target) × (target at s by c values ≡ Some t) × IsTarget p s c.ret values t

  static_comes : IsCall p how.Static c → (values : List (Value K)) → AllServe (world p) s (arguments c ++ []) values → Comes how.Static values
  unfolding target world
  static_comes call values h =
      let is = static_is_target p s coded how.Static c call refl at.full values (all_are (world p) s c.params values h) call.static in
      (reached at.full (at.world.itself c.member), refl, subst (λ w. IsTarget p s c.ret values (reached at.full (w.itself c.member))) (sym same) is)

  -- calls on an object
  abbrev OnObject : InvokeKind → Name → Type 0
  OnObject by d = (given : List (Value K)) → AreOf (world p) s c.params given → (n : ℕ) → (x : Object K) → (t : VType) → known (world p) s (Ref (suc n)) ≡ Some t → t ≡ class_of (world p).named x
      → fits (world p) t (types.Object d) ≡ true → IsTarget p s c.ret (given ++ Ref (suc n) ∷ []) (on_object at by c x)

  on_virtual : IsCall p how.Virtual c → OnObject how.Virtual c.owner
  on_virtual call given are n x t is class fit =
      subst (λ w. IsTarget p s c.ret (given ++ Ref (suc n) ∷ []) (by_class w at.full c x)) (sym same)
      (virtual_is p s coded how.Virtual c call refl good given are n at.full x t is class)

  on_interface : IsCall p how.Interface c → OnObject how.Interface c.owner
  on_interface call given are n x t is class fit =
      subst (λ w. IsTarget p s c.ret (given ++ Ref (suc n) ∷ []) (by_interface w at.full c x)) (sym same)
      (interface_is p s coded how.Interface c call refl good given are n at.full x t is class)

  on_special : IsCall p how.Special c → OnObject how.Special (at.world.named at.class)
  unfolding world
  on_special call given are n x t is class fit =
      let object : IsA (world p) s (types.Object (name (name_at p (refs.User at.class)))) (Ref (suc n)) = record { type = t; is = is; met = subst (λ (w : World). fits (world p) t (types.Object (w.named at.class)) ≡ true) same fit } in
      subst (λ w. IsTarget p s c.ret (given ++ Ref (suc n) ∷ []) (reached at.full (special w at.class c))) (sym same)
      (special_is p s coded how.Special c call refl good given are n at.class object at.full call.static)

  -- the object behind the arguments
  module _ (by : InvokeKind) (d : Name) (each : OnObject by d) (taken : (values : List (Value K)) → target at s by c values ≡ option_and_then (on_value at s by c) (receiver values)) where
    on_ref : (given : List (Value K)) → AreOf (world p) s c.params given → (n : ℕ) → IsA (world p) s (types.Object d) (Ref n)
        → (t : Target) × (on_value at s by c (Ref n) ≡ Some t) × IsTarget p s c.ret (given ++ Ref n ∷ []) t
    on_ref given are zero h = (Fails null_pointer, refl, tt)
    on_ref given are (suc n) h =
        let x = whole_class (world p) s (object_at s (suc n)) h.type h.is in
        (on_object at by c x.0, ap (option_map (on_object at by c)) x.1, each given are n x.0 h.type h.is x.2 h.met)

    comes : (values : List (Value K)) → AllServe (world p) s (arguments c ++ Fits (types.Object d) ∷ []) values → Comes by values
    comes values h =
        let x = parted (world p) s c.params (Fits (types.Object d)) values h in
        let r = ref_value (world p) s x.last (record { type = x.serves.type; is = x.serves.is; met = ref_fits (world p) d x.serves.type x.serves.met }) in
        let found = on_ref x.given x.are r.0 (subst (λ v. IsA (world p) s (types.Object d) v) r.1 x.serves) in
        let last : values ≡ x.given ++ Ref r.0 ∷ [] = x.is ∙ ap (λ v. x.given ++ v ∷ []) r.1 in
        let is : target at s by c values ≡ Some found.0 =
        taken values ∙ ap (λ vs. option_and_then (on_value at s by c) (receiver vs)) last ∙ ap (option_and_then (on_value at s by c)) (receiver_is x.given (Ref r.0)) ∙ found.1 in
        (found.0, is, subst (λ vs. IsTarget p s c.ret vs found.0) (sym last) found.2)

  by_virtual : (values : List (Value K)) → target at s how.Virtual c values ≡ option_and_then (on_value at s how.Virtual c) (receiver values)
  unfolding target
  by_virtual values = refl

  by_special : (values : List (Value K)) → target at s how.Special c values ≡ option_and_then (on_value at s how.Special c) (receiver values)
  unfolding target
  by_special values = refl

  by_face : (values : List (Value K)) → target at s how.Interface c values ≡ option_and_then (on_value at s how.Interface c) (receiver values)
  unfolding target
  by_face values = refl

pub calls_come : (K : Type 0) → CallsComeTo K
calls_come K p at s how.Static c values good coded same plain call h = static_comes p at s good coded same c call values h
calls_come K p at s how.Virtual c values good coded same plain call h = comes p at s good coded same c how.Virtual c.owner (on_virtual p at s good coded same c call) (by_virtual p at s good coded same c) values h
calls_come K p at s how.Interface c values good coded same plain call h = comes p at s good coded same c how.Interface c.owner (on_interface p at s good coded same c call) (by_face p at s good coded same c) values h
calls_come K p at s how.Special c values good coded same plain call h =
    comes p at s good coded same c how.Special (at.world.named at.class) (on_special p at s good coded same c call) (by_special p at s good coded same c) values h
calls_come K p at s how.Init c values good coded same plain call h = absurd (cc)
