-- The state in which a run begins is typed.
use Rattle.std.proofs.Common.{◌≡◌, ℕ, zero, suc, ◌+◌, inl, arith, Bool, true, false, ◌&&◌, List, [], ◌∷◌, ◌++◌, length, map, reverse, get_or, Option, Some, None, is_some, refl, sym, ap, subst, ◌∙◌}
use Rattle.std.specs.List.{AllByRecursion, position, range_with_len, zip}
use Rattle.std.specs.Prelude.{codes, option_and_then, option_map, slice_get, if◌then◌else◌}
use Rattle.std.specs.Str.{bytes_eq}
use Rattle.std.proofs.lemmas.Slice.Eq.{bytes_eq-Decides}
use Rattle.jclass.specs.FileContents.{IsIn}
use Rattle.jlib.specs.declared.classes.LibClass.TheVariants as lib
use Rattle.jvalues.specs.declared.jops.value.Value.{Value}
use Rattle.jvalues.specs.declared.jops.value.Value.TheVariants.{Ref}
use Rattle.jtypes.specs.declared.vtype.VType.{VType}
use Rattle.jtypes.specs.declared.vtype.VType.TheVariants as types
use Rattle.jresolution.specs.declared.jprogram.part.CodePart.{CodePart}
use Rattle.jresolution.specs.jprogram.ProgramClasses.{Program}
use Rattle.jsemantics.specs.jmachine.FieldInstructions.{out}
use Rattle.jsemantics.specs.jmachine.HeapObjects.{Object, Array, Bare, Text}
use Rattle.jsemantics.specs.jmachine.OpeningState.{arguments_number, arguments_type, constants_of, opening_state, opening_store, strings}
use Rattle.jsemantics.specs.jmachine.Store.{Store, constant_at, object_at}
use Rattle.jsemantics.specs.jmachine.World.{fits, world}
use Rattle.jsoundness_laws.specs.typed.TypedStores.{IsObject, IsStored}
use Rattle.jsoundness_laws.specs.typed.TypedUses.{static_types}
use Rattle.std.proofs.lemmas.List.{reverse-reverse}
use Rattle.std.proofs.lemmas.List.Quantifiers.{position-Some}
use Rattle.std.proofs.lemmas.Option.{slice_get-get_or}
use Rattle.jclass.specs.declared.class.ClassParts.{ClassParts}
use Rattle.jclass.specs.declared.class.CodeBody.{CodeBody}
use Rattle.jclass.specs.declared.class.MemberInfo.{MemberInfo}
use Rattle.jlib.specs.declared.side.Side.{Side}
use Rattle.jlib.specs.declared.side.Side.TheVariants.{Source, Passing}
use Rattle.jlib.specs.LibraryClasses as library
use Rattle.jlib.specs.LibraryClasses.{same_side}
use Rattle.jtypes.specs.Assignability.{array_fits}
use Rattle.jresolution.specs.declared.jprogram.member.MethodId.{MethodId}
use Rattle.jresolution.specs.jprogram.MemberResolution.{is_init, is_main, main_desc, main_of, method_id}
use Rattle.jresolution.specs.jprogram.ProofNames.{main_in}
use Rattle.jresolution.specs.jprogram.ClassFileParts as parts
use Rattle.jresolution.specs.jprogram.ClassFileParts.{member_desc, member_name, this_name}
use Rattle.jresolution.specs.jprogram.OrderedPrograms.{StandsInOrder}
use Rattle.jresolution.proofs.JprogramProofs.ClassHeights.{Stands, Users, Libs, Nowhere, stands}
use Rattle.jresolution.specs.juses.IndexedInstructions.{body_in}
use Rattle.jresolution.specs.juses.DescriptorTypes.{Called, name, typed}
use Rattle.jtyping.specs.jwelltyped.MethodPremises as typing
use Rattle.jtyping.specs.jwelltyped.MethodPremises.{params_of}
use Rattle.jtyping.specs.jwelltyped.ProofNames.{return_of}
use Rattle.jsemantics.specs.jmachine.FrameOperations.{domain_of}
use Rattle.jsemantics.specs.jmachine.Security.{handed}
use Rattle.jsoundness_laws.specs.typed.TypedCalls.{Coded, IsGiven, method, within}
use Rattle.jsoundness_laws.specs.typed.TypedFrames.{AllHave, News}
use Rattle.jsoundness_laws.specs.typed.FrameStacks.{AreStacked}
use Rattle.jsoundness_laws.specs.typed.TypedValues.{AreOf, HasDimensions, IsA}
use Rattle.jsoundness_laws.proofs.TypedProofs.CallTargets.{have_all}
use Rattle.jsoundness_laws.specs.library.LibraryResults.{run_given}
use Rattle.jsoundness_laws.proofs.LibraryProofs.StoreExtension.{is_named}
use Rattle.jsoundness_laws.proofs.LibraryProofs.Orders.{orders}
use Rattle.jsoundness_laws.proofs.LibraryProofs.LibraryCallRows.{a_context}
use Rattle.jsoundness_laws.proofs.LibraryProofs.MemberDescriptors.{main_passed_says, main_says}
use Rattle.jsoundness_laws.proofs.ProgressProofs.ProgramPremises.{IsFounded, founded}
use Rattle.jsoundness_laws.specs.progress.TypedStates.{MainHasCode, OpensTyped}
use Rattle.jsoundness_laws.proofs.ProgressProofs.PushedFrames.{begun_is, frame_stands}
use Rattle.jsoundness_laws.proofs.ProgressProofs.Constants.{AreMade, parts_are}
use Rattle.std.specs.Option.{option_to_list}
use Rattle.jsoundness_laws.proofs.TypedProofs.FrameSubsumption.{both}

some_is : {A : Type 0} (a b : A) → Some a ≡ Some b → a ≡ b
some_is a b e = cc

suc_is : (n : ℕ) → n + 1 ≡ suc n
suc_is n = omega arith

-- ---- the strings that were made

-- the texts from a number on stand at their places
numbered : {K : Type 0} (texts : List (List ℕ)) (a : Object K) (n : ℕ) (c : List ℕ × ℕ) (i : ℕ) → slice_get (zip texts (range_with_len n (length texts))) i ≡ Some c
    → (k : ℕ) × (c.1 ≡ n + k) × ◌≡◌ {A = Option (Object K)} (slice_get (map (λ t. Text (Some t)) texts ++ a ∷ []) k) (Some (Text (Some c.0)))
numbered [] a n c i e = absurd (cc)
numbered (t ∷ texts) a n c zero e =
    let same = some_is (t, n) c e in
    (0, ap (λ (c : List ℕ × ℕ). c.1) (sym same) ∙ zero_more n, ap (λ (c : List ℕ × ℕ). Some (Text (Some c.0))) same)
  where
    zero_more : (n : ℕ) → n ≡ n + 0
    zero_more n = omega arith
numbered (t ∷ texts) a n c (suc i) e = let more = numbered texts a (n + 1) c i e in let same = more.1 in (suc more.0, omega (arith, same), more.2)

found_in : (made : List (List ℕ × ℕ)) (units : List ℕ) (n : ℕ) → constant_at made units ≡ Some n → (c : List ℕ × ℕ) × IsIn c made × (c.0 ≡ units) × (c.1 ≡ n)
found_in [] units n e = absurd (cc)
found_in (c ∷ made) units n e = go (bytes_eq c.0 units) refl (found_in made units n) e
  where
    go : (b : Bool) → bytes_eq c.0 units ≡ b → (constant_at made units ≡ Some n → (d : List ℕ × ℕ) × IsIn d made × (d.0 ≡ units) × (d.1 ≡ n))
        → (if b then Some c.1 else constant_at made units) ≡ Some n → (d : List ℕ × ℕ) × IsIn d (c ∷ made) × (d.0 ≡ units) × (d.1 ≡ n)
    go true is more e = (c, (0, refl), (bytes_eq-Decides c.0 units).0 is, some_is c.1 n e)
    go false is more e = let m = more e in (m.0, (suc m.1.0, m.1.1), m.2, m.3)

module _ (p : Program) (K : Type 0) (heap : ℕ) where
  abbrev begun_store : Store K
  begun_store = opening_store p heap

  told_at : (n k : ℕ) (x : Object K) → n ≡ 2 + k → slice_get (map (λ t. Text (Some t)) (strings p) ++ Array arguments_type [] ∷ []) k ≡ Some x → object_at begun_store n ≡ Some x
  told_at n k x e at = subst (λ n. object_at begun_store n ≡ Some x) (sym (e ∙ two k)) at
    where
      two : (k : ℕ) → 2 + k ≡ suc (suc k)
      two k = omega arith

  constants_are : (c : List ℕ × ℕ) → IsIn c (constants_of (strings p)) → object_at begun_store c.1 ≡ Some (Text (Some c.0))
  constants_are c inside =
      let x = numbered {K = K} (strings p) (Array arguments_type []) (out + 1) c inside.0 inside.1 in
      told_at c.1 x.0 (Text (Some c.0)) x.1 x.2

  made_are : AreMade begun_store (constants_of (strings p))
  made_are units n e =
      let c = found_in (constants_of (strings p)) units n e in
      ap (object_at begun_store) (sym c.3) ∙ constants_are c.0 c.1 ∙ ap (λ (u : List ℕ). Some (Text (Some u))) c.2

  -- ---- objects

  texts_are : (texts : List (List ℕ)) (k : ℕ) (x : Object K) → slice_get (map (λ t. Text (Some t)) texts ++ Array arguments_type [] ∷ []) k ≡ Some x
      → IsObject (world p) begun_store x
  texts_are [] zero x e = subst (IsObject (world p) begun_store) (some_is (Array arguments_type []) x e) ((λ e. cc), tt)
  texts_are [] (suc k) x e = absurd (cc)
  texts_are (t ∷ texts) zero x e = subst (IsObject (world p) begun_store) (some_is (Text (Some t)) x e) tt
  texts_are (t ∷ texts) (suc k) x e = texts_are texts k x e

  objects_are : (n : ℕ) (x : Object K) → object_at begun_store n ≡ Some x → IsObject (world p) begun_store x
  objects_are zero x e = absurd (cc)
  objects_are (suc zero) x e = subst (IsObject (world p) begun_store) (some_is (Bare lib.PrintStream) x e) tt
  objects_are (suc (suc k)) x e = texts_are (strings p) k x e

  pub opening_stored : IsFounded p → IsStored (world p) begun_store (static_types p)
  opening_stored sound = record {
    objects = objects_are;
    statics_of = parts_are p sound.stands begun_store (constants_of (strings p)) made_are p.parts sound.files sound.plain;
    constants = constants_are;
    out_is = refl;
  }

  -- ---- the array that `main` is given

  array_last : (texts : List (List ℕ)) (a : Object K) → slice_get (map (λ t. Text (Some t)) texts ++ a ∷ []) (length texts) ≡ Some a
  array_last [] a = refl
  array_last (t ∷ texts) a = array_last texts a

  array_at : object_at begun_store (arguments_number p) ≡ Some (Array arguments_type [])
  array_at = told_at (arguments_number p) (length (strings p)) (Array arguments_type []) (two (length (strings p))) (array_last (strings p) (Array arguments_type []))
    where
      two : (k : ℕ) → 1 + k + 1 ≡ 2 + k
      two k = omega arith

  array_fits_own : StandsInOrder p → fits (world p) (types.Array arguments_type) (types.Array arguments_type) ≡ true
  unfolding array_fits
  array_fits_own good = (orders p good).own lib.String

  array_is : StandsInOrder p → IsA (world p) begun_store (types.Array arguments_type) (Ref (arguments_number p))
  array_is good = is_named (world p) (static_types p) begun_store (types.Array arguments_type) (arguments_number p) (Array arguments_type []) array_at refl (array_fits_own good)

-- ---- `main`

found_at : (t : MemberInfo → Bool) (ms : List MemberInfo) (j : ℕ) → position t ms ≡ Some j → (m : MemberInfo) × (slice_get ms j ≡ Some m) × (t m ≡ true)
found_at t [] j e = absurd (cc)
found_at t (d ∷ ms) j e = let found = position-Some t (d ∷ ms) j d e in (get_or (d ∷ ms) j d, slice_get-get_or (d ∷ ms) j d found.0, found.1)

some_code : (o : Option CodeBody) → is_some o ≡ true → (body : CodeBody) × (o ≡ Some body)
some_code None e = absurd (cc)
some_code (Some body) e = (body, refl)

module _ (p : Program) (sound : IsFounded p) where
  -- the types that its descriptor says
  main_typed : (side : Side) → p.side ≡ side → typed p (main_desc side) ≡ Called (run_given side ++ types.Array arguments_type ∷ []) None
  main_typed Source is = main_says p sound.stands
  main_typed Passing is = main_passed_says p sound.stands (ap (λ side. library.stands_on side lib.Ctx) is)

  pub record IsMain (m : MethodId) : Type 0 where
    pub coded : Coded p m
    pub static : parts.is_static coded.info.flags ≡ true
    pub says : typed p (member_desc coded.part.class coded.info) ≡ Called (run_given p.side ++ types.Array arguments_type ∷ []) None

  main_info : (i : ℕ) (part : CodePart) → slice_get p.parts i ≡ Some part → (j : ℕ) (info : MemberInfo) → slice_get part.class.methods j ≡ Some info
      → is_main p.side part.class info ≡ true
      → IsMain (method_id i j)
  main_info i part at j info declared e =
      let called = both (parts.is_called part.class (codes "main") (main_desc p.side) info) (parts.is_public_reach (parts.reach_of info.flags) && parts.is_static info.flags && parts.has_code info) e in
      let names = both (bytes_eq (member_name part.class info) (codes "main")) (bytes_eq (member_desc part.class info) (main_desc p.side)) called.0 in
      let rest = both (parts.is_public_reach (parts.reach_of info.flags) && parts.is_static info.flags) (parts.has_code info) called.1 in
      let body = some_code (parts.code_of info) rest.1 in
      record {
        coded = record { part = part; info = info; body = body.0; stands = at; declared = declared; code = body.1 };
        static = (both (parts.is_public_reach (parts.reach_of info.flags)) (parts.is_static info.flags) rest.0).1;
        says = ap (typed p) ((bytes_eq-Decides (member_desc part.class info) (main_desc p.side)).0 names.1) ∙ main_typed p.side refl;
      }

  of_position : (i : ℕ) (part : CodePart) → slice_get p.parts i ≡ Some part → (m : MethodId) (o : Option ℕ) → position (is_main p.side part.class) part.class.methods ≡ o
      → option_map (method_id i) o ≡ Some m → IsMain m
  of_position i part at m None is e = absurd (cc)
  of_position i part at m (Some j) is e =
      let x = found_at (is_main p.side part.class) part.class.methods j is in
      subst IsMain (same_method (method_id i j) m e) (main_info i part at j x.0 x.1 x.2)
    where
      same_method : (a b : MethodId) → Some a ≡ Some b → a ≡ b
      same_method a b e = cc

  pub main_is : (text : List ℕ) (m : MethodId) → main_of p text ≡ Some m → IsMain m
  unfolding main_of
  main_is text m e = by (stands p text)
    where
      by : Stands p text → IsMain m
      by (Users i part at own is) = of_position i part at m (position (is_main p.side part.class) part.class.methods) refl (sym (ap (main_in p.side) is) ∙ e)
      by (Libs l named is) = let no : None ≡ Some m = sym (ap (main_in p.side) is) ∙ e in absurd (cc)
      by (Nowhere none) = let no : None ≡ Some m = sym (ap (main_in p.side) none) ∙ e in absurd (cc)

  dimensions_main : (side : Side) → AllByRecursion HasDimensions (run_given side ++ types.Array arguments_type ∷ [])
  dimensions_main Source = ((λ e. cc), tt)
  dimensions_main Passing = (tt, ((λ e. cc), tt))

  are_last : {K : Type 0} (s : Store K) (ts : List VType) (vs : List (Value K)) (t : VType) (v : Value K) → AreOf (world p) s ts vs → IsA (world p) s t v
      → AreOf (world p) s (ts ++ t ∷ []) (vs ++ v ∷ [])
  are_last s [] [] t v are is = (is, tt)
  are_last s [] (u ∷ vs) t v are is = absurd are
  are_last s (a ∷ ts) [] t v are is = absurd are
  are_last s (a ∷ ts) (u ∷ vs) t v are is = (are.0, are_last s ts vs t v are.1 is)

  pub main_may : {K : Type 0} (s : Store K) (m : MethodId) (x : IsMain m) (vs : List (Value K)) (n : ℕ) → AreOf (world p) s (run_given p.side) vs
      → IsA (world p) s (types.Array arguments_type) (Ref n)
      → IsGiven p s m None (vs ++ Ref n ∷ [])
  main_may s m x vs n are is =
      let ps = run_given p.side ++ types.Array arguments_type ∷ [] in
      let begins = is_init x.coded.part.class x.coded.info in
      let params : (method p m x.coded).params ≡ reverse ps =
      ap (λ b. typing.receiver b begins (name (this_name x.coded.part.class)) ++ params_of (typed p (member_desc x.coded.part.class x.coded.info))) x.static ∙ ap params_of x.says in
      let here = within p (method p m x.coded) in
      let news : News = record { made = λ o. 0; this = 0 } in
      record {
        coded = x.coded;
        news = news;
        given = subst (λ ts. AllHave (world p) s here news ts (vs ++ Ref n ∷ [])) (sym (ap reverse params ∙ reverse-reverse ps))
            (have_all (world p) s here news ps (vs ++ Ref n ∷ []) (dimensions_main p.side) (are_last s (run_given p.side) vs (types.Array arguments_type) (Ref n) are is));
        returns = ap return_of x.says;
      }

-- it has code
pub main_has_code : MainHasCode
main_has_code p text m sound found =
    let x = (main_is p (founded p sound) text m found).coded in
    ap is_some (ap (λ o. option_and_then (λ (c : ClassParts). body_in c m.method) (option_map (λ (part : CodePart). part.class) o)) x.stands
    ∙ ap (option_and_then parts.code_of) x.declared ∙ x.code)

handed_first : {K : Type 0} (p : Program) (s : Store K) (side : Side) (o : Option K) → is_some o ≡ same_side side Passing → AreOf (world p) s (run_given side) (handed side o)
handed_first p s Source o e = tt
handed_first p s Passing None e = absurd (cc)
handed_first p s Passing (Some k) e = (a_context (world p) s k, tt)

pub opens_typed : (K E : Type 0) → OpensTyped K E
unfolding opening_state main_is main_may
opens_typed K E r p text m heap sound_program on_side sided found =
    let sound = founded p sound_program in
    let s = begun_store p K heap in
    let x = main_is p sound text m found in
    let vs = handed r.side r.first in
    let are = subst (λ side. AreOf (world p) s (run_given side) vs) on_side (handed_first p s r.side r.first sided.first) in
    let given = main_may p sound s m x vs (arguments_number p) are (array_is p K heap sound.stands) in
    let entry = r.entry_of (domain_of p m) in
    let arguments = vs ++ Ref (arguments_number p) ∷ [] in
    let frames = sym (ap option_to_list (begun_is p m x.coded entry arguments)) in
    record {
      stored = opening_stored p K heap sound;
      threads = ((subst (AreStacked p s) frames (frame_stands p sound s m None entry arguments given, tt), inl refl), tt);
      count = refl;
    }
