-- A method of the moved program, as typing sees it: with the context as one more parameter, and all else as it was.
use Rattle.std.proofs.Common.{◌≡◌, ℕ, Bool, true, false, List, [], ◌∷◌, ◌++◌, reverse, Option, Some, None, refl, sym, ap, ◌∙◌}
use Rattle.std.specs.Prelude.{IsTrue, ◌||◌, ◌&&◌, not, is_some, option_and_then, slice_get, if◌then◌else◌}
use Rattle.std.specs.List.{list_any}
use Rattle.std.specs.Str.{bytes_eq}
use Rattle.std.specs.Option.{option_to_list}
use Rattle.std.proofs.lemmas.List.{reverse-append}
use Rattle.jground.specs.jbase.ListMaps.{each_some}
use Rattle.jparts.specs.declared.jpool.descriptor.Descriptor.TheVariants as descriptors
use Rattle.jparts.specs.declared.jpool.descriptor.FieldType.{FieldType}
use Rattle.jparts.specs.jpool.Descriptors.{descriptor_of}
use Rattle.jclass.specs.declared.class.ClassParts.{ClassParts}
use Rattle.jclass.specs.declared.class.CodeBody.{CodeBody}
use Rattle.jclass.specs.declared.class.MemberInfo.{MemberInfo}
use Rattle.jtypes.specs.declared.vtype.Name.{Name}
use Rattle.jtypes.specs.declared.vtype.VType.{VType}
use Rattle.jtypes.specs.declared.vtype.VType.TheVariants.{Ctx}
use Rattle.jlinking.specs.jmembers.MemberDeclarations.{desc_left_out, desc_missing, param_left_out, text_left_out, text_missing, type_missing}
use Rattle.jlinking.specs.ProofNames.{return_left_out, return_missing}
use Rattle.jmoveclass.specs.MovedMembers.{new_desc}
use Rattle.jmoveclass.specs.MovedClasses.{moved_class}
use Rattle.jrewriting.proofs.JmoveclassLawsProofs.MovedMethods.{Like}
use Rattle.jrewriting.proofs.JmoveclassLawsProofs.Texts.{good_types}
use Rattle.jresolution.specs.declared.jprogram.part.CodePart.{CodePart}
use Rattle.jresolution.specs.jprogram.ProgramClasses.{Program, find}
use Rattle.jresolution.specs.jprogram.MemberResolution.{init, is_init}
use Rattle.jresolution.specs.jprogram.NameChecks.{is_reserved}
use Rattle.jresolution.specs.jprogram.ClassFileParts.{is_static, member_desc, member_name, super_name, this_name}
use Rattle.jrewriting.specs.jrewrite.LinkageLaws.{IsLinked}
use Rattle.jrewriting.specs.jrewrite.RewrittenPrograms.{limits, moved}
use Rattle.jrewriting.proofs.JrewriteProofs.DeclarationChecks.{Facts, desc_is, first_false, name_same, second_false}
use Rattle.jrewriting.proofs.JrewriteProofs.ClassLookup.{above_same}
use Rattle.jrewriting.proofs.JrewriteProofs.MemberPhase.{moving_of}
use Rattle.jrewriting.proofs.JrewriteProofs.MovableClasses.{tested_at}
use Rattle.jrewriting.proofs.JrewriteProofs.FinalOverrides.{moved_side}
use Rattle.jrewriting.proofs.JrewriteProofs.Params.{desc_free}
use Rattle.jrewriting.proofs.JrewriteProofs.PlainPrograms.{is_plain}
use Rattle.jrewriting.proofs.JrewriteProofs.Security.{IsPassing}
use Rattle.jrewriting.proofs.JrewriteProofs.HierarchyPhases.{AllPlain, IsPlain, missing_name, names_stay, plain_above, plain_at}
use Rattle.jrewriting.proofs.JrewriteProofs.InitialLocals.{are_there, return_some}
use Rattle.jrewriting.proofs.JrewriteProofs.PoolAdditions.{known_of}
use Rattle.jtyping.specs.jwelltyped.MethodPremises.{Method, method_of, params_of, receiver}
use Rattle.jtyping.specs.jwelltyped.ProofNames.{return_of}
use Rattle.jtyping.specs.jwelltyped.VerifierTests.{WellTyped}
use Rattle.jresolution.specs.juses.DescriptorTypes.{Called, Typed, called, name, return_in, there, type_in, typed, typed_as}
use Rattle.jmoved_laws.proofs.CodeProofs.Types.{typed_handed}
use Rattle.jmoved_laws.proofs.TypesProofs.MethodPrologue.{joined}

same_not : (a b : Bool) → not a ≡ not b → a ≡ b
same_not true true h = refl
same_not true false h = absurd cc
same_not false true h = absurd cc
same_not false false h = refl

there_same : (p : Program) → IsPlain p → (text : List ℕ) → is_reserved text ≡ false → there (moved p) text ≡ there p text
there_same p is text plain = ap (λ (b : Bool). if b then Some (name text) else None)
    (same_not (is_some (find (moved p) text)) (is_some (find p text)) (missing_name p is text plain))

above_there : (p : Program) → IsPlain p → (o : Option (List ℕ)) → AllPlain (option_to_list o) → option_and_then (there (moved p)) o ≡ option_and_then (there p) o
above_there p is None plain = refl
above_there p is (Some text) plain = there_same p is text plain.0

some_is : {A : Type 0} (o : Option A) → IsTrue (is_some o) → (x : A) × (o ≡ Some x)
some_is None h = absurd cc
some_is (Some x) h = (x, refl)

-- what a method's descriptor says
pub record Says (p : Program) (c : ClassParts) (m : MemberInfo) : Type 0 where
  pub ps : List FieldType
  pub ret : Option FieldType
  pub reads : descriptor_of (member_desc c m) ≡ Some (descriptors.Method ps ret)
  pub params : List VType
  pub back : Option VType
  pub are : each_some (type_in p) ps ≡ Some params
  pub types : typed p (member_desc c m) ≡ Called (reverse params) back

module _ (p : Program) (is : IsLinked p) (well : WellTyped p) (free : limits p ≡ None) (i : ℕ) (part : CodePart) (at : slice_get p.parts i ≡ Some part) (j : ℕ) (m : MemberInfo)
    (in_class : slice_get part.class.methods j ≡ Some m) where
  abbrev c : ClassParts
  c = part.class

  abbrev d : ClassParts
  d = moved_class p part.domain part.class

  abbrev q : Program
  q = moved p

  plainly : IsPlain p
  plainly = is_plain p is

  passing : IsPassing (moved p)
  passing = record { side = moved_side p; names = names_stay p (is_plain p is) }

  facts : Facts part.class m
  facts = (moving_of p is well free i part at).0.facts m (j, in_class)

  pub says : Says p part.class m
  unfolding text_left_out text_missing typed
  says =
      let f = facts in
      let test = tested_at p i j part m is.links at in_class in
      let good = good_types (member_desc part.class m) f.ps f.ret f.old in
      let kept : (list_any param_left_out f.ps || return_left_out f.ret) ≡ false = sym (ap desc_left_out f.old) ∙ test.kept in
      let here : (list_any (type_missing p) f.ps || return_missing p f.ret) ≡ false = sym (ap (desc_missing p) f.old) ∙ test.here in
      let are = are_there p f.ps good.0 (first_false (list_any (type_missing p) f.ps) (return_missing p f.ret) here)
      (first_false (list_any param_left_out f.ps) (return_left_out f.ret) kept) in
      let back = some_is (return_in p f.ret) (return_some p f.ret good.1 (second_false (list_any (type_missing p) f.ps) (return_missing p f.ret) here)
      (second_false (list_any param_left_out f.ps) (return_left_out f.ret) kept)) in
      record {
        ps = f.ps;
        ret = f.ret;
        reads = f.old;
        params = are.values;
        back = back.0;
        are = are.are;
        types = ap (typed_as p) f.old ∙ ap (λ (o : Option (List VType)). called o (return_in p f.ret)) are.are ∙ ap (called (Some are.values)) back.1;
      }

  new_types : typed (moved p) (new_desc part.class m) ≡ Called (Ctx ∷ reverse says.params) says.back
  new_types =
      let f = facts in
      typed_handed p plainly passing (member_desc part.class m) (new_desc part.class m) f.ps f.ret f.old f.new (desc_free p is i part m at (j, in_class))
      (reverse says.params) says.back says.types

  -- ---- the method

  module _ (n : MemberInfo) (like : Like part.class (moved_class p part.domain part.class).pool m n) (b now : CodeBody) where
    abbrev x : Method
    x = method_of p part.class m b

    init_same : is_init (moved_class p part.domain part.class) n ≡ is_init part.class m
    init_same =
        let k = (moving_of p is well free i part at).0 in
        ap (λ (t : List ℕ). bytes_eq t init && not (is_static n.flags)) (name_same part.class (moved_class p part.domain part.class) m n k (j, in_class) like)
        ∙ ap (λ (f : _). bytes_eq (member_name part.class m) init && not (is_static f)) like.flags

    class_same : name (this_name (moved_class p part.domain part.class)) ≡ name (this_name part.class)
    class_same = ap name (known_of p is well free i part at).pair.this

    above_there_same : option_and_then (there (moved p)) (super_name (moved_class p part.domain part.class)) ≡ option_and_then (there p) (super_name part.class)
    above_there_same =
        let plain = plain_at p plainly i part at in
        ap (option_and_then (there (moved p))) (above_same p part.domain part.class plain.named) ∙ above_there p plainly (super_name part.class) (plain_above part.class plain)

    desc_typed : typed (moved p) (member_desc (moved_class p part.domain part.class) n) ≡ Called (Ctx ∷ reverse says.params) says.back
    desc_typed = ap (typed (moved p)) (desc_is part.class (moved_class p part.domain part.class) m n like) ∙ new_types

    params_new : params_of (typed (moved p) (member_desc (moved_class p part.domain part.class) n)) ≡ params_of (typed p (member_desc part.class m)) ++ Ctx ∷ []
    params_new =
        ap params_of desc_typed ∙ reverse-append (Ctx ∷ []) (reverse says.params) ∙ ap (λ (t : Typed). params_of t ++ Ctx ∷ []) (sym says.types)

    returns_new : return_of (typed (moved p) (member_desc (moved_class p part.domain part.class) n)) ≡ return_of (typed p (member_desc part.class m))
    returns_new = ap return_of desc_typed ∙ ap return_of (sym says.types)

    all_params : (method_of (moved p) (moved_class p part.domain part.class) n now).params ≡ x.params ++ Ctx ∷ []
    all_params =
        let dd = moved_class p part.domain part.class in
        ap (λ (f : _). receiver (is_static f) (is_init dd n) (name (this_name dd)) ++ params_of (typed (moved p) (member_desc dd n))) like.flags
        ∙ ap (λ (v : Bool). receiver (is_static m.flags) v (name (this_name dd)) ++ params_of (typed (moved p) (member_desc dd n))) init_same
        ∙ ap (λ (v : Name). receiver (is_static m.flags) (is_init part.class m) v ++ params_of (typed (moved p) (member_desc dd n))) class_same
        ∙ ap (λ (v : List VType). receiver (is_static m.flags) (is_init part.class m) (name (this_name part.class)) ++ v) params_new
        ∙ sym (joined (receiver (is_static m.flags) (is_init part.class m) (name (this_name part.class))) (params_of (typed p (member_desc part.class m))) (Ctx ∷ []))

    pub method_is : record {
      class = x.class;
      above = x.above;
      is_init = x.is_init;
      params = x.params ++ Ctx ∷ [];
      returns = x.returns;
      pool = (moved_class p part.domain part.class).pool;
      body = now;
    }
        ≡ method_of (moved p) (moved_class p part.domain part.class) n now
    method_is =
        let dd = moved_class p part.domain part.class in
        let y = method_of (moved p) dd n now in
        ap (λ (v : Name). record { class = v; above = x.above; is_init = x.is_init; params = x.params ++ Ctx ∷ []; returns = x.returns; pool = dd.pool; body = now })
        (sym class_same)
        ∙ ap (λ (v : Option Name). record { class = y.class; above = v; is_init = x.is_init; params = x.params ++ Ctx ∷ []; returns = x.returns; pool = dd.pool; body = now })
        (sym above_there_same)
        ∙ ap (λ (v : Bool). record { class = y.class; above = y.above; is_init = v; params = x.params ++ Ctx ∷ []; returns = x.returns; pool = dd.pool; body = now })
        (sym init_same)
        ∙ ap (λ (v : List VType). record { class = y.class; above = y.above; is_init = y.is_init; params = v; returns = x.returns; pool = dd.pool; body = now }) (sym all_params)
        ∙ ap (λ (v : Option VType). record { class = y.class; above = y.above; is_init = y.is_init; params = y.params; returns = v; pool = dd.pool; body = now }) (sym returns_new)
