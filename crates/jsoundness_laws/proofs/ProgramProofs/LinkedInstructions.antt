-- What linking says of an instruction at its place.
use Rattle.std.proofs.Common.{◌≡◌, ◌∙◌, ℕ, ℤ, Bool, true, false, ◌||◌, List, ◌∷◌, Option, Some, None, refl, sym, ap, subst}
use Rattle.std.specs.Prelude.{IsTrue, is_some, option_and_then, option_map, slice_get, if◌then◌else◌}
use Rattle.std.specs.List.{list_any}
use Rattle.std.specs.Str.{bytes_eq}
use Rattle.jparts.specs.declared.jcode.op_form.ArrayForm.{ArrayForm}
use Rattle.jparts.specs.declared.jcode.op_form.ArrayForm.TheVariants as arrays
use Rattle.jparts.specs.declared.jcode.op_form.Flow.{Flow}
use Rattle.jparts.specs.declared.jcode.op_form.Flow.TheVariants as flows
use Rattle.jparts.specs.declared.jcode.op_form.OpForm.{OpForm}
use Rattle.jparts.specs.declared.jcode.op_form.OpForm.TheVariants as forms
use Rattle.jparts.specs.declared.jcode.op_form.PoolForm.{PoolForm}
use Rattle.jparts.specs.declared.jcode.op_form.PoolForm.TheVariants as pool
use Rattle.jparts.specs.declared.jcode.names.CallOp.TheVariants as ops
use Rattle.jparts.specs.declared.jcode.op.Placed.{Placed}
use Rattle.jparts.specs.declared.jcode.op.Switch.{Switch as SwitchOp}
use Rattle.jparts.specs.jcode.InstructionForms.{form}
use Rattle.jclass.specs.declared.class.ClassParts.{ClassParts}
use Rattle.jclass.specs.Class.{class_file}
use Rattle.jtypes.specs.declared.vtype.Name.{Name}
use Rattle.jtypes.specs.declared.vtype.VType.{VType}
use Rattle.jtypes.specs.declared.vtype.VType.TheVariants as types
use Rattle.jresolution.specs.declared.jprogram.member.MethodId.{MethodId}
use Rattle.jresolution.specs.jprogram.ProgramClasses.{Program, above, above_name, extends, find, object, onward, ref_of, up}
use Rattle.jresolution.specs.jprogram.ClassFileParts.{super_name, this_name}
use Rattle.jresolution.specs.jprogram.OrderedPrograms.{StandsInOrder}
use Rattle.jresolution.proofs.JprogramProofs.SuperclassOrder.{up_is}
use Rattle.jresolution.proofs.JprogramProofs.ImplementationRows.{found_part, own_place}
use Rattle.jresolution.proofs.JprogramProofs.NameReachability.{name_equal, or_right}
use Rattle.jresolution.specs.declared.juses.meaning.InvokeKind.TheVariants as how
use Rattle.jresolution.specs.juses.IndexedInstructions.{Array, Instruction, Jump, Local, Return, Simple, Stack, Switch, Throw, Used, Test, If, IfInt, IfRef, Always, by_form, cases}
use Rattle.jresolution.specs.ProofNames.{array, array_made, made}
use Rattle.jresolution.specs.juses.IndexedInstructions.{default, flow, instruction, instruction_at, jump, target}
use Rattle.jresolution.specs.juses.InstructionMeanings as meanings
use Rattle.jresolution.specs.juses.InstructionMeanings.{AClass, AConstant, AField, AMethod, EntryMeaning, Meaning, array_meant, entry_meant, index_of, meant, used}
use Rattle.jresolution.specs.juses.DescriptorTypes.{array_over, name, there}
use Rattle.jlinking.specs.declared.jreferring.judged.Judged.{Judged}
use Rattle.jlinking.specs.jreferring.PoolEntryMeanings.{judge_pool}
use Rattle.jlinking.specs.jreferring.CodeUnits.{form_test, pool_test}
use Rattle.jtyping.specs.jrule.InstructionContext.{Here}
use Rattle.jtyping.specs.jwelltyped.MethodPremises as methods
use Rattle.jtyping.specs.jwelltyped.MethodPremises.{here_of, made_in}
use Rattle.jtyping.specs.jwelltyped.ProofNames.{made_by}
use Rattle.jlinking.specs.jlink.ProgramFiles.{AreFiles}
use Rattle.jlinking.specs.jlink.LinkedPrograms.{Links}
use Rattle.jlinking.specs.jlink.ClassOrder.{in_order}
use Rattle.jlinking.proofs.JlinkProofs.CodeMeanings.{IsCoded, at_code}
use Rattle.jlinking.proofs.JlinkProofs.FieldResolution.{named}
use Rattle.jlinking.proofs.JlinkProofs.PresentValues.{map_is, then_is}
use Rattle.jlinking.proofs.JlinkProofs.ResolvedReferences.{class_none, code_none, op_form_none, op_none}
use Rattle.jsoundness_laws.specs.typed.TypedCalls.{Coded, IsAboveHere, method}
use Rattle.jsoundness_laws.specs.progress.SoundPrograms.{IsSaid}
use Rattle.jsoundness_laws.proofs.ProgramProofs.Calls.{init_call_is, interface_is, special_is, static_is, virtual_is}
use Rattle.jsoundness_laws.proofs.ProgramProofs.Codes.{found_at}
use Rattle.jsoundness_laws.proofs.ProgramProofs.Entries.{IsClassEntry, call_entry_is, class_entry_is, field_entry_is}
use Rattle.jsoundness_laws.proofs.ProgramProofs.Fields.{field_is}
use Rattle.jsoundness_laws.proofs.ProgramProofs.LinkedClasses.{array_is, cast_is, laid, object_there}

-- ---- the class above

or_left : (a b : Bool) → a ≡ true → (a || b) ≡ true
or_left true b e = refl
or_left false b e = absurd cc

-- the class that is named above a class is one that it extends
named_above : (p : Program) → StandsInOrder p → (c a : List ℕ) → above_name p c ≡ Some a → extends p c a ≡ true
unfolding extends
named_above p good c a e =
    let first : list_any (bytes_eq a) (up p a) ≡ true = subst (λ (xs : List (List ℕ)). list_any (bytes_eq a) xs ≡ true) (sym (up_is p good a))
    (or_left (bytes_eq a a) (list_any (bytes_eq a) (onward (up p) (above_name p a))) (name_equal a)) in
    let chain : up p c ≡ c ∷ up p a = up_is p good c ∙ ap (λ (o : Option (List ℕ)). c ∷ onward (up p) o) e in
    let both : list_any (bytes_eq a) (up p c) ≡ true = subst (λ (xs : List (List ℕ)). list_any (bytes_eq a) xs ≡ true) (sym chain)
    (or_right (bytes_eq a c) (list_any (bytes_eq a) (up p a)) first) in
    or_right (bytes_eq a object) (list_any (bytes_eq a) (up p c)) both

there_name : (p : Program) (a : List ℕ) (d : Name) → there p a ≡ Some d → name a ≡ d
there_name p a d e = by (is_some (find p a)) e
  where
    by : (b : Bool) → (if b then Some (name a) else None) ≡ Some d → name a ≡ d
    by true h = cc
    by false h = absurd cc

-- ---- an instruction

module _ (p : Program) (links : Links p) (files : AreFiles p) (m : MethodId) (x : Coded p m) (n : ℕ) (o : Placed) (placed : slice_get x.body.ops n ≡ Some o) where
  abbrev c : ClassParts
  c = x.part.class

  abbrev here : Here
  here = here_of p (method p m x) o.at

  abbrev table : List Judged
  table = judge_pool p c

  fit : IsTrue (class_file.fits c)
  fit = files m.class x.part x.stands

  abbrev is_coded : IsCoded p m x.body
  is_coded = record { part = x.part; stands = x.stands; method = x.info; declared = x.declared; coded = x.code }

  test : form_test table (form o.op) ≡ None
  test =
      let fault = class_none p m.class x.part (code_none p links.rules) x.stands in
      op_form_none table o (op_none p m.class c m.method x.info x.body n o fault x.declared x.code placed)

  pub at_number : instruction_at p m n ≡ instruction p c.pool x.body.ops o
  at_number = at_code p m x.body n is_coded ∙ ap (option_and_then (instruction p c.pool x.body.ops)) placed

  above_is : IsAboveHere p here
  above_is d e =
      let good = in_order p links in
      let a = then_is (there p) (super_name c) d e in
      let over : above_name p (this_name c) ≡ Some a.0 =
      ap (option_and_then above) (found_part p good (this_name c) m.class x.part (own_place p good m.class x.part x.stands) x.stands) ∙ a.1 in
      ap (λ (y : Name). extends p (this_name c) y.0) (sym (there_name p a.0 d a.2)) ∙ named_above p good (this_name c) a.0 over

  abbrev Said : Meaning → Type 0
  Said u = IsSaid p here (Used u)

  -- ---- a class of which an object is made

  makes_is : (k : ℕ) (d : Name) → form o.op ≡ forms.Pool (pool.New k) → meant p c.pool (pool.New k) ≡ Some (meanings.Make d) → made_in p c.pool x.body.ops o.at ≡ Some d
  unfolding made_in
  makes_is k d is means =
      ap (option_and_then (λ (one : Placed). methods.made p c.pool (form one.op))) (found_at c x.info x.body n o fit (m.method, x.declared) x.code placed)
      ∙ ap (λ (g : OpForm SwitchOp). methods.made p c.pool g) is ∙ ap made_by means

  new_is : (k : ℕ) (t : VType) (u : Meaning) → made (AClass t) ≡ Some u → IsClassEntry p c.pool (slice_get c.pool k) t → form o.op ≡ forms.Pool (pool.New k)
      → meant p c.pool (pool.New k) ≡ Some u → Said u
  new_is k (types.Object d) u e r is means =
      let same : meanings.Make d ≡ u = cc in
      let found = object_there p r.text d r.says in
      subst Said same (record {
        class = ref_of found.class;
        found = ap (option_map ref_of) found.found;
        laid = laid p links files found.class;
        makes = makes_is k d is (means ∙ ap (λ (v : Meaning). Some v) (sym same));
      })
  new_is k types.Top u e r is means = absurd cc
  new_is k types.Int u e r is means = absurd cc
  new_is k types.Long u e r is means = absurd cc
  new_is k types.Null u e r is means = absurd cc
  new_is k types.UninitThis u e r is means = absurd cc
  new_is k (types.Uninit at) u e r is means = absurd cc
  new_is k (types.Array a) u e r is means = absurd cc
  new_is k types.Ctx u e r is means = absurd cc

  -- ---- by an entry of the pool

  numbered : (u : Meaning) → instruction p c.pool x.body.ops o ≡ Some (Used u) → instruction_at p m n ≡ Some (Used u)
  numbered u e = at_number ∙ e

  used_is : (g : PoolForm) (e : EntryMeaning) (u : Meaning) → used g e ≡ Some u → entry_meant p c.pool (slice_get c.pool (index_of g)) ≡ Some e → pool_test table g ≡ None
      → form o.op ≡ forms.Pool g → meant p c.pool g ≡ Some u → instruction p c.pool x.body.ops o ≡ Some (Used u) → Said u
  used_is (pool.Field op k) (AField f) u e entry none is means inst =
      let same : meanings.Field op f ≡ u = cc in
      let field = named p m n op f links (numbered (meanings.Field op f) (inst ∙ ap (λ (v : Meaning). Some (Used v)) (sym same))) in
      subst Said same (field_is p links m.class x.part x.stands op f k (field_entry_is p c.pool (slice_get c.pool k) f entry) field none)
  used_is (pool.Call ops.Virtual k) (AMethod begun d) u e entry none is means inst =
      let same : meanings.Call how.Virtual d ≡ u = cc in
      subst Said same (virtual_is p links files c k begun d (call_entry_is p c.pool (slice_get c.pool k) begun d entry) none)
  used_is (pool.Call ops.Static k) (AMethod begun d) u e entry none is means inst =
      let same : meanings.Call how.Static d ≡ u = cc in
      subst Said same (static_is p links files c k begun d (call_entry_is p c.pool (slice_get c.pool k) begun d entry) none)
  used_is (pool.Call ops.Special k) (AMethod true d) u e entry none is means inst =
      let same : meanings.Call how.Init d ≡ u = cc in
      subst Said same (above_is, init_call_is p links files c k true d (call_entry_is p c.pool (slice_get c.pool k) true d entry) refl none)
  used_is (pool.Call ops.Special k) (AMethod false d) u e entry none is means inst =
      let same : meanings.Call how.Special d ≡ u = cc in
      subst Said same (special_is p links files c k false d (call_entry_is p c.pool (slice_get c.pool k) false d entry) refl none)
  used_is (pool.CallInterface k slots) (AMethod begun d) u e entry none is means inst =
      let same : meanings.Call how.Interface d ≡ u = cc in
      subst Said same (interface_is p links files c k begun d (call_entry_is p c.pool (slice_get c.pool k) begun d entry) slots none)
  used_is (pool.New k) (AClass t) u e entry none is means inst = new_is k t u e (class_entry_is p c.pool (slice_get c.pool k) t entry) is means
  used_is (pool.Cast op k) (AClass t) u e entry none is means inst =
      let same : meanings.Cast op t ≡ u = cc in
      subst Said same (cast_is p c k t (class_entry_is p c.pool (slice_get c.pool k) t entry) none)
  used_is (pool.Constant k) (AConstant (meanings.Int i)) u e entry none is means inst =
      let same : meanings.Push (meanings.Int i) ≡ u = cc in
      subst Said same tt
  used_is (pool.Constant k) (AConstant (meanings.Text t)) u e entry none is means inst =
      let same : meanings.Push (meanings.Text t) ≡ u = cc in
      subst Said same tt
  used_is (pool.LongConstant k) (AConstant (meanings.Long i)) u e entry none is means inst =
      let same : meanings.Push (meanings.Long i) ≡ u = cc in
      subst Said same tt
  used_is (pool.Constant k) (AConstant (meanings.Long i)) u e entry none is means inst = absurd cc
  used_is (pool.Constant k) (AClass t) u e entry none is means inst = absurd cc
  used_is (pool.Constant k) (AField f) u e entry none is means inst = absurd cc
  used_is (pool.Constant k) (AMethod begun d) u e entry none is means inst = absurd cc
  used_is (pool.LongConstant k) (AConstant (meanings.Int i)) u e entry none is means inst = absurd cc
  used_is (pool.LongConstant k) (AConstant (meanings.Text t)) u e entry none is means inst = absurd cc
  used_is (pool.LongConstant k) (AClass t) u e entry none is means inst = absurd cc
  used_is (pool.LongConstant k) (AField f) u e entry none is means inst = absurd cc
  used_is (pool.LongConstant k) (AMethod begun d) u e entry none is means inst = absurd cc
  used_is (pool.Field op k) (AConstant f) u e entry none is means inst = absurd cc
  used_is (pool.Field op k) (AClass t) u e entry none is means inst = absurd cc
  used_is (pool.Field op k) (AMethod begun d) u e entry none is means inst = absurd cc
  used_is (pool.Call op k) (AConstant f) u e entry none is means inst = absurd cc
  used_is (pool.Call op k) (AClass t) u e entry none is means inst = absurd cc
  used_is (pool.Call op k) (AField f) u e entry none is means inst = absurd cc
  used_is (pool.CallInterface k slots) (AConstant f) u e entry none is means inst = absurd cc
  used_is (pool.CallInterface k slots) (AClass t) u e entry none is means inst = absurd cc
  used_is (pool.CallInterface k slots) (AField f) u e entry none is means inst = absurd cc
  used_is (pool.New k) (AConstant f) u e entry none is means inst = absurd cc
  used_is (pool.New k) (AField f) u e entry none is means inst = absurd cc
  used_is (pool.New k) (AMethod begun d) u e entry none is means inst = absurd cc
  used_is (pool.Cast op k) (AConstant f) u e entry none is means inst = absurd cc
  used_is (pool.Cast op k) (AField f) u e entry none is means inst = absurd cc
  used_is (pool.Cast op k) (AMethod begun d) u e entry none is means inst = absurd cc

  pool_is : (g : PoolForm) (u : Meaning) → meant p c.pool g ≡ Some u → pool_test table g ≡ None → form o.op ≡ forms.Pool g
      → instruction p c.pool x.body.ops o ≡ Some (Used u) → Said u
  unfolding meant
  pool_is g u means none is inst =
      let e = then_is (used g) (entry_meant p c.pool (slice_get c.pool (index_of g))) u means in
      used_is g e.0 u e.2 e.1 none is means inst

  -- ---- all

  abbrev Says : Instruction → Type 0
  Says i = IsSaid p here i

  row_is : (e : EntryMeaning) (u : Meaning) → array_made e ≡ Some u → Said u
  row_is (AClass t) u e =
      let r = map_is meanings.MakeArray (array_over t) u e in
      subst Said r.2 (array_is t r.0 r.1)
  row_is (AConstant k) u e = absurd cc
  row_is (AField f) u e = absurd cc
  row_is (AMethod begun d) u e = absurd cc

  array_says : (g : ArrayForm) (i : Instruction) → array p c.pool g ≡ Some i → Says i
  unfolding array_meant
  array_says (arrays.NewRef k) i e =
      let r = map_is Used (array_meant p c.pool k) i e in
      let b = then_is array_made (entry_meant p c.pool (slice_get c.pool k)) r.0 r.1 in
      subst Says r.2 (row_is b.0 r.0 b.2)
  array_says (arrays.New kind) i e = let same : Array (arrays.New kind) ≡ i = cc in subst Says same tt
  array_says (arrays.Load kind) i e = let same : Array (arrays.Load kind) ≡ i = cc in subst Says same tt
  array_says (arrays.Store kind) i e = let same : Array (arrays.Store kind) ≡ i = cc in subst Says same tt
  array_says arrays.Length i e = let same : Array arrays.Length ≡ i = cc in subst Says same tt

  jump_says : (t : Test) (by : ℤ) (i : Instruction) → jump x.body.ops o.at t by ≡ Some i → Says i
  jump_says t by i e =
      let r = map_is (Jump t) (target x.body.ops o.at by) i e in
      subst Says r.2 tt

  flow_says : (g : Flow SwitchOp) (i : Instruction) → flow x.body.ops o.at g ≡ Some i → Says i
  flow_says (flows.If t by) i e = jump_says (If t) by i e
  flow_says (flows.IfInt t by) i e = jump_says (IfInt t) by i e
  flow_says (flows.IfRef t by) i e = jump_says (IfRef t) by i e
  flow_says (flows.Goto by) i e = jump_says Always by i e
  flow_says (flows.Switch s) i e =
      let found = then_is (λ f. option_map (Switch f) (target x.body.ops o.at (default s))) (cases x.body.ops o.at s) i e in
      let r = map_is (Switch found.0) (target x.body.ops o.at (default s)) i found.2 in
      subst Says r.2 tt
  flow_says (flows.Return kind) i e = let same : Return kind ≡ i = cc in subst Says same tt
  flow_says flows.Throw i e = let same : Throw ≡ i = cc in subst Says same tt

  form_says : (g : OpForm SwitchOp) (i : Instruction) → form o.op ≡ g → by_form p c.pool x.body.ops o.at g ≡ Some i → form_test table g ≡ None
      → instruction p c.pool x.body.ops o ≡ Some i → Says i
  form_says (forms.Simple g) i is e none inst = let same : Simple g ≡ i = cc in subst Says same tt
  form_says (forms.Local g) i is e none inst = let same : Local g ≡ i = cc in subst Says same tt
  form_says (forms.Stack g) i is e none inst = let same : Stack g ≡ i = cc in subst Says same tt
  form_says (forms.Flow g) i is e none inst = flow_says g i e
  form_says (forms.Array g) i is e none inst = array_says g i e
  form_says (forms.Pool g) i is e none inst =
      let r = map_is Used (meant p c.pool g) i e in
      subst Says r.2 (pool_is g r.0 r.1 none is (inst ∙ ap (λ (j : Instruction). Some j) (sym r.2)))

  by_its_form : (i : Instruction) → instruction p c.pool x.body.ops o ≡ Some i → by_form p c.pool x.body.ops o.at (form o.op) ≡ Some i
  unfolding instruction
  by_its_form i e = e

  pub says : (i : Instruction) → instruction p c.pool x.body.ops o ≡ Some i → IsSaid p here i
  says i e = form_says (form o.op) i refl (by_its_form i e) test e
