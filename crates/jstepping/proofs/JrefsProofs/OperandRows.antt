-- Rows of the other instructions, as they are told what their operands are.
use Rattle.std.proofs.Common.{◌≡◌, ◌∙◌, ℕ, Bool, true, false, List, [], ◌∷◌, Option, Some, None, refl, sym, ap, subst}
use Rattle.std.specs.Prelude.{Err, IfOk, Ok, Result, option_and_then, option_map, slice_get, if◌then◌else◌}
use Rattle.jparts.specs.declared.jcode.op_form.ArrayForm.TheVariants as arrays
use Rattle.jparts.specs.declared.jcode.op_form.PoolForm.TheVariants as forms
use Rattle.jparts.specs.declared.jcode.names.CastOp.{CastOp}
use Rattle.jparts.specs.declared.jcode.names.Element.TheVariants as items
use Rattle.jparts.specs.declared.jcode.names.FieldOp.{FieldOp}
use Rattle.jparts.specs.declared.jcode.names.FieldOp.TheVariants as ops
use Rattle.jparts.specs.declared.jcode.names.RefTest.{RefTest}
use Rattle.jmemory.specs.jheap.Heaps.{Heaped}
use Rattle.jlib.specs.declared.classes.LibClass.{LibClass}
use Rattle.jvalues.specs.declared.jops.value.Value.{Value}
use Rattle.jparts.specs.declared.jpool.entry.Entry.{Entry}
use Rattle.jresolution.specs.declared.jprogram.member.Member.{Member}
use Rattle.jresolution.specs.declared.jprogram.member.Member.TheVariants as members
use Rattle.jresolution.specs.declared.jprogram.part.ClassRef.TheVariants as refs
use Rattle.jresolution.specs.declared.jprogram.member.MethodId.{MethodId}
use Rattle.jresolution.specs.jprogram.ProgramClasses.{Program}
use Rattle.jresolution.specs.jprogram.MemberResolution.{is_static}
use Rattle.jlinking.specs.jreferring.ReferenceUses.{takes_static}
use Rattle.jtyping.specs.jrule.StackEffects.{Fits}
use Rattle.jtyping.specs.jrule.PoolEffects.{exchange}
use Rattle.jtypes.specs.declared.vtype.Name.{Name}
use Rattle.jtypes.specs.declared.vtype.VType.{VType}
use Rattle.jtypes.specs.declared.vtype.VType.TheVariants as types
use Rattle.jresolution.specs.juses.IndexedInstructions as instructions
use Rattle.jresolution.specs.juses.InstructionMeanings as meanings
use Rattle.jresolution.specs.juses.InstructionMeanings.{FieldMeaning, Make, meant}
use Rattle.jresolution.specs.declared.juses.types.TypeRef.{TypeRef}
use Rattle.jresolution.specs.juses.PoolTables.{pool_at}
use Rattle.jresolution.specs.juses.InternedTypes.{array_named, class_named, named}
use Rattle.jresolution.specs.jlayout.FieldLayout.{slot}
use Rattle.jlinking.specs.jlink.NamedFields.{IsNamedField}
use Rattle.jsemantics.specs.jmachine.MachineStates.{FrameOf}
use Rattle.jsemantics.specs.jmachine.InstructionActions.{doing, used}
use Rattle.jsemantics.specs.jmachine.FieldInstructions.{field}
use Rattle.jsemantics.specs.jmachine.FrameOperations.{with_operands}
use Rattle.jsemantics.specs.jmachine.TakenOperands.{Taken, serves, taken}
use Rattle.jsemantics.specs.jmachine.InstructionSites.{Site}
use Rattle.jsemantics.specs.jmachine.Store.{Store}
use Rattle.jsemantics.specs.jmachine.World.{World, world}
use Rattle.jready.specs.InlineOperands.{MakesArray}
use Rattle.jready.specs.MeaningParts.{only_cast}
use Rattle.jruntime.specs.declared.jstate.shapes.Shapes.{Shapes}
use Rattle.jruntime.specs.jstate.HeapMeanings.{Things, array_at, store_by}
use Rattle.jrows.specs.jacts.RowOutcomes.{Acts, ActsWhere, Comes, leaves}
use Rattle.jrows.specs.declared.jacts.way.Way.{Way}
use Rattle.jrows.specs.declared.jacts.way.Way.TheVariants as ways
use Rattle.jrows.specs.declared.jcalls.ready.Counts.{Counts}
use Rattle.jrows.specs.jobjs.ReferenceBranches.{ServeTest}
use Rattle.jrows.specs.jobjs.NewObjects.{HasShape}
use Rattle.jrows.specs.jobjs.EntryOperands.{IsOne, Serve}
use Rattle.jrows.specs.jobjs.StoredReferences.{MayStore, ServeStore}
use Rattle.jstepping.specs.declared.jrefs.lasting.Lasting.{Lasting}
use Rattle.jstepping.specs.jrefs.ReferenceRows.{IsLasting}
use Rattle.jstepping.specs.jrefs.RowInvariance.{AreSeen, SeenActs, ServesAs}
use Rattle.jstepping.proofs.JrefsProofs.NewInstructions.{array_is, is_part, library_class, user_class, user_shape}

module _ (x : Lasting) {E : Type 0} (fr g : FrameOf ℕ E) (h k : Heaped) where
  abbrev p : Program
  p = x.ancestors.now

  abbrev seen_in : Things → List (List ℕ × ℕ) → Store ℕ
  seen_in others constants = store_by p x.shapes.now others constants h

  -- ---- what is made

  module _ (l : IsLasting x) {F : Type 0} (result : Result Way F) where
    pub made_user : (es : List Entry) (i class : ℕ) → meant p es (forms.New i) ≡ Some (Make (class_named p (refs.User class)))
        → IfOk result (λ way. (p : Program) (things : Things) (constants : List (List ℕ × ℕ)) (c : Name) →
        ActsWhere (λ (at : Site) (own : Member → Bool). (at.world.class c ≡ Some (refs.User class)) × HasShape at.world x.shapes.now class)
        (instructions.Used (meanings.Make c)) fr (store_by p x.shapes.now things constants h) (leaves way [] g (store_by p x.shapes.now things constants k)))
        → IfOk result (λ way. (counts : Counts) → SeenActs x counts (instructions.Used (meanings.Make (class_named p (refs.User class)))) fr h way g k)
    made_user es i class e = by result
      where
        by : (r : Result Way F)
            → IfOk r (λ way. (p : Program) (things : Things) (constants : List (List ℕ × ℕ)) (c : Name) →
            ActsWhere (λ (at : Site) (own : Member → Bool). (at.world.class c ≡ Some (refs.User class)) × HasShape at.world x.shapes.now class)
            (instructions.Used (meanings.Make c)) fr (store_by p x.shapes.now things constants h) (leaves way [] g (store_by p x.shapes.now things constants k)))
            → IfOk r (λ way. (counts : Counts) → SeenActs x counts (instructions.Used (meanings.Make (class_named p (refs.User class)))) fr h way g k)
        by (Ok way) did = λ counts others constants seen r at own entries inherited site.
            did p others constants (class_named p (refs.User class)) r at own entries inherited
            (user_class x l class (is_part x l es i class e) at.world site.world, user_shape x l class (is_part x l es i class e) at.world site.world)
        by (Err e) did = tt

    pub made_library : (es : List Entry) (i : ℕ) (class : LibClass) → meant p es (forms.New i) ≡ Some (Make (class_named p (refs.Lib class)))
        → IfOk result (λ way. (p : Program) (shapes : Shapes) (things : Things) (constants : List (List ℕ × ℕ)) (c : Name) →
        ActsWhere (λ (at : Site) (own : Member → Bool). at.world.class c ≡ Some (refs.Lib class))
        (instructions.Used (meanings.Make c)) fr (store_by p shapes things constants h) (leaves way [] g (store_by p shapes things constants k)))
        → IfOk result (λ way. (counts : Counts) → SeenActs x counts (instructions.Used (meanings.Make (class_named p (refs.Lib class)))) fr h way g k)
    made_library es i class e = by result
      where
        by : (r : Result Way F)
            → IfOk r (λ way. (p : Program) (shapes : Shapes) (things : Things) (constants : List (List ℕ × ℕ)) (c : Name) →
            ActsWhere (λ (at : Site) (own : Member → Bool). at.world.class c ≡ Some (refs.Lib class))
            (instructions.Used (meanings.Make c)) fr (store_by p shapes things constants h) (leaves way [] g (store_by p shapes things constants k)))
            → IfOk r (λ way. (counts : Counts) → SeenActs x counts (instructions.Used (meanings.Make (class_named p (refs.Lib class)))) fr h way g k)
        by (Ok way) did = λ counts others constants seen r at own entries inherited site.
            did p x.shapes.now others constants (class_named p (refs.Lib class)) r at own entries inherited
            (library_class x l es i class e at.world site.world)
        by (Err e) did = tt

    pub made_array : (n : ℕ)
        → IfOk result (λ way. (p : Program) (shapes : Shapes) (things : Things) (constants : List (List ℕ × ℕ)) →
        Acts (instructions.Used (meanings.MakeArray (types.Array (array_named p (array_at shapes n))))) fr (store_by p shapes things constants h)
        (leaves way [] g (store_by p shapes things constants k)))
        → IfOk result (λ way. (counts : Counts) (t : VType) → MakesArray p x.ready.now.methods.tables t n
        → SeenActs x counts (instructions.Used (meanings.MakeArray t)) fr h way g k)
    made_array n = by result
      where
        by : (r : Result Way F)
            → IfOk r (λ way. (p : Program) (shapes : Shapes) (things : Things) (constants : List (List ℕ × ℕ)) →
            Acts (instructions.Used (meanings.MakeArray (types.Array (array_named p (array_at shapes n))))) fr (store_by p shapes things constants h)
            (leaves way [] g (store_by p shapes things constants k)))
            → IfOk r (λ way. (counts : Counts) (t : VType) → MakesArray p x.ready.now.methods.tables t n
            → SeenActs x counts (instructions.Used (meanings.MakeArray t)) fr h way g k)
        by (Ok way) did = λ counts t makes.
            subst (λ (v : VType). SeenActs x counts (instructions.Used (meanings.MakeArray v)) fr h way g k) (array_is x l t n makes)
            (λ others constants seen r at own entries inherited site. did p x.shapes.now others constants r at own entries inherited)
        by (Err e) did = tt

  -- ---- casts, stores and branches

  module _ (counts : Counts) (way : Way) where
    cast_row : (op : CastOp) (t : VType) (serve is : Bool) → ServesAs x counts fr.method (meanings.Cast op t) h fr.operands serve
        → ((others : Things) (constants : List (List ℕ × ℕ)) → AreSeen x counts h.objects others → IsOne (world p) (seen_in others constants) t (slice_get fr.operands 0) is)
        → ((t : VType) (s : Store ℕ) →
        ActsWhere (λ (at : Site) (own : Member → Bool). Serve at own s (meanings.Cast op t) fr.operands serve × IsOne at.world s t (slice_get fr.operands 0) is)
        (instructions.Used (meanings.Cast op t)) fr s (leaves way [] g s))
        → SeenActs x counts (instructions.Used (meanings.Cast op t)) fr h way g h
    cast_row op t serve is serves ones did others constants seen r at own entries inherited site =
        did t (seen_in others constants) r at own entries inherited (
          serves others constants at own seen site,
          subst (λ (w : World). IsOne w (seen_in others constants) t (slice_get fr.operands 0) is) (sym site.world) (ones others constants seen),
        )

    -- the same by its kind, as it is known
    pub cast_as : (op other : CastOp) → op ≡ other → (t : VType) (serve is : Bool)
        → ServesAs x counts fr.method (meanings.Cast other t) h fr.operands serve
        → ((others : Things) (constants : List (List ℕ × ℕ)) → AreSeen x counts h.objects others → IsOne (world p) (seen_in others constants) t (slice_get fr.operands 0) is)
        → ((t : VType) (s : Store ℕ) →
        ActsWhere (λ (at : Site) (own : Member → Bool). Serve at own s (meanings.Cast other t) fr.operands serve × IsOne at.world s t (slice_get fr.operands 0) is)
        (instructions.Used (meanings.Cast other t)) fr s (leaves way [] g s))
        → SeenActs x counts (instructions.Used (meanings.Cast op t)) fr h way g h
    cast_as op other same t serve is serves ones did =
        subst (λ (o : CastOp). SeenActs x counts (instructions.Used (meanings.Cast o t)) fr h way g h) (sym same) (cast_row other t serve is serves ones did)

    pub store_row : (serve is : Bool)
        → ((others : Things) (constants : List (List ℕ × ℕ)) (at : Site) → AreSeen x counts h.objects others → at.world ≡ world p → ServeStore at (seen_in others constants) fr.operands serve)
        → ((others : Things) (constants : List (List ℕ × ℕ)) → AreSeen x counts h.objects others → MayStore (world p) p x.shapes.now (seen_in others constants) h fr.operands is)
        → ((p : Program) (shapes : Shapes) (things : Things) (constants : List (List ℕ × ℕ)) →
        ActsWhere (λ (at : Site) (own : Member → Bool). ServeStore at (store_by p shapes things constants h) fr.operands serve
        × MayStore at.world p shapes (store_by p shapes things constants h) h fr.operands is)
        (instructions.Array (arrays.Store items.Ref)) fr (store_by p shapes things constants h) (leaves way [] g (store_by p shapes things constants k)))
        → SeenActs x counts (instructions.Array (arrays.Store items.Ref)) fr h way g k
    store_row serve is serves holds did others constants seen r at own entries inherited site =
        did p x.shapes.now others constants r at own entries inherited (
          serves others constants at seen site.world,
          subst (λ (w : World). MayStore w p x.shapes.now (seen_in others constants) h fr.operands is) (sym site.world) (holds others constants seen),
        )

    pub branch_row : (test : RefTest) (to : ℕ) (serve : Bool)
        → ((others : Things) (constants : List (List ℕ × ℕ)) (at : Site) → AreSeen x counts h.objects others → at.world ≡ world p → ServeTest at (seen_in others constants) test fr.operands serve)
        → ((s : Store ℕ) → ActsWhere (λ (at : Site) (own : Member → Bool). ServeTest at s test fr.operands serve)
        (instructions.Jump (instructions.IfRef test) to) fr s (leaves way [] g s))
        → SeenActs x counts (instructions.Jump (instructions.IfRef test) to) fr h way g h
    branch_row test to serve serves did others constants seen r at own entries inherited site =
        did (seen_in others constants) r at own entries inherited (serves others constants at seen site.world)

    -- a branch by its test, as it is known
    pub branch_as : (test other : RefTest) → test ≡ other → (to : ℕ) (serve : Bool)
        → ((others : Things) (constants : List (List ℕ × ℕ)) (at : Site) → AreSeen x counts h.objects others → at.world ≡ world p → ServeTest at (seen_in others constants) test fr.operands serve)
        → ((s : Store ℕ) → ActsWhere (λ (at : Site) (own : Member → Bool). ServeTest at s other fr.operands serve)
        (instructions.Jump (instructions.IfRef other) to) fr s (leaves way [] g s))
        → SeenActs x counts (instructions.Jump (instructions.IfRef test) to) fr h way g h
    branch_as test other is to serve serves did =
        subst (λ (t : RefTest). SeenActs x counts (instructions.Jump (instructions.IfRef t) to) fr h way g h) (sym is)
        (branch_row other to serve
        (subst (λ (t : RefTest). (others : Things) (constants : List (List ℕ × ℕ)) (at : Site) → AreSeen x counts h.objects others → at.world ≡ world p
        → ServeTest at (seen_in others constants) t fr.operands serve) is serves) did)

-- ---- the library's field

not_static : (op : FieldOp) → true ≡ takes_static op → op ≡ ops.GetField → ⊥
not_static op e is = let both : true ≡ false = e ∙ ap takes_static is in cc

not_put : (op : FieldOp) → true ≡ takes_static op → op ≡ ops.PutField → ⊥
not_put op e is = let both : true ≡ false = e ∙ ap takes_static is in cc

out_static : (p : Program) (op : FieldOp) (f : FieldMeaning) → f.member ≡ members.LibField → IsNamedField p op f → true ≡ takes_static op
unfolding is_static
out_static p op f member n = sym (ap (is_static p) member) ∙ n.static

module _ (x : Lasting) (counts : Counts) {E : Type 0} (fr g : FrameOf ℕ E) (h k : Heaped) (op : FieldOp) (f : FieldMeaning) (member : f.member ≡ members.LibField)
    (n : IsNamedField x.ancestors.now op f) where
  pub no_get : {A : Type 0} → op ≡ ops.GetField → A
  no_get is = absurd (not_static op (out_static x.ancestors.now op f member n) is)

  pub no_put : {A : Type 0} → op ≡ ops.PutField → A
  no_put is = absurd (not_put op (out_static x.ancestors.now op f member n) is)

  world_out : (p : Program) → (world p).slot members.LibField ≡ None
  unfolding world slot
  world_out p = refl

  abbrev known : Things → List (List ℕ × ℕ) → Store ℕ
  known others constants = store_by x.ancestors.now x.shapes.now others constants h

  put_stuck : SeenActs x counts (instructions.Used (meanings.Field ops.PutStatic f)) fr h ways.Stuck g k
  unfolding doing used exchange taken field
  put_stuck others constants seen r at own entries inherited site = by fr.operands
    where
      slot_none : at.world.slot f.member ≡ None
      slot_none = ap (λ (w : World). w.slot f.member) site.world ∙ ap (world x.ancestors.now).slot member ∙ world_out x.ancestors.now

      by : (xs : List (Value ℕ))
          → Comes fr (known others constants) (option_and_then (λ (t : Taken ℕ). option_map (λ row. record { frame = with_operands fr t.below; row = row })
          (field at.world (known others constants) ops.PutStatic f.member t.values)) (taken at.world (known others constants) (Fits f.held ∷ []) xs))
          (leaves ways.Stuck [] g (store_by x.ancestors.now x.shapes.now others constants k))
      by [] = refl
      by (v ∷ rest) = both (serves at.world (known others constants) (Fits f.held) v)
        where
          both : (b : Bool)
              → Comes fr (known others constants) (option_and_then (λ (t : Taken ℕ). option_map (λ row. record { frame = with_operands fr t.below; row = row })
              (field at.world (known others constants) ops.PutStatic f.member t.values)) (if b then Some (record { values = v ∷ []; below = rest }) else None))
              (leaves ways.Stuck [] g (store_by x.ancestors.now x.shapes.now others constants k))
          both false = refl
          both true = rw slot_none refl

  -- it isn't written
  pub out_put : op ≡ ops.PutStatic → SeenActs x counts (instructions.Used (meanings.Field op f)) fr h ways.Stuck g k
  out_put is = subst (λ (o : FieldOp). SeenActs x counts (instructions.Used (meanings.Field o f)) fr h ways.Stuck g k) (sym is) put_stuck

-- `System.out` was pushed, if there was memory
pub out_got : (x : Lasting) {E : Type 0} (fr g : FrameOf ℕ E) (h : Heaped) (op : FieldOp) → op ≡ ops.GetStatic → {F : Type 0} (result : Result Way F)
    → IfOk result (λ way. (f : FieldMeaning) (s : Store ℕ) → f.member ≡ members.LibField → Acts (instructions.Used (meanings.Field ops.GetStatic f)) fr s (leaves way [] g s))
    → IfOk result (λ way. (counts : Counts) (f : FieldMeaning) → f.member ≡ members.LibField → IsNamedField x.ancestors.now op f
    → SeenActs x counts (instructions.Used (meanings.Field op f)) fr h way g h)
out_got x fr g h op is (Ok way) did = λ counts f member n.
    subst (λ (o : FieldOp). SeenActs x counts (instructions.Used (meanings.Field o f)) fr h way g h) (sym is)
    (λ others constants seen r at own entries inherited site. did f (store_by x.ancestors.now x.shapes.now others constants h) member r at own entries inherited)
out_got x fr g h op is (Err e) did = tt

-- ---- what was found of a type

pub type_at : (p : Program) (m n : MethodId) (op : CastOp) (i : ℕ) (t : VType) (o : Option TypeRef) → n ≡ m
    → option_map (named p) o ≡ only_cast (meant p (pool_at p n.class) (forms.Cast op i))
    → meant p (pool_at p m.class) (forms.Cast op i) ≡ Some (meanings.Cast op t) → option_map (named p) o ≡ Some t
type_at p m n op i t o same found e =
    found ∙ ap (λ (k : MethodId). only_cast (meant p (pool_at p k.class) (forms.Cast op i))) same ∙ ap only_cast e

none_of_map : {A B : Type 0} (f : A → B) (o : Option A) → option_map f o ≡ None → o ≡ None
none_of_map f None e = refl
none_of_map f (Some a) e = absurd cc

pub none_at : (p : Program) (m n : MethodId) (op : CastOp) (i : ℕ) (o : Option TypeRef) → n ≡ m
    → option_map (named p) o ≡ only_cast (meant p (pool_at p n.class) (forms.Cast op i))
    → meant p (pool_at p m.class) (forms.Cast op i) ≡ None → o ≡ None
none_at p m n op i o same found e =
    none_of_map (named p) o (found ∙ ap (λ (k : MethodId). only_cast (meant p (pool_at p k.class) (forms.Cast op i))) same ∙ ap only_cast e)
