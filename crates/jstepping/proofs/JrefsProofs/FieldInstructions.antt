-- Rows of instructions with users' fields.
use Rattle.std.proofs.Common.{◌≡◌, ◌∙◌, inr, ℕ, zero, suc, ◌≤◌, Bool, true, false, List, [], ◌∷◌, length, Option, Some, None, refl, sym, ap, subst, arith, rules}
use Rattle.std.specs.Prelude.{Err, IfOk, Ok, Result, is_some, nat_lt, option_and_then, option_map, slice_get, if◌then◌else◌}
use Rattle.std.specs.Str.{bytes_eq}
use Rattle.std.proofs.lemmas.Bool.{and_parts}
use Rattle.std.proofs.lemmas.Option.{slice_get_past}
use Rattle.jparts.specs.declared.jcode.names.FieldOp.{FieldOp}
use Rattle.jparts.specs.declared.jcode.names.FieldOp.TheVariants as ops
use Rattle.jclass.specs.declared.class.ClassParts.{ClassParts}
use Rattle.jclass.specs.declared.class.MemberInfo.{MemberInfo}
use Rattle.jmemory.specs.declared.jheap.cell.CellType.{CellType}
use Rattle.jmemory.specs.jheap.Heaps.{Heaped}
use Rattle.jvalues.specs.declared.jops.value.Value.{Value}
use Rattle.jresolution.specs.declared.jprogram.member.Member.{Member}
use Rattle.jresolution.specs.declared.jprogram.member.Member.TheVariants as members
use Rattle.jresolution.specs.declared.jprogram.member.MethodId.{MethodId}
use Rattle.jresolution.specs.declared.jprogram.part.ClassRef.TheVariants as refs
use Rattle.jresolution.specs.declared.jprogram.part.CodePart.{CodePart}
use Rattle.jresolution.specs.jprogram.ProgramClasses.{Program, extends, holds, is_interface, find, name_at}
use Rattle.jresolution.specs.jprogram.MemberResolution.{desc_of, info_of, is_static, owner_of, owner_in}
use Rattle.jresolution.proofs.JprogramProofs.SuperclassOrder.{extends_chain}
use Rattle.jresolution.proofs.JprogramProofs.NameReachability.{name_is}
use Rattle.jlinking.specs.jreferring.ReferenceUses.{takes_static}
use Rattle.jtyping.specs.jrule.StackEffects.{Fits}
use Rattle.jtyping.specs.jrule.PoolEffects.{exchange, written}
use Rattle.jtypes.specs.declared.vtype.Name.{Name}
use Rattle.jtypes.specs.declared.vtype.VType.TheVariants as types
use Rattle.jresolution.specs.declared.juses.types.ElementRef.{ElementRef}
use Rattle.jresolution.specs.juses.IndexedInstructions as instructions
use Rattle.jresolution.specs.juses.InstructionMeanings as meanings
use Rattle.jresolution.specs.juses.InstructionMeanings.{FieldMeaning}
use Rattle.jresolution.specs.juses.InternedTypes.{class_named, element_named}
use Rattle.jresolution.specs.jlayout.FieldLayout as layout
use Rattle.jsemantics.specs.jmachine.MachineStates.{FrameOf}
use Rattle.jsemantics.specs.jmachine.InstructionActions.{doing, used}
use Rattle.jsemantics.specs.jmachine.FieldInstructions.{field, get_static}
use Rattle.jsemantics.specs.jmachine.FrameOperations.{with_operands}
use Rattle.jsemantics.specs.jmachine.Narrowing.{narrowed}
use Rattle.jsemantics.specs.jmachine.TakenOperands.{Taken, serves, taken}
use Rattle.jsemantics.specs.jmachine.InstructionSites.{Site}
use Rattle.jsemantics.specs.jmachine.MachineSteps.{is_init, own_fields}
use Rattle.jsemantics.specs.jmachine.Store.{Store}
use Rattle.jsemantics.specs.jmachine.World.{World, fits, world}
use Rattle.jready.specs.InlineOperands as exact
use Rattle.jruntime.specs.declared.jstate.shapes.Shapes.{Shapes}
use Rattle.jruntime.specs.jstate.ClassNumbers.{class_numbered}
use Rattle.jruntime.specs.jstate.HeapMeanings.{Things, store_by, values_of}
use Rattle.jruntime.specs.jstate.HeapMeaningLaws.{ReadsNone, SeesEach}
use Rattle.jrows.specs.jacts.RowOutcomes.{ActsWhere, Comes, leaves}
use Rattle.jrows.specs.declared.jacts.way.Way.{Way}
use Rattle.jrows.specs.declared.jacts.way.Way.TheVariants as ways
use Rattle.jrows.specs.declared.jcalls.ready.Counts.{Counts}
use Rattle.jrows.specs.jobjs.FieldCells.{HoldsOnly, KeepsAs, StandsAt, StandsStatic, cell_type, is_users}
use Rattle.jrows.specs.jobjs.EntryOperands.{Serve, target_seen}
use Rattle.jrows.proofs.JobjsProofs.FieldWrites.{next}
use Rattle.jrows.proofs.JobjsProofs.ServedOperands.{not_served}
use Rattle.jstepping.specs.declared.jrefs.lasting.Lasting.{Lasting}
use Rattle.jstepping.specs.declared.jrefs.looking.FieldAt.{FieldAt}
use Rattle.jstepping.specs.jrefs.NamedEntries.{NamesField}
use Rattle.jstepping.specs.jrefs.ReferenceRows.{IsLasting, IsSite}
use Rattle.jstepping.specs.jrefs.RowInvariance.{SeenActs, ServesAs}
use Rattle.jstepping.proofs.JrefsProofs.FieldPlaces.{HasField, cell_below, good, has_field, numbered, static_cell, user_name}
use Rattle.jstepping.proofs.JrefsProofs.OperandObjects.{class_extends, holds_only, newest_meets, second_meets, written_either}

world_slot : (p : Program) (m : Member) → (world p).slot m ≡ layout.slot p m
unfolding world
world_slot p m = refl

world_element : (p : Program) (m : Member) → (world p).element m ≡ layout.element (desc_of p m)
unfolding world
world_element p m = refl

world_named : (p : Program) (i : ℕ) → (world p).named i ≡ class_named p (refs.User i)
unfolding world
world_named p i = refl

users_static : (w : World) (s : Store ℕ) (m : Member) → is_users m ≡ true → get_static w s m ≡ option_and_then (slice_get s.statics) (w.slot m)
users_static w s (members.Field class number) h = refl
users_static w s (members.Method m) h = refl
users_static w s members.LibField h = cc
users_static w s (members.LibMethod call) h = cc

none_past : {A : Type 0} (xs : List A) (i : ℕ) → slice_get xs i ≡ None → length xs ≤ i
none_past [] i none = omega arith
none_past (x ∷ xs) zero none = cc
none_past (x ∷ xs) (suc i) none = let rest = none_past xs i none in omega (arith, rest)

none_lt : {A : Type 0} (xs : List A) (i : ℕ) → slice_get xs i ≡ None → nat_lt i (length xs) ≡ false
none_lt xs i none = let high = none_past xs i none in search rules

module _ (x : Lasting) (l : IsLasting x) (counts : Counts) {E : Type 0} (fr : FrameOf ℕ E) (h : Heaped) where
  abbrev p : Program
  p = x.ancestors.now

  abbrev seen : Things → List (List ℕ × ℕ) → Store ℕ
  seen things constants = store_by p x.shapes.now things constants h

  -- operands that don't serve
  pub unserved : (op : FieldOp) (f : FieldMeaning) (g : FrameOf ℕ E) (k : Heaped) → ServesAs x counts fr.method (meanings.Field op f) h fr.operands false
      → SeenActs x counts (instructions.Used (meanings.Field op f)) fr h ways.Stuck g k
  unfolding doing used
  unserved op f g k serve things constants counted r at own entries inherited site =
      rw (not_served (taken at.world (seen things constants) (exchange own (at.world.named at.class) (meanings.Field op f)).takes fr.operands)
      (serve things constants at own counted site)) refl

  module _ (f : FieldMeaning) (a : FieldAt) (n : NamesField p fr.method.class a f) where
    abbrev has : HasField p f a.cell a.slot
    has = has_field p f a.cell a.narrow a.slot a.owner n.holds n.named.plain

    slot_is : (at : Site) (own : Member → Bool) → IsSite p fr.method at own → at.world.slot f.member ≡ Some a.slot
    slot_is at own site = ap (λ (w : World). w.slot f.member) site.world ∙ world_slot p f.member ∙ n.holds.placed

    keeps : (e : ElementRef) → ((v : Value ℕ) → exact.narrow a.narrow v ≡ narrowed (Some (element_named p e)) v)
        → (at : Site) (own : Member → Bool) → IsSite p fr.method at own → KeepsAs p at.world f.member e
    keeps e same at own site v =
        ap (λ (w : World). narrowed (w.element f.member) v) site.world ∙ ap (λ o. narrowed o v) (world_element p f.member) ∙ n.holds.keeps v ∙ same v

    -- ---- fields of objects

    module _ (plain : is_static p f.member ≡ false) where
      -- an object of a class that extends the one by which the field is named has its cell
      below_owner : (c : ℕ) → fits (world p) (types.Object (class_named p (class_numbered c))) (types.Object f.owner) ≡ true
          → extends p (name_at p (class_numbered c)) (name_at p (refs.User has.class)) ≡ true
      below_owner c fit =
          extends_chain p (good x l) (name_at p (class_numbered c)) f.owner.0 (name_at p (refs.User has.class))
          (class_extends p (class_numbered c) f.owner fit (n.named.class has.class has.number has.member plain)) (n.named.owned has.class has.number has.member plain)

      celled : (c : ℕ) → extends p (name_at p (class_numbered c)) (name_at p (refs.User has.class)) ≡ true → cell_type x.shapes.now c a.slot ≡ Some a.cell
      celled c below = numbered x c a.slot a.cell (cell_below x l f a.cell a.slot has (class_numbered c) plain below)

      pub get_stands : SeesEach → (things : Things) (constants : List (List ℕ × ℕ)) (at : Site) (own : Member → Bool) → IsSite p fr.method at own
          → Serve at own (seen things constants) (meanings.Field ops.GetField f) fr.operands true
          → StandsAt at.world x.shapes.now h f.member (slice_get fr.operands 0) a.slot a.cell
      unfolding exchange
      get_stands each things constants at own site serve = record {
        stands = slot_is at own site;
        cell = λ o c e. celled c (below_owner c (newest_meets each p x.shapes.now things constants h (Fits (types.Object f.owner)) fr.operands o c (sym e)
            (subst (λ (w : World). is_some (taken w (seen things constants) (Fits (types.Object f.owner) ∷ []) fr.operands) ≡ true) site.world serve)));
      }

      -- ---- the object whose field is written

      owner_is : owner_of p f.member ≡ name_at p (refs.User has.class)
      unfolding owner_of
      owner_is =
          let there : info_of p (members.Field has.class has.number) ≡ Some (has.part.class, has.info) =
          ap (λ (o : Option CodePart). option_and_then (λ (c : ClassParts). option_map (λ (m : MemberInfo). (c, m)) (slice_get c.fields has.number)) (option_map (λ (q : CodePart). q.class) o)) has.own.stands
          ∙ ap (option_map (λ (m : MemberInfo). (has.part.class, m))) has.own.declared in
          ap (owner_of p) has.member ∙ ap owner_in there ∙ sym (user_name p has.class has.part has.own.stands)

      -- the class of the method, where that may write it before another `<init>` is called
      own_named : own_fields p fr.method f.member ≡ true → name_at p (refs.User fr.method.class) ≡ name_at p (refs.User has.class)
      own_named is =
          let parts = and_parts (is_init p fr.method) (bytes_eq (owner_of p f.member) ((world p).named fr.method.class).0) is in
          let named : owner_of p f.member ≡ ((world p).named fr.method.class).0 = name_is (owner_of p f.member) ((world p).named fr.method.class).0 parts.1 in
          ap (λ (m : Name). m.0) (sym (world_named p fr.method.class)) ∙ sym named ∙ owner_is

      below_this : (c : ℕ) (this : Name) → this.0 ≡ name_at p (refs.User has.class)
          → fits (world p) (types.Object (class_named p (class_numbered c))) (types.Object this) ≡ true
          → extends p (name_at p (class_numbered c)) (name_at p (refs.User has.class)) ≡ true
      below_this c this is fit =
          ap (extends p (name_at p (class_numbered c))) (sym is)
          ∙ class_extends p (class_numbered c) this fit (ap (λ (d : List ℕ). holds is_interface (find p d)) is ∙ n.named.declares has.class has.number has.member plain)

      pub put_stands : SeesEach → (things : Things) (constants : List (List ℕ × ℕ)) (at : Site) (own : Member → Bool) → IsSite p fr.method at own
          → Serve at own (seen things constants) (meanings.Field ops.PutField f) fr.operands true
          → StandsAt at.world x.shapes.now h f.member (slice_get fr.operands 1) a.slot a.cell
      unfolding exchange
      put_stands each things constants at own site serve =
          let this : at.world.named at.class ≡ class_named p (refs.User fr.method.class) =
          ap (λ (w : World). w.named at.class) site.world ∙ ap (world p).named site.class ∙ world_named p fr.method.class in
          record {
            stands = slot_is at own site;
            cell = λ o c e.
                let fit = second_meets each p x.shapes.now things constants h (Fits f.held) (written (own f.member) (at.world.named at.class) f.owner) fr.operands o c
                (sym e ∙ ap (target_seen h) (next fr.operands))
                (subst (λ (w : World). is_some (taken w (seen things constants) (Fits f.held ∷ written (own f.member) (at.world.named at.class) f.owner ∷ []) fr.operands) ≡ true) site.world serve) in
                celled c (written_either p (class_numbered c) (own f.member) (at.world.named at.class) f.owner fit (below_owner c)
                (λ is one. below_this c (at.world.named at.class) (ap (λ (m : Name). m.0) this ∙ own_named (sym (site.owns f.member) ∙ is)) one));
          }

    -- what else a write is told
    pub put_keeps : (e : ElementRef) → ((q : Program) (v : Value ℕ) → exact.narrow a.narrow v ≡ narrowed (Some (element_named q e)) v)
        → (things : Things) (constants : List (List ℕ × ℕ)) (at : Site) (own : Member → Bool) → IsSite p fr.method at own
        → KeepsAs p at.world f.member e × HoldsOnly at.world (seen things constants) f.held a.cell
    put_keeps e same things constants at own site =
        (keeps e (same p) at own site, holds_only at.world (seen things constants) f.held a.cell n.named.plain n.holds.celled)

    -- ---- statics

    module _ (static : is_static p f.member ≡ true) where
      pub stands_static : (at : Site) (own : Member → Bool) → IsSite p fr.method at own → StandsStatic at.world x.shapes.now f.member a.slot a.cell
      stands_static at own site = (ap is_users has.member, slot_is at own site, static_cell x l f a.cell a.slot has static)

      module _ (none : ReadsNone) (high : length h.statics ≤ a.slot) where
        past_all : slice_get (values_of x.shapes.now.statics h.statics) a.slot ≡ None
        past_all = none x.shapes.now.statics h.statics a.slot (inr (slice_get_past h.statics a.slot high))

        pub get_past : (g : FrameOf ℕ E) (k : Heaped) → SeenActs x counts (instructions.Used (meanings.Field ops.GetStatic f)) fr h ways.Stuck g k
        unfolding doing used exchange taken field
        get_past g k things constants counted r at own entries inherited site =
            rw (users_static at.world (seen things constants) f.member (ap is_users has.member), slot_is at own site, past_all) refl

        pub put_past : (g : FrameOf ℕ E) (k : Heaped) → SeenActs x counts (instructions.Used (meanings.Field ops.PutStatic f)) fr h ways.Stuck g k
        unfolding doing used exchange taken field
        put_past g k things constants counted r at own entries inherited site = by fr.operands
          where
            inside : nat_lt a.slot (length (seen things constants).statics) ≡ false
            inside = none_lt (seen things constants).statics a.slot past_all

            by : (xs : List (Value ℕ))
                → Comes fr (seen things constants) (option_and_then (λ (t : Taken ℕ). option_map (λ row. record { frame = with_operands fr t.below; row = row }) (field at.world (seen things constants) ops.PutStatic f.member t.values))
                (taken at.world (seen things constants) (Fits f.held ∷ []) xs)) (leaves ways.Stuck [] g (store_by p x.shapes.now things constants k))
            by [] = refl
            by (v ∷ rest) = both (serves at.world (seen things constants) (Fits f.held) v)
              where
                both : (b : Bool)
                    → Comes fr (seen things constants) (option_and_then (λ (t : Taken ℕ). option_map (λ row. record { frame = with_operands fr t.below; row = row }) (field at.world (seen things constants) ops.PutStatic f.member t.values))
                    (if b then Some (record { values = v ∷ []; below = rest }) else None)) (leaves ways.Stuck [] g (store_by p x.shapes.now things constants k))
                both false = refl
                both true = rw (slot_is at own site, inside) refl

-- ---- what functions answer

pub no_some : {A B : Type 0} (g : A → B) (o : Option A) (b : B) {C : Type 0} → o ≡ None → option_map g o ≡ Some b → C
no_some g o b none e = let both : None ≡ Some b = sym (ap (option_map g) none) ∙ e in absurd cc

pub the_some : {A B : Type 0} (g : A → B) (o : Option A) (y : A) (b : B) → o ≡ Some y → option_map g o ≡ Some b → b ≡ g y
the_some g o y b some e = let both : Some (g y) ≡ Some b = sym (ap (option_map g) some) ∙ e in cc

pub never_some : {A B : Type 0} (o : Option A) (a : A) → o ≡ Some a → o ≡ None → B
never_some o a some none = let both : Some a ≡ None = sym some ∙ none in absurd cc

pub names_at : (p : Program) (m n : MethodId) (a : FieldAt) (f : FieldMeaning) → n ≡ m → NamesField p m.class a f → NamesField p n.class a f
names_at p m n a f same named = subst (λ (k : MethodId). NamesField p k.class a f) (sym same) named

module _ (x : Lasting) (l : IsLasting x) (counts : Counts) {E : Type 0} (fr g : FrameOf ℕ E) (h k : Heaped) (way : Way) (a : FieldAt) (f : FieldMeaning)
    (n : NamesField x.ancestors.now fr.method.class a f) where
  abbrev Did : FieldOp → Type 0
  Did op = SeenActs x counts (instructions.Used (meanings.Field op f)) fr h way g k

  as_op : (op : FieldOp) → a.op ≡ op → Did op → Did a.op
  as_op op is did = subst Did (sym is) did

  serves_is : (op : FieldOp) (b c : Bool) → b ≡ c → ServesAs x counts fr.method (meanings.Field op f) h fr.operands b → ServesAs x counts fr.method (meanings.Field op f) h fr.operands c
  serves_is op b c same serve = subst (ServesAs x counts fr.method (meanings.Field op f) h fr.operands) same serve

  is_static_as : (op : FieldOp) → a.op ≡ op → is_static x.ancestors.now f.member ≡ takes_static op
  is_static_as op is = n.named.static ∙ ap takes_static is

  pub read_row : a.op ≡ ops.GetField → (b : Bool) → b ≡ true → ServesAs x counts fr.method (meanings.Field ops.GetField f) h fr.operands b → SeesEach
      → ((p : Program) (shapes : Shapes) (things : Things) (constants : List (List ℕ × ℕ)) (f : FieldMeaning) →
      ActsWhere (λ (at : Site) (own : Member → Bool). Serve at own (store_by p shapes things constants h) (meanings.Field ops.GetField f) fr.operands true
      × StandsAt at.world shapes h f.member (slice_get fr.operands 0) a.slot a.cell)
      (instructions.Used (meanings.Field ops.GetField f)) fr (store_by p shapes things constants h) (leaves way [] g (store_by p shapes things constants k)))
      → Did a.op
  read_row is b yes-it-does serve each did =
      as_op ops.GetField is (λ others constants seen r at own entries inherited site.
      let served = serves_is ops.GetField b true yes-it-does serve others constants at own seen site in
      did x.ancestors.now x.shapes.now others constants f r at own entries inherited
      (served, get_stands x l counts fr h f a n (is_static_as ops.GetField is) each others constants at own site served))

  pub write_row : a.op ≡ ops.PutField → (b : Bool) → b ≡ true → ServesAs x counts fr.method (meanings.Field ops.PutField f) h fr.operands b → SeesEach
      → (e : ElementRef) → ((q : Program) (v : Value ℕ) → exact.narrow a.narrow v ≡ narrowed (Some (element_named q e)) v)
      → ((p : Program) (shapes : Shapes) (things : Things) (constants : List (List ℕ × ℕ)) (f : FieldMeaning) (of : CellType) →
      ActsWhere (λ (at : Site) (own : Member → Bool). Serve at own (store_by p shapes things constants h) (meanings.Field ops.PutField f) fr.operands true
      × StandsAt at.world shapes h f.member (slice_get fr.operands 1) a.slot of × KeepsAs p at.world f.member e × HoldsOnly at.world (store_by p shapes things constants h) f.held of)
      (instructions.Used (meanings.Field ops.PutField f)) fr (store_by p shapes things constants h) (leaves way [] g (store_by p shapes things constants k)))
      → Did a.op
  write_row is b yes-it-does serve each e same did =
      as_op ops.PutField is (λ others constants seen r at own entries inherited site.
      let served = serves_is ops.PutField b true yes-it-does serve others constants at own seen site in
      let kept = put_keeps x l counts fr h f a n e same others constants at own site in
      did x.ancestors.now x.shapes.now others constants f a.cell r at own entries inherited
      (served, put_stands x l counts fr h f a n (is_static_as ops.PutField is) each others constants at own site served, kept.0, kept.1))

  pub static_row : a.op ≡ ops.GetStatic
      → ((p : Program) (shapes : Shapes) (things : Things) (constants : List (List ℕ × ℕ)) (f : FieldMeaning) →
      ActsWhere (λ (at : Site) (own : Member → Bool). StandsStatic at.world shapes f.member a.slot a.cell)
      (instructions.Used (meanings.Field ops.GetStatic f)) fr (store_by p shapes things constants h) (leaves way [] g (store_by p shapes things constants k)))
      → Did a.op
  static_row is did =
      as_op ops.GetStatic is (λ others constants seen r at own entries inherited site.
      did x.ancestors.now x.shapes.now others constants f r at own entries inherited
      (stands_static x l counts fr h f a n (is_static_as ops.GetStatic is) at own site))

  pub put_row : a.op ≡ ops.PutStatic → (b : Bool) → ServesAs x counts fr.method (meanings.Field ops.PutStatic f) h fr.operands b
      → (e : ElementRef) → ((q : Program) (v : Value ℕ) → exact.narrow a.narrow v ≡ narrowed (Some (element_named q e)) v)
      → ((p : Program) (shapes : Shapes) (things : Things) (constants : List (List ℕ × ℕ)) (f : FieldMeaning) (of : CellType) →
      ActsWhere (λ (at : Site) (own : Member → Bool). Serve at own (store_by p shapes things constants h) (meanings.Field ops.PutStatic f) fr.operands b
      × StandsStatic at.world shapes f.member a.slot of × KeepsAs p at.world f.member e × HoldsOnly at.world (store_by p shapes things constants h) f.held of)
      (instructions.Used (meanings.Field ops.PutStatic f)) fr (store_by p shapes things constants h) (leaves way [] g (store_by p shapes things constants k)))
      → Did a.op
  put_row is b serve e same did =
      as_op ops.PutStatic is (λ others constants seen r at own entries inherited site.
      let kept = put_keeps x l counts fr h f a n e same others constants at own site in
      did x.ancestors.now x.shapes.now others constants f a.cell r at own entries inherited
      (serve others constants at own seen site, stands_static x l counts fr h f a n (is_static_as ops.PutStatic is) at own site, kept.0, kept.1))

module _ (x : Lasting) (l : IsLasting x) (counts : Counts) {E : Type 0} (fr g : FrameOf ℕ E) (h k : Heaped) (a : FieldAt) (f : FieldMeaning)
    (n : NamesField x.ancestors.now fr.method.class a f) where
  -- operands that don't serve
  pub not_row : (op : FieldOp) → a.op ≡ op → (b : Bool) → b ≡ false → ServesAs x counts fr.method (meanings.Field op f) h fr.operands b
      → SeenActs x counts (instructions.Used (meanings.Field a.op f)) fr h ways.Stuck g k
  not_row op is b not-so serve =
      as_op x l counts fr g h k ways.Stuck a f n op is (unserved x l counts fr h op f g k (serves_is x l counts fr g h k ways.Stuck a f n op b false not-so serve))

  -- statics that aren't there
  pub read_past : a.op ≡ ops.GetStatic → ReadsNone → length h.statics ≤ a.slot → SeenActs x counts (instructions.Used (meanings.Field a.op f)) fr h ways.Stuck g k
  read_past is none high =
      as_op x l counts fr g h k ways.Stuck a f n ops.GetStatic is
      (get_past x l counts fr h f a n (is_static_as x l counts fr g h k ways.Stuck a f n ops.GetStatic is) none high g k)

  pub write_past : a.op ≡ ops.PutStatic → ReadsNone → length h.statics ≤ a.slot → SeenActs x counts (instructions.Used (meanings.Field a.op f)) fr h ways.Stuck g k
  write_past is none high =
      as_op x l counts fr g h k ways.Stuck a f n ops.PutStatic is
      (put_past x l counts fr h f a n (is_static_as x l counts fr g h k ways.Stuck a f n ops.PutStatic is) none high g k)

-- a static that was read, if there was memory
pub got_static : (x : Lasting) (l : IsLasting x) {E : Type 0} (fr g : FrameOf ℕ E) (h : Heaped) (a : FieldAt) → a.op ≡ ops.GetStatic
    → {F : Type 0} (result : Result Way F)
    → IfOk result (λ way. (p : Program) (shapes : Shapes) (things : Things) (constants : List (List ℕ × ℕ)) (f : FieldMeaning) →
    ActsWhere (λ (at : Site) (own : Member → Bool). StandsStatic at.world shapes f.member a.slot a.cell)
    (instructions.Used (meanings.Field ops.GetStatic f)) fr (store_by p shapes things constants h) (leaves way [] g (store_by p shapes things constants h)))
    → IfOk result (λ way. (counts : Counts) (f : FieldMeaning) → NamesField x.ancestors.now fr.method.class a f
    → SeenActs x counts (instructions.Used (meanings.Field a.op f)) fr h way g h)
got_static x l fr g h a is (Ok way) did = λ counts f n. static_row x l counts fr g h h way a f n is did
got_static x l fr g h a is (Err e) did = tt

-- the same where there are so many permissions and contexts
pub got_by : (x : Lasting) {E : Type 0} (fr g : FrameOf ℕ E) (h : Heaped) (a : FieldAt) (counts : Counts) {F : Type 0} (result : Result Way F)
    → IfOk result (λ way. (counts : Counts) (f : FieldMeaning) → NamesField x.ancestors.now fr.method.class a f
    → SeenActs x counts (instructions.Used (meanings.Field a.op f)) fr h way g h)
    → IfOk result (λ way. (f : FieldMeaning) → NamesField x.ancestors.now fr.method.class a f → SeenActs x counts (instructions.Used (meanings.Field a.op f)) fr h way g h)
got_by x fr g h a counts (Ok way) did = did counts
got_by x fr g h a counts (Err e) did = tt
