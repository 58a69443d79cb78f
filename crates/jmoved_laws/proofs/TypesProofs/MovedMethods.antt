-- The methods of a moved program are what their old ones became.
use Rattle.std.proofs.Common.{◌≡◌, ℕ, zero, suc, ◌+◌, ◌≤◌, ◌<◌, max, Bool, true, false, List, [], ◌∷◌, ◌++◌, length, map, Option, Some, None, refl, sym, ap, subst, ◌∙◌, arith}
use Rattle.std.specs.Prelude.{IsTrue, ◌&&◌, ◌||◌, ◌==◌, codes, is_some, nat_lt, option_map, option_and_then, slice_get, if◌then◌else◌}
use Rattle.std.specs.List.{AllByRecursion, list_all, list_any}
use Rattle.std.specs.Str.{bytes_eq}
use Rattle.std.proofs.lemmas.List.{reverse-reverse}
use Rattle.std.proofs.lemmas.Slice.Eq.{bytes_eq-Decides}
use Rattle.jground.specs.jbase.ListMaps.{each_some, put_front}
use Rattle.jground.specs.jformat.Format.{is_good, unless, ◌·◌}
use Rattle.jground.proofs.JformatProofs.ReadingSteps.{first_true, second_true}
use Rattle.jparts.specs.declared.jpool.descriptor.FieldType.{FieldType}
use Rattle.jparts.specs.declared.jpool.entry.Entry.{Entry}
use Rattle.jparts.specs.jpool.Descriptors.{slots_of}
use Rattle.jtypes.specs.TypeFrames.{places_of}
use Rattle.jparts.specs.jpool.ClassNames.{is_class_name}
use Rattle.jparts.specs.jpool.ConstantPools.{class_name_at, is_class}
use Rattle.jparts.proofs.JpoolProofs.PoolLaws.{at_index}
use Rattle.jparts.specs.declared.jcode.op.Handler.{Handler}
use Rattle.jparts.specs.declared.jcode.op.Placed.{Placed}
use Rattle.jparts.specs.jcode.Instructions.{code}
use Rattle.jclass.specs.declared.class.Attribute.{Attribute}
use Rattle.jclass.specs.declared.class.Attribute.TheVariants.{Code, ConstantValue, Raw}
use Rattle.jclass.specs.declared.class.ClassParts.{ClassParts}
use Rattle.jclass.specs.declared.class.CodeBody.{CodeBody}
use Rattle.jclass.specs.declared.class.MemberInfo.{MemberInfo}
use Rattle.jclass.specs.declared.fault.ClassFault.TheVariants.{Index}
use Rattle.jclass.specs.IndexFormats.{index, u2}
use Rattle.jclass.specs.CodeFormat.{code_content, handler, handler_parts, named_type, target_fault, frames_in}
use Rattle.jclass.specs.MemberFormat.{body_of}
use Rattle.jclass.specs.FlagRules.{names_caught, names_class, is_plain_class}
use Rattle.jlinking.specs.jreferring.ClassNameAccess as names
use Rattle.jclass.specs.FileContents.{IsIn}
use Rattle.jclass.proofs.FittingClasses.{code_fits, code_leads}
use Rattle.jparts.specs.declared.jmaps.types.FullFrame.{FullFrame}
use Rattle.jparts.specs.declared.jmaps.types.MapType.{MapType}
use Rattle.jparts.specs.declared.jmaps.types.MapType.TheVariants as items
use Rattle.jparts.specs.declared.jmaps.types.RawFrame.{RawFrame}
use Rattle.jparts.specs.jmaps.StackMapFormat.{map_type}
use Rattle.jtypes.specs.declared.vtype.Name.{Name}
use Rattle.jtypes.specs.declared.vtype.Element.TheVariants as elements
use Rattle.jtypes.specs.declared.vtype.VType.{VType}
use Rattle.jtypes.specs.declared.vtype.VType.TheVariants.{Object, Ctx}
use Rattle.jtypes.specs.DescriptorElements.{in_brackets}
use Rattle.jlinking.proofs.JlinkProofs.CodeMeanings.{means}
use Rattle.jmove.specs.declared.method.Expand.{Expand}
use Rattle.jmove.specs.declared.method.MethodIn.{MethodIn}
use Rattle.jmove.specs.declared.naming.Security.TheVariants as security
use Rattle.jmove.specs.PoolAdditions.{IsFront, with_body, ◌>>◌}
use Rattle.jmove.specs.MethodExpansion.{CanMove, expansion, limit_of, moved_by, moved_handler}
use Rattle.jmove.specs.MovedFrames.{moved_frame}
use Rattle.jmove.specs.declared.naming.Named.{Named}
use Rattle.jparts.specs.jmaps.ExpandedFrames.{can_write, expand_from}
use Rattle.jground.specs.jbase.FirstFaults.{first_some}
use Rattle.jmove.proofs.CodeLayout.{code_laid}
use Rattle.jmove.proofs.PoolGrowth.{body_grows, front_on}
use Rattle.jmove.proofs.MethodLimits.{no_limit, short}
use Rattle.jmove.proofs.MoveAnswers.{named_can, named_limit}
use Rattle.jrewriting.specs.jmove_laws.InstructionNumbers.{IsNth}
use Rattle.jrewriting.specs.jmove_laws.HandlerRanges.{IsRange}
use Rattle.jrewriting.proofs.JmoveLawsProofs.FramePlaces.{written}
use Rattle.jrewriting.proofs.JmoveLawsProofs.BranchTargets.{within}
use Rattle.jmoveclass.specs.EntryLocals as begun
use Rattle.jmoveclass.specs.EntryLocals.{params_in, slots}
use Rattle.jmoveclass.specs.CallExpansion.{expands}
use Rattle.jmoveclass.specs.MovedMembers as class
use Rattle.jmoveclass.specs.MovedMembers.{frames_of, maps_name, method_in, moved_maps, with_code, with_first}
use Rattle.jmoveclass.specs.ProofNames.{or_none}
use Rattle.jmoveclass.specs.MovedClasses.{moved_class, moved_part}
use Rattle.jmoveclass.proofs.MovedAttributes as limiting
use Rattle.jmoveclass.proofs.CodeMoves.{code_can, code_limit}
use Rattle.jmoveclass.proofs.DemandPreservation.{good_is}
use Rattle.jmoveclass.proofs.MethodContents.{frames_fit}
use Rattle.jrewriting.specs.jmoveclass_laws.MovedFiles.{CanBeFile}
use Rattle.jrewriting.proofs.JmoveclassLawsProofs.PrologueClasses.{AreItems}
use Rattle.jrewriting.proofs.JmoveclassLawsProofs.CodeFormat.{begin_of, code_parts_of, new_body, new_frames, set_of}
use Rattle.jrewriting.proofs.JmoveclassLawsProofs.FrameClasses.{RawItems, raw_items}
use Rattle.jrewriting.proofs.JmoveclassLawsProofs.StackMaps.{can_write_full, frames_there}
use Rattle.jrewriting.proofs.JmoveclassLawsProofs.MovedMethods.{Like}
use Rattle.jrewriting.proofs.JmoveclassLawsProofs.Methods.{has_none}
use Rattle.jrewriting.proofs.JmoveclassLawsProofs.SoundPools.{front_length}
use Rattle.jresolution.specs.declared.jprogram.member.MethodId.{MethodId}
use Rattle.jresolution.specs.declared.jprogram.part.ClassRef.{ClassRef}
use Rattle.jresolution.specs.declared.jprogram.part.CodePart.{CodePart}
use Rattle.jresolution.specs.jprogram.ProgramClasses.{Class, Program, find, ref_of}
use Rattle.jresolution.specs.jprogram.MemberResolution.{is_init, method_id}
use Rattle.jresolution.specs.jprogram.NameChecks.{desc_reserved, is_reserved, text_reserved, type_reserved}
use Rattle.jresolution.specs.jprogram.ProofNames.{return_reserved}
use Rattle.jparts.specs.declared.jpool.descriptor.Descriptor.{Descriptor}
use Rattle.jresolution.specs.jprogram.ClassFileParts.{code_of, is_static, member_desc, or_empty, this_name}
use Rattle.jresolution.proofs.JprogramProofs.ClassNumbers.{own_number}
use Rattle.jresolution.specs.juses.IndexedInstructions.{instruction, instruction_at}
use Rattle.jresolution.specs.ProofNames.{as_class}
use Rattle.jresolution.specs.juses.InstructionMeanings as meanings
use Rattle.jresolution.specs.juses.DescriptorTypes.{Typed, is_context, name, there, type_in, type_of}
use Rattle.jtyping.specs.jrule.PoolEffects.{throwable}
use Rattle.jtyping.specs.jwelltyped.DeclaredFrames.{item}
use Rattle.jtyping.specs.jwelltyped.ProofNames.{or_top}
use Rattle.jtyping.specs.jwelltyped.MethodPremises.{Method, method_of, params_of, receiver}
use Rattle.jtyping.specs.jwelltyped.WellTypedness.{IsTyped}
use Rattle.jtyping.specs.jwelltyped.VerifierTests.{WellTyped, caught_type, method_fault}
use Rattle.jtyping.proofs.JwelltypedProofs.Methods.{method_typed, typed_method, well_typed_exactly}
use Rattle.jrewriting.specs.jrewrite.LinkageLaws.{IsLinked}
use Rattle.jrewriting.specs.jrewrite.RewrittenPrograms.{limits, moved}
use Rattle.jrewriting.proofs.JrewriteProofs.Calls.{Known}
use Rattle.jrewriting.proofs.JrewriteProofs.Bodies.{IsCodePut}
use Rattle.jrewriting.proofs.JrewriteProofs.CodeNames.{stays_by}
use Rattle.jrewriting.proofs.JrewriteProofs.DeclarationChecks.{first_false, second_false}
use Rattle.jrewriting.proofs.JrewriteProofs.ClassFileParts.{can_be_file}
use Rattle.jrewriting.proofs.JrewriteProofs.FrameLocals.{Keep, framed, stand_of, wide_of}
use Rattle.jrewriting.proofs.JrewriteProofs.MemberPhase.{all_moving, moving_of}
use Rattle.jrewriting.proofs.JrewriteProofs.FinalOverrides.{moved_at, moved_side, pair_at}
use Rattle.jrewriting.proofs.JrewriteProofs.Params.{class_named, desc_free}
use Rattle.jrewriting.proofs.JrewriteProofs.PlainPrograms.{is_plain}
use Rattle.jrewriting.proofs.JrewriteProofs.PoolReferences.{AreNumbered, IsContext, IsSecurity, context_on, numbers_on, security_on}
use Rattle.jrewriting.proofs.JrewriteProofs.Security.{IsPassing}
use Rattle.jrewriting.proofs.JrewriteProofs.HierarchyPhases.{IsPlain, names_stay, part_of_moved, plain_at, text_plain}
use Rattle.jrewriting.proofs.JrewriteProofs.PoolAdditions.{OfMethod, code_put, known_of, of_method}
use Rattle.jrewriting.proofs.JrewriteProofs.Widths.{Under, under_items}
use Rattle.jmoved_laws.proofs.NamesProofs.Classes.{moved_ordered, ordered, same_tree}
use Rattle.jmoved_laws.proofs.NamesProofs.Twins.{same_twin}
use Rattle.jmoved_laws.proofs.NamesProofs.Types.{type_same}
use Rattle.jsimulation_laws.specs.relation.InstructionExpansion.{expanded, rt_meaning}
use Rattle.jmoved_laws.proofs.CodeProofs.MovedMethodCode.{code_in, Both, IsThere, code_there, first_there, has_bytes, instruction_there}
use Rattle.jmoved_laws.proofs.CodeProofs.Entries.{entry_same}
use Rattle.jmoved_laws.proofs.CodeProofs.InstructionFetch as fetching
use Rattle.jmoved_laws.proofs.CodeProofs.ExpansionMeanings.{Each, Means, is_name, static_means}
use Rattle.jmoved_laws.proofs.CodeProofs.Rt.{method_rt}
use Rattle.jmoved_laws.proofs.CodeProofs.Types.{context_in}
use Rattle.jrewriting.proofs.JrewriteProofs.Security.{rt_of}
use Rattle.jmoved_laws.specs.types.FullFrameLaws.{StandFor}
use Rattle.jmoved_laws.proofs.TypesProofs.AccessCalls.{asked}
use Rattle.jmoved_laws.proofs.TypesProofs.MovedDescriptors.{Says, method_is, says}
use Rattle.jmoved_laws.proofs.TypesProofs.ParameterLocals.{all_places, all_stay, params_slots}
use Rattle.jmoved_laws.proofs.TypesProofs.FrameItems.{class_at_is, type_named_is}
use Rattle.jmoved_laws.proofs.TypesProofs.TypingPreservation.{moved_typed}
use Rattle.jmoved_laws.proofs.TypesProofs.NewSites as naming
use Rattle.jmoved_laws.proofs.TypesProofs.PrologueClasses.{AllAt, AttributeAt, CodeAt, MethodsAt, class_at, first_put}
use Rattle.jmoved_laws.proofs.TypesProofs.InstructionPreservation.{IsMoving, Moving, Row, begin, new, number, place, to, y}
use Rattle.jmoved_laws.proofs.TypesProofs.DeclaredFrames.{AreWritten, written_new}

-- ---- numbers

local_small : (a b : ℕ) → a < 65535 → b < 255 → max a (b + 1) < 0xffff
local_small a b h k = omega arith

over_slots : (a n : ℕ) → n < max a (n + 1)
over_slots a n = omega arith

under_local : (a b n : ℕ) → n ≤ a → n ≤ max a b
under_local a b n h = omega arith

-- ---- what was put, one by one

attribute_in : (p : Program) (c d : ClassParts) (domain : ℕ) (m : MemberInfo) (xs : List Attribute) (i : ℕ) (a : Attribute) → AllAt p c d domain m xs → slice_get xs i ≡ Some a
    → AttributeAt p c d domain m a
attribute_in p c d domain m [] i a h at = absurd cc
attribute_in p c d domain m (x ∷ xs) zero a h at = let same : x ≡ a = cc in subst (AttributeAt p c d domain m) same h.0
attribute_in p c d domain m (x ∷ xs) (suc i) a h at = attribute_in p c d domain m xs i a h.1 at

-- an attribute that is code was put as one
code_at : (p : Program) (c d : ClassParts) (domain : ℕ) (m : MemberInfo) (a : Attribute) (b : CodeBody) → AttributeAt p c d domain m a → body_of a ≡ Some b
    → CodeAt p c d domain m a
code_at p c d domain m (Code n stack locals is handlers others) b h e = h
code_at p c d domain m (ConstantValue n value) b h e = absurd cc
code_at p c d domain m (Raw n bytes) b h e = absurd cc

-- the old method of a moved one
record OldOf (p : Program) (c d : ClassParts) (domain : ℕ) (ms : List MemberInfo) (j : ℕ) (n : MemberInfo) : Type 0 where
  pub old : MemberInfo
  pub there : slice_get ms j ≡ Some old
  pub all : AllAt p c d domain old n.attributes

old_of : (p : Program) (c d : ClassParts) (domain : ℕ) (ms ns : List MemberInfo) (j : ℕ) (n : MemberInfo) → MethodsAt p c d domain ms ns → slice_get ns j ≡ Some n
    → OldOf p c d domain ms j n
old_of p c d domain [] [] j n h at = absurd cc
old_of p c d domain [] (y ∷ ys) j n h at = absurd h
old_of p c d domain (x ∷ xs) [] j n h at = absurd h
old_of p c d domain (x ∷ xs) (y ∷ ys) zero n h at =
    let same : y ≡ n = cc in
    record { old = x; there = refl; all = subst (λ (z : MemberInfo). AllAt p c d domain x z.attributes) same h.0 }
old_of p c d domain (x ∷ xs) (y ∷ ys) (suc j) n h at =
    let r = old_of p c d domain xs ys j n h.1 at in
    record { old = r.old; there = r.there; all = r.all }

-- ---- a class of the program

some_of : {A : Type 0} (o : Option A) → is_some o ≡ true → (x : A) × (o ≡ Some x)
some_of None h = absurd cc
some_of (Some x) h = (x, refl)

there_is : (q : Program) (text : List ℕ) (r : ClassRef) → option_map ref_of (find q text) ≡ Some r → there q text ≡ Some (name text)
there_is q text r h = go (find q text) h
  where
    go : (o : Option Class) → option_map ref_of o ≡ Some r → (if is_some o then Some (name text) else None) ≡ Some (name text)
    go None e = absurd cc
    go (Some x) e = refl

no_context : (text : List ℕ) → is_reserved text ≡ false → is_context (elements.Class (name text)) ≡ false
no_context text h = go (bytes_eq text (codes "sps/Ctx")) refl
  where
    go : (b : Bool) → bytes_eq text (codes "sps/Ctx") ≡ b → b ≡ false
    go false e = refl
    go true e =
        let same : text ≡ codes "sps/Ctx" = (bytes_eq-Decides text (codes "sps/Ctx")).0 e in
        let no_more : is_reserved (codes "sps/Ctx") ≡ false = subst (λ (z : List ℕ). is_reserved z ≡ false) same h in
        no_more

module _ (p : Program) (is : IsLinked p) (well : WellTyped p) (free : limits p ≡ None) (i : ℕ) (part : CodePart) (at : slice_get p.parts i ≡ Some part) where
  abbrev c : ClassParts
  c = part.class

  abbrev d : ClassParts
  d = moved_class p part.domain part.class

  abbrev q : Program
  q = moved p

  plainly : IsPlain p
  plainly = is_plain p is

  passing : IsPassing (moved p)
  passing = record { side = moved_side p; names = names_stay p (is_plain p is) }

  known : Known p part.class (moved_class p part.domain part.class)
  known = known_of p is well free i part at

  file : CanBeFile p part.domain part.class
  file = can_be_file p is well free i part at

  this_plain : is_reserved (this_name part.class) ≡ false
  this_plain =
      let x = plain_at p plainly i part at in
      text_plain part.class part.class.this_class x.kept x.named.this

  plain_class : (o : Option (List ℕ)) → IsTrue (is_plain_class o) → is_class_name (or_empty o) ≡ true
  plain_class None h = absurd cc
  plain_class (Some text) h = h

  this_class : is_class_name (this_name part.class) ≡ true
  unfolding names_class
  this_class = plain_class (class_name_at part.class.pool part.class.this_class) (plain_at p plainly i part at).named.this

  -- its name stands in the moved program for the class
  this_there : there (moved p) (this_name part.class) ≡ Some (name (this_name part.class))
  this_there =
      let same : this_name (moved_class p part.domain part.class) ≡ this_name part.class = known.pair.this in
      let own = own_number (moved p) i (moved_part p part) (moved_ordered p plainly) (moved_at p i part at) in
      there_is (moved p) (this_name part.class) _ (sym (ap (λ (t : List ℕ). option_map ref_of (find (moved p) t)) same) ∙ own)

  this_item : (whole : List Entry) (n : ℕ) → class_name_at whole n ≡ Some (this_name part.class) → item (moved p) whole (items.Object n) ≡ Object (name (this_name part.class))
  unfolding type_in
  this_item whole n h =
      let text = this_name part.class in
      let found : type_in (moved p) (names.class_type text) ≡ Some (Object (name text)) =
      ap (λ (o : Option Name). option_map (type_of 0) (option_map elements.Class o)) this_there
      ∙ ap (λ (b : Bool). Some (if b then Ctx else in_brackets 0 (elements.Class (name text)))) (no_context text this_plain) in
      ap or_top (class_at_is (moved p) whole n text h ∙ type_named_is (moved p) text ∙ ap (type_in (moved p)) (class_named text this_class) ∙ found)

  context_class : is_class_name (codes "sps/Ctx") ≡ true
  unfolding is_class_name
  context_class = refl

  context_item : (whole : List Entry) (n : ℕ) → class_name_at whole n ≡ Some (codes "sps/Ctx") → item (moved p) whole (items.Object n) ≡ Ctx
  context_item whole n h =
      ap or_top (class_at_is (moved p) whole n (codes "sps/Ctx") h ∙ type_named_is (moved p) (codes "sps/Ctx")
      ∙ ap (type_in (moved p)) (class_named (codes "sps/Ctx") context_class) ∙ context_in (moved p) passing)

  -- ---- classes of the old pool

  class_same : (n : ℕ) → IsTrue (is_class part.class.pool n) → meanings.class_at (moved p) (moved_class p part.domain part.class).pool n ≡ meanings.class_at p part.class.pool n
  unfolding meanings.class_at is_class
  class_same n h =
      let x = stays_by is_name (λ a b. refl) (λ a b. refl) refl (slice_get part.class.pool n) h in
      ap (option_and_then as_class) (entry_same p part.class (moved_class p part.domain part.class) known n x.e x.at x.kept)

  class_of_item : (n : ℕ) → IsTrue ((named_type part.class.pool).fits (items.Object n)) → IsTrue (is_class part.class.pool n)
  unfolding map_type
  class_of_item n h = good_is (is_class part.class.pool n) Index (second_true (nat_lt n 65536) (is_good (unless (is_class part.class.pool n) Index)) h)

  item_same : (t : MapType) → IsTrue ((named_type part.class.pool).fits t) → item p part.class.pool t ≡ item (moved p) (moved_class p part.domain part.class).pool t
  item_same (items.Object n) h = ap or_top (sym (class_same n (class_of_item n h)))
  item_same items.Top h = refl
  item_same items.Int h = refl
  item_same items.Long h = refl
  item_same items.Null h = refl
  item_same items.UninitThis h = refl
  item_same (items.Uninit o) h = refl

  items_same : (ts : List MapType) → AreItems part.class.pool ts → StandFor p part.class.pool (item (moved p) (moved_class p part.domain part.class).pool) ts
  items_same [] h = tt
  items_same (t ∷ ts) h = (
    item_same t (first_true ((named_type part.class.pool).fits t) (list_all (named_type part.class.pool).fits ts) h),
    items_same ts
        (second_true ((named_type part.class.pool).fits t) (list_all (named_type part.class.pool).fits ts) h),
  )

  frames_stand : (rs : List RawFrame) → RawItems part.class.pool rs
      → AllByRecursion (λ r. StandFor p part.class.pool (item (moved p) (moved_class p part.domain part.class).pool) r.locals
      × StandFor p part.class.pool (item (moved p) (moved_class p part.domain part.class).pool) r.stack) rs
  frames_stand [] h = tt
  frames_stand (r ∷ rs) h = ((items_same r.locals h.0.0, items_same r.stack h.0.1), frames_stand rs h.1)

  caught_names : (ops : List Placed) (h : Handler) → IsTrue ((handler part.class.pool ops).fits h) → IsTrue (names_caught part.class.pool h.class)
  unfolding handler
  caught_names ops h fit =
      let pool = part.class.pool in
      let numbers = first_true ((u2 · u2 · u2 · index (names_caught pool)).fits (handler_parts h)) (is_good (target_fault ops (handler_parts h))) fit in
      let last = second_true (u2.fits h.at) ((index (names_caught pool)).fits h.class)
      (second_true (u2.fits h.end) ((u2 · index (names_caught pool)).fits (h.at, h.class))
      (second_true (u2.fits h.start) ((u2 · u2 · index (names_caught pool)).fits (h.end, (h.at, h.class))) numbers)) in
      good_is (names_caught pool h.class) Index (second_true (u2.fits h.class) _ last)

  caught_by : (n : ℕ) (b : Bool) → IsTrue (b || is_class part.class.pool n)
      → (if b then Some throwable else meanings.class_at (moved p) (moved_class p part.domain part.class).pool n)
      ≡ (if b then Some throwable else meanings.class_at p part.class.pool n)
  caught_by n true h = refl
  caught_by n false h = class_same n h

  -- ---- types of parameters

  types_same : (ts : List FieldType) → list_any type_reserved ts ≡ false → each_some (type_in (moved p)) ts ≡ each_some (type_in p) ts
  unfolding each_some
  types_same [] plain = refl
  types_same (t ∷ ts) plain =
      ap (λ (o : Option VType). put_front o (each_some (type_in (moved p)) ts)) (type_same p plainly t (first_false (type_reserved t) (list_any type_reserved ts) plain))
      ∙ ap (put_front (type_in p t)) (types_same ts (second_false (type_reserved t) (list_any type_reserved ts) plain))

  -- ---- a method with code

  module _ (j : ℕ) (m : MemberInfo) (in_class : slice_get part.class.methods j ≡ Some m) (a : Attribute)
      (k : CodeAt p part.class (moved_class p part.domain part.class) part.domain m a) where
    abbrev b : CodeBody
    b = k.b

    abbrev x0 : List MapType × List Entry
    x0 = with_first part.class m (frames_in k.b) k.pool

    abbrev ks : List Expand
    ks = expands p part.class.pool k.b.ops

    abbrev y0 : Named × List Entry
    y0 = with_body ks (frames_of x0.0 k.b) x0.1

    abbrev old : Method
    old = method_of p part.class m k.b

    abbrev now : CodeBody
    now = new_body part.class m k.b part.domain x0.0 y0.0.enter y0.0.kinds y0.0.context

    abbrev id : MethodId
    id = method_id i j

    -- what it became
    abbrev became : Moving
    became = record {
      p = p;
      q = moved p;
      x = method_of p part.class m k.b;
      pool = (moved_class p part.domain part.class).pool;
      attributes = moved_maps (new_frames part.class m k.b part.domain x0.0 y0.0.enter y0.0.kinds y0.0.context) (first_some maps_name k.b.attributes);
      slots = slots part.class m;
      enter = y0.0.enter;
      s = set_of part.class m k.b part.domain x0.0;
      ks = y0.0.kinds;
    }

    now_is : (b : CodeBody) → body_of a ≡ Some b → now ≡ b
    unfolding with_code ◌>>◌ moved_by
    now_is b h = let e : Some now ≡ Some b = ap body_of k.is ∙ h in cc

    later : IsFront y0.1 (moved_class p part.domain part.class).pool
    unfolding with_code ◌>>◌
    later = k.later

    few : length y0.1 ≤ 65535
    unfolding with_code ◌>>◌
    few = k.few

    of : OfMethod p part.class m
    of = of_method p is well free i part at m (j, in_class)

    put : IsCodePut p part.class m k.b k.pool
    put = code_put p part.class (moved_class p part.domain part.class) known part.domain m k.name k.b k.pool k.grown of.begins of.this k.coded k.few

    enters : IsSecurity security.Enter (moved_class p part.domain part.class).pool y0.0.enter
    enters = security_on security.Enter y0.1 (moved_class p part.domain part.class).pool later y0.0.enter put.body.enter

    numbers : AreNumbered p part.class (moved_class p part.domain part.class).pool (expands p part.class.pool k.b.ops) y0.0.kinds
    numbers = numbers_on p part.class y0.1 (moved_class p part.domain part.class).pool later ks y0.0.kinds put.body.kinds

    first_front : IsFront x0.1 y0.1
    first_front = (body_grows ks (frames_of x0.0 k.b)).on x0.1

    first_later : IsFront x0.1 (moved_class p part.domain part.class).pool
    first_later = front_on x0.1 y0.1 (moved_class p part.domain part.class).pool first_front later

    first_few : length x0.1 ≤ 65535
    first_few = let le = front_length x0.1 y0.1 first_front in let most = few in omega arith

    typed_old : IsTyped p old
    typed_old = (well_typed_exactly p).0 well part m k.b (i, at) (j, in_class) k.coded.is

    fit : IsTrue ((code_content part.class.pool).fits k.b)
    fit = code_fits part.class k.b k.coded.has

    old_there : IsThere p id part.class k.b
    old_there = record { class = ap (option_map (λ part. part.class)) at; body = ap (option_and_then code_of) in_class ∙ k.coded.is }

    -- ---- what it is given

    said : Says p part.class m
    said = says p is well free i part at j m in_class

    params_are : old.params ≡ receiver (is_static m.flags) (is_init part.class m) (name (this_name part.class)) ++ said.params
    params_are =
        ap (λ (t : Typed). receiver (is_static m.flags) (is_init part.class m) (name (this_name part.class)) ++ params_of t) said.types
        ∙ ap (λ (vs : List VType). receiver (is_static m.flags) (is_init part.class m) (name (this_name part.class)) ++ vs) (reverse-reverse said.params)

    new_params : each_some (type_in (moved p)) (begun.params_of part.class m) ≡ Some said.params
    unfolding text_reserved
    new_params =
        let free = desc_free p is i part m at (j, in_class) in
        let plain : (list_any type_reserved said.ps || return_reserved said.ret) ≡ false = sym (ap desc_reserved said.reads) ∙ free in
        ap (λ (o : Option Descriptor). each_some (type_in (moved p)) (params_in o)) said.reads
        ∙ types_same said.ps (first_false (list_any type_reserved said.ps) (return_reserved said.ret) plain) ∙ said.are

    First : List RawFrame → Type 0
    First rs = length (with_first part.class m rs k.pool).1 ≤ 65535 → IsFront (with_first part.class m rs k.pool).1 (moved_class p part.domain part.class).pool
        → map (item (moved p) (moved_class p part.domain part.class).pool) (with_first part.class m rs k.pool).0 ≡ old.params

    first_by : (f : RawFrame) (fs : List RawFrame) → First (f ∷ fs)
    unfolding First
    first_by f fs few front =
        first_put (moved p) part.class m k.pool k.grown.sound of.begins (λ whole n h. this_item whole n h) few said.params new_params
        (moved_class p part.domain part.class).pool front ∙ sym params_are

    begins_with : (f : RawFrame) (fs : List RawFrame) → frames_in k.b ≡ f ∷ fs → map (item (moved p) (moved_class p part.domain part.class).pool) x0.0 ≡ old.params
    unfolding First
    begins_with f fs e = subst First (sym e) (first_by f fs) first_few first_later

    contexts : (f : FullFrame) (fs : List FullFrame) → frames_of x0.0 k.b ≡ f ∷ fs → item (moved p) (moved_class p part.domain part.class).pool (items.Object y0.0.context) ≡ Ctx
    contexts f fs e =
        let all : IsContext (moved_class p part.domain part.class).pool (frames_of x0.0 k.b) y0.0.context =
        context_on y0.1 (moved_class p part.domain part.class).pool later (frames_of x0.0 k.b) y0.0.context put.body.context in
        let there : IsContext (moved_class p part.domain part.class).pool (f ∷ fs) y0.0.context = subst
        (λ (gs : List FullFrame). IsContext (moved_class p part.domain part.class).pool gs y0.0.context) e all in
        context_item (moved_class p part.domain part.class).pool y0.0.context there

    -- ---- its frames

    keep : (rs : List RawFrame) → frames_in k.b ≡ rs → Keep k.b (frames_of x0.0 k.b)
    unfolding frames_of expand_from
    keep [] e = subst (λ (rs : List RawFrame). Keep k.b (or_none (expand_from x0.0 0 None rs))) (sym e) tt
    keep (f ∷ fs) e =
        let under : Under x0.0 (map (item (moved p) (moved_class p part.domain part.class).pool) x0.0) = under_items (moved p) (moved_class p part.domain part.class).pool x0.0 in
        framed p old x0.0 (subst (Under x0.0) (begins_with f fs e) under) (typed_method p old typed_old)

    kept : Keep k.b (frames_of x0.0 k.b)
    kept = keep (frames_in k.b) refl

    code_old : (o : Attribute) × IsIn o m.attributes × (body_of o ≡ Some k.b)
    code_old = code_in m k.b k.coded.is

    abbrev moving : MethodIn
    moving = method_in part.class m k.b x0.0

    can : CanMove moving y0.0.kinds
    can = named_can moving ks x0.1 y0.1 y0.0 refl (code_can p part.class m k.b k.pool x0.1 x0.0 refl (file.can m code_old.0 k.b (j, in_class) code_old.1 code_old.2))

    none : limit_of moving y0.0.kinds ≡ None
    none =
        let all = limiting.no_limit p part.class m file.good (j, in_class) (has_none p part.domain part.class file.none) in
        named_limit moving ks x0.1 y0.1 y0.0 refl (code_limit p part.class m k.b k.pool x0.1 x0.0 refl (all code_old.0 k.b code_old.1 code_old.2))

    writes : IsTrue (can_write (map (moved_frame (to became) became.s.local y0.0.context) (frames_of x0.0 k.b)))
    unfolding frames_of
    writes =
        let within = no_limit moving y0.0.kinds can none in
        let near = short moving y0.0.kinds can none part.domain y0.0.enter in
        let there = frames_there part.class.pool k.b.attributes (code_parts_of part.class.pool k.b fit).attributes in
        let wide = wide_of k.b (frames_of x0.0 k.b) kept in
        let write = can_write_full part.class.pool k.b.max_locals x0.0 (frames_in k.b) can.locals there (frames_fit part.class k.b k.coded.has) wide in
        let locals = within.locals in
        let slots = within.slots in
        written (begin_of part.class m k.b part.domain x0.0 y0.0.enter) (set_of part.class m k.b part.domain x0.0) y0.0.kinds k.b.ops can.each can.is_code near
        (local_small k.b.max_locals (begun.slots part.class m) locals slots) y0.0.context (frames_of x0.0 k.b) (stand_of k.b (frames_of x0.0 k.b) kept)
        (λ n f lt. under_local k.b.max_locals (begun.slots part.class m + 1) _ (can.frames n f lt)) write

    written_new_is : AreWritten p (moved p) old (y became) (moved_class p part.domain part.class).pool (to became) became.s.local y0.0.context x0.0
    written_new_is = record {
      pool_is = refl;
      most_is = refl;
      attributes = refl;
      good = typed_old.good;
      begins = begins_with;
      named = contexts;
      stand = frames_stand (frames_in k.b) (raw_items part.class.pool (frames_in k.b)
          (frames_there part.class.pool k.b.attributes (code_parts_of part.class.pool k.b fit).attributes));
      behind = under_local k.b.max_locals (begun.slots part.class m + 1) k.b.max_locals (omega arith);
      wide = wide_of k.b (frames_of x0.0 k.b) kept;
      writes = writes;
    }

    slots_is : begun.slots part.class m ≡ length (places_of old.params)
    slots_is =
        let params : length (places_of said.params) ≡ slots_of (begun.params_of part.class m) =
        params_slots p (member_desc part.class m) said.ps said.ret said.params said.back said.reads said.types
        ∙ sym (ap (λ (o : Option Descriptor). slots_of (params_in o)) said.reads) in
        all_places (is_static m.flags) (is_init part.class m) (name (this_name part.class)) said.params (slots_of (begun.params_of part.class m)) params
        ∙ ap (λ (vs : List VType). length (places_of vs)) (sym params_are)

    caught_same : (h : Handler) → IsIn h k.b.handlers → caught_type (moved p) (y became) (moved_handler (to became) h) ≡ caught_type p old h
    unfolding names_caught
    caught_same h is =
        let pool = part.class.pool in
        let all = first_true (list_all (handler pool k.b.ops).fits k.b.handlers) (u2.fits (length k.b.handlers)) (code_parts_of pool k.b fit).handlers in
        caught_by h.class (h.class == 0) (caught_names k.b.ops h (at_index (handler pool k.b.ops).fits k.b.handlers is.0 h all is.1))

    ranges : (h : Handler) → IsIn h k.b.handlers → IsRange k.b.ops h
    ranges h is =
        let lead = code_leads part.class.pool k.b h fit is in
        record { start = lead.1; «end» = lead.2 }

    -- ---- with the method that stands in the moved class

    module _ (n : MemberInfo) (n_there : slice_get (moved_class p part.domain part.class).methods j ≡ Some n) (n_code : code_of n ≡ Some now) where
      both : Both p id k.b
      both = record {
        part = part;
        stands = at;
        method = m;
        declared = in_class;
        has = k.coded.has;
        known = known;
        old = old_there;
        first = x0.0;
        enter = y0.0.enter;
        ms = y0.0.kinds;
        context = y0.0.context;
        new = record { class = ap (option_map (λ part. part.class)) (moved_at p i part at); body = ap (option_and_then code_of) n_there ∙ n_code };
        enters = enters;
        numbers = numbers;
      }

      rows : (l : ℕ) (e : Expand) (o : Placed) → IsNth y0.0.kinds k.b.ops l e o → Row became e o
      unfolding both
      rows l e o nth =
          let it = some_of (instruction_at p id l) (means p id k.b l is.links is.files (code_there p id part.class k.b old_there) (within k.b.ops l o nth.old)) in
          let meant : instruction p part.class.pool k.b.ops o ≡ Some it.0 =
          sym (ap (option_and_then (instruction p part.class.pool k.b.ops)) nth.old) ∙ sym (instruction_there p id part.class k.b old_there l) ∙ it.1 in
          let r = fetching.row_at p id k.b both l o it.0 nth.old meant in
          let kinds : Some r.kind ≡ Some e = sym r.is_nth.kind ∙ nth.kind in
          let same : r.kind ≡ e = cc in
          record {
            it = it.0;
            means = meant;
            row = subst (λ (z : Expand). Each (Means (moved p) (moved_class p part.domain part.class).pool (new became) (to became) o.at) (expansion became.s z o.op)
                (expanded (place became) (number became) it.0)) same r.row;
            asks = λ by c call e way. asked p is id l by c call (it.1 ∙ ap Some e) way;
          }

      names_meant : (l : ℕ) (e : Expand) (o : Placed) → IsNth y0.0.kinds k.b.ops l e o
          → naming.Meant p (moved p) part.class.pool (moved_class p part.domain part.class).pool (begin became) became.s y0.0.kinds k.b.ops can.each can.is_code e o
      names_meant l e o nth = let r = rows l e o nth in record { it = r.it; means = r.means; row = r.row }

      is_moving : IsMoving became
      is_moving = record {
        stands = ordered p plainly;
        same_tree = same_tree p plainly;
        owners = λ f. ap (λ (o : List ℕ). old.is_init && bytes_eq o old.class.0) (same_twin p plainly (all_moving p is well free) f).like.owner;
        fits = can.is_code;
        each = can.each;
        ranges = ranges;
        caught = caught_same;
        rows = rows;
        enters = static_means (moved p) (moved_class p part.domain part.class).pool (new became) (to became) 0 y0.0.enter (rt_meaning (rt_of security.Enter))
            (method_rt (moved p) known.passing security.Enter (moved_class p part.domain part.class).pool y0.0.enter enters);
        names = naming.renames p (moved p) part.class.pool (moved_class p part.domain part.class).pool (begin became) became.s y0.0.kinds k.b.ops can.each can.is_code names_meant;
        written_is = written_new p (moved p) old (y became) (moved_class p part.domain part.class).pool (to became) became.s.local y0.0.context x0.0 written_new_is;
        good = typed_old.good;
        slots_is = slots_is;
        some = first_there k.b.ops (length (code.spell k.b.ops)) (code_laid k.b.ops can.is_code) (has_bytes part.class.pool k.b fit);
        params_stay = all_stay p (to became) (is_static m.flags) (is_init part.class m) (name (this_name part.class)) (member_desc part.class m);
        behind = under_local k.b.max_locals (begun.slots part.class m + 1) k.b.max_locals (omega arith);
        behind_slots = over_slots k.b.max_locals (begun.slots part.class m);
      }

      now_typed : Like part.class (moved_class p part.domain part.class).pool m n → method_fault (moved p) (method_of (moved p) (moved_class p part.domain part.class) n now) ≡ None
      now_typed like = subst (λ (z : Method). method_fault (moved p) z ≡ None) (method_is p is well free i part at j m in_class n like k.b now)
          (moved_typed became is_moving typed_old)

  -- ---- each method

  method_stays : (j : ℕ) (n : MemberInfo) (b : CodeBody) → slice_get (moved_class p part.domain part.class).methods j ≡ Some n → code_of n ≡ Some b
      → method_fault (moved p) (method_of (moved p) (moved_class p part.domain part.class) n b) ≡ None
  method_stays j n b there is_code =
      let dd = moved_class p part.domain part.class in
      let all = class_at p part.class part.domain file (of_method p is well free i part at) in
      let o = old_of p part.class dd part.domain part.class.methods dd.methods j n all there in
      let a = code_in n b is_code in
      let k = code_at p part.class dd part.domain o.old a.0 b (attribute_in p part.class dd part.domain o.old n.attributes a.1.0 a.0 o.all a.1.1) a.2 in
      let same = now_is j o.old o.there a.0 k b a.2 in
      let twin = pair_at part.class dd part.class.methods dd.methods j (moving_of p is well free i part at).1 o.old o.there in
      let one : Some twin.0 ≡ Some n = sym twin.1.0 ∙ there in
      let is_n : twin.0 ≡ n = cc in
      let like = subst (Like part.class dd.pool o.old) is_n twin.1.1 in
      subst (λ (z : CodeBody). method_fault (moved p) (method_of (moved p) dd n z) ≡ None) same
      (now_typed j o.old o.there a.0 k n there (is_code ∙ ap (λ (z : CodeBody). Some z) (sym same)) like)

-- ---- the program

pub types_stay : (p : Program) → IsLinked p → WellTyped p → limits p ≡ None → WellTyped (moved p)
types_stay p is well free =
    (well_typed_exactly (moved p)).1 (λ x n b in_parts in_methods is_code. (
    let f = part_of_moved p in_parts.0 x in_parts.1 in
    let stays : IsIn n (moved_part p f.part).class.methods → IsTyped (moved p) (method_of (moved p) (moved_part p f.part).class n b) =
    λ at. method_typed (moved p) (method_of (moved p) (moved_part p f.part).class n b) (method_stays p is well free in_parts.0 f.part f.at at.0 n b at.1 is_code) in
    subst (λ (z : CodePart). IsIn n z.class.methods → IsTyped (moved p) (method_of (moved p) z.class n b)) f.is stays in_methods))
