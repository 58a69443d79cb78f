-- The operands of instructions with fields.
use Rattle.std.proofs.Common.{◌≡◌, ◌∙◌, ℕ, Bool, true, false, ◌&&◌, ◌||◌, List, [], ◌∷◌, Option, Some, None, refl, sym, ap}
use Rattle.std.specs.Prelude.{is_some, option_map, slice_get}
use Rattle.jparts.specs.declared.jcode.names.FieldOp.TheVariants as ops
use Rattle.jvalues.specs.declared.jops.value.Value.{Value}
use Rattle.jtypes.specs.declared.vtype.Name.{Name}
use Rattle.jtypes.specs.declared.vtype.VType.{VType}
use Rattle.jtypes.specs.declared.vtype.VType.TheVariants.{Object as ObjectType}
use Rattle.jresolution.specs.declared.jprogram.member.Member.{Member}
use Rattle.jresolution.specs.declared.jprogram.part.ClassRef.{ClassRef}
use Rattle.jresolution.specs.declared.jprogram.part.ClassRef.TheVariants as refs
use Rattle.jresolution.specs.jprogram.ProgramClasses.{Program}
use Rattle.jresolution.specs.declared.juses.types.TypeRef.{TypeRef}
use Rattle.jresolution.specs.declared.juses.types.TypeRef.TheVariants as types
use Rattle.jresolution.specs.juses.InstructionMeanings as meanings
use Rattle.jresolution.specs.juses.InstructionMeanings.{FieldMeaning}
use Rattle.jresolution.specs.juses.InternedTypes.{class_named, named}
use Rattle.jtyping.specs.jrule.StackEffects.{Fits, Want}
use Rattle.jtyping.specs.jrule.PoolEffects.{exchange, written}
use Rattle.jsemantics.specs.jmachine.TakenOperands.{taken, serves_as}
use Rattle.jsemantics.specs.jmachine.InstructionSites.{Site}
use Rattle.jsemantics.specs.jmachine.Store.{Store}
use Rattle.jsemantics.specs.jmachine.World.{World, world}
use Rattle.jrows.specs.jobjs.EntryOperands.{Serve}
use Rattle.jruntime.specs.jstate.HeapMeaningLaws.{SeesEach}
use Rattle.jserving.specs.jfits.TypeQueries.{fits}
use Rattle.jserving.specs.declared.jserve.values.Objects.{Objects}
use Rattle.jserving.specs.jserve.OperandChecks.{one_serves, serves_in}
use Rattle.jserving.specs.jserve.ValueTypes.{IsStore, type_in}
use Rattle.jserving.proofs.JserveProofs.FittingOperands.{double, serves_seen, single}

-- ---- the object that is written

module _ (p : Program) (x : Objects) (own : Bool) (this owner : ClassRef) (v : Value ℕ) where
  pub not_own : (b : Bool) → own ≡ false → b ≡ serves_in p x (Fits (named p (types.Object owner))) v
      → b ≡ serves_in p x (written own (class_named p this) (class_named p owner)) v
  not_own b e h = h ∙ ap (λ (o : Bool). serves_in p x (written o (class_named p this) (class_named p owner)) v) (sym e)

  pub no_type : None ≡ type_in x v → false ≡ serves_in p x (written own (class_named p this) (class_named p owner)) v
  no_type e = ap (λ (t : Option TypeRef). serves_as (world p) (written own (class_named p this) (class_named p owner)) (option_map (named p) t)) e

  pub own_type : (t : TypeRef) (b : Bool) → own ≡ true → Some t ≡ type_in x v
      → b ≡ (fits p (named p t) (named p (types.Object owner)) || fits p (named p t) (named p (types.Object this)))
      → b ≡ serves_in p x (written own (class_named p this) (class_named p owner)) v
  unfolding world
  own_type t b is e h =
      h ∙ ap (λ (o : Option TypeRef). serves_as (world p) (written true (class_named p this) (class_named p owner)) (option_map (named p) o)) e
      ∙ ap (λ (o : Bool). serves_in p x (written o (class_named p this) (class_named p owner)) v) (sym is)

-- ---- fields

module _ (law : SeesEach) (p : Program) (x : Objects) (s : Store ℕ) (store : IsStore p x s) (operands : List (Value ℕ)) where
  one : (w : World) (want : Want) (b : Bool) → w ≡ world p → b ≡ one_serves (serves_in p x) want (slice_get operands 0)
      → is_some (taken w s (want ∷ []) operands) ≡ b
  one w want b here e =
      ap (λ (w : World). is_some (taken w s (want ∷ []) operands)) here ∙ single (world p) s (serves_in p x) (serves_seen law p x s store) want operands ∙ sym e

  pub get_field_served : (at : Site) (own : Member → Bool) (f : FieldMeaning) (owner : ClassRef) (b : Bool) → at.world ≡ world p → f.owner ≡ class_named p owner
      → b ≡ one_serves (serves_in p x) (Fits (named p (types.Object owner))) (slice_get operands 0) → Serve at own s (meanings.Field ops.GetField f) operands b
  unfolding exchange
  get_field_served at own f owner b here owned e =
      ap (λ (n : Name). is_some (taken at.world s (Fits (ObjectType n) ∷ []) operands)) owned ∙ one at.world (Fits (ObjectType (class_named p owner))) b here e

  pub put_static_served : (at : Site) (own : Member → Bool) (f : FieldMeaning) (held : TypeRef) (b : Bool) → at.world ≡ world p → f.held ≡ named p held
      → b ≡ one_serves (serves_in p x) (Fits (named p held)) (slice_get operands 0) → Serve at own s (meanings.Field ops.PutStatic f) operands b
  unfolding exchange
  put_static_served at own f held b here holds e =
      ap (λ (t : VType). is_some (taken at.world s (Fits t ∷ []) operands)) holds ∙ one at.world (Fits (named p held)) b here e

  two : (w : World) (want more : Want) (a b : Bool) → w ≡ world p → a ≡ one_serves (serves_in p x) want (slice_get operands 0)
      → b ≡ one_serves (serves_in p x) more (slice_get operands 1) → is_some (taken w s (want ∷ more ∷ []) operands) ≡ (a && b)
  two w want more a b here ea eb =
      ap (λ (w : World). is_some (taken w s (want ∷ more ∷ []) operands)) here
      ∙ double (world p) s (serves_in p x) (serves_seen law p x s store) want more operands
      ∙ ap (λ (c : Bool). c && one_serves (serves_in p x) more (slice_get operands 1)) (sym ea) ∙ ap (λ (c : Bool). a && c) (sym eb)

  this_named : (class : ℕ) → (world p).named class ≡ class_named p (refs.User class)
  unfolding world
  this_named class = refl

  pub put_field_served : (at : Site) (own_of : Member → Bool) (f : FieldMeaning) (own : Bool) (class : ℕ) (owner : ClassRef) (held : TypeRef) (a b : Bool)
      → at.world ≡ world p → at.class ≡ class → own_of f.member ≡ own → f.owner ≡ class_named p owner → f.held ≡ named p held
      → a ≡ one_serves (serves_in p x) (Fits (named p held)) (slice_get operands 0)
      → b ≡ one_serves (serves_in p x) (written own (class_named p (refs.User class)) (class_named p owner)) (slice_get operands 1)
      → Serve at own_of s (meanings.Field ops.PutField f) operands (a && b)
  unfolding exchange
  put_field_served at own_of f own class owner held a b here there is owned holds ea eb =
      let this : at.world.named at.class ≡ class_named p (refs.User class) =
      ap (λ (w : World). w.named at.class) here ∙ ap (world p).named there ∙ this_named class in
      let object : written (own_of f.member) (at.world.named at.class) f.owner ≡ written own (class_named p (refs.User class)) (class_named p owner) =
      ap (λ (o : Bool). written o (at.world.named at.class) f.owner) is ∙ ap (λ (n : Name). written own n f.owner) this
      ∙ ap (λ (n : Name). written own (class_named p (refs.User class)) n) owned in
      ap (λ (w : Want). is_some (taken at.world s (Fits f.held ∷ w ∷ []) operands)) object
      ∙ ap (λ (t : VType). is_some (taken at.world s (Fits t ∷ written own (class_named p (refs.User class)) (class_named p owner) ∷ []) operands)) holds
      ∙ two at.world (Fits (named p held)) (written own (class_named p (refs.User class)) (class_named p owner)) a b here ea eb
