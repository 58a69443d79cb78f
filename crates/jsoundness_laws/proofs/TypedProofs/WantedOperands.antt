-- What is known of a value serves where the rule takes it.
use Rattle.std.proofs.Common.{◌≡◌, ℕ, true, sym, subst}
use Rattle.jvalues.specs.declared.jops.value.Value.{Value}
use Rattle.jtypes.specs.declared.vtype.Name.{Name}
use Rattle.jtypes.specs.declared.vtype.VType.{VType}
use Rattle.jtypes.specs.declared.vtype.VType.TheVariants as types
use Rattle.jtypes.specs.Assignability as checked
use Rattle.jtypes.specs.ClassTrees.{Tree}
use Rattle.jtyping.specs.jrule.StackEffects as rule_effects
use Rattle.jtyping.specs.jrule.StackEffects.{Want, Of, Fits, Holds, OrThis}
use Rattle.jtyping.specs.jrule.InstructionContext.{Here}
use Rattle.jsemantics.specs.jmachine.Store.{Store}
use Rattle.jsemantics.specs.jmachine.World.{World, fits}
use Rattle.jsoundness_laws.specs.typed.TypedValues.{Serves}
use Rattle.jsoundness_laws.specs.typed.TypedFrames.{News, Has}
use Rattle.jsoundness_laws.specs.typed.RuntimeAssignability.{IsValueType}
use Rattle.jsoundness_laws.proofs.TypedProofs.SubtypeTransitivity.{InOrder, fits_after, or_left, or_right}
use Rattle.jsoundness_laws.proofs.TypedProofs.ValueKinds.{IsPlain, has_kind, known_value}

abbrev pub IsValueWant : Here → Want → Type 0
IsValueWant here (Of k) = IsPlain k
IsValueWant here (Fits b) = IsValueType b
IsValueWant here (Holds e) = ⊥
IsValueWant here (OrThis c this) = this ≡ here.class

top_fits : (t : Tree) (b : VType) → IsValueType b → checked.fits t types.Top b ≡ true → ⊥
top_fits t types.Top h e = h
top_fits t _ h e = cc

this_fits : (t : Tree) (b : VType) → IsValueType b → checked.fits t types.UninitThis b ≡ true → ⊥
this_fits t types.Top h e = h
this_fits t types.UninitThis h e = h
this_fits t _ h e = cc

new_fits : (t : Tree) (o : ℕ) (b : VType) → IsValueType b → checked.fits t (types.Uninit o) b ≡ true → ⊥
new_fits t o types.Top h e = h
new_fits t o (types.Uninit p) h e = h
new_fits t o _ h e = cc

module _ {K : Type 0} (w : World) (s : Store K) (order : InOrder w.tree) (here : Here) (news : News) where
  further : (a b : VType) (v : Value K) → Serves w s (Fits a) v → checked.fits w.tree a b ≡ true → Serves w s (Fits b) v
  further a b v x e = record { type = x.type; is = x.is; met = fits_after w.tree order x.type a b (known_value w s v x.type x.is) x.met e }

  pub has_fit : (a b : VType) (v : Value K) → IsValueType b → Has w s here news a v → checked.fits w.tree a b ≡ true → Serves w s (Fits b) v
  has_fit types.Top b v h x e = absurd (top_fits w.tree b h e)
  has_fit types.UninitThis b v h x e = absurd (this_fits w.tree b h e)
  has_fit (types.Uninit o) b v h x e = absurd (new_fits w.tree o b h e)
  has_fit types.Int b v h x e = further types.Int b v x e
  has_fit types.Long b v h x e = further types.Long b v x e
  has_fit types.Null b v h x e = further types.Null b v x e
  has_fit (types.Object c) b v h x e = further (types.Object c) b v x e
  has_fit (types.Array d) b v h x e = further (types.Array d) b v x.0 e
  has_fit types.Ctx b v h x e = further types.Ctx b v x e

  first_of : (c this : Name) (v : Value K) → Serves w s (Fits (types.Object c)) v → Serves w s (OrThis c this) v
  first_of c this v x = record { type = x.type; is = x.is; met = or_left (fits w x.type (types.Object c)) (fits w x.type (types.Object this)) x.met }

  second_of : (c this : Name) (v : Value K) → Serves w s (Fits (types.Object this)) v → Serves w s (OrThis c this) v
  second_of c this v x = record { type = x.type; is = x.is; met = or_right (fits w x.type (types.Object c)) (fits w x.type (types.Object this)) x.met }

  -- `this` before another `<init>` was called on it is an object of the class
  this_is : (v : Value K) → Has w s here news types.UninitThis v → Serves w s (Fits (types.Object here.class)) v
  this_is v x = subst (λ v. Serves w s (Fits (types.Object here.class)) v) (sym x.0) x.1.0

  pub has_want : (want : Want) (a : VType) (v : Value K) → IsValueWant here want → Has w s here news a v → rule_effects.meets w.tree want a ≡ true → Serves w s want v
  has_want (Of k) a v h x e = has_kind w s here news k a v h x e
  has_want (Fits b) a v h x e = has_fit a b v h x e
  has_want (Holds i) a v h x e = absurd h
  has_want (OrThis c this) types.UninitThis v h x e = subst (λ this. Serves w s (OrThis c this) v) (sym h) (second_of c here.class v (this_is v x))
  has_want (OrThis c this) types.Top v h x e = absurd (top_fits w.tree (types.Object c) tt e)
  has_want (OrThis c this) (types.Uninit o) v h x e = absurd (new_fits w.tree o (types.Object c) tt e)
  has_want (OrThis c this) a v h x e = first_of c this v (has_fit a (types.Object c) v tt x e)
