-- A frame that suits one of typing suits each that this one fits.
use Rattle.std.proofs.Common.{◌≡◌, ℕ, Bool, true, false, ◌&&◌, ◌==◌, List, [], ◌∷◌, Option, Some, None, refl, sym, ap, subst, arith}
use Rattle.std.specs.List.{AllByRecursion}
use Rattle.jvalues.specs.declared.jops.value.Value.{Value}
use Rattle.jtypes.specs.declared.vtype.VType.{VType}
use Rattle.jtypes.specs.declared.vtype.VType.TheVariants as types
use Rattle.jtypes.specs.Assignability as checked
use Rattle.jtypes.specs.TypeFrames.{all_fit, implies, is_long, stack_fits}
use Rattle.jtypes.specs.ProofNames.{item_fits}
use Rattle.jtypes.specs.ClassTrees.{Tree}
use Rattle.jtyping.specs.jrule.InstructionContext.{Here}
use Rattle.jsemantics.specs.jmachine.Store.{Store}
use Rattle.jsemantics.specs.jmachine.World.{World, world}
use Rattle.jresolution.specs.jprogram.ProgramClasses.{Program, tree}
use Rattle.jsoundness_laws.specs.typed.TypedFrames.{AllHave, AllHold, Has, Holds, News}
use Rattle.jsoundness_laws.specs.typed.ProgressLaws.{SuitsWider}
use Rattle.jsoundness_laws.specs.typed.TypedValues.{HasDimensions}
use Rattle.jsoundness_laws.proofs.TypedProofs.SubtypeTransitivity.{InOrder}
use Rattle.jsoundness_laws.proofs.TypedProofs.Orders.{in_order}
use Rattle.jsoundness_laws.proofs.TypedProofs.WantedOperands.{has_fit}

pub both : (a b : Bool) → a && b ≡ true → (a ≡ true) × (b ≡ true)
both true b e = (refl, e)
both false b e = absurd (cc)

same_number : (o n : ℕ) → o == n ≡ true → o ≡ n
same_number o n e = grind arith

top_only : (t : Tree) (b : VType) → checked.fits t types.Top b ≡ true → types.Top ≡ b
top_only t types.Top e = refl
top_only t _ e = absurd (cc)

this_only : (t : Tree) (a : VType) → checked.fits t a types.UninitThis ≡ true → a ≡ types.UninitThis
this_only t types.UninitThis e = refl
this_only t _ e = absurd (cc)

-- only the same `new` makes what fits it
abbrev IsNew : VType → ℕ → Type 0
IsNew a o = (n : ℕ) × (a ≡ types.Uninit n) × (n == o ≡ true)

new_only : (t : Tree) (a : VType) (o : ℕ) → checked.fits t a (types.Uninit o) ≡ true → IsNew a o
new_only t (types.Uninit n) o e = (n, refl, e)
new_only t _ o e = absurd (cc)

module _ {K : Type 0} (w : World) (s : Store K) (order : InOrder w.tree) (here : Here) (news : News) where
  has_wider : (a b : VType) (v : Value K) → HasDimensions b → Has w s here news a v → checked.fits w.tree a b ≡ true → Has w s here news b v
  has_wider a types.Top v d x e = tt
  has_wider a types.UninitThis v d x e = subst (λ a. Has w s here news a v) (this_only w.tree a e) x
  has_wider a (types.Uninit o) v d x e =
      let n = new_only w.tree a o e in
      subst (λ i. Has w s here news (types.Uninit i) v) (same_number n.0 o n.2) (subst (λ a. Has w s here news a v) n.1 x)
  has_wider a types.Int v d x e = has_fit w s order here news a types.Int v tt x e
  has_wider a types.Long v d x e = has_fit w s order here news a types.Long v tt x e
  has_wider a types.Null v d x e = has_fit w s order here news a types.Null v tt x e
  has_wider a (types.Object c) v d x e = has_fit w s order here news a (types.Object c) v tt x e
  has_wider a (types.Array b) v d x e = (has_fit w s order here news a (types.Array b) v tt x e, d)
  has_wider a types.Ctx v d x e = has_fit w s order here news a types.Ctx v tt x e

  hold_wider : (a b : VType) (y : Option (Value K)) → HasDimensions b → Holds w s here news a y → checked.fits w.tree a b ≡ true → Holds w s here news b y
  hold_wider a b None d x e = sym (top_only w.tree b (subst (λ a. checked.fits w.tree a b ≡ true) x e))
  hold_wider a b (Some v) d x e = has_wider a b v d x e

  pub all_wider : (xs ys : List VType) (ls : List (Option (Value K))) → AllByRecursion HasDimensions ys → all_fit (checked.fits w.tree) xs ys ≡ true → AllHold w s here news xs ls → AllHold w s here news ys ls
  unfolding all_fit
  all_wider [] [] ls d e h = h
  all_wider [] (b ∷ ys) ls d e h = absurd (cc)
  all_wider (a ∷ xs) [] ls d e h = absurd (cc)
  all_wider (a ∷ xs) (b ∷ ys) [] d e h = absurd h
  all_wider (a ∷ xs) (b ∷ ys) (y ∷ ls) d e h =
      let one = both (checked.fits w.tree a b) (all_fit (checked.fits w.tree) xs ys) e in
      (hold_wider a b y d.0 h.0 one.0, all_wider xs ys ls d.1 one.1 h.1)

  pub have_wider : (xs ys : List VType) (vs : List (Value K)) → AllByRecursion HasDimensions ys → stack_fits (checked.fits w.tree) xs ys ≡ true → AllHave w s here news xs vs → AllHave w s here news ys vs
  unfolding all_fit
  have_wider [] [] vs d e h = h
  have_wider [] (b ∷ ys) vs d e h = absurd (cc)
  have_wider (a ∷ xs) [] vs d e h = absurd (cc)
  have_wider (a ∷ xs) (b ∷ ys) [] d e h = absurd h
  have_wider (a ∷ xs) (b ∷ ys) (v ∷ vs) d e h =
      let one = both (item_fits (checked.fits w.tree) a b) (stack_fits (checked.fits w.tree) xs ys) e in
      let fit = both (checked.fits w.tree a b) (implies (is_long a) (is_long b)) one.0 in
      (has_wider a b v d.0 h.0 fit.0, have_wider xs ys vs d.1 one.1 h.1)

in_world : (w : World) (p : Program) → w ≡ world p → tree p ≡ w.tree
unfolding world
in_world w p e = sym (ap (λ w. w.tree) e)

pub suits_wider : (K E : Type 0) → SuitsWider K E
suits_wider K E p w s here news a b f stands is dims fit x =
    let same = in_world w p is in
    let order = subst InOrder same (in_order p stands) in
    let parts = both (all_fit (checked.fits (tree p)) a.locals b.locals && stack_fits (checked.fits (tree p)) a.stack b.stack) (implies a.flag b.flag) fit in
    let each = both (all_fit (checked.fits (tree p)) a.locals b.locals) (stack_fits (checked.fits (tree p)) a.stack b.stack) parts.0 in record {
      locals = all_wider w s order here news a.locals b.locals f.locals dims.0 (subst (λ t. all_fit (checked.fits t) a.locals b.locals ≡ true) same each.0) x.locals;
      operands = have_wider w s order here news a.stack b.stack f.operands dims.1 (subst (λ t. stack_fits (checked.fits t) a.stack b.stack ≡ true) same each.1) x.operands;
    }
