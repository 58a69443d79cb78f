-- The rule asks of `new` instructions what each makes.
use Rattle.std.proofs.Common.{◌≡◌, ℕ, List, [], ◌∷◌, Option, Some, None, refl, ap}
use Rattle.std.specs.Prelude.{option_and_then, if◌then◌else◌}
use Rattle.jparts.specs.declared.jcode.op_form.OpForm.TheVariants as forms
use Rattle.jparts.specs.declared.jcode.op_form.ArrayForm.TheVariants as arrays
use Rattle.jtypes.specs.declared.vtype.Name.{Name}
use Rattle.jtypes.specs.declared.vtype.VType.{VType}
use Rattle.jtypes.specs.declared.vtype.VType.TheVariants.{Top, Int, Long, Null, UninitThis, Uninit, Object, Array, Ctx}
use Rattle.jtypes.specs.TypeFrames.{Frame}
use Rattle.jresolution.specs.jprogram.ProgramClasses.{Program, tree}
use Rattle.jresolution.specs.declared.juses.meaning.InvokeKind.TheVariants as how
use Rattle.jresolution.specs.juses.InstructionMeanings as meanings
use Rattle.jresolution.specs.juses.InstructionMeanings.{CallMeaning, Meaning, array_meant, meant}
use Rattle.jtyping.specs.declared.jrule.unready.Unready.TheVariants as unready
use Rattle.jtyping.specs.jrule.FormRules.{by_form, by_meaning}
use Rattle.jtyping.specs.jrule.InstructionContext.{Here}
use Rattle.jtyping.specs.jrule.NewSites.{AsksPlaces, with_news}
use Rattle.jtyping.specs.jrule.ObjectRule.{init, init_on, is_named, readied}
use Rattle.jtyping.specs.ProofNames.{init_of}
use Rattle.jtyping.specs.jrule.StackOperands.{given, taken}
use Rattle.jtyping.specs.jrule.PoolEffects.{arguments}

abbrev SameMakes : Here → (ℕ → Option Name) → Type 0
SameMakes here makes = (o : ℕ) → here.makes o ≡ makes o

same_then : {A B : Type 0} (g h : A → Option B) → ((a : A) → g a ≡ h a) → (o : Option A) → option_and_then g o ≡ option_and_then h o
same_then g h e None = refl
same_then g h e (Some a) = e a

on_same : (here : Here) (makes : ℕ → Option Name) (owner : Name) (f : Frame) (stack : List VType) → SameMakes here makes →
    init_on here owner f stack ≡ init_on (with_news makes here) owner f stack
on_same here makes owner f [] e = refl
on_same here makes owner f (Uninit o ∷ stack) e =
    ap (λ made. if is_named owner made then Some (readied (unready.New o) owner f.flag f.locals stack) else None) (e o)
on_same here makes owner f (UninitThis ∷ stack) e = refl
on_same here makes owner f (Top ∷ stack) e = refl
on_same here makes owner f (Int ∷ stack) e = refl
on_same here makes owner f (Long ∷ stack) e = refl
on_same here makes owner f (Null ∷ stack) e = refl
on_same here makes owner f (Object c ∷ stack) e = refl
on_same here makes owner f (Array a ∷ stack) e = refl
on_same here makes owner f (Ctx ∷ stack) e = refl

init_same : (p : Program) (here : Here) (makes : ℕ → Option Name) (c : CallMeaning) (f : Frame) → SameMakes here makes →
    init (tree p) here c f ≡ init (tree p) (with_news makes here) c f
init_same p here makes c f e =
    ap (option_and_then (given here.max_stack c.ret))
    (same_then (init_of here c.owner) (init_of (with_news makes here) c.owner) (λ (g : Frame). on_same here makes c.owner g g.stack e) (taken (tree p) (arguments c) f))

meaning_same : (p : Program) (here : Here) (makes : ℕ → Option Name) (m : Option Meaning) (f : Frame) → SameMakes here makes →
    by_meaning p here m f ≡ by_meaning p (with_news makes here) m f
meaning_same p here makes None f e = refl
meaning_same p here makes (Some (meanings.Push c)) f e = refl
meaning_same p here makes (Some (meanings.Field op one)) f e = refl
meaning_same p here makes (Some (meanings.Call how.Virtual c)) f e = refl
meaning_same p here makes (Some (meanings.Call how.Special c)) f e = refl
meaning_same p here makes (Some (meanings.Call how.Static c)) f e = refl
meaning_same p here makes (Some (meanings.Call how.Interface c)) f e = refl
meaning_same p here makes (Some (meanings.Call how.Init c)) f e = init_same p here makes c f e
meaning_same p here makes (Some (meanings.Make c)) f e = refl
meaning_same p here makes (Some (meanings.MakeArray t)) f e = refl
meaning_same p here makes (Some (meanings.Cast op t)) f e = refl

pub asks_places : (S : Type 0) (p : Program) → AsksPlaces S p
unfolding by_form
asks_places S p here makes pool (forms.Simple form) f e = refl
asks_places S p here makes pool (forms.Local form) f e = refl
asks_places S p here makes pool (forms.Stack form) f e = refl
asks_places S p here makes pool (forms.Flow form) f e = refl
asks_places S p here makes pool (forms.Array (arrays.New kind)) f e = refl
asks_places S p here makes pool (forms.Array (arrays.NewRef i)) f e = meaning_same p here makes (array_meant p pool i) f e
asks_places S p here makes pool (forms.Array (arrays.Load items)) f e = refl
asks_places S p here makes pool (forms.Array (arrays.Store items)) f e = refl
asks_places S p here makes pool (forms.Array arrays.Length) f e = refl
asks_places S p here makes pool (forms.Pool form) f e = meaning_same p here makes (meant p pool form) f e
