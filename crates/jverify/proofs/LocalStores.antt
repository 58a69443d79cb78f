-- A store of a type that a local has leaves the locals as they are.
use Rattle.std.proofs.Common.{◌≡◌, ℕ, zero, suc, ◌+◌, ◌-◌, ◌<◌, Bool, false, List, [], ◌∷◌, ◌++◌, length, map, reverse, Option, Some, refl, sym, ap, subst, ◌∙◌, arith}
use Rattle.std.specs.Prelude.{option_map, slice_get, slice_set, ◌&&◌, nat_le, if◌then◌else◌}
use Rattle.std.proofs.lemmas.List.{reverse-append}
use Rattle.std.proofs.lemmas.Option.{slice_get-map}
use Rattle.jvalues.specs.declared.jnames.kinds.Kind.{Kind}
use Rattle.jparts.specs.declared.jpool.entry.Entry.{Entry}
use Rattle.jparts.specs.declared.jcode.op_form.OpForm.{OpForm}
use Rattle.jparts.specs.declared.jcode.op_form.OpForm.TheVariants as forms
use Rattle.jparts.specs.declared.jcode.op_form.LocalForm.{LocalForm}
use Rattle.jparts.specs.declared.jcode.op_form.LocalForm.TheVariants.{Move}
use Rattle.jparts.specs.declared.jcode.names.LocalKind.{LocalKind}
use Rattle.jparts.specs.declared.jcode.names.Access.{Access}
use Rattle.jparts.specs.declared.jcode.names.Access.TheVariants.{Store}
use Rattle.jparts.specs.jcode.InstructionForms as codes
use Rattle.jparts.specs.declared.jcode.op.Switch.{Switch}
use Rattle.jtypes.specs.declared.vtype.VType.{VType}
use Rattle.jtypes.specs.declared.vtype.VType.TheVariants.{Top}
use Rattle.jtypes.specs.TypeFrames.{Frame, is_long, places}
use Rattle.jresolution.specs.jprogram.ProgramClasses.{Program}
use Rattle.jresolution.specs.declared.juses.types.TypeRef.{TypeRef}
use Rattle.jresolution.specs.juses.InternedTypes.{named}
use Rattle.jtyping.specs.declared.jrule.frame.FrameRef.{FrameRef}
use Rattle.jtyping.specs.jrule.StackEffects.{is_of}
use Rattle.jtyping.specs.jrule.FormRules.{by_form}
use Rattle.jtyping.specs.jrule.InstructionContext.{Here}
use Rattle.jtyping.specs.jrule.LocalRule.{broken, local, passes, store_on, with_local}
use Rattle.jtyping.specs.ProofNames.{store}
use Rattle.jtyping.specs.jrule.InternedFrames.{seen}
use Rattle.jverify.specs.FrameFacts.{Rests}
use Rattle.jverify.proofs.QuietForms.{if_rests}

unbroken : (xs : List VType) (n m : ℕ) → n ≡ suc m → passes is_long (slice_get xs m) ≡ false → broken xs n ≡ xs
unbroken xs n m e h = ap (broken xs) e ∙ ap (λ (b : Bool). if b then slice_set xs m Top else xs) h

-- no long begins in front of a place
pub unbroken_at : (xs : List VType) (n : ℕ) → 0 < n → passes is_long (slice_get xs (n - 1)) ≡ false → broken xs n ≡ xs
unbroken_at xs n some h = let behind : n ≡ suc (n - 1) = omega arith in unbroken xs n (n - 1) behind h

set_there : (xs : List VType) (n : ℕ) (a : VType) → slice_get xs n ≡ Some a → slice_set xs n a ≡ xs
set_there [] n a e = refl
set_there (x ∷ xs) zero a e = let same : x ≡ a = cc in ap (λ (y : VType). y ∷ xs) (sym same)
set_there (x ∷ xs) (suc n) a e = ap (λ (ys : List VType). x ∷ ys) (set_there xs n a e)

stays : (xs : List VType) (n : ℕ) (a : VType) → is_long a ≡ false → broken xs n ≡ xs → slice_get xs n ≡ Some a → with_local xs n a ≡ xs
unfolding with_local
stays xs n a short whole there =
    ap (λ (b : Bool). if b then slice_set (slice_set (broken xs n) n a) (n + 1) Top else slice_set (broken xs n) n a) short
    ∙ ap (λ (ys : List VType). slice_set ys n a) whole
    ∙ set_there xs n a there

-- a local has the type already
pub stays_put : (p : Program) (ts : List TypeRef) (n : ℕ) (t : TypeRef) → is_long (named p t) ≡ false → broken (map (named p) ts) n ≡ map (named p) ts → slice_get ts n ≡ Some t →
    with_local (map (named p) ts) n (named p t) ≡ map (named p) ts
stays_put p ts n t short whole there =
    stays (map (named p) ts) n (named p t) short whole (slice_get-map (named p) ts n ∙ ap (λ (o : Option TypeRef). option_map (named p) o) there)

-- so the frame behind the store has the same locals
pub store_rests : (p : Program) (f : FrameRef) (n : ℕ) (xs rest : List TypeRef) (t : TypeRef) → reverse xs ≡ f.stack → xs ≡ rest ++ t ∷ [] →
    with_local (map (named p) f.locals) n (named p t) ≡ map (named p) f.locals → (k : Kind) → Rests (seen p f) (store k n (seen p f))
store_rests p f n xs rest t stack is same k =
    let top : map (named p) f.stack ≡ named p t ∷ map (named p) (reverse rest) = ap (map (named p)) (sym stack ∙ ap reverse is ∙ reverse-append rest (t ∷ [])) in
    subst (λ (s : List VType). Rests (seen p f) (store_on k n (seen p f) s)) (sym top)
    (if_rests (seen p f) (is_of k (named p t) && nat_le (n + length (places (named p t))) (length (map (named p) f.locals)))
    (Some (record { locals = with_local (map (named p) f.locals) n (named p t); stack = map (named p) (reverse rest); flag = f.flag })) (same, refl))

pub store_form : (f : Frame) (form : LocalForm) (a : Access) (s : LocalKind) (n : ℕ) → form ≡ Move a s n → a ≡ Store → ((k : Kind) → Rests f (store k n f)) → (most : ℕ) → Rests f (local most form f)
store_form f form a s n is stores rests most =
    subst (λ (x : LocalForm). Rests f (local most x f)) (sym (is ∙ ap (λ (b : Access). Move b s n) stores)) (rests (codes.local s))

pub local_form : (p : Program) (here : Here) (pool : List Entry) (form : OpForm Switch) (l : LocalForm) (f : Frame) → form ≡ forms.Local l → Rests f (local here.max_stack l f) → Rests f (by_form p here pool form f)
unfolding by_form
local_form p here pool form l f is rests = subst (λ (x : OpForm Switch). Rests f (by_form p here pool x f)) (sym is) rests
