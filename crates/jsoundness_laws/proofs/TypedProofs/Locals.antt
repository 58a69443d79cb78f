-- Instructions with a local in typed frames.
use Rattle.std.proofs.Common.{◌≡◌, ℕ, zero, suc, ◌+◌, ℤ, ◌+ℤ◌, Bool, true, false, ◌&&◌, List, [], ◌∷◌, length, Option, Some, None, option_map, refl, sym, ap, subst, ◌∙◌}
use Rattle.std.specs.Prelude.{nat_le, option_and_then, slice_get, slice_set, if◌then◌else◌}
use Rattle.jvalues.specs.declared.jnames.kinds.Kind.TheVariants as kinds
use Rattle.jvalues.specs.declared.jops.value.Value.{Value}
use Rattle.jvalues.specs.declared.jops.value.Value.TheVariants.{Int}
use Rattle.jvalues.specs.jops.ValueKinds as values
use Rattle.jvalues.specs.jops.Operations.{int}
use Rattle.jvalues.specs.jops.Shuffles as shuffles
use Rattle.jparts.specs.declared.jcode.names.Access.TheVariants.{Load, Store as Keep}
use Rattle.jparts.specs.declared.jcode.names.LocalKind.{LocalKind}
use Rattle.jparts.specs.declared.jcode.names.LocalKind.TheVariants as locals
use Rattle.jparts.specs.declared.jcode.op_form.LocalForm.{LocalForm}
use Rattle.jparts.specs.declared.jcode.op_form.LocalForm.TheVariants.{Move as Moves, Increment}
use Rattle.jparts.specs.jcode.InstructionForms as forms
use Rattle.jtypes.specs.declared.vtype.VType.{VType}
use Rattle.jtypes.specs.declared.vtype.VType.TheVariants as types
use Rattle.jtypes.specs.TypeFrames as shapes
use Rattle.jtypes.specs.TypeFrames.{Frame, is_long}
use Rattle.jresolution.specs.declared.jprogram.member.Member.{Member}
use Rattle.jresolution.specs.juses.IndexedInstructions.{Instruction, goes_on}
use Rattle.jtyping.specs.jrule.StackEffects.{is_int, is_of}
use Rattle.jtyping.specs.jrule.InstructionContext.{Here}
use Rattle.jtyping.specs.jrule.LocalRule as rule_locals
use Rattle.jtyping.specs.ProofNames
use Rattle.jtyping.specs.jrule.LocalRule.{is_top, is_whole, passes}
use Rattle.jtyping.specs.jrule.StackOperands.{pushed, with_stack}
use Rattle.jsemantics.specs.jmachine.MachineStates.{FrameOf, gives}
use Rattle.jsemantics.specs.jmachine.InstructionActions.{Doing, by_held}
use Rattle.jsemantics.specs.jmachine.FrameOperations.{with_held}
use Rattle.jsemantics.specs.jmachine.Security.{Rules}
use Rattle.jsemantics.specs.jmachine.InstructionSites.{Site}
use Rattle.jsemantics.specs.jmachine.Store.{Store}
use Rattle.jsemantics.specs.jmachine.BasicInstructions.{Held, holding, increased, loaded, local, local_at, places, stored, with_local}
use Rattle.jsemantics.specs.jmachine.World.{World}
use Rattle.jsoundness_laws.specs.typed.TypedStores.{IsStored}
use Rattle.jsoundness_laws.proofs.TypedProofs.StoreMonotonicity.{grows_itself}
use Rattle.jsoundness_laws.specs.typed.TypedActions.{CanDo}
use Rattle.jsoundness_laws.specs.typed.TypedFrames.{AllHave, AllHold, Has, Holds, News}
use Rattle.jsoundness_laws.proofs.TypedProofs.OperandExchange.{roomy}
use Rattle.jsoundness_laws.proofs.TypedProofs.ValueKinds.{as_long, has_kind, held_of, int_value, long_of, not_top, number_of}
use Rattle.jsoundness_laws.proofs.TypedProofs.FrameSubsumption.{both}

some_is : {A : Type 0} (a b : A) → Some a ≡ Some b → a ≡ b
some_is a b e = cc

pub if_some : {A : Type 0} (b : Bool) (o : Option A) (x : A) → (if b then o else None) ≡ Some x → (b ≡ true) × (o ≡ Some x)
if_some true o x e = (refl, e)
if_some false o x e = absurd (cc)

and_true : (a b : Bool) → a ≡ true → b ≡ true → a && b ≡ true
and_true true b x y = y
and_true false b x y = absurd (cc)

local_no_top : (kind : LocalKind) (a : VType) → is_of (forms.local kind) a ≡ true → is_top a ≡ false
local_no_top kind types.Top e = absurd (not_top (forms.local kind) e)
local_no_top kind types.Int e = refl
local_no_top kind types.Long e = refl
local_no_top kind types.Null e = refl
local_no_top kind types.UninitThis e = refl
local_no_top kind (types.Uninit o) e = refl
local_no_top kind (types.Object c) e = refl
local_no_top kind (types.Array b) e = refl
local_no_top kind types.Ctx e = refl

int_type : (a : VType) → is_int a ≡ true → a ≡ types.Int
int_type types.Int e = refl
int_type _ e = absurd (cc)

module _ {K : Type 0} (w : World) (s : Store K) (here : Here) (news : News) where
  abbrev Have : VType → Value K → Type 0
  Have = Has w s here news

  abbrev Hold : VType → Option (Value K) → Type 0
  Hold = Holds w s here news

  abbrev All : List VType → List (Option (Value K)) → Type 0
  All = AllHold w s here news

  -- ---- locals by their numbers

  pub hold_get : (ts : List VType) (ls : List (Option (Value K))) (n : ℕ) (a : VType) → All ts ls → slice_get ts n ≡ Some a → (y : Option (Value K)) × (slice_get ls n ≡ Some y) × Hold a y
  hold_get [] ls n a h e = absurd (cc)
  hold_get (t ∷ ts) [] n a h e = absurd h
  hold_get (t ∷ ts) (y ∷ ls) zero a h e = (y, refl, subst (λ t. Hold t y) (some_is t a e) h.0)
  hold_get (t ∷ ts) (y ∷ ls) (suc n) a h e = hold_get ts ls n a h.1 e

  pub hold_put : (ts : List VType) (ls : List (Option (Value K))) (n : ℕ) (a : VType) (y : Option (Value K)) → All ts ls → Hold a y → All (slice_set ts n a) (slice_set ls n y)
  hold_put [] [] n a y h x = tt
  hold_put [] (z ∷ ls) n a y h x = absurd h
  hold_put (t ∷ ts) [] n a y h x = absurd h
  hold_put (t ∷ ts) (z ∷ ls) zero a y h x = (x, h.1)
  hold_put (t ∷ ts) (z ∷ ls) (suc n) a y h x = (h.0, hold_put ts ls n a y h.1 x)

  top_holds : (y : Option (Value K)) → Hold types.Top y
  top_holds None = refl
  top_holds (Some v) = tt

  pub hold_top : (ts : List VType) (ls : List (Option (Value K))) (n : ℕ) → All ts ls → All (slice_set ts n types.Top) ls
  hold_top [] ls n h = h
  hold_top (t ∷ ts) [] n h = absurd h
  hold_top (t ∷ ts) (y ∷ ls) zero h = (top_holds y, h.1)
  hold_top (t ∷ ts) (y ∷ ls) (suc n) h = (h.0, hold_top ts ls n h.1)

  pub hold_keep : (ts : List VType) (ls : List (Option (Value K))) (n : ℕ) (a : VType) (y : Option (Value K)) → All ts ls → slice_get ts n ≡ Some a → Hold a y → All ts (slice_set ls n y)
  hold_keep [] ls n a y h e x = absurd (cc)
  hold_keep (t ∷ ts) [] n a y h e x = absurd h
  hold_keep (t ∷ ts) (z ∷ ls) zero a y h e x = (subst (λ t. Hold t y) (sym (some_is t a e)) x, h.1)
  hold_keep (t ∷ ts) (z ∷ ls) (suc n) a y h e x = (h.0, hold_keep ts ls n a y h.1 e x)

  pub hold_length : (ts : List VType) (ls : List (Option (Value K))) → All ts ls → length ts ≡ length ls
  hold_length [] [] h = refl
  hold_length [] (y ∷ ls) h = absurd h
  hold_length (t ∷ ts) [] h = absurd h
  hold_length (t ∷ ts) (y ∷ ls) h = ap suc (hold_length ts ls h.1)

  -- ---- values of locals

  of_local : (kind : LocalKind) (a : VType) (v : Value K) → Have a v → is_of (forms.local kind) a ≡ true → values.is_of (forms.local kind) v ≡ true
  of_local locals.Int a v x e = number_of w s here news a v x e
  of_local locals.Long a v x e = long_of w s here news a v x e
  of_local locals.Ref a v x e = held_of w s here news a v x e

  wide : (kind : LocalKind) (a : VType) (v : Value K) → Have a v → is_of (forms.local kind) a ≡ true → is_long a ≡ shuffles.is_long v
  wide kind a v x e = as_long w s here news a v x (local_no_top kind a e)

  places_alike : (a : VType) (v : Value K) → is_long a ≡ shuffles.is_long v → length (shapes.places a) ≡ length (places v)
  places_alike a v e = go (is_long a) ∙ ap (λ b. length (if b then Some v ∷ None ∷ [] else Some v ∷ [])) e
    where
      go : (b : Bool) → length (if b then a ∷ types.Top ∷ [] else a ∷ []) ≡ length (if b then Some v ∷ None ∷ [] else Some v ∷ [])
      go true = refl
      go false = refl

  second_holds : (b c : Bool) (ts : List VType) (ls : List (Option (Value K))) (n : ℕ) → b ≡ c → All ts ls
      → All (if b then slice_set ts (n + 1) types.Top else ts) (if c then slice_set ls (n + 1) None else ls)
  second_holds true true ts ls n e h = hold_put ts ls (n + 1) types.Top None h refl
  second_holds false false ts ls n e h = h
  second_holds true false ts ls n e h = absurd (cc)
  second_holds false true ts ls n e h = absurd (cc)

  broken_holds : (ts : List VType) (ls : List (Option (Value K))) (n : ℕ) → All ts ls → All (rule_locals.broken ts n) ls
  broken_holds ts ls zero h = h
  broken_holds ts ls (suc n) h = go (passes is_long (slice_get ts n))
    where
      go : (b : Bool) → All (if b then slice_set ts n types.Top else ts) ls
      go true = hold_top ts ls n h
      go false = h

  local_holds : (ts : List VType) (ls : List (Option (Value K))) (n : ℕ) (a : VType) (v : Value K) → All ts ls → Have a v → is_long a ≡ shuffles.is_long v
      → All (rule_locals.with_local ts n a) (with_local ls n v)
  unfolding rule_locals.with_local
  local_holds ts ls n a v h x e =
      second_holds (is_long a) (shuffles.is_long v) (slice_set (rule_locals.broken ts n) n a) (slice_set ls n (Some v)) n e
      (hold_put (rule_locals.broken ts n) ls n a (Some v) (broken_holds ts ls n h) x)

  -- ---- the three

  -- what the machine holds behind it suits the frame behind
  pub record Kept (behind : Frame) (found : Option (Held K)) : Type 0 where
    pub held : Held K
    pub is : found ≡ Some held
    pub locals : All behind.locals held.locals
    pub operands : AllHave w s here news behind.stack held.operands

  kept_at : (a b : Frame) (found : Option (Held K)) → b ≡ a → Kept a found → Kept b found
  kept_at a b found e k = subst (λ f. Kept f found) (sym e) k

  load_found : (kind : LocalKind) (h : Held K) (n : ℕ) (v : Value K) → slice_get h.locals n ≡ Some (Some v) → values.is_of (forms.local kind) v ≡ true
      → option_and_then (loaded (forms.local kind) h) (local_at h.locals n) ≡ Some (holding h.locals (v ∷ h.operands))
  load_found kind h n v at of =
      ap (λ (o : Option (Option (Value K))). option_and_then (loaded (forms.local kind) h) (option_and_then (λ v. v) o)) at
      ∙ ap (λ b. if b then Some (holding h.locals (v ∷ h.operands)) else None) of

  load_kept : (kind : LocalKind) (shape : Frame) (h : Held K) (n : ℕ) (a : VType) (y : Option (Value K)) → All shape.locals h.locals → AllHave w s here news shape.stack h.operands
      → slice_get h.locals n ≡ Some y → Hold a y → is_of (forms.local kind) a ≡ true
      → Kept (with_stack shape (a ∷ shape.stack)) (option_and_then (loaded (forms.local kind) h) (local_at h.locals n))
  load_kept kind shape h n a None fit fits at x e = absurd (not_top (forms.local kind) (subst (λ a. is_of (forms.local kind) a ≡ true) x e))
  load_kept kind shape h n a (Some v) fit fits at x e =
      record { held = holding h.locals (v ∷ h.operands); is = load_found kind h n v at (of_local kind a v x e); locals = fit; operands = (x, fits) }

  load_does : (most : ℕ) (kind : LocalKind) (n : ℕ) (shape behind : Frame) (h : Held K) → All shape.locals h.locals → AllHave w s here news shape.stack h.operands
      → ProofNames.load most (forms.local kind) n shape ≡ Some behind → Kept behind (local (Moves Load kind n) h)
  unfolding local
  load_does most kind n shape behind h fit fits e = go (slice_get shape.locals n) refl e
    where
      go : (o : Option VType) → slice_get shape.locals n ≡ o → rule_locals.load_from most (forms.local kind) n shape o ≡ Some behind
          → Kept behind (option_and_then (loaded (forms.local kind) h) (local_at h.locals n))
      go None at e = absurd (cc)
      go (Some a) at e =
          let test = if_some (is_of (forms.local kind) a && is_whole shape.locals n a) (pushed most a shape) behind e in
          let found = hold_get shape.locals h.locals n a fit at in
          kept_at (with_stack shape (a ∷ shape.stack)) behind (option_and_then (loaded (forms.local kind) h) (local_at h.locals n)) (roomy most shape (a ∷ shape.stack) behind test.1)
          (load_kept kind shape h n a found.0 fit fits found.1 found.2 (both (is_of (forms.local kind) a) (is_whole shape.locals n a) test.0).0)

  store_does : (kind : LocalKind) (n : ℕ) (shape behind : Frame) (stack : List VType) (ls : List (Option (Value K))) (operands : List (Value K)) → All shape.locals ls
      → AllHave w s here news stack operands → rule_locals.store_on (forms.local kind) n shape stack ≡ Some behind → Kept behind (stored (forms.local kind) n ls operands)
  store_does kind n shape behind [] ls operands fit fits e = absurd (cc)
  store_does kind n shape behind (a ∷ stack) ls [] fit fits e = absurd fits
  store_does kind n shape behind (a ∷ stack) ls (v ∷ operands) fit fits e =
      let room = nat_le (n + length (shapes.places a)) (length shape.locals) in
      let put : Frame = record { locals = rule_locals.with_local shape.locals n a; stack = stack; flag = shape.flag } in
      let test = if_some (is_of (forms.local kind) a && room) (Some put) behind e in
      let tests = both (is_of (forms.local kind) a) room test.0 in
      let same = wide kind a v fits.0 tests.0 in
      let enough : nat_le (n + length (places v)) (length ls) ≡ true =
      ap (λ i. nat_le (n + i) (length ls)) (sym (places_alike a v same)) ∙ ap (λ i. nat_le (n + length (shapes.places a)) i) (sym (hold_length shape.locals ls fit)) ∙ tests.1 in
      kept_at put behind (stored (forms.local kind) n ls (v ∷ operands)) (sym (some_is put behind test.1)) (record {
        held = holding (with_local ls n v) operands;
        is = ap (λ b. if b then Some (holding (with_local ls n v) operands) else None)
            (and_true (values.is_of (forms.local kind) v) (nat_le (n + length (places v)) (length ls)) (of_local kind a v fits.0 tests.0) enough);
        locals = local_holds shape.locals ls n a v fit fits.0 same;
        operands = fits.1;
      })

  int_holds : (z : ℤ) → Hold types.Int (Some (int z))
  int_holds z = record { type = types.Int; is = refl; met = refl }

  increase_found : (h : Held K) (n : ℕ) (by x : ℤ) → slice_get h.locals n ≡ Some (Some (Int x))
      → option_and_then (increased h n by) (local_at h.locals n) ≡ Some (holding (slice_set h.locals n (Some (int (x +ℤ by)))) h.operands)
  increase_found h n by x at = ap (λ (o : Option (Option (Value K))). option_and_then (increased h n by) (option_and_then (λ v. v) o)) at

  increase_kept : (shape : Frame) (h : Held K) (n : ℕ) (by : ℤ) (y : Option (Value K)) → All shape.locals h.locals → AllHave w s here news shape.stack h.operands
      → slice_get shape.locals n ≡ Some types.Int → slice_get h.locals n ≡ Some y → Hold types.Int y → Kept shape (option_and_then (increased h n by) (local_at h.locals n))
  increase_kept shape h n by None fit fits of at x = absurd (cc)
  increase_kept shape h n by (Some v) fit fits of at x =
      let i = int_value w s v (has_kind w s here news kinds.Int types.Int v tt x refl) in record {
        held = holding (slice_set h.locals n (Some (int (i.0 +ℤ by)))) h.operands;
        is = increase_found h n by i.0 (at ∙ ap (λ (v : Value K). Some (Some v)) i.1);
        locals = hold_keep shape.locals h.locals n types.Int (Some (int (i.0 +ℤ by))) fit of (int_holds (i.0 +ℤ by));
        operands = fits;
      }

  increment_does : (n : ℕ) (by : ℤ) (shape behind : Frame) (h : Held K) → All shape.locals h.locals → AllHave w s here news shape.stack h.operands
      → rule_locals.increment n shape ≡ Some behind → Kept behind (local (Increment n by) h)
  unfolding local
  increment_does n by shape behind h fit fits e = go (slice_get shape.locals n) refl e
    where
      go : (o : Option VType) → slice_get shape.locals n ≡ o → (if passes is_int o then Some shape else None) ≡ Some behind
          → Kept behind (option_and_then (increased h n by) (local_at h.locals n))
      go None at e = absurd (cc)
      go (Some a) at e =
          let test = if_some (is_int a) (Some shape) behind e in
          let of : slice_get shape.locals n ≡ Some types.Int = at ∙ ap (λ a. Some a) (int_type a test.0) in
          let found = hold_get shape.locals h.locals n types.Int fit of in
          kept_at shape behind (option_and_then (increased h n by) (local_at h.locals n)) (sym (some_is shape behind test.1))
          (increase_kept shape h n by found.0 fit fits of found.1 found.2)

  pub local_does : (most : ℕ) (form : LocalForm) (shape behind : Frame) (h : Held K) → All shape.locals h.locals → AllHave w s here news shape.stack h.operands
      → rule_locals.local most form shape ≡ Some behind → Kept behind (local form h)
  unfolding local
  local_does most (Moves Load kind n) shape behind h fit fits e = load_does most kind n shape behind h fit fits e
  local_does most (Moves Keep kind n) shape behind h fit fits e = store_does kind n shape behind shape.stack h.locals h.operands fit fits e
  local_does most (Increment n by) shape behind h fit fits e = increment_does n by shape behind h fit fits e

module _ {K E : Type 0} (r : Rules K E) (at : Site) (own : Member → Bool) (s : Store K) (entries : List E) (inherited : Option K) (statics : List VType) (stored : IsStored at.world s statics)
    (here : Here) (news : News) (i : Instruction) (on : goes_on i ≡ true) where
  abbrev doing_of : FrameOf K E → Held K → Doing K E
  doing_of f h = record { frame = with_held f h; row = gives s [] }

  pub held_does : (behind : Frame) (f : FrameOf K E) (found : Option (Held K)) → Kept at.world s here news behind found → CanDo at.world s statics here i behind (by_held r at own s entries inherited f found)
  held_does behind f found k = record {
    done = doing_of f k.held;
    is = ap (option_map (doing_of f)) k.is;
    news = news;
    does = record { gives = None; rest = behind.stack; stack = refl; locals = k.locals; operands = k.operands; act = (on, grows_itself K at.world s, stored, tt) };
  }
