-- Instructions with locals: the same is done with both frames' locals, and the local that holds the context stays.
use Rattle.std.proofs.Common.{◌≡◌, ℕ, zero, suc, ◌+◌, ◌<◌, ◌≤◌, ℤ, ◌+ℤ◌, Bool, true, false, ◌&&◌, List, [], ◌∷◌, length, Option, Some, None, refl, sym, ◌∙◌, subst, arith}
use Rattle.std.specs.Prelude.{nat_le, option_and_then, slice_set, if◌then◌else◌}
use Rattle.std.proofs.lemmas.Bool.{le-leb, leb-true}
use Rattle.jvalues.specs.declared.jnames.kinds.Kind.{Kind}
use Rattle.jvalues.specs.declared.jops.value.Value.TheVariants.{Int, Long, Ref, Ctx}
use Rattle.jvalues.specs.jops.ValueKinds.{is_of}
use Rattle.jvalues.specs.jops.Operations.{int}
use Rattle.jparts.specs.declared.jcode.names.Access.TheVariants.{Load, Store as Keep}
use Rattle.jparts.specs.declared.jcode.op_form.LocalForm.{LocalForm}
use Rattle.jparts.specs.declared.jcode.op_form.LocalForm.TheVariants.{Move, Increment}
use Rattle.jparts.specs.jcode.InstructionForms as forms
use Rattle.jctx.specs.declared.item.Item.{Item}
use Rattle.jsemantics.specs.jmachine.BasicInstructions.{Held, holding, increased, loaded, local, local_at, places, stored, with_local}
use Rattle.jsimulation_laws.specs.relation.StateRelation.{LocalsStand, Word}
use Rattle.jsimulation_laws.proofs.LocalProofs.Locals.{none_past, set_long, within}

abbrev Local : Type 0
Local = Option Word

-- ---- one local written in both

pub set_stand : (xs ys : List Local) (n : ℕ) (v : Local) → length xs ≤ length ys → LocalsStand xs ys → LocalsStand (slice_set xs n v) (slice_set ys n v)
set_stand [] ys n v le stand i w e = none_past w e
set_stand (x ∷ xs) [] n v le stand i w e = absurd (omega arith)
set_stand (x ∷ xs) (y ∷ ys) zero v le stand zero w e = e
set_stand (x ∷ xs) (y ∷ ys) zero v le stand (suc i) w e = stand (suc i) w e
set_stand (x ∷ xs) (y ∷ ys) (suc n) v le stand zero w e = stand zero w e
set_stand (x ∷ xs) (y ∷ ys) (suc n) v le stand (suc i) w e = set_stand xs ys n v (omega arith) (λ j u f. stand (suc j) u f) i w e

-- a later local stays
set_later : (xs : List Local) (n m : ℕ) (v : Local) → n < m → local_at (slice_set xs n v) m ≡ local_at xs m
set_later [] n m v lt = refl
set_later (x ∷ xs) n zero v lt = absurd (omega arith)
set_later (x ∷ xs) zero (suc m) v lt = refl
set_later (x ∷ xs) (suc n) (suc m) v lt = set_later xs n m v (omega arith)

-- ---- what is held

-- locals that stand for others, with the context in the last
pub record Stand (most : ℕ) (c : Option Word) (xs ys : List Local) : Type 0 where
  pub locals : LocalsStand xs ys
  pub short : length xs ≤ most
  pub long : length ys ≡ most + 1
  pub context : local_at ys most ≡ c

-- what the one holds, where there is anything, the other holds with other locals
abbrev pub HeldStand : ℕ → Option Word → Option (Held (List Item)) → Option (Held (List Item)) → Type 0
HeldStand most c None o = Unit {0}
HeldStand most c (Some h) o = (zs : List Local) × (o ≡ Some (holding zs h.operands)) × Stand most c h.locals zs

module _ (most : ℕ) (c : Option Word) (xs ys : List Local) (st : Stand most c xs ys) where
  fits_both : length xs ≤ length ys
  fits_both = let a = st.short in let b = st.long in omega (arith, a, b)

  set_both : (n : ℕ) (v : Local) → n < most → Stand most c (slice_set xs n v) (slice_set ys n v)
  set_both n v lt = record {
    locals = set_stand xs ys n v fits_both st.locals;
    short = subst (λ k. k ≤ most) (sym (set_long xs n v)) st.short;
    long = set_long ys n v ∙ st.long;
    context = set_later ys n most v lt ∙ st.context;
  }

  -- ---- loads

  load_both : (kind : Kind) (operands : List Word) (o o' : Option Word) → ((v : Word) → o ≡ Some v → o' ≡ Some v)
      → HeldStand most c (option_and_then (loaded kind (holding xs operands)) o) (option_and_then (loaded kind (holding ys operands)) o')
  load_both kind operands None o' there = tt
  load_both kind operands (Some v) o' there =
      subst (λ (z : Option Word). HeldStand most c (option_and_then (loaded kind (holding xs operands)) (Some v)) (option_and_then (loaded kind (holding ys operands)) z))
      (sym (there v refl)) (when (is_of kind v))
    where
      when : (b : Bool) → HeldStand most c (if b then Some (holding xs (v ∷ operands)) else None) (if b then Some (holding ys (v ∷ operands)) else None)
      when true = (ys, refl, st)
      when false = tt

  increase_both : (n : ℕ) (by : ℤ) (operands : List Word) → n < most → (o o' : Option Word) → ((v : Word) → o ≡ Some v → o' ≡ Some v)
      → HeldStand most c (option_and_then (increased (holding xs operands) n by) o) (option_and_then (increased (holding ys operands) n by) o')
  increase_both n by operands lt None o' there = tt
  increase_both n by operands lt (Some (Long x)) o' there = tt
  increase_both n by operands lt (Some (Ref x)) o' there = tt
  increase_both n by operands lt (Some (Ctx x)) o' there = tt
  increase_both n by operands lt (Some (Int x)) o' there =
      subst
      (λ (z : Option Word). HeldStand most c (option_and_then (increased (holding xs operands) n by) (Some (Int x)))
      (option_and_then (increased (holding ys operands) n by) z)) (sym (there (Int x) refl))
      (slice_set ys n (Some (int (x +ℤ by))), refl, set_both n (Some (int (x +ℤ by))) lt)

  -- ---- stores

  wide_set : (n : ℕ) (v : Word) → n + length (places v) ≤ most → Stand most c (with_local xs n v) (with_local ys n v)
  wide_set n (Int x) le = set_both n (Some (Int x)) (omega arith)
  wide_set n (Ref x) le = set_both n (Some (Ref x)) (omega arith)
  wide_set n (Ctx x) le = set_both n (Some (Ctx x)) (omega arith)
  wide_set n (Long x) le = second (set_both n (Some (Long x)) (omega arith))
    where
      second : Stand most c (slice_set xs n (Some (Long x))) (slice_set ys n (Some (Long x)))
          → Stand most c (slice_set (slice_set xs n (Some (Long x))) (n + 1) None) (slice_set (slice_set ys n (Some (Long x))) (n + 1) None)
      second st' = record {
        locals =
            set_stand (slice_set xs n (Some (Long x))) (slice_set ys n (Some (Long x))) (n + 1) None (let a = st'.short in let b = st'.long in omega (arith, a, b)) st'.locals;
        short = subst (λ k. k ≤ most) (sym (set_long (slice_set xs n (Some (Long x))) (n + 1) None)) st'.short;
        long = set_long (slice_set ys n (Some (Long x))) (n + 1) None ∙ st'.long;
        context = set_later (slice_set ys n (Some (Long x))) (n + 1) most None (omega arith) ∙ st'.context;
      }

  abbrev kept_if : Bool → List Local → List Word → Option (Held (List Item))
  kept_if b zs operands = if b then Some (holding zs operands) else None

  store_both : (kind : Kind) (n : ℕ) (operands : List Word) → HeldStand most c (stored kind n xs operands) (stored kind n ys operands)
  store_both kind n [] = tt
  store_both kind n (v ∷ operands) = of_kind (is_of kind v)
    where
      room : (b : Bool) → nat_le (n + length (places v)) (length xs) ≡ b
          → HeldStand most c (kept_if b (with_local xs n v) operands) (kept_if (nat_le (n + length (places v)) (length ys)) (with_local ys n v) operands)
      room false e = tt
      room true e =
          let le = leb-true (n + length (places v)) (length xs) e in
          let a = st.short in
          let b = st.long in
          subst (λ z. HeldStand most c (Some (holding (with_local xs n v) operands)) (kept_if z (with_local ys n v) operands))
          (sym (le-leb (n + length (places v)) (length ys) (omega (arith, le, a, b))))
          (with_local ys n v, refl, wide_set n v (omega (arith, le, a)))

      of_kind : (b : Bool)
          → HeldStand most c (kept_if (b && nat_le (n + length (places v)) (length xs)) (with_local xs n v) operands)
          (kept_if (b && nat_le (n + length (places v)) (length ys)) (with_local ys n v) operands)
      of_kind true = room (nat_le (n + length (places v)) (length xs)) refl
      of_kind false = tt

  read_in : (n : ℕ) (v : Word) → local_at xs n ≡ Some v → n < most
  read_in n v e = let lt = within xs n v e in let a = st.short in omega (arith, lt, a)

  increased_far : (n : ℕ) (by : ℤ) (operands : List Word) (o : Option Word) → local_at xs n ≡ o
      → HeldStand most c (option_and_then (increased (holding xs operands) n by) o) (option_and_then (increased (holding ys operands) n by) (local_at ys n))
  increased_far n by operands None e = tt
  increased_far n by operands (Some v) e = increase_both n by operands (read_in n v e) (Some v) (local_at ys n) (λ w f. st.locals n w (e ∙ f))

  -- an instruction with a local does the same with both
  pub local_both : (form : LocalForm) (operands : List Word) → HeldStand most c (local form (holding xs operands)) (local form (holding ys operands))
  unfolding local
  local_both (Move Load kind n) operands = load_both (forms.local kind) operands (local_at xs n) (local_at ys n) (st.locals n)
  local_both (Move Keep kind n) operands = store_both (forms.local kind) n operands
  local_both (Increment n by) operands = increased_far n by operands (local_at xs n) refl
