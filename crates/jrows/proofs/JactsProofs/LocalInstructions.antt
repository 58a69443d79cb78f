-- Instructions with a local.
use Rattle.std.proofs.Common.{◌≡◌, ◌∙◌, ℕ, ℤ, ◌+◌, ◌<◌, ◌≤◌, true, false, List, [], ◌∷◌, length, drop, Option, Some, None, refl, ap, arith, rules}
use Rattle.std.specs.Prelude.{slice_get, slice_set, nat_le, ◌+ℤ◌, option_and_then}
use Rattle.std.proofs.lemmas.Option.{slice_get_within}
use Rattle.std.specs.Int.{int_wrap, w32}
use Rattle.jvalues.specs.declared.jops.value.Value.{Value}
use Rattle.jvalues.specs.declared.jops.value.Value.TheVariants.{Int, Long, Ref, Ctx}
use Rattle.jvalues.specs.jops.ValueKinds.{is_of}
use Rattle.jparts.specs.jcode.InstructionForms as forms
use Rattle.jparts.specs.declared.jcode.names.LocalKind.{LocalKind}
use Rattle.jparts.specs.declared.jcode.names.Access.TheVariants.{Load, Store}
use Rattle.jparts.specs.declared.jcode.op_form.LocalForm.TheVariants.{Increment, Move}
use Rattle.jresolution.specs.juses.IndexedInstructions.{Local}
use Rattle.jsemantics.specs.jmachine.MachineStates.{FrameOf}
use Rattle.jsemantics.specs.jmachine.InstructionActions.{doing}
use Rattle.jsemantics.specs.jmachine.FrameOperations.{onward}
use Rattle.jsemantics.specs.jmachine.BasicInstructions.{holding, increased, local, local_at, places, stored, with_local}
use Rattle.jrows.specs.jacts.RowOutcomes.{Does, int_in}
use Rattle.jrows.specs.declared.jacts.way.Way.TheVariants as ways
use Rattle.jrows.proofs.JactsProofs.Costs.{at_no_cost}
use Rattle.jrows.proofs.JactsProofs.NumberOperands.{front_one}

module _ {E : Type 0} (f : FrameOf ℕ E) where
  -- with other locals, and these operands, behind its instruction
  abbrev pub kept_on : List (Option (Value ℕ)) → List (Value ℕ) → FrameOf ℕ E
  kept_on locals operands = record { method = f.method; place = f.place + 1; locals = locals; operands = operands; entry = f.entry }

  pub loaded_on : (kind : LocalKind) (n : ℕ) (v : Value ℕ) → Some v ≡ local_at f.locals n → is_of (forms.local kind) v ≡ true
      → Does (Local (Move Load kind n)) f ways.Went (onward f (v ∷ []))
  unfolding doing local
  loaded_on kind n v there h r at own s entries inherited = rw (← there, h) (at_no_cost f s [] (onward f (v ∷ [])))

  pub load_stuck : (kind : LocalKind) (n : ℕ) (g : FrameOf ℕ E) → None ≡ local_at f.locals n → Does (Local (Move Load kind n)) f ways.Stuck g
  unfolding doing local
  load_stuck kind n g there r at own s entries inherited = rw (← there) refl

  pub load_other : (kind : LocalKind) (n : ℕ) (v : Value ℕ) (g : FrameOf ℕ E) → Some v ≡ local_at f.locals n → is_of (forms.local kind) v ≡ false → Does (Local (Move Load kind n)) f ways.Stuck g
  unfolding doing local
  load_other kind n v g there h r at own s entries inherited = rw (← there, h) refl

  pub stored_on : (kind : LocalKind) (n : ℕ) (v : Value ℕ) → Some v ≡ slice_get f.operands 0 → is_of (forms.local kind) v ≡ true → n + length (places v) ≤ length f.locals
      → Does (Local (Move Store kind n)) f ways.Went (kept_on (with_local f.locals n v) (drop 1 f.operands))
  unfolding doing local
  stored_on kind n v there h few r at own s entries inherited =
      let room : nat_le (n + length (places v)) (length f.locals) ≡ true = search rules in
      rw (stored_is f.locals f.operands there h room) (at_no_cost f s [] (kept_on (with_local f.locals n v) (drop 1 f.operands)))
    where
      stored_is : (locals : List (Option (Value ℕ))) (operands : List (Value ℕ)) → Some v ≡ slice_get operands 0 → is_of (forms.local kind) v ≡ true → nat_le (n + length (places v)) (length locals) ≡ true
          → stored (forms.local kind) n locals operands ≡ Some (holding (with_local locals n v) (drop 1 operands))
      stored_is locals operands there h room = ap (stored (forms.local kind) n locals) (front_one operands v there) ∙ rw (h, room) refl

  pub store_short : (kind : LocalKind) (n : ℕ) (g : FrameOf ℕ E) → length f.operands < 1 → Does (Local (Move Store kind n)) f ways.Stuck g
  unfolding doing local
  store_short kind n g few r at own s entries inherited = rw (nothing f.operands few) refl
    where
      nothing : {A : Type 0} (xs : List A) → length xs < 1 → xs ≡ []
      nothing [] few = refl
      nothing (x ∷ xs) few = absurd (omega (arith, few))

  pub store_other : (kind : LocalKind) (n : ℕ) (v : Value ℕ) (g : FrameOf ℕ E) → Some v ≡ slice_get f.operands 0 → is_of (forms.local kind) v ≡ false → Does (Local (Move Store kind n)) f ways.Stuck g
  unfolding doing local
  store_other kind n v g there h r at own s entries inherited = rw (front_one f.operands v there, h) refl

  pub store_outside : (kind : LocalKind) (n : ℕ) (v : Value ℕ) (g : FrameOf ℕ E) → Some v ≡ slice_get f.operands 0 → is_of (forms.local kind) v ≡ true → length f.locals < n + length (places v)
      → Does (Local (Move Store kind n)) f ways.Stuck g
  unfolding doing local
  store_outside kind n v g there h few r at own s entries inherited =
      let room : nat_le (n + length (places v)) (length f.locals) ≡ false = search rules in
      rw (front_one f.operands v there, h, room) refl

  pub increased_on : (n : ℕ) (by x : ℤ) → Some x ≡ int_in (local_at f.locals n)
      → Does (Local (Increment n by)) f ways.Went (kept_on (slice_set f.locals n (Some (Int (int_wrap w32 (x +ℤ by))))) f.operands)
  unfolding doing local
  increased_on n by x h r at own s entries inherited = rw (← held (local_at f.locals n) x h) (at_no_cost f s [] (kept_on (slice_set f.locals n (Some (Int (int_wrap w32 (x +ℤ by))))) f.operands))
    where
      held : (v : Option (Value ℕ)) (x : ℤ) → Some x ≡ int_in v → Some (Int x) ≡ v
      held None x h = cc
      held (Some (Int y)) x h = let e : x ≡ y = cc in ap (λ z. Some (Int z)) e
      held (Some (Long y)) x h = cc
      held (Some (Ref n)) x h = cc
      held (Some (Ctx k)) x h = cc

  pub increase_stuck : (n : ℕ) (by : ℤ) (g : FrameOf ℕ E) → None ≡ int_in (local_at f.locals n) → Does (Local (Increment n by)) f ways.Stuck g
  unfolding doing local
  increase_stuck n by g h r at own s entries inherited = rw (other (local_at f.locals n) h) refl
    where
      other : (v : Option (Value ℕ)) → None ≡ int_in v → option_and_then (increased (holding f.locals f.operands) n by) v ≡ None
      other None h = refl
      other (Some (Int x)) h = cc
      other (Some (Long x)) h = refl
      other (Some (Ref n)) h = refl
      other (Some (Ctx k)) h = refl

pub has_local : (locals : List (Option (Value ℕ))) (n : ℕ) (x : ℤ) → Some x ≡ int_in (local_at locals n) → n < length locals
has_local locals n x h = inside (slice_get locals n) refl h
  where
    inside : (v : Option (Option (Value ℕ))) → slice_get locals n ≡ v → Some x ≡ int_in (option_and_then (λ v. v) v) → n < length locals
    inside None e h = cc
    inside (Some held) e h = slice_get_within locals n held e
