-- What a call came to, and what is left of its frame, are what the machine's definition says.
use Rattle.std.proofs.Common.{◌≡◌, ℕ, Bool, true, false, List, [], ◌∷◌, Option, Some, None, refl, subst, ap}
use Rattle.std.specs.Prelude.{⊤, nat_le, option_map, if◌then◌else◌}
use Rattle.jvalues.specs.declared.jops.value.Value.{Value}
use Rattle.jlib.specs.declared.classes.LibClass.{LibClass}
use Rattle.jlib.specs.declared.classes.LibClass.TheVariants as lib
use Rattle.jlib.specs.declared.classes.Thrown.{Thrown as ThrownClass}
use Rattle.joutput.specs.declared.jtrace.event.Event.{Event}
use Rattle.jsemantics.specs.jmachine.MachineStates.{Act, FrameOf, Goes, Jumps, Leaves as LeavesFrame, Calls, Raises, Throws, Switches, Makes, Row}
use Rattle.jsemantics.specs.jmachine.FrameOperations.{onward, with_operands}
use Rattle.jsemantics.specs.jmachine.Store.{Store, paid}
use Rattle.jrows.specs.jtexts.TextCallOutcomes as rans
use Rattle.jrows.specs.jtexts.TextCallOutcomes.{gave}
use Rattle.jrows.specs.declared.jtexts.ran.Ran.{Ran}
use Rattle.jrows.specs.declared.jtexts.ran.Ran.TheVariants as ran
use Rattle.jrows.specs.declared.jacts.way.Way.{Way}
use Rattle.jrows.specs.declared.jacts.way.Way.TheVariants as ways
use Rattle.jrows.specs.jacts.RowOutcomes as acts
use Rattle.jlibcalls.specs.jlibrary.LibraryOutcomes.{Leaves, Stays}
use Rattle.jlibcalls.proofs.JlibraryProofs.RowResults.{IsPlain, IsPlainAct}

-- it gives one value or none
abbrev IsFew : List (Value ℕ) → Type 0
IsFew [] = ⊤
IsFew (v ∷ []) = ⊤
IsFew (v ∷ w ∷ values) = ⊥

module _ {E : Type 0} (f : FrameOf ℕ E) (s : Store ℕ) (below : List (Value ℕ)) (g : FrameOf ℕ E) (told : List Event) (u : Store ℕ) where
  abbrev taken : FrameOf ℕ E
  taken = with_operands f below

  -- ---- what it leaves

  ran_is : (a b : Ran) (events : List Event) (t : Store ℕ) → rans.leaves a told u ≡ rans.leaves b events t → a ≡ b
  ran_is a b events t is = ap (λ (l : rans.Left). l.ran) is

  goes_on : (values : List (Value ℕ)) → IsFew values → (way : Way) → Leaves f below (gave values) way g → (way ≡ ways.Went) × (g ≡ onward taken values)
  goes_on [] few way left = left
  goes_on (v ∷ []) few way left = left
  goes_on (v ∷ w ∷ values) few way left = absurd few

  chosen : (b : Bool) (values : List (Value ℕ)) (events : List Event) (t : Store ℕ) (came : Ran) (way : Way) → IsFew values
      → rans.leaves came told u ≡ (if b then rans.leaves (gave values) events t else rans.leaves ran.Full [] s) → Leaves f below came way g
      → acts.leaves way told g u ≡ (if b then acts.leaves ways.Went events (onward taken values) t else acts.leaves ways.Full [] f s)
  chosen true values events t came way few is left =
      let both = goes_on values few way (subst (λ x. Leaves f below x way g) (ran_is came (gave values) events t is) left) in
      let tells : told ≡ events = ap (λ (l : rans.Left). l.told) is in
      let store : u ≡ t = ap (λ (l : rans.Left). l.store) is in
      rw (both.0, both.1, tells, store) refl
  chosen false values events t came way few is left =
      let both : (way ≡ ways.Full) × (g ≡ f) = subst (λ x. Leaves f below x way g) (ran_is came ran.Full [] s is) left in
      let tells : told ≡ [] = ap (λ (l : rans.Left). l.told) is in
      let store : u ≡ s = ap (λ (l : rans.Left). l.store) is in
      rw (both.0, both.1, tells, store) refl

  raises : (class : LibClass) (cells : ℕ) (came : Ran) (way : Way) → (cells ≡ 0) × (rans.leaves came told u ≡ rans.leaves (ran.Raises class) [] s)
      → Leaves f below came way g → acts.Acted f s taken cells (Raises [] class None) (acts.leaves way told g u)
  raises class cells came way (none, is) left =
      let both : (way ≡ ways.Raises class) × (g ≡ f) = subst (λ x. Leaves f below x way g) (ran_is came (ran.Raises class) [] s is) left in
      let same : acts.IsSame taken g = rw both.1 refl in
      (none, refl, both.0, ap (λ (l : rans.Left). l.told) is, same, ap (λ (l : rans.Left). l.store) is)

  acted : (act : Act ℕ E) (cells : ℕ) (came : Ran) (way : Way) → IsPlainAct act → rans.Acted s cells act (rans.leaves came told u) → Leaves f below came way g
      → acts.Acted f s taken cells act (acts.leaves way told g u)
  acted (Goes t [] events) cells came way plain is left = chosen (nat_le cells s.left) [] events (paid cells t) came way tt is left
  acted (Goes t (v ∷ []) events) cells came way plain is left = chosen (nat_le cells s.left) (v ∷ []) events (paid cells t) came way tt is left
  acted (Goes t (v ∷ w ∷ values) events) cells came way plain is left = absurd plain
  acted (Raises [] class None) cells came way plain is left = raises class cells came way is left
  acted (Raises [] class (Some message)) cells came way plain is left = absurd is
  acted (Raises (e ∷ events) class message) cells came way plain is left = absurd is
  acted (Jumps to) cells came way plain is left = absurd is
  acted (LeavesFrame values) cells came way plain is left = absurd is
  acted (Calls m arguments entry) cells came way plain is left = absurd is
  acted (Throws n) cells came way plain is left = absurd is
  acted (Switches table) cells came way plain is left = absurd is
  acted (Makes t runnable k) cells came way plain is left = absurd is

  pub joined : (row : Option (Row ℕ E)) (came : Ran) (way : Way) → IsPlain row → rans.Comes s row (rans.leaves came told u) → Leaves f below came way g
      → acts.Comes f s (option_map (λ (x : Row ℕ E). record { frame = taken; row = x }) row) (acts.leaves way told g u)
  joined None came way plain is left = (subst (λ x. Leaves f below x way g) (ran_is came ran.Stuck [] s is) left).0
  joined (Some r) came way plain is left = acted r.act r.charge came way plain is left

  -- ---- where it stands

  abbrev IsThrown : LibClass → Type 0
  IsThrown class = (c : ThrownClass) × (class ≡ lib.Thrown c)

  not_gone : (b : Bool) (values : List (Value ℕ)) (events : List Event) (t : Store ℕ) (class : LibClass) → IsFew values
      → rans.leaves (ran.Raises class) told u ≡ (if b then rans.leaves (gave values) events t else rans.leaves ran.Full [] s) → ⊥
  not_gone true [] events t class few is = let e = ran_is (ran.Raises class) ran.Went events t is in cc
  not_gone true (v ∷ []) events t class few is = let e = ran_is (ran.Raises class) (ran.Gave v) events t is in cc
  not_gone true (v ∷ w ∷ values) events t class few is = few
  not_gone false values events t class few is = let e = ran_is (ran.Raises class) ran.Full [] s is in cc

  thrown_act : (act : Act ℕ E) (cells : ℕ) (class : LibClass) → IsPlainAct act → rans.Acted s cells act (rans.leaves (ran.Raises class) told u) → IsThrown class
  thrown_act (Goes t [] events) cells class plain is = absurd (not_gone (nat_le cells s.left) [] events (paid cells t) class tt is)
  thrown_act (Goes t (v ∷ []) events) cells class plain is = absurd (not_gone (nat_le cells s.left) (v ∷ []) events (paid cells t) class tt is)
  thrown_act (Goes t (v ∷ w ∷ values) events) cells class plain is = absurd plain
  thrown_act (Raises [] other None) cells class plain is =
      let e = ran_is (ran.Raises class) (ran.Raises other) [] s is.1 in
      let same : class ≡ other = cc in
      rw same plain
  thrown_act (Raises [] other (Some message)) cells class plain is = absurd is
  thrown_act (Raises (e ∷ events) other message) cells class plain is = absurd is
  thrown_act (Jumps to) cells class plain is = absurd is
  thrown_act (LeavesFrame values) cells class plain is = absurd is
  thrown_act (Calls m arguments entry) cells class plain is = absurd is
  thrown_act (Throws n) cells class plain is = absurd is
  thrown_act (Switches table) cells class plain is = absurd is
  thrown_act (Makes t runnable k) cells class plain is = absurd is

  thrown : (row : Option (Row ℕ E)) (class : LibClass) → IsPlain row → rans.Comes s row (rans.leaves (ran.Raises class) told u) → IsThrown class
  thrown None class plain is = let e = ran_is (ran.Raises class) ran.Stuck [] s is in cc
  thrown (Some r) class plain is = thrown_act r.act r.charge class plain is

  pub stays : (row : Option (Row ℕ E)) (came : Ran) (way : Way) → IsPlain row → rans.Comes s row (rans.leaves came told u) → Leaves f below came way g → Stays way f g
  stays row ran.Went way plain is left = rw (left.0, left.1) refl
  stays row (ran.Gave v) way plain is left = rw (left.0, left.1) refl
  stays row (ran.Raises class) way plain is left = rw (left.0, left.1) (thrown row class plain is, refl, refl)
  stays row ran.Full way plain is left = rw left.0 tt
  stays row ran.Stuck way plain is left = rw left.0 tt
