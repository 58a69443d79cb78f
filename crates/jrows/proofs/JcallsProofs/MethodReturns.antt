-- Returns.
use Rattle.std.proofs.Common.{◌≡◌, ◌∙◌, ℕ, ◌+◌, ◌<◌, true, false, List, [], ◌∷◌, ◌++◌, length, drop, Option, Some, None, refl, sym, ap, arith}
use Rattle.std.specs.Prelude.{IfOk, Ok, Err, Result, slice_get}
use Rattle.std.proofs.Math.Dec.{leb-zero}
use Rattle.jvalues.specs.declared.jnames.kinds.Kind.{Kind}
use Rattle.jvalues.specs.declared.jnames.kinds.Kind.TheVariants as kinds
use Rattle.jvalues.specs.declared.jnames.kinds.Kinds.TheVariants as many
use Rattle.jvalues.specs.declared.jops.value.Value.{Value}
use Rattle.jvalues.specs.jops.ValueKinds.{is_of}
use Rattle.jmemory.specs.jheap.Heaps.{Heaped}
use Rattle.jparts.specs.declared.jcode.names.Returned.{Returned}
use Rattle.jparts.specs.declared.jcode.names.Returned.TheVariants as returned_kinds
use Rattle.jparts.specs.jcode.InstructionForms.{returned}
use Rattle.jtyping.specs.jrule.StackEffects.{Of, of_kinds}
use Rattle.jsemantics.specs.jmachine.MachineStates.{FrameOf}
use Rattle.jsemantics.specs.jmachine.InstructionActions.{doing}
use Rattle.jsemantics.specs.jmachine.TakenOperands.{Taken, serves, taken}
use Rattle.jsemantics.specs.jmachine.MachineSteps.{acted, applied}
use Rattle.jsemantics.specs.jmachine.Store.{Store}
use Rattle.jsemantics.specs.jmachine.World.{World, world}
use Rattle.jruntime.specs.jstate.FrameLists.{Framed, framed}
use Rattle.jrows.proofs.JactsProofs.Costs.{unpaid}
use Rattle.jrows.proofs.JactsProofs.NumberOperands.{IsNumber as IsNumberKind, front_one, is_taken, isnt_taken, none_there}
use Rattle.jruntime.specs.jstate.HeapMeanings.{Things}
use Rattle.jruntime.specs.jstate.HeapMeaningLaws.{SeesEach}
use Rattle.jrows.specs.declared.jcalls.ready.Counts.{Counts}
use Rattle.jrows.specs.declared.jcalls.returns.Leaving.{Leaving}
use Rattle.jrows.specs.declared.jcalls.returns.Leaving.TheVariants as ways
use Rattle.jrows.specs.jcalls.FrameMarks.{Stand, Stands, resumed_by}
use Rattle.jrows.specs.jcalls.Returns.{IsNumber, Leaves, Returns, ReturnsRef}
use Rattle.jrows.specs.jcalls.Readiness.{AreCounted, is_reference}
use Rattle.jrows.proofs.JcallsProofs.ReadyObjects.{reference_serves}
use Rattle.jrows.proofs.JcallsProofs.FrameMarks.{is_resumed}

number_is : (k : Kind) → IsNumber k → IsNumberKind k
number_is kinds.Int n = tt
number_is kinds.Long n = tt
number_is kinds.Null n = elim n [ ]
number_is kinds.Ref n = elim n [ ]
number_is kinds.Array n = elim n [ ]
number_is kinds.Held n = elim n [ ]

-- ---- what is returned

abbrev pub HasTaken : Returned → List (Value ℕ) → Option (Taken ℕ) → Type 0
HasTaken kind operands t = (w : World) (s : Store ℕ) → taken w s (of_kinds (returned kind)) operands ≡ t

abbrev pub took : List (Value ℕ) → List (Value ℕ) → Taken ℕ
took values below = record { values = values; below = below }

pub nothing_taken : (operands : List (Value ℕ)) → HasTaken returned_kinds.Nothing operands (Some (took [] operands))
unfolding taken
nothing_taken operands w s = refl

pub kind_taken : (kind : Returned) (k : Kind) → returned kind ≡ many.One k → IsNumber k → (operands : List (Value ℕ)) (v : Value ℕ)
    → Some v ≡ slice_get operands 0 → is_of k v ≡ true
    → HasTaken kind operands (Some (took (v ∷ []) (drop 1 operands)))
kind_taken kind k one number operands v there h w s =
    rw one (ap (taken w s (of_kinds (many.One k))) (front_one operands v there) ∙ is_taken w s (many.One k) (number_is k number) v (drop 1 operands) h)

none_taken : (kind : Returned) (k : Kind) → returned kind ≡ many.One k → IsNumber k → (operands : List (Value ℕ)) → length operands < 1
    → HasTaken kind operands None
none_taken kind k one number operands few w s = rw one (none_there w s (many.One k) (number_is k number) operands few)

other_taken : (kind : Returned) (k : Kind) → returned kind ≡ many.One k → IsNumber k → (operands : List (Value ℕ)) (v : Value ℕ)
    → Some v ≡ slice_get operands 0 → is_of k v ≡ false
    → HasTaken kind operands None
other_taken kind k one number operands v there h w s =
    rw one (ap (taken w s (of_kinds (many.One k))) (front_one operands v there) ∙ isnt_taken w s (many.One k) (number_is k number) v (drop 1 operands) h)

module _ {E : Type 0} where
  -- ---- the frame below

  pub first_stands : (count : ℕ) (below : List (FrameOf ℕ E)) (u : Framed E) → framed below ≡ Some u → Stand count below → Stands count u.newest
  first_stands count [] u e s = cc
  first_stands count (g ∷ below) u e s = let same : record { newest = g; below = below } ≡ u = cc in rw (← same) s.0

  pub ended_so : (values : List (Value ℕ)) (marks : List E) (f g : Framed E) → f.below ≡ [] → Leaves values marks f ways.Ends g
  ended_so values marks f g none r p plan s is = rw none refl

  pub resumed_so : (values : List (Value ℕ)) (marks : List E) (f u g : Framed E) → framed f.below ≡ Some u
      → Some g ≡ resumed_by marks u (u.newest.place + 1) (values ++ u.newest.operands) → Leaves values marks f ways.Resumed g
  resumed_so values marks f u g e h r p plan s is =
      let below = is_all f.below e in
      let on = is_resumed r.entry_of p marks u g (u.newest.place + 1) (values ++ u.newest.operands) is h in
      rw (below, on) refl
    where
      is_all : (below : List (FrameOf ℕ E)) → framed below ≡ Some u → below ≡ u.newest ∷ u.below
      is_all [] e = cc
      is_all (x ∷ below) e = let same : record { newest = x; below = below } ≡ u = cc in ap (λ (v : Framed E). v.newest ∷ v.below) same

  -- ---- returns

  pub returned_so : (kind : Returned) (marks : List E) (f g : Framed E) (way : Leaving) (values below : List (Value ℕ))
      → HasTaken kind f.newest.operands (Some (took values below)) → Leaves values marks f way g → Returns kind marks f way g
  unfolding doing applied acted
  returned_so kind marks f g way values below has l r p plan s is =
      rw (has (world p) s.store, leb-zero s.store.left, ← unpaid s.store) (l r p plan s is)

  pub stuck_so : (kind : Returned) (marks : List E) (f g : Framed E) → HasTaken kind f.newest.operands None → Returns kind marks f ways.Stuck g
  unfolding doing
  stuck_so kind marks f g has r p plan s is = rw (has (world p) s.store) refl

  pub nothing_returned : (marks : List E) (f g : Framed E) (way : Leaving) → Leaves [] marks f way g → Returns returned_kinds.Nothing marks f way g
  nothing_returned marks f g way = returned_so returned_kinds.Nothing marks f g way [] f.newest.operands (nothing_taken f.newest.operands)

  pub number_returned : (marks : List E) (f g : Framed E) (way : Leaving) (k : Kind) (v : Value ℕ) → IsNumber k → Some v ≡ slice_get f.newest.operands 0
      → is_of k v ≡ true
      → Leaves (v ∷ []) marks f way g → (kind : Returned) → returned kind ≡ many.One k → Returns kind marks f way g
  number_returned marks f g way k v number there h l kind one =
      returned_so kind marks f g way (v ∷ []) (drop 1 f.newest.operands) (kind_taken kind k one number f.newest.operands v there h) l

  pub number_short : (marks : List E) (f g : Framed E) (k : Kind) → IsNumber k → length f.newest.operands < 1 → (kind : Returned) → returned kind ≡ many.One k
      → Returns kind marks f ways.Stuck g
  number_short marks f g k number few kind one = stuck_so kind marks f g (none_taken kind k one number f.newest.operands few)

  pub number_other : (marks : List E) (f g : Framed E) (k : Kind) (v : Value ℕ) → IsNumber k → Some v ≡ slice_get f.newest.operands 0 → is_of k v ≡ false
      → (kind : Returned) → returned kind ≡ many.One k → Returns kind marks f ways.Stuck g
  number_other marks f g k v number there h kind one = stuck_so kind marks f g (other_taken kind k one number f.newest.operands v there h)

  pub all_nothing : (marks : List E) (f g : Framed E) {F : Type 0} (way : Result Leaving F) → IfOk way (λ w. Leaves [] marks f w g)
      → IfOk way (λ w. Returns returned_kinds.Nothing marks f w g)
  all_nothing marks f g (Ok way) l = nothing_returned marks f g way l
  all_nothing marks f g (Err e) l = tt

  pub all_number : (marks : List E) (f g : Framed E) {F : Type 0} (way : Result Leaving F) (k : Kind) (v : Value ℕ) → IsNumber k
      → Some v ≡ slice_get f.newest.operands 0 → is_of k v ≡ true
      → IfOk way (λ w. Leaves (v ∷ []) marks f w g) → IfOk way (λ w. (kind : Returned) → returned kind ≡ many.One k → Returns kind marks f w g)
  all_number marks f g (Ok way) k v number there h l = number_returned marks f g way k v number there h l
  all_number marks f g (Err e) k v number there h l = tt

  -- ---- references

  pub reference_short : (h : Heaped) (counts : Counts) (marks : List E) (f g : Framed E) → length f.newest.operands < 1
      → ReturnsRef h counts marks f ways.Stuck g
  unfolding doing taken
  reference_short h counts marks f g few r p plan s shapes things constants is seen are = rw (none_there' f.newest.operands few) refl
    where
      none_there' : (operands : List (Value ℕ)) → length operands < 1 → operands ≡ []
      none_there' [] few = refl
      none_there' (v ∷ rest) few = absurd (omega (arith, few))

  module _ (law : SeesEach) (h : Heaped) (counts : Counts) (marks : List E) (f g : Framed E) (v : Value ℕ) (there : Some v ≡ slice_get f.newest.operands 0)
    where
      pub reference_other : ((things : Things) → AreCounted counts things → false ≡ is_reference things h v) → ReturnsRef h counts marks f ways.Stuck g
      unfolding doing taken
      reference_other other r p plan s shapes things constants is seen are =
          let serves_not : serves (world p) s.store (Of kinds.Ref) v ≡ false =
          ap (λ t. serves (world p) t (Of kinds.Ref) v) seen ∙ reference_serves law (world p) p shapes things constants h v ∙ sym (other things are) in
          rw (front_one f.newest.operands v there, serves_not) refl

      pub reference_returned : (way : Leaving) → ((things : Things) → AreCounted counts things → true ≡ is_reference things h v) → Leaves (v ∷ []) marks f way g
          → ReturnsRef h counts marks f way g
      unfolding doing taken applied acted
      reference_returned way reference l r p plan s shapes things constants is seen are =
          let serves_so : serves (world p) s.store (Of kinds.Ref) v ≡ true =
          ap (λ t. serves (world p) t (Of kinds.Ref) v) seen ∙ reference_serves law (world p) p shapes things constants h v ∙ sym (reference things are) in
          rw (front_one f.newest.operands v there, serves_so, leb-zero s.store.left, ← unpaid s.store) (l r p plan s is)

      pub all_references : {F : Type 0} (way : Result Leaving F) → ((things : Things) → AreCounted counts things → true ≡ is_reference things h v)
          → IfOk way (λ w. Leaves (v ∷ []) marks f w g)
          → IfOk way (λ w. ReturnsRef h counts marks f w g)
      all_references (Ok way) reference l = reference_returned way reference l
      all_references (Err e) reference l = tt
