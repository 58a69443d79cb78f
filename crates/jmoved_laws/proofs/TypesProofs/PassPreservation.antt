-- The walk over a moved method finds no fault where that over the old one finds none.
use Rattle.std.proofs.Common.{◌≡◌, ℕ, Bool, true, false, cond, List, [], ◌∷◌, length, Option, Some, None, refl, sym, ap, ◌∙◌, arith}
use Rattle.std.specs.Prelude.{pos, option_and_then, slice_get}
use Rattle.std.specs.List.{list_all}
use Rattle.jparts.specs.declared.jcode.op.Op.{Op}
use Rattle.jparts.specs.declared.jcode.op.Placed.{Placed}
use Rattle.jparts.specs.jcode.InstructionForms.{form, goes_on}
use Rattle.jparts.specs.jcode.Instructions.{is_place, placed_at}
use Rattle.jtypes.specs.TypeFrames.{Frame}
use Rattle.jmove.specs.declared.method.Expand.{Expand}
use Rattle.jmove.specs.declared.method.Expand.TheVariants.{Same, Call, Check, Snapshot, Privileged, PrivilegedWith, PrivilegedLimited}
use Rattle.jmove.specs.AssemblyLines.{led, placed}
use Rattle.jmove.specs.MethodExpansion.{expansions}
use Rattle.jresolution.specs.jprogram.ProgramClasses.{tree}
use Rattle.jresolution.specs.juses.IndexedInstructions.{Instruction, instruction}
use Rattle.jtyping.specs.jrule.FormRules.{by_form}
use Rattle.jtyping.specs.jrule.InstructionContext.{Here}
use Rattle.jtyping.specs.jrule.TypingRule.{rule}
use Rattle.jtyping.proofs.JruleProofs.FormRules.{form_agrees}
use Rattle.jtyping.specs.jwelltyped.DeclaredFrames.{declared_at}
use Rattle.jtyping.specs.jwelltyped.MethodPremises.{here_of}
use Rattle.jtyping.specs.jwelltyped.WellTypedness.{Follows}
use Rattle.jtyping.specs.jwelltyped.VerifierTests.{begun, branches_fit, handlers_fit, leave, lets_in, onward, or_at, step, walk}
use Rattle.jtyping.proofs.JwelltypedProofs.InstructionTests.{lets_in_by, sent}
use Rattle.jmoved_laws.proofs.CodeProofs.ExpansionMeanings.{Means}
use Rattle.jmoved_laws.proofs.TypesProofs.ExpansionEffect.{is_plain, plain_goes}
use Rattle.jmoved_laws.proofs.TypesProofs.SuccessorFrames.{declared_new, lets_on}
use Rattle.jmoved_laws.proofs.TypesProofs.StackBounds.{HasRoom}
use Rattle.jmoved_laws.proofs.TypesProofs.InstructionPreservation.{Finer, IsMoving, Moving, carry, new, news, ops, to, ws, y}

-- ---- one instruction of the walk

module _ (m : Moving) where
  abbrev pub here : ℕ → Here
  here at = here_of m.q (y m) at

  -- the instruction of a moved method that stands at a place, and counted its branches from an old one
  abbrev pub now : ℕ → ℕ → Op → Placed
  now from at o = placed_at at (led (to m) from at o)

  abbrev pub Walks : List Placed → Option Frame → Type 0
  Walks os arriving = walk m.q (y m) (news m) os arriving ≡ None

  pub walk_on : (o : Placed) (rest : List Placed) (arr next : Option Frame) (a d : Frame) → begun (declared_at (news m) (pos o.at)) arr ≡ Some a
      → handlers_fit m.q (y m) (news m) o.at a ≡ true
      → by_form m.q (here o.at) m.pool (form o.op) a ≡ Some d → branches_fit m.q (news m) o d ≡ true → onward m.q (news m) d (goes_on (form o.op)) rest ≡ Some next
      → Walks rest next → Walks (o ∷ rest) arr
  unfolding walk step
  walk_on o rest arr next a d b h g led on later =
      let stepped : step m.q (y m) (news m) o rest a ≡ Some next =
      ap (λ (v : Bool). cond v (option_and_then (leave m.q (news m) o rest) (by_form m.q (here o.at) m.pool (form o.op) a)) None) h
      ∙ ap (option_and_then (leave m.q (news m) o rest)) g
      ∙ ap (λ (v : Bool). cond v (onward m.q (news m) d (goes_on (form o.op)) rest) None) led ∙ on in
      ap (or_at o.at (λ f. or_at o.at (walk m.q (y m) (news m) rest) (step m.q (y m) (news m) o rest f))) b
      ∙ ap (or_at o.at (walk m.q (y m) (news m) rest)) stepped ∙ later

  -- an instruction that leads on alone, to one at which no frame is declared
  pub lead_on : (from at : ℕ) (o : Op) (x : Instruction) (next : Placed) (rest : List Placed) (arr : Option Frame) (a d : Frame) → Means m.q m.pool (new m) (to m) from o x
      → is_plain x ≡ true
      → begun (declared_at (news m) (pos at)) arr ≡ Some a → handlers_fit m.q (y m) (news m) at a ≡ true → rule m.q (here at) x a ≡ Some d
      → declared_at (news m) (pos next.at) ≡ None → Walks (next ∷ rest) (Some d) → Walks (now from at o ∷ next ∷ rest) arr
  unfolding instruction
  lead_on from at o x next rest arr a d means plain b h g none later =
      let goes = plain_goes m.q m.pool (new m) at (form (led (to m) from at o)) x (means at) plain in
      let gives : by_form m.q (here at) m.pool (form (led (to m) from at o)) a ≡ Some d = sym
      (form_agrees m.q (here at) m.pool (new m) at (form (led (to m) from at o)) x a (means at)) ∙ g in
      let no_branch : branches_fit m.q (news m) (now from at o) d ≡ true = ap (list_all _) goes.0 in
      let on : onward m.q (news m) d (goes_on (form (led (to m) from at o))) (next ∷ rest) ≡ Some (Some d) =
      ap (λ (v : Bool). onward m.q (news m) d v (next ∷ rest)) goes.1
      ∙ ap (λ (f : Option Frame). cond (lets_in (tree m.q) d f) (Some (Some d)) None) none in
      walk_on (now from at o) (next ∷ rest) arr (Some d) a d b h gives no_branch on later

-- ---- where instructions go on

module _ (m : Moving) (k : IsMoving m) where
  abbrev pub Roomy : Frame → Type 0
  Roomy f = HasRoom m.x.body.max_locals m.x.body.max_stack f

  -- what arrives at an expansion, by what arrived at the old instruction
  abbrev pub Arrived : Option Frame → Option Frame → Type 0
  Arrived None None = Unit {0}
  Arrived (Some a) (Some f) = Finer m k a (carry m f) × Roomy f
  Arrived None (Some f) = ⊥
  Arrived (Some a) None = ⊥

  abbrev pub rest_of : ℕ → List Expand → List Placed → List Placed
  rest_of at ks is = placed (to m) at (expansions m.s ks is)

  -- the first instruction of an expansion stands where it begins
  pub first_stands : (at : ℕ) (e : Expand) (i : Placed) (ks : List Expand) (is : List Placed)
      → (o : Placed) × ((os : List Placed) × ((rest_of at (e ∷ ks) (i ∷ is) ≡ o ∷ os) × (o.at ≡ at)))
  first_stands at Same i ks is = (_, (_, (refl, refl)))
  first_stands at (Call n) i ks is = (_, (_, (refl, refl)))
  first_stands at (Check n) i ks is = (_, (_, (refl, refl)))
  first_stands at (Snapshot n) i ks is = (_, (_, (refl, refl)))
  first_stands at (Privileged n) i ks is = (_, (_, (refl, refl)))
  first_stands at (PrivilegedWith n) i ks is = (_, (_, (refl, refl)))
  first_stands at (PrivilegedLimited n) i ks is = (_, (_, (refl, refl)))

  -- the frame that is declared at an instruction, or one that arrives there
  pub lets_next : (g d : Frame) (i : Placed) → Finer m k d (carry m g) → is_place (ops m) (pos i.at) ≡ true → lets_in (tree m.p) g (declared_at (ws m) (pos i.at)) ≡ true
      → lets_in (tree m.q) d (declared_at (news m) (pos (to m i.at))) ≡ true
  lets_next g d i finer hit e = ap (lets_in (tree m.q) d) (declared_new m k i.at hit) ∙ lets_on m k g d (declared_at (ws m) (pos i.at)) finer e

  pub onward_next : (g d : Frame) (goes : Bool) (at : ℕ) (ks : List Expand) (is : List Placed) (fs : List Frame) → Finer m k d (carry m g) → length ks ≡ length is
      → ((i : Placed) → slice_get is 0 ≡ Some i → (at ≡ to m i.at) × (is_place (ops m) (pos i.at) ≡ true)) → Follows m.p (ws m) g goes (slice_get is 0) (slice_get fs 0)
      → onward m.q (news m) d goes (rest_of at ks is) ≡ Some (sent goes d)
  onward_next g d false at ks is fs finer each there follows = refl
  onward_next g d true at ks [] [] finer each there follows = absurd follows
  onward_next g d true at ks [] (f ∷ fs) finer each there follows = absurd follows
  onward_next g d true at ks (i ∷ is) [] finer each there follows = absurd follows
  onward_next g d true at [] (i ∷ is) (f ∷ fs) finer each there follows = absurd (omega (arith, each))
  onward_next g d true at (e ∷ ks) (i ∷ is) (f ∷ fs) finer each there follows =
      let first = first_stands at e i ks is in
      let here = there i refl in
      let lets : lets_in (tree m.q) d (declared_at (news m) (pos first.0.at)) ≡ true =
      ap (λ (n : ℕ). lets_in (tree m.q) d (declared_at (news m) (pos n))) (first.1.1.1 ∙ here.0)
      ∙ lets_next g d i finer here.1 (lets_in_by (tree m.p) (declared_at (ws m) (pos i.at)) g f follows) in
      ap (onward m.q (news m) d true) first.1.1.0 ∙ ap (λ (v : Bool). cond v (Some (Some d)) None) lets
