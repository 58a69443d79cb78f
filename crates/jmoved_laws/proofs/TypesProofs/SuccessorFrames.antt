-- Where the frames of a moved method lead: handlers, branches and the next instruction serve where they served the old one.
use Rattle.std.proofs.Common.{◌≡◌, ℕ, zero, suc, Bool, true, false, cond, List, [], ◌∷◌, ◌++◌, map, replicate, Option, Some, None, refl, sym, ap, subst, ◌∙◌}
use Rattle.std.specs.Prelude.{◌==◌, ℤ, pos, ◌+ℤ◌, option_map, option_and_then, if◌then◌else◌}
use Rattle.std.specs.List.{find, list_all}
use Rattle.std.specs.Ordering.{int_eq}
use Rattle.std.proofs.lemmas.Bool.Decides.{Decides-int_eq}
use Rattle.jparts.specs.declared.jcode.names.ObjectOp.TheVariants.{ArrayLength, Throw}
use Rattle.jparts.specs.declared.jcode.op.Goto.TheVariants as gotos
use Rattle.jparts.specs.declared.jcode.op.NewOp.TheVariants as news_of
use Rattle.jparts.specs.declared.jcode.op.Handler.{Handler}
use Rattle.jparts.specs.declared.jcode.op.Op.{Op}
use Rattle.jparts.specs.declared.jcode.op.Op.TheVariants as op
use Rattle.jparts.specs.declared.jcode.op.Placed.{Placed}
use Rattle.jparts.specs.jcode.InstructionForms.{branches, form, goes_on}
use Rattle.jparts.specs.jcode.Instructions.{covers, is_place, placed_at}
use Rattle.jclass.specs.CodeFormat.{begins}
use Rattle.jclass.specs.FileContents.{IsIn}
use Rattle.jtypes.specs.declared.vtype.VType.{VType}
use Rattle.jtypes.specs.declared.vtype.VType.TheVariants.{Top, Ctx}
use Rattle.jtypes.specs.Assignability.{fits}
use Rattle.jtypes.specs.TypeFrames as frames
use Rattle.jtypes.specs.TypeFrames.{Frame, all_fit}
use Rattle.jtypes.specs.ClassTrees.{Tree}
use Rattle.jmove.specs.AssemblyLines.{led, with_branches}
use Rattle.jmove.specs.ProofNames.{distance}
use Rattle.jmove.specs.MethodExpansion.{moved_handler}
use Rattle.jrewriting.proofs.JmoveLawsProofs.BranchTargets.{each_branch, leads}
use Rattle.jrewriting.proofs.JmoveLawsProofs.HandlerRanges.{labelled}
use Rattle.jresolution.specs.jprogram.ProgramClasses.{tree}
use Rattle.jresolution.specs.juses.InstructionMeanings.{class_at}
use Rattle.jtyping.specs.jrule.StackOperands.{with_stack}
use Rattle.jtyping.specs.jrule.PreciseFrames.{item_precise}
use Rattle.jtyping.specs.jrule.PoolEffects.{throwable}
use Rattle.jtyping.proofs.JruleProofs.Conjunctions.{and_true}
use Rattle.jtyping.proofs.JruleProofs.RuleMonotonicity.{precise_is, sharp_is}
use Rattle.jtyping.proofs.JruleProofs.OrderedPrograms.{precise_fits}
use Rattle.jtyping.proofs.JruleProofs.PreciseTypes.{item_itself}
use Rattle.jtyping.proofs.JruleProofs.FramePrecision.{LocalsSharp, StackSharp}
use Rattle.jtyping.specs.jwelltyped.DeclaredFrames.{Written, declared_at}
use Rattle.jtyping.specs.jwelltyped.VerifierTests.{branches_fit, caught_fits, caught_type, frame_fits, handler_fits, handlers_fit, leads_in, lets_in}
use Rattle.jtyping.specs.jwelltyped.ProofNames.{branch_fits, handler_test}
use Rattle.jtyping.proofs.JwelltypedProofs.Tests.{all_in, both_of, where_holds}
use Rattle.jmoved_laws.specs.types.RenamedPlaces.{IsApart}
use Rattle.jmoved_laws.proofs.TypesProofs.PlaceInjectivity.{apart}
use Rattle.jmoved_laws.proofs.TypesProofs.CarriedFrames.{carried_fits, declared_there}
use Rattle.jmoved_laws.proofs.TypesProofs.NewSubstitution.{same_settled}
use Rattle.jmoved_laws.proofs.TypesProofs.InitializedTypes.{MaySettle, Settled, class_at_settled, some_by}
use Rattle.jmoved_laws.proofs.TypesProofs.InstructionPreservation.{Finer, IsMoving, Moving, begin, carry, more, news, ops, order, to, ws, y}

-- ---- branches

-- with other distances an instruction goes on as it did
pub goes_same : (f : ℤ → ℤ) (o : Op) → goes_on (form (with_branches f o)) ≡ goes_on (form o)
unfolding form goes_on
goes_same f op.Nop = refl
goes_same f op.AconstNull = refl
goes_same f (op.IntConst c) = refl
goes_same f (op.LongConst c) = refl
goes_same f (op.Ldc l) = refl
goes_same f (op.Ldc2 m) = refl
goes_same f (op.IntLocal l) = refl
goes_same f (op.LongLocal l) = refl
goes_same f (op.RefLocal l) = refl
goes_same f (op.ArrayLoad element) = refl
goes_same f (op.ArrayStore element) = refl
goes_same f (op.Stack s) = refl
goes_same f (op.Two t) = refl
goes_same f (op.Divide d) = refl
goes_same f (op.One t) = refl
goes_same f (op.Iinc m by) = refl
goes_same f (op.If test by) = refl
goes_same f (op.IfInt test by) = refl
goes_same f (op.IfRef test by) = refl
goes_same f (op.Goto (gotos.Narrow by)) = refl
goes_same f (op.Goto (gotos.Wide by)) = refl
goes_same f (op.Switch s) = refl
goes_same f (op.Return kind) = refl
goes_same f (op.Field o m) = refl
goes_same f (op.Call o m) = refl
goes_same f (op.CallInterface m slots) = refl
goes_same f (op.New (news_of.Object n)) = refl
goes_same f (op.New (news_of.Array element)) = refl
goes_same f (op.New (news_of.RefArray n)) = refl
goes_same f (op.Object ArrayLength) = refl
goes_same f (op.Object Throw) = refl
goes_same f (op.Cast o m) = refl
goes_same f (op.Wide w) = refl

-- ---- along lists

pub all_mapped : {A B : Type 0} (t : B → Bool) (g : A → B) (xs : List A) → ((x : A) → IsIn x xs → t (g x) ≡ true) → list_all t (map g xs) ≡ true
all_mapped t g [] h = refl
all_mapped t g (x ∷ xs) h = and_true (t (g x)) (list_all t (map g xs)) (h x (0, refl)) (all_mapped t g xs (λ z is. h z (suc is.0, is.1)))

-- a frame that is declared stands somewhere
pub record Stands (ws : List Written) (at : ℤ) (d : Frame) : Type 0 where
  pub one : Written
  pub is_in : IsIn one ws
  pub place : pos one.at ≡ at
  pub frame : one.frame ≡ Some d

pub stands : (ws : List Written) (at : ℤ) (d : Frame) → declared_at ws at ≡ Some d → Stands ws at d
stands [] at d e = absurd cc
stands (w ∷ ws) at d e = go (int_eq (pos w.at) at) refl e (stands ws at d)
  where
    go : (b : Bool) → int_eq (pos w.at) at ≡ b → option_and_then (λ (x : Written). x.frame) (cond b (Some w) (find (λ (x : Written). int_eq (pos x.at) at) ws)) ≡ Some d
        → (declared_at ws at ≡ Some d → Stands ws at d) → Stands (w ∷ ws) at d
    go true is h later = record { one = w; is_in = (0, refl); place = (Decides-int_eq (pos w.at) at).0 is; frame = h }
    go false is h later =
        let r = later h in
        record { one = r.one; is_in = (suc r.is_in.0, r.is_in.1); place = r.place; frame = r.frame }

pub led_there : (t : Tree) (f : Frame) (d : Option Frame) → leads_in t f d ≡ true → (g : Frame) × ((d ≡ Some g) × (frame_fits t f g ≡ true))
led_there t f None e = absurd cc
led_there t f (Some g) e = (g, (refl, e))

-- ---- in a moved method

module _ (m : Moving) (k : IsMoving m) where
  -- a declared frame stands at an instruction
  pub good_place : (w : Written) → IsIn w (ws m) → is_place (ops m) (pos w.at) ≡ true
  good_place w is = (both_of (begins (ops m) w.at) _ (k.good w is)).0

  pub apart_place : (o : ℕ) → is_place (ops m) (pos o) ≡ true → IsApart (to m) o
  apart_place o hit =
      let r = labelled m.ks (ops m) o k.each hit in
      subst (IsApart (to m)) r.place (apart (begin m) m.s m.ks (ops m) k.each k.fits r.number r.kind r.one r.nth)

  pub declared_new : (at : ℕ) → is_place (ops m) (pos at) ≡ true → declared_at (news m) (pos (to m at)) ≡ option_map (carry m) (declared_at (ws m) (pos at))
  declared_new at hit = declared_there (to m) (more m) (ws m) at (apart_place at hit)

  -- ---- what fits

  more_fit : (t : Tree) (n : ℕ) → all_fit (fits t) (replicate n Top ++ Ctx ∷ []) (replicate n Top ++ Ctx ∷ []) ≡ true
  unfolding all_fit
  more_fit t zero = refl
  more_fit t (suc n) = more_fit t n

  pub fits_on : (f d a : Frame) → Finer m k a (carry m f) → frame_fits (tree m.p) f d ≡ true → frame_fits (tree m.q) a (carry m d) ≡ true
  fits_on f d a finer e =
      let both = carried_fits (to m) (more m) (tree m.p) f d (more_fit (tree m.p) _) e in
      subst (λ (t : Tree). frame_fits t a (carry m d) ≡ true) (sym k.same_tree) (precise_fits m.p a (carry m f) (carry m d) k.stands finer both)

  pub lets_on : (g d : Frame) (o : Option Frame) → Finer m k d (carry m g) → lets_in (tree m.p) g o ≡ true → lets_in (tree m.q) d (option_map (carry m) o) ≡ true
  lets_on g d None finer e = refl
  lets_on g d (Some f) finer e = fits_on g f d finer e

  leads_on : (g d : Frame) (at there : ℤ) → Finer m k d (carry m g) → ((w : ℕ) → pos w ≡ at → there ≡ pos (to m w)) → leads_in (tree m.p) g (declared_at (ws m) at) ≡ true
      → leads_in (tree m.q) d (declared_at (news m) there) ≡ true
  leads_on g d at there finer to_there e =
      let r = led_there (tree m.p) g (declared_at (ws m) at) e in
      let s = stands (ws m) at r.0 r.1.0 in
      let old : declared_at (ws m) (pos s.one.at) ≡ Some r.0 = ap (declared_at (ws m)) s.place ∙ r.1.0 in
      let new : declared_at (news m) there ≡ Some (carry m r.0) =
      ap (declared_at (news m)) (to_there s.one.at s.place) ∙ declared_new s.one.at (good_place s.one s.is_in) ∙ ap (option_map (carry m)) old in
      ap (leads_in (tree m.q) d) new ∙ fits_on g r.0 d finer r.1.1

  -- ---- branches

  pub branches_on : (i : Placed) (at : ℕ) (g d : Frame) → Finer m k d (carry m g) → list_all (branch_fits m.p (ws m) i.at g) (branches (form i.op)) ≡ true
      → branches_fit m.q (news m) (placed_at at (led (to m) i.at at i.op)) d ≡ true
  branches_on i at g d finer e =
      ap (list_all (branch_fits m.q (news m) at d)) (each_branch (distance (to m) i.at at) i.op)
      ∙ all_mapped (branch_fits m.q (news m) at d) (distance (to m) i.at at) (branches (form i.op))
      (λ by is. leads_on g d (pos i.at +ℤ by) (pos at +ℤ distance (to m) i.at at by) finer (λ w e. leads (to m) i.at at w by (sym e))
      (all_in (branch_fits m.p (ws m) i.at g) (branches (form i.op)) by e is))

  -- ---- handlers

  nat_is : (a b : ℕ) → pos a ≡ pos b → a ≡ b
  nat_is a b e = cc

  caught_settled : (h : Handler) → MaySettle (caught_type m.p m.x h)
  caught_settled h = go (h.class == 0)
    where
      go : (b : Bool) → MaySettle (if b then Some throwable else class_at m.p m.x.pool h.class)
      go true = refl
      go false = class_at_settled m.p m.x.pool h.class

  caught_finer : (f a b : Frame) (c : VType) → Finer m k a (carry m f) → b.locals ≡ a.locals → b.flag ≡ a.flag → Settled c
      → Finer m k (with_stack b (c ∷ [])) (carry m (with_stack f (c ∷ [])))
  unfolding all_fit
  caught_finer f a b c finer locals flag settled =
      let t = tree m.p in
      let s = sharp_is t (order m k) a (carry m f) finer in
      let one : StackSharp t (c ∷ []) (c ∷ []) = and_true (item_precise t c c) true (item_itself t (order m k) c) refl in
      precise_is t (order m k) (with_stack b (c ∷ [])) (carry m (with_stack f (c ∷ []))) (record {
        locals = subst (λ (ls : List VType). LocalsSharp t ls (carry m f).locals) (sym locals) s.locals;
        stack = subst (λ (z : VType). StackSharp t (c ∷ []) (z ∷ [])) (sym (same_settled (to m) c settled)) one;
        flag = ap (λ (v : Bool). frames.implies v f.flag) flag ∙ s.flag;
      })

  handler_on : (f a b : Frame) (h : Handler) → Finer m k a (carry m f) → b.locals ≡ a.locals → b.flag ≡ a.flag → IsIn h m.x.body.handlers
      → handler_fits m.p m.x (ws m) f h ≡ true → handler_fits m.q (y m) (news m) b (moved_handler (to m) h) ≡ true
  handler_on f a b h finer locals flag is e =
      ap (caught_fits (tree m.q) b (declared_at (news m) (pos (to m h.at)))) (k.caught h is) ∙ go (caught_type m.p m.x h) refl e
    where
      go : (c : Option VType) → caught_type m.p m.x h ≡ c → caught_fits (tree m.p) f (declared_at (ws m) (pos h.at)) c ≡ true
          → caught_fits (tree m.q) b (declared_at (news m) (pos (to m h.at))) c ≡ true
      go None at fit = absurd cc
      go (Some c) at fit =
          let parts = both_of (fits (tree m.p) c throwable) (leads_in (tree m.p) (with_stack f (c ∷ [])) (declared_at (ws m) (pos h.at))) fit in
          let settled = some_by Settled (caught_type m.p m.x h) c (caught_settled h) at in
          and_true (fits (tree m.q) c throwable) (leads_in (tree m.q) (with_stack b (c ∷ [])) (declared_at (news m) (pos (to m h.at))))
          (ap (λ (t : Tree). fits t c throwable) k.same_tree ∙ parts.0)
          (leads_on (with_stack f (c ∷ [])) (with_stack b (c ∷ [])) (pos h.at) (pos (to m h.at)) (caught_finer f a b c finer locals flag settled)
          (λ w e. let same : w ≡ h.at = nat_is w h.at e in ap (λ (n : ℕ). pos (to m n)) (sym same)) parts.1)

  -- those that cover an instruction of an expansion, whose frame has the locals that the expansion begins with
  pub handlers_on : (i : Placed) (at : ℕ) (f a b : Frame) → Finer m k a (carry m f) → b.locals ≡ a.locals → b.flag ≡ a.flag
      → ((h : Handler) → IsIn h m.x.body.handlers → covers at (moved_handler (to m) h) ≡ covers i.at h)
      → ((h : Handler) → IsIn h m.x.body.handlers → covers i.at h ≡ true → handler_fits m.p m.x (ws m) f h ≡ true)
      → handlers_fit m.q (y m) (news m) at b ≡ true
  handlers_on i at f a b finer locals flag same old =
      all_mapped (handler_test m.q (y m) (news m) at b) (moved_handler (to m)) m.x.body.handlers
      (λ h is. where_holds (covers at (moved_handler (to m) h)) (handler_fits m.q (y m) (news m) b (moved_handler (to m) h))
      (λ c. handler_on f a b h finer locals flag is (old h is (sym (same h is) ∙ c))))
