-- What arrives at an expansion, and what is at hand there: the context in its local, and room for three more operands.
use Rattle.std.proofs.Common.{◌≡◌, ℕ, zero, suc, ◌+◌, ◌-◌, ◌≤◌, true, List, [], ◌∷◌, length, map, reverse, Option, Some, None, nat_le, refl, sym, ap, subst, ◌∙◌, arith}
use Rattle.std.specs.Prelude.{ℤ, pos, option_map, replicate, slice_get}
use Rattle.std.proofs.lemmas.Bool.{leb-true}
use Rattle.std.proofs.lemmas.List.{length-append, length-map}
use Rattle.jparts.specs.declared.jpool.entry.Entry.{Entry}
use Rattle.jparts.specs.declared.jcode.op.Placed.{Placed}
use Rattle.jparts.specs.jcode.Instructions.{is_place}
use Rattle.jclass.specs.CodeFormat.{begins, frames_in}
use Rattle.jclass.specs.FileContents.{IsIn}
use Rattle.jparts.specs.declared.jmaps.types.RawFrame.{RawFrame}
use Rattle.jparts.specs.jmaps.ExpandedFrames.{locals_after, place_from}
use Rattle.jtypes.specs.declared.vtype.VType.{VType}
use Rattle.jtypes.specs.declared.vtype.VType.TheVariants.{Top, Ctx}
use Rattle.jtypes.specs.TypeFrames.{Frame, places_of, slots, within}
use Rattle.jresolution.specs.jprogram.ProgramClasses.{Program, tree}
use Rattle.jtyping.proofs.JruleProofs.RuleMonotonicity.{sharp_is}
use Rattle.jtyping.proofs.JruleProofs.OrderedPrograms.{precise_itself}
use Rattle.jtyping.proofs.JruleProofs.FramePrecision as sharper
use Rattle.jtyping.specs.jwelltyped.DeclaredFrames.{Written, continued, declared_at, filled, frame_of, has_room, holds, item, written, written_from}
use Rattle.jtyping.specs.jwelltyped.MethodPremises.{makes}
use Rattle.jtyping.specs.jwelltyped.VerifierTests.{begun}
use Rattle.jtyping.proofs.JwelltypedProofs.Tests.{both_of}
use Rattle.jmoved_laws.specs.types.RenamedPlaces.{renamed_type}
use Rattle.jmoved_laws.proofs.TypesProofs.SuccessorFrames.{declared_new, stands}
use Rattle.jmoved_laws.proofs.TypesProofs.NewSubstitution as renaming
use Rattle.jmoved_laws.proofs.TypesProofs.InstructionPreservation.{Finer, IsMoving, Moving, at_end, carry, context_there, news, ops, order, to, ws}
use Rattle.jmoved_laws.proofs.TypesProofs.PassPreservation.{Arrived, Roomy}

-- ---- declared frames are long enough

long_filled : (most : ℕ) (places : List VType) → most ≤ length (filled most places)
long_filled most places =
    let sum = length-append places (replicate (most - length places) Top) in
    let tops = length_replicate (most - length places) in
    omega (arith, sum, tops)
  where
    length_replicate : (n : ℕ) → length (replicate n Top) ≡ n
    length_replicate zero = refl
    length_replicate (suc n) = ap suc (length_replicate n)

long_from : (p : Program) (pool : List Entry) (most : ℕ) (earlier : Option ℕ) (before : List VType) (fs : List RawFrame) (j : ℕ) (w : Written) (d : Frame)
    → slice_get (written_from p pool most earlier before fs) j ≡ Some w → w.frame ≡ Some d → most ≤ length d.locals
unfolding written_from
long_from p pool most earlier before [] j w d e is = absurd cc
long_from p pool most earlier before (f ∷ fs) j w d e is =
    go (locals_after f.form (map (item p pool) f.locals) before) j e (λ values n. long_from p pool most (Some (place_from earlier f.delta)) values fs n w d)
  where
    stack : List VType
    stack = reverse (map (item p pool) f.stack)

    frame_is : (v : Written) (x : Frame) → Some v ≡ Some w → v.frame ≡ Some x → most ≤ length x.locals → most ≤ length d.locals
    frame_is v x same at le =
        let one : v ≡ w = cc in
        let two : Some x ≡ Some d = sym at ∙ ap (λ (z : Written). z.frame) one ∙ is in
        let three : x ≡ d = cc in
        subst (λ (z : Frame). most ≤ length z.locals) three le

    no_frame : (v : Written) → Some v ≡ Some w → v.frame ≡ None → ⊥
    no_frame v same at =
        let one : v ≡ w = cc in
        let two : None ≡ Some d = sym at ∙ ap (λ (z : Written). z.frame) one ∙ is in
        absurd cc

    go : (o : Option (List VType)) (n : ℕ)
        → slice_get (continued most (place_from earlier f.delta) (reverse (map (item p pool) f.stack))
        (λ values. written_from p pool most (Some (place_from earlier f.delta)) values fs) o) n ≡ Some w
        → ((values : List VType) (l : ℕ) → slice_get (written_from p pool most (Some (place_from earlier f.delta)) values fs) l ≡ Some w → w.frame ≡ Some d
        → most ≤ length d.locals)
        → most ≤ length d.locals
    go None zero h rest = absurd (no_frame _ h refl)
    go None (suc n) h rest = absurd cc
    go (Some values) zero h rest = frame_is _ (frame_of most values (reverse (map (item p pool) f.stack))) h refl (long_filled most (places_of values))
    go (Some values) (suc n) h rest = rest values n h is

-- ---- what arrives

module _ (m : Moving) (k : IsMoving m) where
  long_declared : (w : Written) (d : Frame) → IsIn w (ws m) → w.frame ≡ Some d → m.x.body.max_locals ≤ length d.locals
  unfolding written
  long_declared w d is frame = long_from m.p m.x.pool m.x.body.max_locals None m.x.params (frames_in m.x.body) is.0 w d is.1 frame

  has_room_of : (o : Option Frame) (d : Frame) → o ≡ Some d → holds m.x.body (makes m.p m.x) o ≡ true → has_room m.x.body d ≡ true
  has_room_of None d e h = absurd cc
  has_room_of (Some f) d e h =
      let same : f ≡ d = cc in
      subst (λ (z : Frame). has_room m.x.body z ≡ true) same (both_of (has_room m.x.body f) _ h).0

  -- a declared frame has room
  pub declared_roomy : (at : ℤ) (d : Frame) → declared_at (ws m) at ≡ Some d → Roomy m k d
  declared_roomy at d e =
      let s = stands (ws m) at d e in
      let good = both_of (begins (ops m) s.one.at) (holds m.x.body (makes m.p m.x) s.one.frame) (k.good s.one s.is_in) in
      let room = both_of (nat_le (length d.locals) m.x.body.max_locals) (within m.x.body.max_stack d.stack) (has_room_of s.one.frame d s.frame good.1) in
      let le = leb-true (length d.locals) m.x.body.max_locals room.0 in
      let ge = long_declared s.one d s.is_in s.frame in
      record { locals = omega arith; stack = leb-true (slots d.stack) m.x.body.max_stack room.1 }

  pub record Arrives (at : ℕ) (arr : Option Frame) (f : Frame) : Type 0 where
    pub frame : Frame
    pub begins : begun (declared_at (news m) (pos (to m at))) arr ≡ Some frame
    pub finer : Finer m k frame (carry m f)
    pub roomy : Roomy m k f

  by_declared : (at : ℕ) (d : Option Frame) → declared_at (news m) (pos (to m at)) ≡ option_map (carry m) d → ((f : Frame) → d ≡ Some f → Roomy m k f)
      → (arr new : Option Frame) (f : Frame) → begun d arr ≡ Some f → Arrived m k new arr → Arrives at new f
  by_declared at (Some d) is roomy arr new f e h =
      let same : d ≡ f = cc in
      subst (Arrives at new) same (record {
        frame = carry m d;
        begins = ap (λ (o : Option Frame). begun o new) is;
        finer = precise_itself m.p (carry m d) k.stands;
        roomy = roomy d refl;
      })
  by_declared at None is roomy None new f e h = absurd cc
  by_declared at None is roomy (Some g) None f e h = absurd h
  by_declared at None is roomy (Some g) (Some a) f e h =
      let same : g ≡ f = cc in
      subst (Arrives at (Some a)) same (record { frame = a; begins = ap (λ (o : Option Frame). begun o (Some a)) is; finer = h.0; roomy = h.1 })

  pub arrives : (i : Placed) → is_place (ops m) (pos i.at) ≡ true → (arr new : Option Frame) (f : Frame) → begun (declared_at (ws m) (pos i.at)) arr ≡ Some f
      → Arrived m k new arr → Arrives i.at new f
  arrives i hit arr new f e h =
      by_declared i.at (declared_at (ws m) (pos i.at)) (declared_new m k i.at hit) (λ d is. declared_roomy (pos i.at) d is) arr new f e h

  -- ---- what is at hand

  pub context_at : (f a : Frame) → Finer m k a (carry m f) → Roomy m k f → slice_get a.locals m.s.local ≡ Some Ctx
  context_at f a finer room =
      let t = tree m.p in
      let s = sharp_is t (order m k) a (carry m f) finer in
      let long : length (map (renamed_type (to m)) f.locals) ≡ m.x.body.max_locals = length-map f.locals (renamed_type (to m)) ∙ room.locals in
      let last = at_end (map (renamed_type (to m)) f.locals) m.x.body.max_locals (m.s.local - m.x.body.max_locals) Ctx long in
      let sum : m.x.body.max_locals + (m.s.local - m.x.body.max_locals) ≡ m.s.local = omega (arith, k.behind) in
      context_there t a.locals (carry m f).locals m.s.local s.locals (ap (slice_get (carry m f).locals) (sym sum) ∙ last)

  pub few_slots : (f a : Frame) → Finer m k a (carry m f) → Roomy m k f → slots a.stack ≤ m.x.body.max_stack
  few_slots f a finer room =
      let t = tree m.p in
      let s = sharp_is t (order m k) a (carry m f) finer in
      let same = sharper.slots_same t a.stack (carry m f).stack s.stack ∙ renaming.slots_same (to m) f.stack in
      let few = room.stack in
      omega arith
