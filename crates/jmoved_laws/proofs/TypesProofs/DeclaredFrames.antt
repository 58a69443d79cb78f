-- The frames that a moved method declares: those of the old one, as it carries them.
use Rattle.std.proofs.Common.{◌≡◌, ℕ, suc, ◌+◌, ◌-◌, ◌≤◌, Bool, true, List, [], ◌∷◌, ◌++◌, map, replicate, Option, Some, None, refl, sym, ap, subst, ◌∙◌}
use Rattle.std.specs.Prelude.{IsTrue, is_some}
use Rattle.std.specs.List.{AllByRecursion}
use Rattle.jground.specs.jbase.FirstFaults.{first_some}
use Rattle.jparts.specs.declared.jpool.entry.Entry.{Entry}
use Rattle.jclass.specs.declared.class.CodeAttribute.{CodeAttribute}
use Rattle.jclass.specs.declared.class.CodeAttribute.TheVariants.{Maps, Raw}
use Rattle.jclass.specs.FileContents.{IsIn}
use Rattle.jparts.specs.declared.jmaps.types.FullFrame.{FullFrame}
use Rattle.jparts.specs.declared.jmaps.types.MapType.{MapType}
use Rattle.jparts.specs.declared.jmaps.types.MapType.TheVariants as items
use Rattle.jparts.specs.declared.jmaps.types.RawFrame.{RawFrame}
use Rattle.jparts.specs.jmaps.ExpandedFrames.{can_write, expand_from, full_forms}
use Rattle.jtypes.specs.declared.vtype.VType.{VType}
use Rattle.jtypes.specs.declared.vtype.VType.TheVariants.{Top, Ctx}
use Rattle.jmove.specs.MovedFrames.{moved_frame, widths}
use Rattle.jmoveclass.specs.MovedMembers.{frames_of, maps_name, moved_maps}
use Rattle.jmoveclass.specs.ProofNames.{or_no_frames, or_none}
use Rattle.jresolution.specs.jprogram.ProgramClasses.{Program}
use Rattle.jtyping.specs.jwelltyped.ProofNames
use Rattle.jtyping.specs.jwelltyped.DeclaredFrames.{Written, holds, is_good, item, written, written_from}
use Rattle.jtyping.specs.jwelltyped.MethodPremises.{Method, makes}
use Rattle.jtyping.proofs.JwelltypedProofs.Tests.{both_of}
use Rattle.jclass.specs.CodeFormat.{begins, maps_of, frames_in}
use Rattle.jmoved_laws.specs.types.FullFrameLaws.{StandFor, in_full}
use Rattle.jmoved_laws.proofs.TypesProofs.CarriedFrames.{carried_written}
use Rattle.jmoved_laws.proofs.TypesProofs.WrittenFrames.{frame_is}
use Rattle.jmoved_laws.proofs.TypesProofs.FrameItems.{classes_short}
use Rattle.jmoved_laws.proofs.TypesProofs.FrameRoundTrip.{are_read_back, full_there, says_full}

-- ---- where frames are stored

no_name : (xs : List CodeAttribute) → first_some maps_name xs ≡ None → or_no_frames (first_some maps_of xs) ≡ []
unfolding first_some
no_name [] h = refl
no_name (Maps name fs ∷ xs) h = absurd cc
no_name (Raw name bytes ∷ xs) h = no_name xs h

-- a moved code has its frames as they were written
frames_new : (gs : List FullFrame) (o : Option ℕ) → (o ≡ None → gs ≡ []) → ProofNames.or_none (first_some maps_of (moved_maps gs o)) ≡ full_forms None gs
unfolding first_some full_forms
frames_new [] o h = refl
frames_new (g ∷ gs) (Some name) h = refl
frames_new (g ∷ gs) None h = absurd (let no_more = h refl in cc)

-- ---- of a method

module _ (p q : Program) (m n : Method) (pool : List Entry) (to : ℕ → ℕ) (local context : ℕ) (first : List MapType) where
  abbrev of : MapType → VType
  of = item q pool

  abbrev most : ℕ
  most = m.body.max_locals

  abbrev more : List VType
  more = replicate (local - most) Top ++ Ctx ∷ []

  -- what is known of both
  pub record AreWritten : Type 0 where
    pub pool_is : n.pool ≡ pool
    pub most_is : n.body.max_locals ≡ local + 1
    pub attributes : n.body.attributes ≡ moved_maps (map (moved_frame to local context) (frames_of first m.body)) (first_some maps_name m.body.attributes)
    pub good : (w : Written) → IsIn w (written p m) → is_good p m w ≡ true
    -- where there are frames, the first items stand for what the method begins with, and the last for the context
    pub begins : (f : RawFrame) (fs : List RawFrame) → frames_in m.body ≡ f ∷ fs → map (item q pool) first ≡ m.params
    pub named : (f : FullFrame) (fs : List FullFrame) → frames_of first m.body ≡ f ∷ fs → item q pool (items.Object context) ≡ Ctx
    pub stand : AllByRecursion (λ r. StandFor p m.pool (item q pool) r.locals × StandFor p m.pool (item q pool) r.stack) (frames_in m.body)
    pub behind : most ≤ local
    pub wide : AllByRecursion (λ f. widths f.locals ≤ most) (frames_of first m.body)
    pub writes : IsTrue (can_write (map (moved_frame to local context) (frames_of first m.body)))

  module _ (k : AreWritten) where
    -- ---- the frames in full

    there_of : (o : Option _) (b : Bool) → holds m.body (makes p m) o ≡ true → is_some o ≡ true
    there_of None b h = absurd cc
    there_of (Some f) b h = refl

    all_there : (ws : List Written) → ((w : Written) → IsIn w ws → is_good p m w ≡ true) → AllByRecursion (λ w. is_some w.frame ≡ true) ws
    all_there [] h = tt
    all_there (w ∷ ws) h = (
      there_of w.frame true (both_of (begins m.body.ops w.at) (holds m.body (makes p m) w.frame) (h w (0, refl))).1,
      all_there ws
          (λ z is. h z (suc is.0, is.1)),
    )

    abbrev full : List FullFrame
    full = frames_of first m.body

    empty_full : frames_in m.body ≡ [] → full ≡ []
    unfolding frames_of expand_from
    empty_full e = ap (λ (rs : List RawFrame). or_none (expand_from first 0 None rs)) e

    -- what the old method declares
    old_is : (rs : List RawFrame) → frames_in m.body ≡ rs → written p m ≡ map (in_full (item q pool) most) full
    unfolding written written_from frames_of
    old_is [] e = ap (written_from p m.pool most None m.params) e ∙ sym (ap (map (in_full (item q pool) most)) (empty_full e))
    old_is (f ∷ fs) e =
        let same = k.begins f fs e in
        let rs = frames_in m.body in
        let there : AllByRecursion (λ w. is_some w.frame ≡ true) (written_from p m.pool most None (map (item q pool) first) rs) =
        subst (λ (vs : List VType). AllByRecursion (λ w. is_some w.frame ≡ true) (written_from p m.pool most None vs rs)) (sym same) (all_there (written p m) k.good) in
        let found = full_there p m.pool most (item q pool) first rs there k.stand in
        ap (λ (vs : List VType). written_from p m.pool most None vs rs) (sym same)
        ∙ says_full p m.pool (item q pool) most first rs found.0 found.1 k.stand
        ∙ ap (map (in_full (item q pool) most)) (sym (ap or_none found.1))

    -- ---- what the moved one declares

    no_frames : first_some maps_name m.body.attributes ≡ None → map (moved_frame to local context) full ≡ []
    no_frames e = ap (map (moved_frame to local context)) (empty_full (no_name m.body.attributes e))

    new_frames : frames_in n.body ≡ full_forms None (map (moved_frame to local context) full)
    new_frames =
        ap (λ (xs : List CodeAttribute). ProofNames.or_none (first_some maps_of xs)) k.attributes
        ∙ frames_new (map (moved_frame to local context) full) (first_some maps_name m.body.attributes) no_frames

    each_is : item q pool (items.Object context) ≡ Ctx → (fs : List FullFrame) → AllByRecursion (λ f. widths f.locals ≤ most) fs
        → map (in_full (item q pool) (local + 1)) (map (moved_frame to local context) fs) ≡ map (carried_written to more) (map (in_full (item q pool) most) fs)
    each_is named [] h = refl
    each_is named (f ∷ fs) h =
        ap (λ (w : Written). w ∷ map (in_full (item q pool) (local + 1)) (map (moved_frame to local context) fs))
        (frame_is q pool (classes_short q pool) to local most context k.behind named f h.0)
        ∙ ap (λ (ws : List Written). carried_written to more (in_full (item q pool) most f) ∷ ws) (each_is named fs h.1)

    all_are : (fs : List FullFrame) → full ≡ fs → map (in_full (item q pool) (local + 1)) (map (moved_frame to local context) full) ≡ map (carried_written to more)
        (map (in_full (item q pool) most) full)
    all_are [] e = ap (λ (gs : List FullFrame). map (in_full (item q pool) (local + 1)) (map (moved_frame to local context) gs)) e
        ∙ sym (ap (λ (gs : List FullFrame). map (carried_written to more) (map (in_full (item q pool) most) gs)) e)
    all_are (f ∷ fs) e = each_is (k.named f fs e) full k.wide

    pub written_new : written q n ≡ map (carried_written to more) (written p m)
    unfolding written
    written_new =
        ap (λ (es : List Entry). written_from q es n.body.max_locals None n.params (frames_in n.body)) k.pool_is
        ∙ ap (λ (l : ℕ). written_from q pool l None n.params (frames_in n.body)) k.most_is
        ∙ ap (written_from q pool (local + 1) None n.params) new_frames
        ∙ are_read_back q pool (local + 1) n.params (map (moved_frame to local context) full) k.writes
        ∙ all_are full refl
        ∙ sym (ap (map (carried_written to more)) (old_is (frames_in m.body) refl))
