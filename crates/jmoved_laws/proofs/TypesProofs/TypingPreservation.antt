-- A moved method is well typed where its old one is.
use Rattle.std.proofs.Common.{◌≡◌, ℕ, zero, suc, ◌+◌, ◌-◌, ◌≤◌, Bool, true, List, [], ◌∷◌, ◌++◌, length, map, replicate, Option, Some, None, nat_le, refl, sym, ap, subst, ◌∙◌, arith}
use Rattle.std.specs.Prelude.{pos, is_some, option_map, slice_get}
use Rattle.std.specs.List.{list_all}
use Rattle.std.proofs.lemmas.Bool.{le-leb, le-ltb, leb-true}
use Rattle.std.proofs.lemmas.List.{length-append, length-map}
use Rattle.std.proofs.lemmas.List.Concat.{flat_map-append}
use Rattle.std.proofs.lemmas.Option.{slice_get-map}
use Rattle.jground.specs.jbase.FirstFaults.{fault_if}
use Rattle.jparts.specs.jcode.Instructions.{is_place}
use Rattle.jclass.specs.CodeFormat.{begins}
use Rattle.jclass.specs.FileContents.{IsIn}
use Rattle.jtypes.specs.declared.vtype.VType.{VType}
use Rattle.jtypes.specs.declared.vtype.VType.TheVariants.{Top, Int, Long, Null, UninitThis, Uninit, Object, Array, Ctx}
use Rattle.jtypes.specs.TypeFrames.{Frame, places, places_of, slots, within}
use Rattle.jlinking.proofs.JlinkProofs.PresentValues.{map_is}
use Rattle.jmove.specs.MethodExpansion.{expansion}
use Rattle.jrewriting.specs.jmove_laws.InstructionNumbers.{index_of, standing}
use Rattle.jrewriting.proofs.JmoveLawsProofs.BranchTargets.{first_of}
use Rattle.jrewriting.proofs.JmoveLawsProofs.InstructionNumbers.{fetched}
use Rattle.jrewriting.proofs.JmoveLawsProofs.HandlerRanges.{labelled}
use Rattle.jresolution.specs.jprogram.ProgramClasses.{tree}
use Rattle.jtyping.proofs.JruleProofs.Conjunctions.{and_true}
use Rattle.jtyping.specs.jwelltyped.DeclaredFrames.{Written, first_frame, has_room, holds, is_good, is_there}
use Rattle.jtyping.specs.jwelltyped.MethodPremises.{makes}
use Rattle.jtyping.specs.jwelltyped.WellTypedness.{IsTypedWith}
use Rattle.jtyping.specs.jwelltyped.VerifierTests.{enters, entry_fault, fault_with, frames_fault, lets_in, method_fault, room_fault, walk}
use Rattle.jtyping.proofs.JwelltypedProofs.Tests.{both_of, in_none, none_if, none_unless, of_none}
use Rattle.jmoved_laws.specs.types.RenamedPlaces.{renamed_type}
use Rattle.jmoved_laws.proofs.TypesProofs.PlaceInjectivity.{stands_there}
use Rattle.jmoved_laws.proofs.TypesProofs.MethodPrologue.{begins_walk, below, none_before}
use Rattle.jmoved_laws.proofs.TypesProofs.CarriedFrames.{carried_written}
use Rattle.jmoved_laws.proofs.TypesProofs.SuccessorFrames.{good_place}
use Rattle.jmoved_laws.proofs.TypesProofs.NewSubstitution as renaming
use Rattle.jmoved_laws.proofs.TypesProofs.InstructionPreservation.{IsMoving, Moving, begin, body, carry, more, new, news, ops, to, ws, y}

in_map : {A B : Type 0} (f : A → B) (xs : List A) (z : B) → IsIn z (map f xs) → (x : A) × (IsIn x xs × (f x ≡ z))
in_map f xs z is =
    let r = map_is f (slice_get xs is.0) z (sym (slice_get-map f xs is.0) ∙ is.1) in
    (r.0, ((is.0, r.1), r.2))

module _ (m : Moving) (k : IsMoving m) where
  -- ---- where frames stand

  place_new : (o : ℕ) → is_place (ops m) (pos o) ≡ true → is_place (new m) (pos (to m o)) ≡ true
  place_new o hit =
      let r = labelled m.ks (ops m) o k.each hit in
      let one = first_of m.s r.kind r.one.op in
      let at = fetched (begin m) m.s m.ks (ops m) k.fits r.number 0 r.kind r.one one.0 r.nth one.1 in
      let x = standing (to m) r.one.at (to m r.one.at) (expansion m.s r.kind r.one.op) 0 one.0 in
      subst (λ (q : ℕ). is_place (new m) (pos (to m q)) ≡ true) r.place (stands_there (new m) (index_of (begin m) m.s m.ks (ops m) r.number + 0) x at)

  -- ---- what frames name

  old_there : VType → Bool
  old_there a = is_there (makes m.p m.x) a

  there_new : (a : VType) → is_there (makes m.p m.x) a ≡ true → is_there (makes m.q (y m)) (renamed_type (to m) a) ≡ true
  there_new (Uninit o) h = ap is_some (k.names.stays o) ∙ h
  there_new Top h = refl
  there_new Int h = refl
  there_new Long h = refl
  there_new Null h = refl
  there_new UninitThis h = refl
  there_new (Object c) h = refl
  there_new (Array a) h = refl
  there_new Ctx h = refl

  more_there : (n : ℕ) → list_all (is_there (makes m.q (y m))) (replicate n Top ++ Ctx ∷ []) ≡ true
  more_there zero = refl
  more_there (suc n) = more_there n

  all_there : (xs ys : List VType) → list_all (is_there (makes m.p m.x)) xs ≡ true → list_all (is_there (makes m.q (y m))) ys ≡ true
      → list_all (is_there (makes m.q (y m))) (map (renamed_type (to m)) xs ++ ys) ≡ true
  all_there [] ys h e = e
  all_there (x ∷ xs) ys h e =
      let parts = both_of (is_there (makes m.p m.x) x) (list_all (is_there (makes m.p m.x)) xs) h in
      and_true (is_there (makes m.q (y m)) (renamed_type (to m) x)) (list_all (is_there (makes m.q (y m))) (map (renamed_type (to m)) xs ++ ys)) (there_new x parts.0)
      (all_there xs ys parts.1 e)

  none_more : (xs : List VType) → xs ++ [] ≡ xs
  none_more [] = refl
  none_more (x ∷ xs) = ap (λ (zs : List VType). x ∷ zs) (none_more xs)

  more_length : (n : ℕ) → length (replicate n Top ++ Ctx ∷ []) ≡ n + 1
  more_length zero = refl
  more_length (suc n) = let e = more_length n in omega arith

  -- ---- frames are good

  holds_new : (o : Option Frame) → holds m.x.body (makes m.p m.x) o ≡ true → holds (body m) (makes m.q (y m)) (option_map (carry m) o) ≡ true
  holds_new None h = absurd cc
  holds_new (Some f) h =
      let parts = both_of (has_room m.x.body f) _ h in
      let room = both_of (nat_le (length f.locals) m.x.body.max_locals) (within m.x.body.max_stack f.stack) parts.0 in
      let names = both_of (list_all (is_there (makes m.p m.x)) f.locals) (list_all (is_there (makes m.p m.x)) f.stack) parts.1 in
      let few = leb-true (length f.locals) m.x.body.max_locals room.0 in
      let small = leb-true (slots f.stack) m.x.body.max_stack room.1 in
      let sum : length (carry m f).locals ≡ length (map (renamed_type (to m)) f.locals) + length (more m) = length-append (map (renamed_type (to m)) f.locals) (more m) in
      let same = length-map f.locals (renamed_type (to m)) in
      let extra = more_length (m.s.local - m.x.body.max_locals) in
      let stack = renaming.slots_same (to m) f.stack in
      and_true (has_room (body m) (carry m f)) _
      (and_true (nat_le (length (carry m f).locals) (body m).max_locals) (within (body m).max_stack (carry m f).stack)
      (le-leb (length (carry m f).locals) (m.s.local + 1) (omega (arith, k.behind)))
      (le-leb (slots (carry m f).stack) (m.x.body.max_stack + 3) (omega arith)))
      (and_true (list_all (is_there (makes m.q (y m))) (carry m f).locals) (list_all (is_there (makes m.q (y m))) (carry m f).stack)
      (all_there f.locals (more m) names.0 (more_there (m.s.local - m.x.body.max_locals)))
      (ap (list_all (is_there (makes m.q (y m)))) (sym (none_more (map (renamed_type (to m)) f.stack))) ∙ all_there f.stack [] names.1 refl))

  good_new : (w : Written) → IsIn w (ws m) → is_good m.q (y m) (carried_written (to m) (more m) w) ≡ true
  good_new w is =
      let old = both_of (begins (ops m) w.at) (holds m.x.body (makes m.p m.x) w.frame) (k.good w is) in
      and_true (begins (new m) (to m w.at)) (holds (body m) (makes m.q (y m)) (option_map (carry m) w.frame)) (place_new w.at (good_place m k w is)) (holds_new w.frame old.1)

  all_good : (w : Written) → IsIn w (news m) → is_good m.q (y m) w ≡ true
  all_good w is =
      let r = in_map (carried_written (to m) (more m)) (ws m) w is in
      subst (λ (z : Written). is_good m.q (y m) z ≡ true) r.1.1 (good_new r.0 r.1.0)

  -- ---- the method

  params_room : length (places_of (y m).params) ≤ (body m).max_locals
  params_room =
      let all : places_of (m.x.params ++ Ctx ∷ []) ≡ places_of m.x.params ++ Ctx ∷ [] = flat_map-append places m.x.params (Ctx ∷ []) in
      let long : length (places_of m.x.params ++ Ctx ∷ []) ≡ length (places_of m.x.params) + 1 = length-append (places_of m.x.params) (Ctx ∷ []) in
      let same = ap length all in
      let slots = k.slots_is in
      let less = k.behind_slots in
      omega arith

  with_news : IsTypedWith m.p m.x (ws m) → fault_with m.q (y m) (news m) ≡ None
  with_news t =
      let lets : enters m.q (news m) (first_frame (y m)) (new m) ≡ true = ap (lets_in (tree m.q) (first_frame (y m))) (none_before m k t.room 0 (below m k t.room).0) in
      of_none (frames_fault m.q (y m) (news m)) _
      (in_none (λ w. fault_if _ w.at) (news m) (λ w is. none_unless (is_good m.q (y m) w) w.at (all_good w is)))
      (of_none (room_fault (y m)) _
      (none_if _ 0 (le-ltb (body m).max_locals (length (places_of (y m).params)) params_room))
      (of_none (entry_fault m.q (y m) (news m)) (walk m.q (y m) (news m) (new m) (Some (first_frame (y m))))
      (none_unless (enters m.q (news m) (first_frame (y m)) (new m)) 0 lets)
      (begins_walk m k t.room t.frames t.are_frames)))

  pub moved_typed : IsTypedWith m.p m.x (ws m) → method_fault m.q (y m) ≡ None
  unfolding method_fault
  moved_typed t = ap (fault_with m.q (y m)) k.written_is ∙ with_news t
