-- Frames that are written full are read as they were, and frames that can be said in full as they say it.
use Rattle.std.proofs.Common.{◌≡◌, ℕ, ◌+◌, true, false, List, [], ◌∷◌, map, reverse, Option, Some, None, Result, Ok, Err, refl, sym, ap, subst, ◌∙◌, arith}
use Rattle.std.specs.Prelude.{IsTrue, is_some, option_map, ok_or}
use Rattle.std.specs.List.{AllByRecursion}
use Rattle.std.proofs.lemmas.Bool.{ltb-true}
use Rattle.jground.specs.jbase.MemoryFailures.{◌>>=◌}
use Rattle.jground.specs.jformat.StatefulFormats.{fits_from}
use Rattle.jground.proofs.JformatProofs.ReadingSteps.{first_true, second_true}
use Rattle.jparts.specs.declared.jpool.entry.Entry.{Entry}
use Rattle.jparts.specs.declared.jmaps.types.FullFrame.{FullFrame}
use Rattle.jparts.specs.declared.jmaps.types.MapType.{MapType}
use Rattle.jparts.specs.declared.jmaps.types.RawFrame.{RawFrame}
use Rattle.jparts.specs.jmaps.ExpandedFrames.{can_follow, delta_behind, expand_from, full_forms, is_behind, locals_after, locals_before, place_after, place_behind, place_from, stands, with_locals}
use Rattle.jparts.proofs.JmapsProofs.FullLaws.{locals_map}
use Rattle.jtypes.specs.declared.vtype.VType.{VType}
use Rattle.jresolution.specs.jprogram.ProgramClasses.{Program}
use Rattle.jtyping.specs.jwelltyped.DeclaredFrames.{Written, continued, frame_of, item, written_from}
use Rattle.jmoved_laws.specs.types.FullFrameLaws.{AreReadBack, SaysFull, StandFor, in_full}

module _ (p : Program) (pool : List Entry) (most : ℕ) where
  abbrev each : List MapType → List VType
  each = map (item p pool)

  -- ---- full forms

  place_back : (earlier : Option ℕ) (at : ℕ) → IsTrue (is_behind earlier at) → place_from earlier (delta_behind earlier at) ≡ at
  place_back None at h = refl
  place_back (Some e) at h = let lt = ltb-true e at h in omega (arith, lt)

  read_back : (earlier : Option ℕ) (before : List VType) (fs : List FullFrame) → IsTrue (fits_from can_follow place_after earlier fs)
      → written_from p pool most earlier before (full_forms earlier fs) ≡ map (in_full (item p pool) most) fs
  unfolding written_from full_forms fits_from locals_after
  read_back earlier before [] h = refl
  read_back earlier before (f ∷ fs) h =
      let follows = first_true (can_follow earlier f) (fits_from can_follow place_after (Some f.at) fs) h in
      let standing = first_true (stands earlier f) _ follows in
      let place = place_back earlier f.at (first_true (is_behind earlier f.at) _ standing) in
      let frame = Some (frame_of most (each f.locals) (reverse (each f.stack))) in
      ap (λ (at : ℕ). record { at = at; frame = frame } ∷ written_from p pool most (Some at) (each f.locals) (full_forms (Some f.at) fs)) place
      ∙ ap (λ (ws : List Written). record { at = f.at; frame = frame } ∷ ws)
      (read_back (Some f.at) (each f.locals) fs (second_true (can_follow earlier f) (fits_from can_follow place_after (Some f.at) fs) h))

  -- ---- frames in full

  module _ (of : MapType → VType) (first : List MapType) where
    same_items : (ts : List MapType) → StandFor p pool of ts → each ts ≡ map of ts
    same_items [] h = refl
    same_items (t ∷ ts) h = ap (λ (x : VType). x ∷ each ts) h.0 ∙ ap (λ (xs : List VType). of t ∷ xs) (same_items ts h.1)

    abbrev there : List FullFrame → Result (List FullFrame) ℕ
    there fs = Ok fs

    ok_is : (x y : List FullFrame) → there x ≡ there y → x ≡ y
    ok_is x y e = cc

    abbrev Stand : List RawFrame → Type 0
    Stand rs = AllByRecursion (λ r. StandFor p pool of r.locals × StandFor p pool of r.stack) rs

    abbrev place : Option FullFrame → Option ℕ
    place e = option_map (λ x. x.at) e

    -- one frame
    module _ (i : ℕ) (e : Option FullFrame) (r : RawFrame) (rs : List RawFrame) (fs : List FullFrame) (k : StandFor p pool of r.locals × StandFor p pool of r.stack) where
      abbrev full : List MapType → FullFrame
      full locals = record { at = place_behind e r.delta; locals = locals; stack = r.stack }

      abbrev others : List VType → List Written
      others values = written_from p pool most (Some (place_behind e r.delta)) values rs

      abbrev Says : Type 0
      Says = continued most (place_behind e r.delta) (reverse (each r.stack)) others (locals_after r.form (each r.locals) (map of (locals_before first e))) ≡ map
          (in_full of most) fs

      abbrev Later : Type 0
      Later = (locals : List MapType) (ys : List FullFrame) → expand_from first (i + 1) (Some (full locals)) rs ≡ Ok ys → others (map of locals) ≡ map (in_full of most) ys

      same_locals : (locals : List MapType) → locals_after r.form r.locals (locals_before first e) ≡ Some locals
          → locals_after r.form (each r.locals) (map of (locals_before first e)) ≡ Some (map of locals)
      same_locals locals is =
          ap (λ (xs : List VType). locals_after r.form xs (map of (locals_before first e))) (same_items r.locals k.0)
          ∙ sym (locals_map of r.form r.locals (locals_before first e)) ∙ ap (option_map (map of)) is

      later : (locals : List MapType) → locals_after r.form r.locals (locals_before first e) ≡ Some locals → (x : Result (List FullFrame) ℕ)
          → expand_from first (i + 1) (Some (full locals)) rs ≡ x → (x >>= λ ys. Ok (full locals ∷ ys)) ≡ Ok fs → Later → Says
      later locals is (Err n) more h rest = absurd cc
      later locals is (Ok ys) more h rest =
          ap (continued most (place_behind e r.delta) (reverse (each r.stack)) others) (same_locals locals is)
          ∙ ap (λ (xs : List VType). record { at = place_behind e r.delta; frame = Some (frame_of most (map of locals) (reverse xs)) } ∷ others (map of locals))
          (same_items r.stack k.1)
          ∙ ap (λ (ws : List Written). in_full of most (full locals) ∷ ws) (rest locals ys more)
          ∙ ap (map (in_full of most)) (ok_is (full locals ∷ ys) fs h)

      found : (o : Option (List MapType)) → locals_after r.form r.locals (locals_before first e) ≡ o
          → (ok_or (with_locals e r o) i >>= λ f. expand_from first (i + 1) (Some f) rs >>= λ ys. Ok (f ∷ ys)) ≡ Ok fs → Later → Says
      found None is h rest = absurd cc
      found (Some locals) is h rest = later locals is (expand_from first (i + 1) (Some (full locals)) rs) refl h rest

    says_from : (i : ℕ) (e : Option FullFrame) (rs : List RawFrame) (fs : List FullFrame) → expand_from first i e rs ≡ Ok fs → Stand rs
        → written_from p pool most (place e) (map of (locals_before first e)) rs ≡ map (in_full of most) fs
    unfolding written_from expand_from
    says_from i e [] [] h k = refl
    says_from i e [] (f ∷ fs) h k = absurd cc
    says_from i e (r ∷ rs) fs h k =
        found i e r rs fs k.0 (locals_after r.form r.locals (locals_before first e)) refl h
        (λ locals ys more. says_from (i + 1) (Some (record { at = place_behind e r.delta; locals = locals; stack = r.stack })) rs ys more k.1)

    -- ---- frames that are there can be said in full

    abbrev pub AllThere : List Written → Type 0
    AllThere ws = AllByRecursion (λ w. is_some w.frame ≡ true) ws

    module _ (i : ℕ) (e : Option FullFrame) (r : RawFrame) (rs : List RawFrame) (k : StandFor p pool of r.locals × StandFor p pool of r.stack) where
      abbrev Told : (List MapType → Result (List FullFrame) ℕ) → Type 0
      Told next = (locals : List MapType) → AllThere (written_from p pool most (Some (place_behind e r.delta)) (map of locals) rs) → (ys : List FullFrame) × (next locals ≡ Ok ys)

      abbrev next : List MapType → Result (List FullFrame) ℕ
      next locals = expand_from first (i + 1) (Some (record { at = place_behind e r.delta; locals = locals; stack = r.stack })) rs

      abbrev now : Option (List MapType) → Result (List FullFrame) ℕ
      now o = ok_or (with_locals e r o) i >>= λ f. expand_from first (i + 1) (Some f) rs >>= λ ys. Ok (f ∷ ys)

      locals_alike : (o : Option (List MapType)) → locals_after r.form r.locals (locals_before first e) ≡ o
          → locals_after r.form (each r.locals) (map of (locals_before first e)) ≡ option_map (map of) o
      locals_alike o is =
          ap (λ (xs : List VType). locals_after r.form xs (map of (locals_before first e))) (same_items r.locals k.0)
          ∙ sym (locals_map of r.form r.locals (locals_before first e)) ∙ ap (option_map (map of)) is

      told : (o : Option (List MapType)) → AllThere (continued most (place_behind e r.delta) (reverse (each r.stack))
          (λ values. written_from p pool most (Some (place_behind e r.delta)) values rs) (option_map (map of) o))
          → Told next → (fs : List FullFrame) × (now o ≡ Ok fs)
      told None h rest = absurd (not_there h.0)
        where
          not_there : false ≡ true → ⊥
          not_there e = absurd cc
      told (Some locals) h rest =
          let ys = rest locals h.1 in
          let full : FullFrame = record { at = place_behind e r.delta; locals = locals; stack = r.stack } in
          (full ∷ ys.0, ap (λ (x : Result (List FullFrame) ℕ). x >>= λ zs. Ok (full ∷ zs)) ys.1)

      tells : AllThere (continued most (place_behind e r.delta) (reverse (each r.stack)) (λ values. written_from p pool most (Some (place_behind e r.delta)) values rs)
          (locals_after r.form (each r.locals) (map of (locals_before first e)))) → Told next
          → (fs : List FullFrame) × (now (locals_after r.form r.locals (locals_before first e)) ≡ Ok fs)
      tells h rest =
          let o = locals_after r.form r.locals (locals_before first e) in
          told o (subst (λ (z : Option (List VType)). AllThere (continued most (place_behind e r.delta) (reverse (each r.stack))
          (λ values. written_from p pool most (Some (place_behind e r.delta)) values rs) z)) (locals_alike o refl) h) rest

    full_from : (i : ℕ) (e : Option FullFrame) (rs : List RawFrame) → AllThere (written_from p pool most (place e) (map of (locals_before first e)) rs) → Stand rs
        → (fs : List FullFrame) × (expand_from first i e rs ≡ Ok fs)
    unfolding written_from expand_from
    full_from i e [] h k = ([], refl)
    full_from i e (r ∷ rs) h k =
        tells i e r rs k.0 h (λ locals there. full_from (i + 1) (Some (record { at = place_behind e r.delta; locals = locals; stack = r.stack })) rs there k.1)

    pub full_there : (rs : List RawFrame) → AllThere (written_from p pool most None (map of first) rs) → Stand rs → (fs : List FullFrame) × (expand_from first 0 None rs ≡ Ok fs)
    full_there rs h k = full_from 0 None rs h k

pub are_read_back : AreReadBack
are_read_back p pool most before fs h = read_back p pool most None before fs (first_true (fits_from can_follow place_after None fs) _ h)

pub says_full : SaysFull
says_full p pool of most first rs fs h k = says_from p pool most of first 0 None rs fs h k
