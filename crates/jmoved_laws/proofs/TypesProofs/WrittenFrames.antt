-- Frames of a moved method that are written full: what they say is what the method carries of the old ones.
use Rattle.std.proofs.Common.{◌≡◌, ℕ, zero, suc, ◌+◌, ◌-◌, ◌≤◌, Bool, false, cond, List, [], ◌∷◌, ◌++◌, length, map, replicate, reverse, Option, Some, None, refl, sym, ap, ◌∙◌, arith}
use Rattle.std.specs.Prelude.{◌||◌, IfSome}
use Rattle.std.specs.List.{list_any}
use Rattle.std.proofs.lemmas.List.{length-append, map-append}
use Rattle.std.proofs.lemmas.List.Concat.{flat_map-append, flat_map-cons}
use Rattle.jparts.specs.declared.jmaps.types.FullFrame.{FullFrame}
use Rattle.jparts.specs.declared.jmaps.types.MapType.{MapType}
use Rattle.jparts.specs.declared.jmaps.types.MapType.TheVariants as items
use Rattle.jmove.specs.MovedFrames.{moved_frame, moved_type, widths}
use Rattle.jmove.specs.ProofNames.{unsaid, width}
use Rattle.jparts.specs.declared.jpool.entry.Entry.{Entry}
use Rattle.jresolution.specs.jprogram.ProgramClasses.{Program}
use Rattle.jtyping.specs.jrule.StackEffects.{is_uninit_this}
use Rattle.jtyping.proofs.JruleProofs.TypeSubstitution.{map_reversed}
use Rattle.jtypes.specs.declared.vtype.VType.{VType}
use Rattle.jtypes.specs.declared.vtype.VType.TheVariants.{Top, Int, Long, Null, UninitThis, Uninit, Object, Array, Ctx}
use Rattle.jtypes.specs.TypeFrames.{is_long, places, places_of}
use Rattle.jtyping.specs.jwelltyped.DeclaredFrames.{filled, frame_of, item}
use Rattle.jtyping.specs.jwelltyped.ProofNames.{or_top}
use Rattle.jresolution.specs.juses.InstructionMeanings.{class_at}
use Rattle.jmoved_laws.specs.types.FullFrameLaws.{in_full}
use Rattle.jmoved_laws.specs.types.RenamedPlaces.{renamed_type}
use Rattle.jmoved_laws.proofs.TypesProofs.MethodPrologue.{joined, places_same, tops_join, tops_length}
use Rattle.jmoved_laws.proofs.TypesProofs.CarriedFrames.{carried_written}
use Rattle.jmoved_laws.proofs.TypesProofs.NewSubstitution.{same_settled}
use Rattle.jmoved_laws.proofs.TypesProofs.InitializedTypes.{Settled, class_at_settled}

-- ---- items

-- no class is a long
abbrev pub ClassesAreShort : Program → List Entry → Type 0
ClassesAreShort q pool = (i : ℕ) → IfSome (class_at q pool i) (λ v. is_long v ≡ false)

module _ (q : Program) (pool : List Entry) (short : ClassesAreShort q pool) (to : ℕ → ℕ) where
  abbrev of : MapType → VType
  of = item q pool

  found_stays : (o : Option VType) → IfSome o Settled → renamed_type to (or_top o) ≡ or_top o
  found_stays None h = refl
  found_stays (Some v) h = same_settled to v h

  item_moved : (t : MapType) → item q pool (moved_type to t) ≡ renamed_type to (item q pool t)
  item_moved (items.Uninit o) = refl
  item_moved items.Top = refl
  item_moved items.Int = refl
  item_moved items.Long = refl
  item_moved items.Null = refl
  item_moved items.UninitThis = refl
  item_moved (items.Object i) = sym (found_stays (class_at q pool i) (class_at_settled q pool i))

  items_moved : (ts : List MapType) → map (item q pool) (map (moved_type to) ts) ≡ map (renamed_type to) (map (item q pool) ts)
  items_moved [] = refl
  items_moved (t ∷ ts) = ap (λ (v : VType). v ∷ map (item q pool) (map (moved_type to) ts)) (item_moved t)
      ∙ ap (λ (vs : List VType). renamed_type to (item q pool t) ∷ vs) (items_moved ts)

  found_short : (o : Option VType) → IfSome o (λ v. is_long v ≡ false) → is_long (or_top o) ≡ false
  found_short None h = refl
  found_short (Some v) h = h

  one_place : (v : VType) → is_long v ≡ false → length (places v) ≡ 1
  one_place v e = ap (λ (b : Bool). length (cond b (v ∷ Top ∷ []) (v ∷ []))) e

  width_is : (t : MapType) → length (places (item q pool t)) ≡ width t
  width_is items.Long = refl
  width_is (items.Uninit o) = refl
  width_is items.Top = refl
  width_is items.Int = refl
  width_is items.Null = refl
  width_is items.UninitThis = refl
  width_is (items.Object i) = one_place (or_top (class_at q pool i)) (found_short (class_at q pool i) (short i))

  pub widths_are : (ts : List MapType) → length (places_of (map (item q pool) ts)) ≡ widths ts
  widths_are [] = refl
  widths_are (t ∷ ts) =
      ap length (flat_map-cons places (item q pool t) (map (item q pool) ts)) ∙ length-append (places (item q pool t)) (places_of (map (item q pool) ts))
      ∙ ap (λ (n : ℕ). n + length (places_of (map (item q pool) ts))) (width_is t) ∙ ap (λ (n : ℕ). width t + n) (widths_are ts)

  tops_said : (n : ℕ) → map (item q pool) (replicate n items.Top) ≡ replicate n Top
  tops_said zero = refl
  tops_said (suc n) = ap (λ (vs : List VType). Top ∷ vs) (tops_said n)

  tops_placed : (n : ℕ) → places_of (replicate n Top) ≡ replicate n Top
  tops_placed zero = refl
  tops_placed (suc n) = flat_map-cons places Top (replicate n Top) ∙ ap (λ (vs : List VType). Top ∷ vs) (tops_placed n)

  tops_stay : (n : ℕ) → map (renamed_type to) (replicate n Top) ≡ replicate n Top
  tops_stay zero = refl
  tops_stay (suc n) = ap (λ (vs : List VType). Top ∷ vs) (tops_stay n)

  -- ---- flags

  this_stays : (v : VType) → is_uninit_this (renamed_type to v) ≡ is_uninit_this v
  this_stays (Uninit o) = refl
  this_stays Top = refl
  this_stays Int = refl
  this_stays Long = refl
  this_stays Null = refl
  this_stays UninitThis = refl
  this_stays (Object c) = refl
  this_stays (Array a) = refl
  this_stays Ctx = refl

  no_this : (n : ℕ) → list_any is_uninit_this (replicate n Top ++ Ctx ∷ []) ≡ false
  no_this zero = refl
  no_this (suc n) = no_this n

  flag_stays : (vs : List VType) (n : ℕ) → list_any is_uninit_this (map (renamed_type to) vs ++ (replicate n Top ++ Ctx ∷ [])) ≡ list_any is_uninit_this vs
  flag_stays [] n = no_this n
  flag_stays (v ∷ vs) n =
      ap (λ (b : Bool). b || list_any is_uninit_this (map (renamed_type to) vs ++ (replicate n Top ++ Ctx ∷ []))) (this_stays v)
      ∙ ap (λ (b : Bool). is_uninit_this v || b) (flag_stays vs n)

  -- ---- a frame

  module _ (local most context : ℕ) (le : most ≤ local) (named : item q pool (items.Object context) ≡ Ctx) where
    abbrev behind : ℕ → List VType
    behind n = replicate n Top ++ Ctx ∷ []

    values_are : (ls : List MapType) → map (item q pool) (map (moved_type to) ls ++ (unsaid local ls ++ items.Object context ∷ [])) ≡ map (renamed_type to)
        (map (item q pool) ls) ++ behind (local - widths ls)
    values_are ls =
        let n = local - widths ls in
        map-append (item q pool) (map (moved_type to) ls) (replicate n items.Top ++ items.Object context ∷ [])
        ∙ ap (λ (vs : List VType). vs ++ map (item q pool) (replicate n items.Top ++ items.Object context ∷ [])) (items_moved ls)
        ∙ ap (λ (vs : List VType). map (renamed_type to) (map (item q pool) ls) ++ vs)
        (map-append (item q pool) (replicate n items.Top) (items.Object context ∷ [])
        ∙ ap (λ (vs : List VType). vs ++ map (item q pool) (items.Object context ∷ [])) (tops_said n) ∙ ap (λ (v : VType). replicate n Top ++ v ∷ []) named)

    none_left : (vs : List VType) (n : ℕ) → n ≡ 0 → vs ++ replicate n Top ≡ vs
    none_left [] n e = ap (λ (k : ℕ). replicate k Top) e
    none_left (v ∷ vs) n e = ap (λ (us : List VType). v ∷ us) (none_left vs n e)

    locals_are : (vs : List VType) → length (places_of vs) ≤ most → filled (local + 1) (places_of (map (renamed_type to) vs ++ behind (local - length (places_of vs))))
        ≡ map (renamed_type to) (filled most (places_of vs)) ++ (replicate (local - most) Top ++ Ctx ∷ [])
    locals_are vs few =
        let ws = places_of vs in
        let n = local - length ws in
        let front = places_of (map (renamed_type to) vs) in
        let same : map (renamed_type to) ws ≡ front = places_same to vs in
        let all : places_of (map (renamed_type to) vs ++ behind n) ≡ front ++ behind n =
        flat_map-append places (map (renamed_type to) vs) (behind n)
        ∙ ap (λ (us : List VType). front ++ us) (flat_map-append places (replicate n Top) (Ctx ∷ []) ∙ ap (λ (us : List VType). us ++ Ctx ∷ []) (tops_placed n)) in
        let long : length front ≡ length ws = ap length (sym same) ∙ map_length ws in
        let sum : length (front ++ behind n) ≡ length front + length (behind n) = length-append front (behind n) in
        let more : length (behind n) ≡ length (replicate n Top) + 1 = length-append (replicate n Top) (Ctx ∷ []) in
        let tops = tops_length n in
        let none : local + 1 - length (front ++ behind n) ≡ 0 = omega arith in
        let rest : most - length ws + (local - most) ≡ n = omega arith in
        ap (filled (local + 1)) all ∙ none_left (front ++ behind n) (local + 1 - length (front ++ behind n)) none
        ∙ ap (λ (k : ℕ). front ++ behind k) (sym rest)
        ∙ ap (λ (us : List VType). front ++ us) (sym (tops_join (most - length ws) (local - most) (Ctx ∷ [])))
        ∙ sym (joined front (replicate (most - length ws) Top) (behind (local - most)))
        ∙ ap (λ (us : List VType). (us ++ replicate (most - length ws) Top) ++ behind (local - most)) (sym same)
        ∙ ap (λ (us : List VType). (map (renamed_type to) ws ++ us) ++ behind (local - most)) (sym (tops_stay (most - length ws)))
        ∙ ap (λ (us : List VType). us ++ behind (local - most)) (sym (map-append (renamed_type to) ws (replicate (most - length ws) Top)))
      where
        map_length : (us : List VType) → length (map (renamed_type to) us) ≡ length us
        map_length [] = refl
        map_length (u ∷ us) = ap suc (map_length us)

    stack_is : (ts : List MapType) → reverse (map (item q pool) (map (moved_type to) ts)) ≡ map (renamed_type to) (reverse (map (item q pool) ts))
    stack_is ts = ap reverse (items_moved ts) ∙ sym (map_reversed (renamed_type to) (map (item q pool) ts))

    pub frame_is : (f : FullFrame) → widths f.locals ≤ most
        → in_full (item q pool) (local + 1) (moved_frame to local context f) ≡ carried_written to (replicate (local - most) Top ++ Ctx ∷ []) (in_full (item q pool) most f)
    frame_is f few =
        let vs = map (item q pool) f.locals in
        let wide = widths_are f.locals in
        let at = to f.at in
        let stack = reverse (map (item q pool) f.stack) in
        let values = map (renamed_type to) vs ++ behind (local - length (places_of vs)) in
        ap (λ (us : List VType). record { at = at; frame = Some (frame_of (local + 1) us (reverse (map (item q pool) (map (moved_type to) f.stack)))) }) (values_are f.locals
        ∙ ap (λ (n : ℕ). map (renamed_type to) vs ++ behind (local - n)) (sym wide))
        ∙ ap (λ (us : List VType). record { at = at; frame = Some (frame_of (local + 1) values us) }) (stack_is f.stack)
        ∙ ap (λ (us : List VType). record { at = at; frame = Some (record { locals = us; stack = map (renamed_type to) stack; flag = list_any is_uninit_this values }) })
        (locals_are vs (omega (arith, few, wide)))
        ∙ ap (λ (b : Bool). record {
          at = at;
          frame = Some (record {
            locals = map (renamed_type to) (filled most (places_of vs)) ++ (replicate (local - most) Top ++ Ctx ∷ []);
            stack = map (renamed_type to) stack;
            flag = b;
          });
        })
        (flag_stays vs (local - length (places_of vs)))
