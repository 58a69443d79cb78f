-- A method breaks the same limit whatever the indices of the classes that its beginning names.
use Rattle.std.proofs.Common.{◌≡◌, ℕ, ◌+◌, Bool, true, false, List, [], ◌∷◌, ◌++◌, map, Option, Some, None, Result, Ok, Err, refl, ap, sym, ◌∙◌}
use Rattle.std.specs.Prelude.{option_map, if◌then◌else◌, ◌==◌, ok_or}
use Rattle.std.specs.Str.{byte}
use Rattle.std.proofs.lemmas.List.{map-append}
use Rattle.jground.specs.jbase.MemoryFailures.{◌>>=◌}
use Rattle.jparts.specs.declared.jpool.descriptor.FieldType.{FieldType}
use Rattle.jparts.specs.declared.jpool.entry.Entry.{Entry}
use Rattle.jparts.specs.declared.jmaps.types.FullFrame.{FullFrame}
use Rattle.jparts.specs.declared.jmaps.types.MapType.{MapType}
use Rattle.jparts.specs.declared.jmaps.types.MapType.TheVariants as items
use Rattle.jparts.specs.declared.jmaps.types.RawFrame.{RawFrame}
use Rattle.jparts.specs.jmaps.ExpandedFrames.{expand_from, locals_after, locals_before, place_behind, with_locals}
use Rattle.jparts.proofs.JmapsProofs.FullLaws.{locals_map}
use Rattle.jclass.specs.declared.class.ClassParts.{ClassParts}
use Rattle.jclass.specs.declared.class.CodeBody.{CodeBody}
use Rattle.jclass.specs.declared.class.MemberInfo.{MemberInfo}
use Rattle.jmove.specs.declared.method.Expand.{Expand}
use Rattle.jmove.specs.PoolAdditions.{giving, with_class, ◌>>◌}
use Rattle.jmove.specs.MethodLimits.{Alike, bare_frame, bare_type}
use Rattle.jresolution.specs.jprogram.ClassFileParts.{is_static, this_name}
use Rattle.jmoveclass.specs.EntryLocals.{bare_beginning, bare_this, class_name, is_reference, item, params_of, this_item, with_beginning, with_item, with_this}
use Rattle.jresolution.specs.jprogram.MemberResolution.{is_init}
use Rattle.jmoveclass.specs.MovedMembers.{frames_of, method_in, with_first}
use Rattle.jmoveclass.specs.ProofNames.{or_none}
use Rattle.jmoveclass.specs.PoolPuts.{with_each}
use Rattle.jclass.specs.CodeFormat.{frames_in}

-- ---- items

bare_ref : (b : Bool) (i : ℕ) (t : MapType) → bare_type (if b then items.Object i else t) ≡ bare_type (if b then items.Object 0 else t)
bare_ref true i t = refl
bare_ref false i t = refl

bare_this_item : (b : Bool) (i : ℕ) → bare_type (this_item b i) ≡ bare_type (this_item b 0)
bare_this_item true i = refl
bare_this_item false i = refl

pub bare_item : (i : ℕ) (t : FieldType) → bare_type (item i t) ≡ bare_type (item 0 t)
bare_item i t = bare_ref (is_reference t) i (if t.base == byte "J" then items.Long else items.Int)

if_item : (b : Bool) (t : FieldType) (pool : List Entry) → map bare_type ((if b then (with_class (class_name t) >> λ i. giving (item i t ∷ [])) else giving (item 0 t ∷ [])) pool).0 ≡ bare_type (item 0 t) ∷ []
unfolding ◌>>◌
if_item true t pool = ap (λ (x : MapType). x ∷ []) (bare_item (with_class (class_name t) pool).0 t)
if_item false t pool = refl

item_bare : (t : FieldType) (pool : List Entry) → map bare_type (with_item t pool).0 ≡ bare_type (item 0 t) ∷ []
item_bare t pool = if_item (is_reference t) t pool

each_bare : (ts : List FieldType) (pool : List Entry) → map bare_type (with_each with_item ts pool).0 ≡ map bare_type (map (item 0) ts)
unfolding with_each ◌>>◌
each_bare [] pool = refl
each_bare (t ∷ ts) pool =
    let x = with_item t pool in
    map-append bare_type x.0 (with_each with_item ts x.1).0 ∙ ap (λ (l : List MapType). l ++ map bare_type (with_each with_item ts x.1).0) (item_bare t pool) ∙ ap (λ (l : List MapType). bare_type (item 0 t) ∷ l) (each_bare ts x.1)

if_this : (b : Bool) (c : ClassParts) (m : MemberInfo) (pool : List Entry)
    → map bare_type ((if b then giving [] else with_class (this_name c) >> λ i. giving (this_item (is_init c m) i ∷ [])) pool).0 ≡ map bare_type (if b then [] else this_item (is_init c m) 0 ∷ [])
unfolding ◌>>◌
if_this true c m pool = refl
if_this false c m pool = ap (λ (x : MapType). x ∷ []) (bare_this_item (is_init c m) (with_class (this_name c) pool).0)

pub beginning_bare : (c : ClassParts) (m : MemberInfo) (pool : List Entry) → map bare_type (with_beginning c m pool).0 ≡ map bare_type (bare_beginning c m)
unfolding with_beginning bare_beginning ◌>>◌
beginning_bare c m pool =
    let x = with_this c m pool in
    map-append bare_type x.0 (with_each with_item (params_of c m) x.1).0
    ∙ ap (λ (l : List MapType). l ++ map bare_type (with_each with_item (params_of c m) x.1).0) (if_this (is_static m.flags) c m pool)
    ∙ ap (λ (l : List MapType). map bare_type (bare_this c m) ++ l) (each_bare (params_of c m) x.1)
    ∙ sym (map-append bare_type (bare_this c m) (map (item 0) (params_of c m)))

-- ---- frames

-- what is known of two expansions
abbrev same_frames : List FullFrame → List FullFrame → Type 0
same_frames fs gs = map bare_frame fs ≡ map bare_frame gs

-- both end so, or neither does
abbrev SameEnd : Result (List FullFrame) ℕ → Result (List FullFrame) ℕ → Type 0
SameEnd (Ok fs) (Ok gs) = map bare_frame fs ≡ map bare_frame gs
SameEnd (Err i) (Err j) = Unit {0}
SameEnd _ _ = ⊥

end_none : (r s : Result (List FullFrame) ℕ) → SameEnd r s → map bare_frame (or_none r) ≡ map bare_frame (or_none s)
end_none (Ok fs) (Ok gs) h = h
end_none (Ok fs) (Err j) h = absurd h
end_none (Err i) (Ok gs) h = absurd h
end_none (Err i) (Err j) h = refl

end_more : (f g : FullFrame) (r s : Result (List FullFrame) ℕ) → bare_frame f ≡ bare_frame g → SameEnd r s → SameEnd (r >>= λ fs. Ok (f ∷ fs)) (s >>= λ gs. Ok (g ∷ gs))
end_more f g (Ok fs) (Ok gs) e h = ap (λ (x : FullFrame). x ∷ map bare_frame fs) e ∙ ap (λ (l : List FullFrame). bare_frame g ∷ l) h
end_more f g (Ok fs) (Err j) e h = absurd h
end_more f g (Err i) (Ok gs) e h = absurd h
end_more f g (Err i) (Err j) e h = tt

before_bare : (first second : List MapType) (e d : Option FullFrame) → map bare_type first ≡ map bare_type second → option_map bare_frame e ≡ option_map bare_frame d → map bare_type (locals_before first e) ≡ map bare_type (locals_before second d)
before_bare first second None None h k = h
before_bare first second None (Some d) h k = absurd cc
before_bare first second (Some e) None h k = absurd cc
before_bare first second (Some e) (Some d) h k = let same : bare_frame e ≡ bare_frame d = cc in ap (λ (f : FullFrame). f.locals) same

place_bare : (e d : Option FullFrame) (delta : ℕ) → option_map bare_frame e ≡ option_map bare_frame d → place_behind e delta ≡ place_behind d delta
place_bare None None delta k = refl
place_bare None (Some d) delta k = absurd cc
place_bare (Some e) None delta k = absurd cc
place_bare (Some e) (Some d) delta k = let same : bare_frame e ≡ bare_frame d = cc in ap (λ (f : FullFrame). f.at + delta + 1) same

frame_bare : (at again : ℕ) (locals others stack : List MapType) → at ≡ again → map bare_type locals ≡ map bare_type others → bare_frame (record { at = at; locals = locals; stack = stack }) ≡ bare_frame (record { at = again; locals = others; stack = stack })
frame_bare at again locals others stack e h = rw (e, h) refl

-- the rest, behind what the next frame is
rest_bare : (first second : List MapType) (i : ℕ) (e d : Option FullFrame) (f : RawFrame) (fs : List RawFrame) (l k : Option (List MapType)) → option_map bare_frame e ≡ option_map bare_frame d → option_map (map bare_type) l ≡ option_map (map bare_type) k
    → ((x y : FullFrame) → bare_frame x ≡ bare_frame y → SameEnd (expand_from first (i + 1) (Some x) fs) (expand_from second (i + 1) (Some y) fs))
    → SameEnd (ok_or (with_locals e f l) i >>= λ full. expand_from first (i + 1) (Some full) fs >>= λ others. Ok (full ∷ others)) (ok_or (with_locals d f k) i >>= λ full. expand_from second (i + 1) (Some full) fs >>= λ others. Ok (full ∷ others))
rest_bare first second i e d f fs None None same h more = tt
rest_bare first second i e d f fs None (Some k) same h more = absurd cc
rest_bare first second i e d f fs (Some l) None same h more = absurd cc
rest_bare first second i e d f fs (Some l) (Some k) same h more =
    let locals : map bare_type l ≡ map bare_type k = cc in
    let x : FullFrame = record { at = place_behind e f.delta; locals = l; stack = f.stack } in
    let y : FullFrame = record { at = place_behind d f.delta; locals = k; stack = f.stack } in
    let one : bare_frame x ≡ bare_frame y = frame_bare (place_behind e f.delta) (place_behind d f.delta) l k f.stack (place_bare e d f.delta same) locals in
    end_more x y (expand_from first (i + 1) (Some x) fs) (expand_from second (i + 1) (Some y) fs) one (more x y one)

expands_bare : (first second : List MapType) (i : ℕ) (e d : Option FullFrame) (fs : List RawFrame) → map bare_type first ≡ map bare_type second → option_map bare_frame e ≡ option_map bare_frame d → SameEnd (expand_from first i e fs) (expand_from second i d fs)
unfolding expand_from
expands_bare first second i e d [] h k = refl
expands_bare first second i e d (f ∷ fs) h k =
    let l = locals_after f.form f.locals (locals_before first e) in
    let m = locals_after f.form f.locals (locals_before second d) in
    let same : option_map (map bare_type) l ≡ option_map (map bare_type) m =
    locals_map bare_type f.form f.locals (locals_before first e) ∙ ap (locals_after f.form (map bare_type f.locals)) (before_bare first second e d h k) ∙ sym (locals_map bare_type f.form f.locals (locals_before second d)) in
    rest_bare first second i e d f fs l m k same (λ x y one. expands_bare first second (i + 1) (Some x) (Some y) fs h (ap (λ (z : FullFrame). Some z) one))

pub frames_bare : (first second : List MapType) (b : CodeBody) → map bare_type first ≡ map bare_type second → map bare_frame (frames_of first b) ≡ map bare_frame (frames_of second b)
unfolding frames_of
frames_bare first second b h = end_none (expand_from first 0 None (frames_in b)) (expand_from second 0 None (frames_in b)) (expands_bare first second 0 None None (frames_in b) h refl)

-- ---- methods

no_frames : (first second : List MapType) (b : CodeBody) → frames_in b ≡ [] → map bare_frame (frames_of first b) ≡ map bare_frame (frames_of second b)
unfolding frames_of expand_from
no_frames first second b e = rw e refl

begun_bare : (c : ClassParts) (m : MemberInfo) (b : CodeBody) (fs : List RawFrame) (pool : List Entry) → frames_in b ≡ fs → map bare_frame (frames_of (with_first c m fs pool).0 b) ≡ map bare_frame (frames_of (bare_beginning c m) b)
begun_bare c m b [] pool e = no_frames [] (bare_beginning c m) b e
begun_bare c m b (f ∷ fs) pool e = frames_bare (with_beginning c m pool).0 (bare_beginning c m) b (beginning_bare c m pool)

-- the method by what was put, and by no indices
pub first_alike : (c : ClassParts) (m : MemberInfo) (b : CodeBody) (ks : List Expand) (pool mid : List Entry) (first : List MapType) → with_first c m (frames_in b) pool ≡ (first, mid)
    → Alike (method_in c m b (bare_beginning c m)) (method_in c m b first) ks ks
first_alike c m b ks pool mid first is = record {
  slots = refl;
  max_stack = refl;
  max_locals = refl;
  ops = refl;
  frames = sym (begun_bare c m b (frames_in b) pool refl) ∙ ap (λ (x : List MapType × List Entry). map bare_frame (frames_of x.0 b)) is;
  kinds = refl;
}
