-- What is kept of descriptors.
use Rattle.std.proofs.Common.{◌≡◌, ℕ, zero, suc, ◌+◌, ◌<◌, ◌≤◌, List, [], ◌∷◌, ◌++◌, length, get_or, take, drop, map, Option, Some, None, refl, sym, ap, subst, ◌∙◌, arith}
use Rattle.std.specs.Prelude.{option_map, reverse, slice_get}
use Rattle.std.proofs.Math.Seq.{drop-cons}
use Rattle.std.proofs.lemmas.List.{map_push, reverse-append, reverse-reverse, drop_all}
use Rattle.jground.specs.jbase.ListMaps.{each_some, put_front}
use Rattle.jparts.specs.declared.jpool.descriptor.FieldType.{FieldType}
use Rattle.jparts.specs.declared.jpool.entry.Entry.{Entry}
use Rattle.jparts.specs.jpool.Descriptors.{descriptor_of}
use Rattle.jparts.specs.jpool.ConstantPools.{utf8_at}
use Rattle.jtypes.specs.declared.vtype.VType.{VType}
use Rattle.jresolution.specs.jprogram.ClassFileParts.{text}
use Rattle.jresolution.specs.jprogram.ProgramClasses.{Program}
use Rattle.jresolution.specs.declared.juses.meaning.Span.{Span}
use Rattle.jresolution.specs.declared.juses.types.TypeRef.{TypeRef}
use Rattle.jresolution.specs.declared.juses.descriptors.DescUse.{DescUse}
use Rattle.jresolution.specs.declared.juses.descriptors.DescUse.TheVariants as descs
use Rattle.jresolution.specs.juses.InternedTypes.{named}
use Rattle.jresolution.specs.juses.DescriptorTypes.{Typed, Untyped, Called, called, type_in, typed}
use Rattle.jresolution.specs.juses.InstructionMeanings.{spanned}
use Rattle.jresolution.specs.juses.PoolTables.{AreDescs, DescIs, DescWithin, Grows, desc_in, desc_named, entry_typed}
use Rattle.jresolution.proofs.JusesProofs.Spans.{Both, grows_by, pairs_at, pairs_end, pairs_map, pairs_step, spanned_more, spanned_put, within_more, within_put}

-- ---- parameters, from the last one on

abbrev pub Params : Program → List FieldType → ℕ → List TypeRef → Type 0
Params p params i types = each_some (type_in p) (drop i params) ≡ Some (reverse (map (named p) types))

pub params_begin : (p : Program) (params : List FieldType) → Params p params (length params) []
unfolding each_some
params_begin p params = ap (λ (l : List FieldType). each_some (type_in p) l) (drop_all (length params) params (omega arith))

pub params_more : (p : Program) (params : List FieldType) (i k : ℕ) (t : FieldType) (types : List TypeRef) (one : TypeRef) → k ≡ suc i → i < length params → t ≡ get_or params i t → option_map (named p) (Some one) ≡ type_in p t → Params p params k types → Params p params i (types ++ one ∷ [])
unfolding each_some
params_more p params i k t types one next lt is means so_far =
    let split : drop i params ≡ t ∷ drop k params = drop-cons params i t lt ∙ ap (λ (x : FieldType). x ∷ drop (suc i) params) (sym is) ∙ ap (λ (n : ℕ). t ∷ drop n params) (sym next) in
    let front : reverse (map (named p) (types ++ one ∷ [])) ≡ named p one ∷ reverse (map (named p) types) = ap reverse (map_push (named p) types one) ∙ reverse-append (map (named p) types) (named p one ∷ []) in
    ap (λ (l : List FieldType). each_some (type_in p) l) split
    ∙ ap (λ (o : Option VType). put_front o (each_some (type_in p) (drop k params))) (sym means)
    ∙ ap (λ (o : Option (List VType)). put_front (Some (named p one)) o) so_far
    ∙ ap (λ (l : List VType). Some l) (sym front)

front_none : {B : Type 0} (o : Option B) → put_front o None ≡ None
front_none None = refl
front_none (Some x) = refl

params_stop_at : (f : FieldType → Option VType) (params : List FieldType) (i : ℕ) (t : FieldType) → i < length params → t ≡ get_or params i t → f t ≡ None → each_some f params ≡ None
unfolding each_some
params_stop_at f [] i t lt is none = absurd (omega arith)
params_stop_at f (x ∷ xs) zero t lt is none = ap (λ (o : Option VType). put_front o (each_some f xs)) (ap f (sym is) ∙ none)
params_stop_at f (x ∷ xs) (suc i) t lt is none = ap (put_front (f x)) (params_stop_at f xs i t (omega arith) is none) ∙ front_none (f x)

pub params_stop : (p : Program) (params : List FieldType) (i : ℕ) (t : FieldType) → i < length params → t ≡ get_or params i t → option_map (named p) None ≡ type_in p t → option_map (map (named p)) None ≡ option_map reverse (each_some (type_in p) params)
params_stop p params i t lt is none = ap (option_map reverse) (sym (params_stop_at (type_in p) params i t lt is (sym none)))

pub params_end : (p : Program) (params : List FieldType) (i : ℕ) (types : List TypeRef) → i ≡ 0 → Params p params i types → option_map (map (named p)) (Some types) ≡ option_map reverse (each_some (type_in p) params)
params_end p params i types zero_is so_far =
    let all : each_some (type_in p) params ≡ Some (reverse (map (named p) types)) = ap (λ (n : ℕ). each_some (type_in p) (drop n params)) (sym zero_is) ∙ so_far in
    sym (ap (option_map reverse) all ∙ ap (λ (l : List VType). Some l) (reverse-reverse (map (named p) types)))

-- ---- one descriptor

pub untyped_is : (p : Program) (types : List TypeRef) (t : Typed) → t ≡ Untyped → DescIs p types descs.Untyped t
untyped_is p types t e = record { means = sym e; within = tt }

no_params : (o : Option (List VType)) (r : Option (Option VType)) → None ≡ option_map reverse o → called o r ≡ Untyped
no_params None r e = refl
no_params (Some ps) r e = absurd cc

pub called_no_params : (p : Program) (types : List TypeRef) (o : Option (List VType)) (r : Option (Option VType)) → option_map (map (named p)) None ≡ option_map reverse o → DescIs p types descs.Untyped (called o r)
called_no_params p types o r e = untyped_is p types (called o r) (no_params o r e)

no_return : (o : Option (List VType)) → called o None ≡ Untyped
no_return None = refl
no_return (Some ps) = refl

pub called_no_return : (p : Program) (types : List TypeRef) (o : Option (List VType)) (r : Option (Option VType)) → option_map (option_map (named p)) None ≡ r → DescIs p types descs.Untyped (called o r)
called_no_return p types o r e = untyped_is p types (called o r) (ap (called o) (sym e) ∙ no_return o)

reversed_is : (ms : List VType) (o : Option (List VType)) (r : Option VType) → Some ms ≡ option_map reverse o → called o (Some r) ≡ Called ms r
reversed_is ms None r e = absurd cc
reversed_is ms (Some ps) r e = let same : reverse ps ≡ ms = cc in ap (λ (l : List VType). Called l r) same

pub called_is : (p : Program) (old new more : List TypeRef) (s : Span) (ret : Option TypeRef) (o : Option (List VType)) (r : Option (Option VType))
    → option_map (map (named p)) (Some more) ≡ option_map reverse o → option_map (option_map (named p)) (Some ret) ≡ r
    → s.first ≡ length old → s.count ≡ length more → new ≡ old ++ more
    → DescIs p new (descs.Called s ret) (called o r) × Grows old new
called_is p old new more s ret o r params returned first count e =
    let there : spanned new s ≡ more = ap (λ (l : List TypeRef). spanned l s) e ∙ spanned_put old more s first count in
    let typed : called o r ≡ Called (map (named p) more) (option_map (named p) ret) = ap (called o) (sym returned) ∙ reversed_is (map (named p) more) o (option_map (named p) ret) params in (
      record {
        means = ap (λ (l : List TypeRef). Called (map (named p) l) (option_map (named p) ret)) there ∙ sym typed;
        within = subst (λ (l : List TypeRef). DescWithin (length l) (descs.Called s ret)) (sym e) (within_put old more s first count);
      },
      grows_by old new more e,
    )

-- ---- those of a pool

means_more : (p : Program) (types more : List TypeRef) (d : DescUse) → DescWithin (length types) d → desc_named p (types ++ more) d ≡ desc_named p types d
means_more p types more descs.Untyped h = refl
means_more p types more (descs.Held t) h = refl
means_more p types more (descs.Called s ret) h = ap (λ (l : List TypeRef). Called (map (named p) l) (option_map (named p) ret)) (spanned_more types more s h)

desc_within_more : (types more : List TypeRef) (d : DescUse) → DescWithin (length types) d → DescWithin (length (types ++ more)) d
desc_within_more types more descs.Untyped h = tt
desc_within_more types more (descs.Held t) h = tt
desc_within_more types more (descs.Called s ret) h = within_more types more s h

desc_more : (p : Program) (types more : List TypeRef) (d : DescUse) (t : Typed) → DescIs p types d t → DescIs p (types ++ more) d t
desc_more p types more d t h = record { means = means_more p types more d h.within ∙ h.means; within = desc_within_more types more d h.within }

desc_grows : (p : Program) (old new : List TypeRef) (d : DescUse) (t : Typed) → Grows old new → DescIs p old d t → DescIs p new d t
desc_grows p old new d t g h = subst (λ (l : List TypeRef). DescIs p l d t) (sym g.1) (desc_more p old g.0 d t h)

pub descs_begin : (p : Program) (types : List TypeRef) (entries : List Entry) → AreDescs p types (take 0 entries) []
descs_begin p types entries = record { each = tt }

pub descs_step : (p : Program) (old new : List TypeRef) (entries : List Entry) (i : ℕ) (e : Entry) (uses : List DescUse) (d : DescUse)
    → i < length entries → e ≡ get_or entries i e → AreDescs p old (take i entries) uses → DescIs p new d (entry_typed p (Some e)) → Grows old new
    → AreDescs p new (take (i + 1) entries) (uses ++ d ∷ [])
descs_step p old new entries i e uses d lt is so_far one g = record {
  each = pairs_step (λ (e : Entry) (d : DescUse). DescIs p new d (entry_typed p (Some e))) entries i e uses d lt is
      (pairs_map (λ (e : Entry) (d : DescUse). DescIs p old d (entry_typed p (Some e))) (λ (e : Entry) (d : DescUse). DescIs p new d (entry_typed p (Some e)))
      (λ x y h. desc_grows p old new y (entry_typed p (Some x)) g h) (take i entries) uses so_far.each)
      one;
}

pub descs_end : (p : Program) (types : List TypeRef) (entries : List Entry) (i : ℕ) (uses : List DescUse) → length entries ≤ i → AreDescs p types (take i entries) uses → AreDescs p types entries uses
descs_end p types entries i uses le h = record { each = pairs_end (λ (e : Entry) (d : DescUse). DescIs p types d (entry_typed p (Some e))) entries i uses le h.each }

-- ---- one of them

pub nothing_typed : (p : Program) → typed p [] ≡ Untyped
unfolding typed descriptor_of
nothing_typed p = refl

desc_either : (p : Program) (types : List TypeRef) (o : Option Entry) (q : Option DescUse) → Both (λ e d. DescIs p types d (entry_typed p (Some e))) o q → DescIs p types (desc_in q) (entry_typed p o)
desc_either p types None None h = untyped_is p types _ (nothing_typed p)
desc_either p types None (Some d) h = absurd h
desc_either p types (Some e) None h = absurd h
desc_either p types (Some e) (Some d) h = h

-- what is kept at an index says what the text there says
pub desc_is : (p : Program) (types : List TypeRef) (pool : List Entry) (uses : List DescUse) (i : ℕ) → AreDescs p types pool uses → DescIs p types (desc_in (slice_get uses i)) (typed p (text pool i))
unfolding utf8_at
desc_is p types pool uses i h = desc_either p types (slice_get pool i) (slice_get uses i) (pairs_at (λ (e : Entry) (d : DescUse). DescIs p types d (entry_typed p (Some e))) pool uses i h.each)
