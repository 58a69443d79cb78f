-- Types of frames take no more locals than what typing has for them.
use Rattle.std.proofs.Common.{◌≡◌, ℕ, zero, suc, ◌+◌, ◌-◌, ◌≤◌, Bool, true, false, cond, List, [], ◌∷◌, ◌++◌, length, map, take, Option, Some, None, refl, ap, subst, arith}
use Rattle.std.specs.Prelude.{nat_le, nat_lt, if◌then◌else◌}
use Rattle.std.proofs.lemmas.List.{length-append}
use Rattle.jparts.specs.declared.jmaps.types.MapType.{MapType}
use Rattle.jparts.specs.declared.jmaps.types.MapType.TheVariants as items
use Rattle.jparts.specs.jmaps.ExpandedFrames.{chopped, locals_after}
use Rattle.jtypes.specs.declared.vtype.VType.{VType}
use Rattle.jtypes.specs.TypeFrames.{is_long, places, places_of}
use Rattle.jmove.specs.MovedFrames.{widths}
use Rattle.jmove.specs.ProofNames.{width}
use Rattle.jparts.specs.declared.jpool.entry.Entry.{Entry}
use Rattle.jresolution.specs.jprogram.ProgramClasses.{Program}
use Rattle.jtyping.specs.jwelltyped.DeclaredFrames.{item}

-- place by place, in lists of one length
abbrev pub Under : List MapType → List VType → Type 0
Under [] [] = Unit {0}
Under (t ∷ ts) (v ∷ vs) = (width t ≤ length (places v)) × Under ts vs
Under _ _ = ⊥

abbrev pub UnderSome : Option (List MapType) → Option (List VType) → Type 0
UnderSome None None = Unit {0}
UnderSome (Some ts) (Some vs) = Under ts vs
UnderSome _ _ = ⊥

pub under_length : (ts : List MapType) (vs : List VType) → Under ts vs → length ts ≡ length vs
under_length [] [] h = refl
under_length [] (v ∷ vs) h = absurd h
under_length (t ∷ ts) [] h = absurd h
under_length (t ∷ ts) (v ∷ vs) h = ap suc (under_length ts vs h.1)

pub under_widths : (ts : List MapType) (vs : List VType) → Under ts vs → widths ts ≤ length (places_of vs)
under_widths [] [] h = omega arith
under_widths [] (v ∷ vs) h = absurd h
under_widths (t ∷ ts) [] h = absurd h
under_widths (t ∷ ts) (v ∷ vs) h =
    let first : width t ≤ length (places v) = h.0 in
    let rest : widths ts ≤ length (places_of vs) = under_widths ts vs h.1 in
    let all : length (places v ++ places_of vs) ≡ length (places v) + length (places_of vs) = length-append (places v) (places_of vs) in
    omega arith

pub under_append : (ts us : List MapType) (vs ws : List VType) → Under ts vs → Under us ws → Under (ts ++ us) (vs ++ ws)
under_append [] us [] ws h k = k
under_append [] us (v ∷ vs) ws h k = absurd h
under_append (t ∷ ts) us [] ws h k = absurd h
under_append (t ∷ ts) us (v ∷ vs) ws h k = (h.0, under_append ts us vs ws h.1 k)

under_take : (n : ℕ) (ts : List MapType) (vs : List VType) → Under ts vs → Under (take n ts) (take n vs)
under_take zero ts vs h = tt
under_take (suc n) [] [] h = tt
under_take (suc n) [] (v ∷ vs) h = absurd h
under_take (suc n) (t ∷ ts) [] h = absurd h
under_take (suc n) (t ∷ ts) (v ∷ vs) h = (h.0, under_take n ts vs h.1)

-- ---- what frames do to locals

under_cond : (b : Bool) (x y : Option (List MapType)) (v w : Option (List VType)) → UnderSome x v → UnderSome y w → UnderSome (cond b x y) (cond b v w)
under_cond true x y v w h k = h
under_cond false x y v w h k = k

under_chopped : (n : ℕ) (ts : List MapType) (vs : List VType) → Under ts vs → UnderSome (chopped n ts) (chopped n vs)
under_chopped n ts vs h =
    let same = under_length ts vs h in
    subst (λ (k : ℕ). UnderSome (chopped n ts) (cond (nat_le n k) (Some (take (k - n) vs)) None)) same
    (under_cond (nat_le n (length ts)) (Some (take (length ts - n) ts)) None (Some (take (length ts - n) vs)) None (under_take (length ts - n) ts vs h) tt)

pub under_after : (form : ℕ) (written before : List MapType) (vs ws : List VType) → Under written vs → Under before ws → UnderSome (locals_after form written before) (locals_after form vs ws)
unfolding locals_after
under_after form written before vs ws h k =
    under_cond (nat_lt form 248) _ _ _ _ k
    (under_cond (nat_lt form 251) _ _ _ _ (under_chopped (251 - form) before ws k)
    (under_cond (nat_lt form 252) _ _ _ _ k
    (under_cond (nat_lt form 255) _ _ _ _ (under_append before written ws vs k h) h)))

-- ---- items

one_place : (b : Bool) (v w : VType) → 1 ≤ length (if b then v ∷ w ∷ [] else v ∷ [])
one_place true v w = omega arith
one_place false v w = omega arith

pub some_place : (v : VType) → 1 ≤ length (places v)
some_place v = one_place (is_long v) v _

under_item : (p : Program) (pool : List Entry) (t : MapType) → width t ≤ length (places (item p pool t))
under_item p pool items.Long = omega arith
under_item p pool items.Top = some_place (item p pool items.Top)
under_item p pool items.Int = some_place (item p pool items.Int)
under_item p pool items.Null = some_place (item p pool items.Null)
under_item p pool items.UninitThis = some_place (item p pool items.UninitThis)
under_item p pool (items.Uninit o) = some_place (item p pool (items.Uninit o))
under_item p pool (items.Object i) = some_place (item p pool (items.Object i))

pub under_items : (p : Program) (pool : List Entry) (ts : List MapType) → Under ts (map (item p pool) ts)
under_items p pool [] = tt
under_items p pool (t ∷ ts) = (under_item p pool t, under_items p pool ts)
