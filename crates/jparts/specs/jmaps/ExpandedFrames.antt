-- Frames in full: where each stands and all that it says, by the frames before it (JVMS 4.7.4).
use Rattle.std.specs.Prelude.{◌≡◌, ℕ, ◌+◌, ◌-◌, nat_le, nat_lt, true, ◌&&◌, Bool, if◌then◌else◌, List, [], ◌∷◌, ◌++◌, length, take, map, Option, Some, None, Result, Ok, Err, ok_or}
use Rattle.std.specs.Global.{Vec}
use Rattle.std.specs.List.{list_all}
use Rattle.std.specs.Option.{option_map}
use Rattle.jground.specs.jformat.StatefulFormats.{fits_from}
use Rattle.jground.specs.jbase.MemoryFailures.{◌>>=◌}
use Rattle.jparts.specs.declared.jmaps.types.MapType.{MapType}
use Rattle.jparts.specs.declared.jmaps.types.RawFrame.{RawFrame}
use Rattle.jparts.specs.declared.jmaps.types.FullFrame.{FullFrame}
use Rattle.jparts.specs.declared.jmaps.fault.ExpandError.{ExpandError}
use Rattle.jparts.specs.declared.jmaps.fault.ExpandError.TheVariants.{Chop, Memory}
use Rattle.jparts.specs.jmaps.StackMapFormat.{own_type}

-- ---- from written frames, whatever the items are

-- the place of a frame: the earlier frame's place plus its delta plus one, and for the first its delta
abbrev pub place_from : Option ℕ → ℕ → ℕ
place_from x delta = elim x [ None ↦ delta | Some earlier ↦ earlier + delta + 1 ]

-- all locals but the last so many, where there are as many
abbrev pub chopped : {A : Type 0} → ℕ → List A → Option (List A)
chopped n locals = if nat_le n (length locals) then Some (take (length locals - n) locals) else None

-- The locals that a frame of a type byte has, by those that are written in it and those of the frame before: as before, without the
-- last 1 to 3, with those written behind them, or those written.
unfoldable pub locals_after : {A : Type 0} → ℕ → List A → List A → Option (List A)
locals_after form written before =
    if nat_lt form 248 then Some before else (
    if nat_lt form 251 then chopped (251 - form) before else (
    if nat_lt form 252 then Some before else (
    if nat_lt form 255 then Some (before ++ written) else
    Some written)))

-- A function of the items may be applied before or behind.
abbrev pub LocalsMap : Type 0 → Type 0 → Type 0
LocalsMap A B = (f : A → B) (form : ℕ) (written before : List A)
    → option_map (map f) (locals_after form written before) ≡ locals_after form (map f written) (map f before)

-- ---- frames of a StackMapTable

abbrev pub place_behind : Option FullFrame → ℕ → ℕ
place_behind earlier delta = place_from (option_map (λ f. f.at) earlier) delta

-- the locals before a frame: those of the earlier frame, or the first locals
abbrev pub locals_before : List MapType → Option FullFrame → List MapType
locals_before first = elim [ None ↦ first | Some earlier ↦ earlier.locals ]

abbrev pub with_locals : Option FullFrame → RawFrame → Option (List MapType) → Option FullFrame
with_locals earlier f = elim [ None ↦ None | Some locals ↦ Some (record { at = place_behind earlier f.delta; locals = locals; stack = f.stack }) ]

-- the frame in full, unless it takes away more locals than there are
abbrev pub in_full : List MapType → Option FullFrame → RawFrame → Option FullFrame
in_full first earlier f = with_locals earlier f (locals_after f.form f.locals (locals_before first earlier))

-- The frames in full, or the number of the first that takes away more locals than there are; `i` is the first one's number.
unfoldable pub expand_from : List MapType → ℕ → Option FullFrame → List RawFrame → Result (List FullFrame) ℕ
expand_from first i earlier [] = Ok []
expand_from first i earlier (f ∷ fs) = ok_or (in_full first earlier f) i >>= λ full. expand_from first (i + 1) (Some full) fs
    >>= λ others. Ok (full ∷ others)

abbrev pub GivesFull : Result (Vec FullFrame) ExpandError → Result (List FullFrame) ℕ → Type 0
GivesFull (Ok v) value = value ≡ Ok v.items
GivesFull (Err Memory) value = Unit {0}
GivesFull (Err (Chop i)) value = value ≡ Err i

-- ---- to written frames

-- how far a frame stands behind the earlier one, less one, or from the beginning
abbrev pub delta_behind : Option ℕ → ℕ → ℕ
delta_behind x at = elim x [ None ↦ at | Some earlier ↦ at - (earlier + 1) ]

abbrev pub is_behind : Option ℕ → ℕ → Bool
is_behind None at = true
is_behind (Some earlier) at = nat_lt earlier at

-- the full form of a frame
abbrev pub full_form : Option ℕ → FullFrame → RawFrame
full_form earlier f = record { form = 255; delta = delta_behind earlier f.at; locals = f.locals; stack = f.stack }

-- the full forms of frames; `earlier` is the place of the frame before them
unfoldable pub full_forms : Option ℕ → List FullFrame → List RawFrame
full_forms earlier [] = []
full_forms earlier (f ∷ fs) = full_form earlier f ∷ full_forms (Some f.at) fs

-- A frame stands behind the earlier one, and not too far.
abbrev pub stands : Option ℕ → FullFrame → Bool
stands earlier f = is_behind earlier f.at && nat_lt (delta_behind earlier f.at) 0x1_0000

-- It has not too many items either.
abbrev pub can_follow : Option ℕ → FullFrame → Bool
can_follow earlier f = stands earlier f && (nat_lt (length f.locals) 0x1_0000 && nat_lt (length f.stack) 0x1_0000)

abbrev pub place_after : Option ℕ → FullFrame → Option ℕ
place_after earlier f = Some f.at

-- frames that stand in order
abbrev pub all_stand : List FullFrame → Bool
all_stand fs = fits_from stands place_after None fs

-- Frames that can be written: they stand in order, and there are at most 65,535 of them, and of the locals and of the stack items of
-- each.
abbrev pub can_write : List FullFrame → Bool
can_write fs = fits_from can_follow place_after None fs && nat_lt (length fs) 0x1_0000

-- the items of frames have a spelling: their places and indices are of two bytes
abbrev pub items_fit : List FullFrame → Bool
items_fit fs = list_all (λ f. list_all own_type.fits f.locals && list_all own_type.fits f.stack) fs
