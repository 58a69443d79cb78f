-- The frames that a method declares (JVMS 4.7.4, 4.10.1.6), their types by name.
use Rattle.std.specs.Prelude.{ℕ, ℤ, pos, ◌-◌, Bool, true, false, ◌&&◌, List, [], ◌∷◌, ◌++◌, length, map, replicate, reverse, nat_le, Option, Some, None, is_some, option_and_then, unwrap_or}
use Rattle.std.specs.List.{find, list_all, list_any}
use Rattle.std.specs.Ordering.{int_eq}
use Rattle.jparts.specs.declared.jpool.entry.Entry.{Entry}
use Rattle.jparts.specs.declared.jmaps.types.MapType.{MapType}
use Rattle.jparts.specs.declared.jmaps.types.MapType.TheVariants as items
use Rattle.jparts.specs.declared.jmaps.types.RawFrame.{RawFrame}
use Rattle.jparts.specs.jmaps.ExpandedFrames.{locals_after, place_from}
use Rattle.jclass.specs.declared.class.CodeBody.{CodeBody}
use Rattle.jclass.specs.CodeFormat.{begins, frames_in}
use Rattle.jtypes.specs.declared.vtype.Name.{Name}
use Rattle.jtypes.specs.declared.vtype.VType.{VType}
use Rattle.jtypes.specs.declared.vtype.VType.TheVariants as types
use Rattle.jtypes.specs.TypeFrames.{Frame, places_of, within}
use Rattle.jresolution.specs.jprogram.ProgramClasses.{Program}
use Rattle.jresolution.specs.juses.InstructionMeanings.{class_at}
use Rattle.jtyping.specs.jrule.StackEffects.{is_uninit_this}
use Rattle.jtyping.specs.jwelltyped.MethodPremises.{Method, makes}

-- ---- the items of frames

abbrev pub item : Program → List Entry → MapType → VType
item p pool items.Top = types.Top
item p pool items.Int = types.Int
item p pool items.Long = types.Long
item p pool items.Null = types.Null
item p pool items.UninitThis = types.UninitThis
item p pool (items.Uninit o) = types.Uninit o
item p pool (items.Object i) = unwrap_or (class_at p pool i) types.Top

-- ---- frames in full

-- values from the first local on, and Top behind them
abbrev pub filled : ℕ → List VType → List VType
filled most places = places ++ replicate (most - length places) types.Top

-- The frame of so many locals with these values in the first of them, and with these operands, the newest first. `this` isn't initialised
-- yet where a local holds it so.
abbrev pub frame_of : ℕ → List VType → List VType → Frame
frame_of most values stack = record { locals = filled most (places_of values); stack = stack; flag = list_any is_uninit_this values }

-- a frame as it is written, with its place; it is none where it takes away more locals than there are
pub record Written : Type 0 where
  pub at : ℕ
  pub frame : Option Frame

-- behind a frame that is none no other is read
abbrev pub continued : ℕ → ℕ → List VType → (List VType → List Written) → Option (List VType) → List Written
continued most at stack others None = record { at = at; frame = None } ∷ []
continued most at stack others (Some values) = record { at = at; frame = Some (frame_of most values stack) } ∷ others values

-- The frames that are written, of so many locals, where the one before them stands at the place `earlier` with these values in its locals.
unfoldable pub written_from : Program → List Entry → ℕ → Option ℕ → List VType → List RawFrame → List Written
written_from p pool most earlier before [] = []
written_from p pool most earlier before (f ∷ fs) =
    let at = place_from earlier f.delta in
    continued most at (reverse (map (item p pool) f.stack)) (λ values. written_from p pool most (Some at) values fs)
    (locals_after f.form (map (item p pool) f.locals) before)

-- ---- of a method

-- what is in its locals and operands where it begins
abbrev pub first_frame : Method → Frame
first_frame m = frame_of m.body.max_locals m.params []

unfoldable pub written : Program → Method → List Written
written p m = written_from p m.pool m.body.max_locals None m.params (frames_in m.body)

-- the frame that is declared at a place
abbrev pub declared_at : List Written → ℤ → Option Frame
declared_at ws at = option_and_then (λ w. w.frame) (find (λ w. int_eq (pos w.at) at) ws)

-- ---- what is asked of them

-- a `new` stands where one is named
abbrev pub is_there : (ℕ → Option Name) → VType → Bool
is_there made = elim [ types.Uninit o ↦ is_some (made o) | _ ↦ true ]

abbrev pub has_room : CodeBody → Frame → Bool
has_room body f = nat_le (length f.locals) body.max_locals && within body.max_stack f.stack

abbrev pub holds : CodeBody → (ℕ → Option Name) → Option Frame → Bool
holds body made = elim [ None ↦ false | Some f ↦ has_room body f && (list_all (is_there made) f.locals && list_all (is_there made) f.stack) ]

-- A frame stands at an instruction, takes away no more locals than there are, keeps to the maxima, and names `new`s that are there.
abbrev pub is_good : Program → Method → Written → Bool
is_good p m w = begins m.body.ops w.at && holds m.body (makes p m) w.frame
