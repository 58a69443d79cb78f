-- Frames of moved code (JVMS 4.7.4).
use Rattle.std.specs.Prelude.{ℕ, ◌+◌, ◌-◌, List, [], ◌∷◌, ◌++◌, length, map, replicate}
use Rattle.jparts.specs.declared.jmaps.types.MapType.{MapType}
use Rattle.jparts.specs.declared.jmaps.types.MapType.TheVariants.{Top, Long, Uninit, Object}
use Rattle.jparts.specs.declared.jmaps.types.FullFrame.{FullFrame}

-- a type whose `new` stands at another place
abbrev pub moved_type : (ℕ → ℕ) → MapType → MapType
moved_type to = elim [ Uninit old ↦ Uninit (to old) | t ↦ t ]

abbrev pub widths : List MapType → ℕ
widths [] = 0
widths (t ∷ ts) = (elim t [ Long ↦ 2 | _ ↦ 1 ]) + widths ts

-- A frame written full: its locals, Top up to the local that holds the context, and the context; `context` is the index of its class.
abbrev pub moved_frame : (ℕ → ℕ) → ℕ → ℕ → FullFrame → FullFrame
moved_frame to local context f = record {
  at = to f.at;
  locals = map (moved_type to) f.locals ++ (replicate (local - widths f.locals) Top ++ Object context ∷ []);
  stack = map (moved_type to) f.stack;
}

-- how many locals and stack items are written in it
abbrev pub items : ℕ → FullFrame → ℕ
items local f = length f.locals + (local - widths f.locals) + 1 + length f.stack

abbrev pub items_of : ℕ → List FullFrame → ℕ
items_of local [] = 0
items_of local (f ∷ fs) = items local f + items_of local fs
