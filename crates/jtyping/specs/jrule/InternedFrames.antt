-- Frames and places by number, and what they stand for by the names of classes.
use Rattle.std.specs.Prelude.{ℕ, List, map, Option, option_map}
use Rattle.jvalues.specs.jops.Shuffles as items
use Rattle.jtypes.specs.declared.vtype.VType.{VType}
use Rattle.jtypes.specs.declared.vtype.VType.TheVariants as types
use Rattle.jtypes.specs.TypeFrames.{Frame}
use Rattle.jresolution.specs.declared.jprogram.part.ClassRef.{ClassRef}
use Rattle.jresolution.specs.declared.jprogram.part.ClassRef.TheVariants as refs
use Rattle.jresolution.specs.jprogram.ProgramClasses.{Program}
use Rattle.jresolution.specs.declared.juses.types.TypeRef.{TypeRef}
use Rattle.jresolution.specs.declared.juses.meaning.CallUse.{CallUse}
use Rattle.jresolution.specs.declared.juses.meaning.Constant.{Constant}
use Rattle.jresolution.specs.declared.juses.meaning.Constant.TheVariants as numbered
use Rattle.jresolution.specs.juses.InstructionMeanings.{CallMeaning}
use Rattle.jresolution.specs.juses.InternedTypes.{class_named, named}
use Rattle.jtyping.specs.declared.jrule.frame.FrameRef.{FrameRef}
use Rattle.jtyping.specs.declared.jrule.place.TypingContext.{TypingContext}
use Rattle.jtyping.specs.declared.jrule.moves.Item.{Item}
use Rattle.jtyping.specs.declared.jrule.moves.Item.TheVariants as by
use Rattle.jtyping.specs.jrule.InstructionContext.{Here}
use Rattle.jtyping.specs.ProofNames.{string}

abbrev pub seen : Program → FrameRef → Frame
seen p f = record { locals = map (named p) f.locals; stack = map (named p) f.stack; flag = f.flag }

-- with what the `new` at a place makes
abbrev pub seen_here : Program → (ℕ → Option ClassRef) → TypingContext → Here
seen_here p makes h = record {
  class = class_named p (refs.User h.class);
  above = option_map (class_named p) h.above;
  is_init = h.is_init;
  returns = option_map (named p) h.returns;
  max_stack = h.max_stack;
  at = h.at;
  covered = h.covered;
  makes = λ o. option_map (class_named p) (makes o);
}

-- a call with the types of its parameters, the newest first
abbrev pub seen_call : Program → CallUse → List TypeRef → CallMeaning
seen_call p c params = record { owner = class_named p c.owner; params = map (named p) params; ret = option_map (named p) c.ret; member = c.member }

-- ---- items of the stack

abbrev pub item_type : Item → TypeRef
item_type (by.One t) = t
item_type (by.Two t) = t

abbrev pub seen_item : Program → Item → items.Item VType
seen_item p (by.One t) = items.One (named p t)
seen_item p (by.Two t) = items.Two (named p t)

-- ---- constants

-- the type of a constant, whatever its text
abbrev pub constant_named : Constant → VType
constant_named (numbered.Int n) = types.Int
constant_named (numbered.Long n) = types.Long
constant_named (numbered.Text i) = string
