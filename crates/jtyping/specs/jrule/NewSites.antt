-- The same place of a method with other `new` instructions.
use Rattle.std.specs.Prelude.{◌≡◌, ℕ, List, Option}
use Rattle.jparts.specs.declared.jpool.entry.Entry.{Entry}
use Rattle.jparts.specs.declared.jcode.op_form.OpForm.{OpForm}
use Rattle.jtypes.specs.declared.vtype.Name.{Name}
use Rattle.jtypes.specs.TypeFrames.{Frame}
use Rattle.jresolution.specs.jprogram.ProgramClasses.{Program}
use Rattle.jtyping.specs.jrule.FormRules.{by_form}
use Rattle.jtyping.specs.jrule.InstructionContext.{Here}

abbrev pub with_news : (ℕ → Option Name) → Here → Here
with_news makes h = record {
  class = h.class;
  above = h.above;
  is_init = h.is_init;
  returns = h.returns;
  max_stack = h.max_stack;
  at = h.at;
  covered = h.covered;
  makes = makes;
}

-- of the `new`s the rule asks what the one at a place makes, and nothing else
abbrev pub AsksPlaces : (S : Type 0) → Program → Type 0
AsksPlaces S p = (here : Here) (makes : ℕ → Option Name) (pool : List Entry) (form : OpForm S) (f : Frame) →
    ((o : ℕ) → here.makes o ≡ makes o) → by_form p here pool form f ≡ by_form p (with_news makes here) pool form f
