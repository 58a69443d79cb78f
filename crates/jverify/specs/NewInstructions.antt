-- The `new`s of a method by number.
use Rattle.std.specs.Prelude.{◌≡◌, ℕ, List, Option, Some, None, option_and_then, option_map, slice_get}
use Rattle.jparts.specs.declared.jcode.op.Placed.{Placed}
use Rattle.jparts.specs.jcode.Instructions.{place_of}
use Rattle.jparts.specs.declared.jpool.entry.Entry.{Entry}
use Rattle.jresolution.specs.declared.jprogram.part.ClassRef.{ClassRef}
use Rattle.jresolution.specs.jprogram.ProgramClasses.{Program}
use Rattle.jresolution.specs.juses.InternedTypes.{class_named}
use Rattle.jtyping.specs.jwelltyped.MethodPremises.{made_in}

-- instructions, and of each the class that it makes, if it is a `new`
pub record Made : Type 0 where
  pub ops : List Placed
  pub made : List (Option ClassRef)

abbrev pub or_none : Option (Option ClassRef) → Option ClassRef
or_none None = None
or_none (Some one) = one

-- the class that the `new` at a place makes
abbrev pub made_at : Made → ℕ → Option ClassRef
made_at m at = option_and_then (λ i. or_none (slice_get m.made i)) (place_of m.ops at)

-- classes by place are those that the `new`s among these instructions make
abbrev pub AreNews : Program → List Entry → List Placed → (ℕ → Option ClassRef) → Type 0
AreNews p pool ops makes = (at : ℕ) → option_map (class_named p) (makes at) ≡ made_in p pool ops at
