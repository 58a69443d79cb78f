-- What an entry of a class's pool stands for that an instruction names: a field, or a type.
use Rattle.std.specs.Prelude.{◌≡◌, ℕ, Some}
use Rattle.jparts.specs.declared.jcode.op_form.PoolForm.TheVariants as forms
use Rattle.jresolution.specs.jprogram.ProgramClasses.{Program}
use Rattle.jresolution.specs.juses.InstructionMeanings as meanings
use Rattle.jresolution.specs.juses.InstructionMeanings.{FieldMeaning, meant}
use Rattle.jresolution.specs.juses.PoolTables.{pool_at}
use Rattle.jlinking.specs.jlink.NamedFields.{IsNamedField}
use Rattle.jready.specs.InlineOperands.{HoldsField}
use Rattle.jstepping.specs.declared.jrefs.looking.FieldAt.{FieldAt}

-- An instruction of the class at a place names a user's field, as linking allows it: it stands where this says, and holds what this says.
pub record NamesField (p : Program) (class : ℕ) (a : FieldAt) (f : FieldMeaning) : Type 0 where
  pub means : meant p (pool_at p class) (forms.Field a.op a.pool) ≡ Some (meanings.Field a.op f)
  pub holds : HoldsField p f a.cell a.narrow a.slot a.owner
  pub named : IsNamedField p a.op f
