-- By a constant of the pool nothing but a constant is pushed.
use Rattle.std.proofs.Common.{◌≡◌, ℕ, List, Option, Some, None, refl}
use Rattle.std.specs.Prelude.{option_and_then, slice_get}
use Rattle.jparts.specs.declared.jpool.entry.Entry.{Entry}
use Rattle.jparts.specs.declared.jcode.op_form.PoolForm.TheVariants as forms
use Rattle.jresolution.specs.jprogram.ProgramClasses.{Program}
use Rattle.jresolution.specs.juses.InstructionMeanings.{AClass, AConstant, AField, AMethod, EntryMeaning, Int, Long, Text, entry_meant, meant}
use Rattle.jresolution.specs.ProofNames.{long_constant, short_constant}
use Rattle.jready.specs.MeaningParts.{only_push}

short : (o : Option EntryMeaning) → only_push (option_and_then short_constant o) ≡ option_and_then short_constant o
short None = refl
short (Some (AConstant (Int n))) = refl
short (Some (AConstant (Long n))) = refl
short (Some (AConstant (Text t))) = refl
short (Some (AClass t)) = refl
short (Some (AField f)) = refl
short (Some (AMethod b c)) = refl

long : (o : Option EntryMeaning) → only_push (option_and_then long_constant o) ≡ option_and_then long_constant o
long None = refl
long (Some (AConstant (Int n))) = refl
long (Some (AConstant (Long n))) = refl
long (Some (AConstant (Text t))) = refl
long (Some (AClass t)) = refl
long (Some (AField f)) = refl
long (Some (AMethod b c)) = refl

pub constant_pushes : (p : Program) (pool : List Entry) (i : ℕ) → only_push (meant p pool (forms.Constant i)) ≡ meant p pool (forms.Constant i)
unfolding meant
constant_pushes p pool i = short (entry_meant p pool (slice_get pool i))

pub long_pushes : (p : Program) (pool : List Entry) (i : ℕ) → only_push (meant p pool (forms.LongConstant i)) ≡ meant p pool (forms.LongConstant i)
unfolding meant
long_pushes p pool i = long (entry_meant p pool (slice_get pool i))

-- the number of argument slots says nothing
pub slots_apart : (p : Program) (pool : List Entry) (i a b : ℕ) → meant p pool (forms.CallInterface i a) ≡ meant p pool (forms.CallInterface i b)
unfolding meant
slots_apart p pool i a b = refl
