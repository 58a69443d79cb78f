-- What a call asks of the class of its object.
use Rattle.std.proofs.Common.{◌≡◌, ℕ, Option, Some, None, refl}
use Rattle.jresolution.specs.jprogram.ProgramClasses.{Program}
use Rattle.jresolution.specs.declared.juses.meaning.InvokeKind.TheVariants as how
use Rattle.jresolution.specs.juses.InstructionMeanings.{CallMeaning}
use Rattle.jserving.specs.jinvoke.Answers.{answer, answer_to, called_at, key}

module _ (p : Program) (class pool : ℕ) (on other : Option ℕ) where
  special_to : (c : Option CallMeaning) → answer_to p (key class how.Special pool on) c ≡ answer_to p (key class how.Special pool other) c
  special_to None = refl
  special_to (Some c) = refl

  static_to : (c : Option CallMeaning) → answer_to p (key class how.Static pool on) c ≡ answer_to p (key class how.Static pool other) c
  static_to None = refl
  static_to (Some c) = refl

  init_to : (c : Option CallMeaning) → answer_to p (key class how.Init pool on) c ≡ answer_to p (key class how.Init pool other) c
  init_to None = refl
  init_to (Some c) = refl

  pub special_alike : answer p (key class how.Special pool on) ≡ answer p (key class how.Special pool other)
  unfolding answer
  special_alike = special_to (called_at p (key class how.Special pool on))

  pub static_alike : answer p (key class how.Static pool on) ≡ answer p (key class how.Static pool other)
  unfolding answer
  static_alike = static_to (called_at p (key class how.Static pool on))

  pub init_alike : answer p (key class how.Init pool on) ≡ answer p (key class how.Init pool other)
  unfolding answer
  init_alike = init_to (called_at p (key class how.Init pool on))
