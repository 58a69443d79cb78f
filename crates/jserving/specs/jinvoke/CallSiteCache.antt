-- What is remembered beside the sites of calls.
use Rattle.std.specs.Prelude.{◌≡◌, ⊤, List, Option, None, Some}
use Rattle.std.specs.List.{All}
use Rattle.jresolution.specs.jprogram.ProgramClasses.{Program}
use Rattle.jserving.specs.declared.jinvoke.choosing.Answer.{Answer}
use Rattle.jserving.specs.declared.jinvoke.choosing.Beside.{Beside}
use Rattle.jserving.specs.declared.jinvoke.choosing.CallKey.{CallKey}
use Rattle.jserving.specs.jinvoke.Answers.{OwnerIs}

-- A place holds nothing, or a key with the function's answer, and with the class by which the key's entry names the method.
abbrev pub IsRight : Program → (CallKey → Answer) → Option (CallKey × Beside) → Type 0
IsRight p f None = ⊤
IsRight p f (Some (k, beside)) = (beside.answer ≡ f k) × OwnerIs p k.class k.by k.pool beside.owner

-- All places do.
unfoldable pub Remember : Program → (CallKey → Answer) → List (Option (CallKey × Beside)) → Type 0
Remember p f places = All (IsRight p f) places
