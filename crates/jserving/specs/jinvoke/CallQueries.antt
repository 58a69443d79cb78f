-- What is asked about calls and remembered, and where its answers are looked for.
use Rattle.std.specs.Prelude.{ℕ, ◌+◌, ◌*◌, Option, Some, None}
use Rattle.jlib.specs.declared.calls.LibCall.{LibCall}
use Rattle.jlib.specs.declared.calls.LibCall.TheVariants.{Run, RunAction}
use Rattle.jlib.specs.declared.classes.LibClass.{LibClass}
use Rattle.jlib.specs.declared.classes.LibClass.TheVariants as lib
use Rattle.jresolution.specs.jprogram.ProgramClasses.{Program}
use Rattle.jserving.specs.declared.jinvoke.asked.Asked.{Asked}
use Rattle.jserving.specs.declared.jinvoke.asked.Asked.TheVariants as asks
use Rattle.jserving.specs.declared.jinvoke.asked.Face.{Face}
use Rattle.jserving.specs.declared.jinvoke.asked.Face.TheVariants as faces
use Rattle.jserving.specs.declared.jinvoke.choosing.Answer.{Answer}
use Rattle.jserving.specs.declared.jinvoke.choosing.CallKey.{CallKey}
use Rattle.jserving.specs.jinvoke.Answers.{answer}
use Rattle.jserving.specs.jinvoke.InterfaceCalls.{face_answer}

-- ---- methods that the machine calls itself (class documentation of Runnable, PrivilegedAction)

abbrev pub class_of : Face → LibClass
class_of (faces.Runnable side) = lib.Runnable
class_of (faces.Action side) = lib.PrivilegedAction

abbrev pub call_of : Face → LibCall
call_of (faces.Runnable side) = Run side
call_of (faces.Action side) = RunAction side

-- ---- what is known of what is asked

abbrev pub told : Program → Asked → Answer
told p (asks.Call key) = answer p key
told p (asks.Face face on) = face_answer p (class_of face) (call_of face) on

-- ---- where it is looked for

abbrev pub site_number : CallKey → ℕ
site_number k = k.class * 31 + k.pool

abbrev pub number_with : ℕ → Option ℕ → ℕ
number_with site None = site
number_with site (Some n) = site * 7 + n

abbrev pub asked_number : Asked → ℕ
asked_number (asks.Call k) = number_with (site_number k) k.on
asked_number (asks.Face face on) = number_with 0 on
