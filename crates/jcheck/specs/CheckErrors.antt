-- What an error of checking says.
use Rattle.std.specs.Prelude.{◌≡◌, Option, Some}
use Rattle.jtyping.specs.jwelltyped.VerifierTests as typing
use Rattle.jcheck.specs.declared.fault.TypeFault.{TypeFault}
use Rattle.jcheck.specs.declared.fault.TypeFault.TheVariants.{At, Memory}

-- it names the first place with a test that fails; want of memory says nothing
abbrev pub TypeFaultIs : Option typing.Place → TypeFault → Type 0
TypeFaultIs found (At class method at) = found ≡ Some (record { class = class; method = method; at = at })
TypeFaultIs found Memory = Unit {0}
