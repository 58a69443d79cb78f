-- What linking says of a call that an instruction names (JVMS 5.4.3.3, 6.5).
use Rattle.std.specs.Prelude.{◌≡◌, Bool, true, false}
use Rattle.std.specs.Str.{bytes_eq}
use Rattle.jlib.specs.declared.calls.LibCall.{LibCall}
use Rattle.jlib.specs.LibraryMembers as library_calls
use Rattle.jlib.specs.LibraryClasses as library
use Rattle.jresolution.specs.declared.jprogram.member.Member.TheVariants.{LibMethod}
use Rattle.jresolution.specs.jprogram.ProgramClasses.{Program}
use Rattle.jresolution.specs.jprogram.MemberResolution.{init, name_of}
use Rattle.jresolution.specs.declared.juses.meaning.InvokeKind.{InvokeKind}
use Rattle.jresolution.specs.declared.juses.meaning.InvokeKind.TheVariants as how
use Rattle.jresolution.specs.juses.InstructionMeanings.{CallMeaning}

-- it calls a constructor
abbrev pub begins : InvokeKind → Bool
begins how.Init = true
begins by = false

-- No other call names a constructor, and one of the library's is that of the class by which it is named.
pub record IsNamedCall (p : Program) (by : InvokeKind) (c : CallMeaning) : Type 0 where
  pub plain : begins by ≡ false → bytes_eq (name_of p c.member) init ≡ false
  pub owned : (x : LibCall) → begins by ≡ true → c.member ≡ LibMethod x → library.name_of (library_calls.owner x) ≡ c.owner.0
