-- What calls of the library ask of access control.
use Rattle.std.specs.Prelude.{◌≡◌}
use Rattle.jlib.specs.declared.calls.LibCall.{LibCall}
use Rattle.jlib.specs.declared.calls.LibCall.TheVariants as calls
use Rattle.jlib.specs.declared.calls.RtCall.TheVariants as rt
use Rattle.jlibcalls.specs.jlibrary.LibraryOutcomes.{IsAskFree}
use Rattle.jcalling.specs.jcallcheck.CheckRequests.{IsCheck}
use Rattle.jcalling.specs.jcallcontext.ContextRequests.{IsPrivileged, IsSnapshot}
use Rattle.jforms.specs.declared.jengine.advancing.Asking.{Asking}
use Rattle.jforms.specs.declared.jengine.advancing.Asking.TheVariants as asking

-- a call asks for this, if for anything
abbrev pub AsksFor : LibCall → Asking → Type 0
AsksFor call asking.Check = IsCheck call
AsksFor call asking.ContextCheck = call ≡ calls.ContextCheck
AsksFor call asking.Snapshot = IsSnapshot call
AsksFor call asking.Privileged = IsPrivileged call
AsksFor call asking.Enter = call ≡ calls.Rt rt.Enter
AsksFor call (asking.Thread c) = call ≡ calls.Thread c
AsksFor call asking.Nothing = IsAskFree call
