-- Rows of calls of the library that ask nothing of access control.
use Rattle.std.specs.Prelude.{List, [], ◌∷◌, Option, Some, None}
use Rattle.jlib.specs.declared.calls.ThrownInit.TheVariants as given
use Rattle.jlib.specs.declared.calls.LibCall.{LibCall}
use Rattle.jlib.specs.declared.calls.LibCall.TheVariants as calls
use Rattle.jvalues.specs.declared.jops.value.Value.{Value}
use Rattle.jsemantics.specs.jmachine.Store.{Store}
use Rattle.jsemantics.specs.jmachine.MachineStates.{Row, gives}
use Rattle.jsemantics.specs.jmachine.InstructionSites.{Site}
use Rattle.jsemantics.specs.jmachine.PermissionCalls as permissions
use Rattle.jsemantics.specs.jmachine.TextCalls as texts
use Rattle.jsemantics.specs.jmachine.Throwables as throwables

-- the constructor of Object does nothing
unfoldable pub library : {K E : Type 0} → Site → Store K → LibCall → List (Value K) → Option (Row K E)
library at s calls.ObjectInit (v ∷ []) = Some (gives s [])
library at s (calls.ThrownInit class how) values = throwables.init s how values
library at s calls.AccessControlInit values = throwables.init s given.Message values
library at s calls.GetMessage values = throwables.message s values
library at s (calls.String call) values = texts.string s call values
library at s (calls.Builder call) values = texts.builder s call values
library at s calls.PrintEnd values = texts.print_end s at.thread values
library at s (calls.Print piece) values = texts.print s at.thread piece values
library at s (calls.PermissionInit call) values = permissions.init s at.cwd call values
library at s call values = None
