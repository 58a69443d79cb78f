-- What a call of doPrivileged is given (class documentation of AccessController); on the passing side the domain is told in front, and a
-- context where permissions limit the privilege.
use Rattle.std.specs.Prelude.{ℕ, List, [], ◌∷◌, Option, Some, None, option_map, option_and_then}
use Rattle.std.specs.Int.{w32, cast_unsigned}
use Rattle.jlib.specs.declared.calls.ControllerCall.TheVariants as controller
use Rattle.jlib.specs.declared.calls.LibCall.{LibCall}
use Rattle.jlib.specs.declared.calls.LibCall.TheVariants as calls
use Rattle.jlib.specs.declared.calls.RtCall.TheVariants as rt
use Rattle.jlib.specs.declared.side.Side.{Side}
use Rattle.jlib.specs.declared.side.Side.TheVariants.{Source, Passing}
use Rattle.jvalues.specs.declared.jops.value.Value.{Value}
use Rattle.jvalues.specs.declared.jops.value.Value.TheVariants.{Int, Ctx}
use Rattle.jlibcalls.specs.declared.jcontexts.requests.PrivilegedForm.{PrivilegedForm}
use Rattle.jlibcalls.specs.declared.jcontexts.requests.PrivilegedForm.TheVariants as forms
use Rattle.jlibcalls.specs.declared.jcontexts.requests.Besides.TheVariants as besides
use Rattle.jlibcalls.specs.declared.jcontexts.requests.Request.{Request}

-- the call of a form on a side
abbrev pub call_of : Side → PrivilegedForm → LibCall
call_of Source forms.Alone = calls.Controller controller.Privileged
call_of Source forms.Within = calls.Controller controller.PrivilegedWith
call_of Source forms.Limited = calls.Controller controller.PrivilegedLimited
call_of Passing forms.Alone = calls.Rt rt.Privileged
call_of Passing forms.Within = calls.Rt rt.PrivilegedWith
call_of Passing forms.Limited = calls.Rt rt.PrivilegedLimited

-- how many operands it takes
abbrev pub taken_by : Side → PrivilegedForm → ℕ
taken_by Source forms.Alone = 1
taken_by Source forms.Within = 2
taken_by Source forms.Limited = 3
taken_by Passing forms.Alone = 2
taken_by Passing forms.Within = 3
taken_by Passing forms.Limited = 5

-- ---- operands

-- a domain, as a moved method writes it
abbrev pub domain_in : Value ℕ → Option ℕ
domain_in (Int d) = Some (cast_unsigned w32 d)
domain_in v = None

abbrev pub context_in : Value ℕ → Option ℕ
context_in (Ctx k) = Some k
context_in v = None

-- ---- requests

abbrev pub alone_of : Option ℕ → Value ℕ → Request
alone_of domain v = record { domain = domain; besides = besides.Nothing; action = v }

abbrev pub within_of : Option ℕ → Value ℕ → Value ℕ → Request
within_of domain context v = record { domain = domain; besides = besides.Context context; action = v }

abbrev pub limited_of : Option ℕ → Option ℕ → Value ℕ → Value ℕ → Value ℕ → Request
limited_of domain ctx array context v = record { domain = domain; besides = besides.Limits ctx array context; action = v }

abbrev pub limited_with : Value ℕ → Value ℕ → Value ℕ → Value ℕ → ℕ → Option Request
limited_with k array context v n = option_map (λ c. limited_of (Some n) (Some c) array context v) (context_in k)

-- what the operands of a call ask for, the newest first
abbrev pub requested : Side → PrivilegedForm → List (Value ℕ) → Option Request
requested Source forms.Alone (v ∷ []) = Some (alone_of None v)
requested Source forms.Within (context ∷ v ∷ []) = Some (within_of None context v)
requested Source forms.Limited (array ∷ context ∷ v ∷ []) = Some (limited_of None None array context v)
requested Passing forms.Alone (d ∷ v ∷ []) = option_map (λ n. alone_of (Some n) v) (domain_in d)
requested Passing forms.Within (d ∷ context ∷ v ∷ []) = option_map (λ n. within_of (Some n) context v) (domain_in d)
requested Passing forms.Limited (d ∷ k ∷ array ∷ context ∷ v ∷ []) = option_and_then (limited_with k array context v) (domain_in d)
requested side form values = None
