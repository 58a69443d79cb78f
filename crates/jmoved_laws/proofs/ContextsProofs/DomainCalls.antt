-- Calls that are told a domain: those of `sps/Rt` but two. In an expansion each stands behind the instruction that pushes the method's own.
use Rattle.std.proofs.Common.{◌≡◌, ℕ, ℤ, zero, suc, Bool, true, false, List, [], ◌∷◌, map, Option, Some, None, refl, sym, ap, subst, ◌∙◌}
use Rattle.std.specs.Prelude.{slice_get}
use Rattle.std.specs.List.{AllByRecursion}
use Rattle.jlib.specs.declared.calls.ControllerCall.{ControllerCall}
use Rattle.jlib.specs.declared.calls.ControllerCall.TheVariants as controller
use Rattle.jlib.specs.declared.calls.LibCall.{LibCall}
use Rattle.jlib.specs.declared.calls.LibCall.TheVariants as calls
use Rattle.jlib.specs.declared.calls.RtCall.{RtCall}
use Rattle.jlib.specs.declared.calls.RtCall.TheVariants as rt
use Rattle.jlib.specs.declared.calls.ThreadCall.TheVariants as threads
use Rattle.jresolution.specs.declared.jprogram.member.Member.{Member}
use Rattle.jresolution.specs.declared.jprogram.member.Member.TheVariants.{Field, LibField, LibMethod, Method}
use Rattle.jresolution.specs.declared.jprogram.member.MethodId.{MethodId}
use Rattle.jresolution.specs.jprogram.ProgramClasses.{Program}
use Rattle.jresolution.proofs.JprogramProofs.NameReachability.{clash}
use Rattle.jresolution.specs.declared.juses.meaning.InvokeKind.{InvokeKind}
use Rattle.jresolution.specs.juses.IndexedInstructions.{Instruction, Simple, Local, Stack, Jump, Switch, Return, Throw, Array, Used, targets}
use Rattle.jresolution.specs.juses.InstructionMeanings as meanings
use Rattle.jresolution.specs.juses.InstructionMeanings.{CallMeaning, Meaning}
use Rattle.jsemantics.specs.jmachine.MachineSteps.{fetched}
use Rattle.jsimulation_laws.specs.relation.InstructionExpansion.{Alone, Asking, Handed, Place, Way, asking, call_rt, calling, expanded, handed, handing, keep, led_case, library_way, load, moved_member, passing, prologue, push, way_of}

-- ---- what is told a domain

abbrev pub tells : RtCall → Bool
tells rt.Enter = true
tells rt.Check = false
tells rt.Snapshot = false
tells rt.Privileged = true
tells rt.PrivilegedWith = true
tells rt.PrivilegedLimited = true

abbrev pub told_library : LibCall → Bool
told_library (calls.Rt call) = tells call
told_library call = false

abbrev pub told_member : Member → Bool
told_member (LibMethod call) = told_library call
told_member m = false

abbrev pub told_meaning : Meaning → Bool
told_meaning (meanings.Call by c) = told_member c.member
told_meaning m = false

abbrev pub is_told : Instruction → Bool
is_told (Used m) = told_meaning m
is_told i = false

abbrev pub told_in : Option Instruction → Bool
told_in None = false
told_in (Some i) = is_told i

-- the instruction of a number is such a call
abbrev pub told_at : Program → MethodId → ℕ → Bool
told_at q m k = told_in (fetched q m k)

-- ---- behind which instruction

-- The instruction of a number among some stands behind the one that pushes the domain.
pub record IsBehind (place : Place) (xs : List Instruction) (j : ℕ) : Type 0 where
  pub before : ℕ
  pub is : j ≡ suc before
  pub there : slice_get xs before ≡ Some (push place.domain)

-- one that isn't told a domain is none that is
not_told : {P : Type 0} (y x : Instruction) → is_told y ≡ false → Some y ≡ Some x → is_told x ≡ true → P
not_told y x quiet at told =
    let same : y ≡ x = cc in
    clash (is_told y) (ap is_told same ∙ told) quiet

alone_told : {P : Type 0} (y : Instruction) → is_told y ≡ false → (j : ℕ) (x : Instruction) → slice_get (y ∷ []) j ≡ Some x → is_told x ≡ true → P
alone_told y quiet zero x at told = not_told y x quiet at told
alone_told y quiet (suc j) x at told = absurd cc

asking_told : (place : Place) (call : ControllerCall) (j : ℕ) (x : Instruction) → slice_get (asking place call) j ≡ Some x → is_told x ≡ true → IsBehind place (asking place call) j
asking_told place controller.Check zero x at told = not_told (load place.local) x refl at told
asking_told place controller.Check (suc zero) x at told = not_told (call_rt rt.Check) x refl at told
asking_told place controller.Check (suc (suc j)) x at told = absurd cc
asking_told place controller.Snapshot zero x at told = not_told (load place.local) x refl at told
asking_told place controller.Snapshot (suc zero) x at told = not_told (call_rt rt.Snapshot) x refl at told
asking_told place controller.Snapshot (suc (suc j)) x at told = absurd cc
asking_told place controller.Privileged zero x at told = not_told (push place.domain) x refl at told
asking_told place controller.Privileged (suc zero) x at told = record { before = 0; is = refl; there = refl }
asking_told place controller.Privileged (suc (suc j)) x at told = absurd cc
asking_told place controller.PrivilegedWith zero x at told = not_told (push place.domain) x refl at told
asking_told place controller.PrivilegedWith (suc zero) x at told = record { before = 0; is = refl; there = refl }
asking_told place controller.PrivilegedWith (suc (suc j)) x at told = absurd cc
asking_told place controller.PrivilegedLimited zero x at told = not_told (load place.local) x refl at told
asking_told place controller.PrivilegedLimited (suc zero) x at told = not_told (push place.domain) x refl at told
asking_told place controller.PrivilegedLimited (suc (suc zero)) x at told = record { before = 1; is = refl; there = refl }
asking_told place controller.PrivilegedLimited (suc (suc (suc j))) x at told = absurd cc

-- what is handed a context is told no domain
handed_library : (call : LibCall) → library_way call ≡ Handed → told_library (passing call) ≡ false
handed_library (calls.Run side) w = refl
handed_library (calls.RunAction side) w = refl
handed_library (calls.Thread (threads.Init side)) w = refl
handed_library (calls.Thread threads.Start) w = refl
handed_library (calls.Thread threads.Join) w = refl
handed_library (calls.Thread threads.Yield) w = refl
handed_library (calls.Controller call) w = refl
handed_library calls.ObjectInit w = refl
handed_library (calls.ThrownInit class how) w = refl
handed_library calls.AccessControlInit w = refl
handed_library calls.GetMessage w = refl
handed_library (calls.String call) w = refl
handed_library (calls.Builder call) w = refl
handed_library calls.Out w = refl
handed_library calls.PrintEnd w = refl
handed_library (calls.Print piece) w = refl
handed_library calls.ContextCheck w = refl
handed_library (calls.PermissionInit one) w = refl
handed_library (calls.Rt call) w = absurd cc

handed_member : (m : Member) → way_of m ≡ Handed → told_member (moved_member m) ≡ false
handed_member (Method m) w = refl
handed_member (LibMethod call) w = handed_library call w
handed_member (Field i j) w = refl
handed_member LibField w = refl

handing_told : (place : Place) (by : InvokeKind) (c : CallMeaning) → way_of c.member ≡ Handed → (j : ℕ) (x : Instruction) → slice_get (handing place by c) j ≡ Some x → is_told x ≡ true
    → IsBehind place (handing place by c) j
handing_told place by c w zero x at told = not_told (load place.local) x refl at told
handing_told place by c w (suc zero) x at told = not_told (Used (meanings.Call by (handed c))) x (handed_member c.member w) at told
handing_told place by c w (suc (suc j)) x at told = absurd cc

calling_told : (place : Place) (by : InvokeKind) (c : CallMeaning) → told_member c.member ≡ false → (w : Way) → way_of c.member ≡ w → (j : ℕ) (x : Instruction)
    → slice_get (calling place by c w) j ≡ Some x → is_told x ≡ true → IsBehind place (calling place by c w) j
calling_told place by c quiet Handed w j x at told = handing_told place by c w j x at told
calling_told place by c quiet (Asking call) w j x at told = asking_told place call j x at told
calling_told place by c quiet Alone w j x at told = alone_told (Used (meanings.Call by c)) quiet j x at told

-- In an expansion of what isn't told a domain, what is stands behind the instruction that pushes it.
pub expanded_told : (place : Place) (to : ℕ → ℕ) (it : Instruction) → is_told it ≡ false → (j : ℕ) (x : Instruction) → slice_get (expanded place to it) j ≡ Some x
    → is_told x ≡ true → IsBehind place (expanded place to it) j
expanded_told place to (Simple f) quiet j x at told = alone_told (Simple f) refl j x at told
expanded_told place to (Local f) quiet j x at told = alone_told (Local f) refl j x at told
expanded_told place to (Stack op) quiet j x at told = alone_told (Stack op) refl j x at told
expanded_told place to (Jump test n) quiet j x at told = alone_told (Jump test (to n)) refl j x at told
expanded_told place to (Switch found other) quiet j x at told = alone_told (Switch (map (led_case to) found) (to other)) refl j x at told
expanded_told place to (Return kind) quiet j x at told = alone_told (Return kind) refl j x at told
expanded_told place to Throw quiet j x at told = alone_told Throw refl j x at told
expanded_told place to (Array f) quiet j x at told = alone_told (Array f) refl j x at told
expanded_told place to (Used (meanings.Push c)) quiet j x at told = alone_told (Used (meanings.Push c)) refl j x at told
expanded_told place to (Used (meanings.Field op f)) quiet j x at told = alone_told (Used (meanings.Field op f)) refl j x at told
expanded_told place to (Used (meanings.Make c)) quiet j x at told = alone_told (Used (meanings.Make c)) refl j x at told
expanded_told place to (Used (meanings.MakeArray t)) quiet j x at told = alone_told (Used (meanings.MakeArray t)) refl j x at told
expanded_told place to (Used (meanings.Cast op t)) quiet j x at told = alone_told (Used (meanings.Cast op t)) refl j x at told
expanded_told place to (Used (meanings.Call by c)) quiet j x at told = calling_told place by c quiet (way_of c.member) refl j x at told

-- and so in what a body begins with
pub prologue_told : (slots : ℕ) (place : Place) (j : ℕ) (x : Instruction) → slice_get (prologue slots place) j ≡ Some x → is_told x ≡ true → IsBehind place (prologue slots place) j
prologue_told slots place zero x at told = not_told (load slots) x refl at told
prologue_told slots place (suc zero) x at told = not_told (push place.domain) x refl at told
prologue_told slots place (suc (suc zero)) x at told = record { before = 1; is = refl; there = refl }
prologue_told slots place (suc (suc (suc zero))) x at told = not_told (keep place.local) x refl at told
prologue_told slots place (suc (suc (suc (suc j)))) x at told = absurd cc

-- ---- where instructions lead

-- all that lead nowhere
abbrev LeadNowhere : List Instruction → Type 0
LeadNowhere xs = AllByRecursion (λ y. targets y ≡ []) xs

nowhere : (xs : List Instruction) → LeadNowhere xs → (j : ℕ) (x : Instruction) → slice_get xs j ≡ Some x → targets x ≡ []
nowhere [] all j x at = absurd cc
nowhere (y ∷ xs) all zero x at = let same : y ≡ x = cc in ap targets (sym same) ∙ all.0
nowhere (y ∷ xs) all (suc j) x at = nowhere xs all.1 j x at

module _ (P : ℕ → Type 0) where
  abbrev Leads : Instruction → Type 0
  Leads x = AllByRecursion P (targets x)

  leads_none : (x : Instruction) → targets x ≡ [] → Leads x
  leads_none x e = subst (AllByRecursion P) (sym e) tt

  alone_leads : (y : Instruction) → Leads y → (j : ℕ) (x : Instruction) → slice_get (y ∷ []) j ≡ Some x → Leads x
  alone_leads y h zero x at = let same : y ≡ x = cc in subst Leads same h
  alone_leads y h (suc j) x at = absurd cc

  cases_lead : (to : ℕ → ℕ) (found : List (ℤ × ℕ)) → AllByRecursion (λ n. P (to n)) (map (λ c. c.1) found) → AllByRecursion P (map (λ c. c.1) (map (led_case to) found))
  cases_lead to [] h = tt
  cases_lead to (c ∷ found) h = (h.0, cases_lead to found h.1)

  calling_leads : (place : Place) (by : InvokeKind) (c : CallMeaning) (w : Way) (j : ℕ) (x : Instruction) → slice_get (calling place by c w) j ≡ Some x → targets x ≡ []
  calling_leads place by c Handed j x at = nowhere (handing place by c) (refl, (refl, tt)) j x at
  calling_leads place by c (Asking controller.Check) j x at = nowhere (asking place controller.Check) (refl, (refl, tt)) j x at
  calling_leads place by c (Asking controller.Snapshot) j x at = nowhere (asking place controller.Snapshot) (refl, (refl, tt)) j x at
  calling_leads place by c (Asking controller.Privileged) j x at = nowhere (asking place controller.Privileged) (refl, (refl, tt)) j x at
  calling_leads place by c (Asking controller.PrivilegedWith) j x at = nowhere (asking place controller.PrivilegedWith) (refl, (refl, tt)) j x at
  calling_leads place by c (Asking controller.PrivilegedLimited) j x at = nowhere (asking place controller.PrivilegedLimited) (refl, (refl, (refl, tt))) j x at
  calling_leads place by c Alone j x at = nowhere (Used (meanings.Call by c) ∷ []) (refl, tt) j x at

  -- An instruction of an expansion leads to where the expansions of the targets begin.
  pub expanded_leads : (place : Place) (to : ℕ → ℕ) (it : Instruction) → AllByRecursion (λ n. P (to n)) (targets it) → (j : ℕ) (x : Instruction) → slice_get (expanded place to it) j ≡ Some x → Leads x
  expanded_leads place to (Simple f) h j x at = alone_leads (Simple f) tt j x at
  expanded_leads place to (Local f) h j x at = alone_leads (Local f) tt j x at
  expanded_leads place to (Stack op) h j x at = alone_leads (Stack op) tt j x at
  expanded_leads place to (Jump test n) h j x at = alone_leads (Jump test (to n)) (h.0, tt) j x at
  expanded_leads place to (Switch found other) h j x at = alone_leads (Switch (map (led_case to) found) (to other)) (h.0, cases_lead to found h.1) j x at
  expanded_leads place to (Return kind) h j x at = alone_leads (Return kind) tt j x at
  expanded_leads place to Throw h j x at = alone_leads Throw tt j x at
  expanded_leads place to (Array f) h j x at = alone_leads (Array f) tt j x at
  expanded_leads place to (Used (meanings.Push c)) h j x at = alone_leads (Used (meanings.Push c)) tt j x at
  expanded_leads place to (Used (meanings.Field op f)) h j x at = alone_leads (Used (meanings.Field op f)) tt j x at
  expanded_leads place to (Used (meanings.Make c)) h j x at = alone_leads (Used (meanings.Make c)) tt j x at
  expanded_leads place to (Used (meanings.MakeArray t)) h j x at = alone_leads (Used (meanings.MakeArray t)) tt j x at
  expanded_leads place to (Used (meanings.Cast op t)) h j x at = alone_leads (Used (meanings.Cast op t)) tt j x at
  expanded_leads place to (Used (meanings.Call by c)) h j x at = leads_none x (calling_leads place by c (way_of c.member) j x at)

  pub prologue_leads : (slots : ℕ) (place : Place) (j : ℕ) (x : Instruction) → slice_get (prologue slots place) j ≡ Some x → Leads x
  prologue_leads slots place j x at = leads_none x (nowhere (prologue slots place) (refl, (refl, (refl, (refl, tt)))) j x at)
