-- Calls that come to the library: their values are what a member is called with.
use Rattle.std.proofs.Common.{◌≡◌, ℕ, suc, ◌⊎◌, inl, inr, Bool, true, false, List, [], ◌∷◌, ◌++◌, Option, refl, sym, ap, subst, ◌∙◌}
use Rattle.std.specs.Prelude.{if◌then◌else◌}
use Rattle.std.specs.Str.{bytes_eq}
use Rattle.jlib.specs.declared.calls.LibCall.{LibCall}
use Rattle.jlib.specs.LibraryMembers as library_calls
use Rattle.jlib.specs.LibraryClasses as library
use Rattle.jvalues.specs.declared.jops.value.Value.{Value}
use Rattle.jvalues.specs.declared.jops.value.Value.TheVariants.{Ref}
use Rattle.jtypes.specs.declared.vtype.Name.{Name}
use Rattle.jtypes.specs.declared.vtype.VType.{VType}
use Rattle.jtypes.specs.declared.vtype.VType.TheVariants as types
use Rattle.jresolution.specs.jprogram.ProgramClasses.{Program}
use Rattle.jresolution.specs.jprogram.MemberResolution.{init}
use Rattle.jresolution.specs.declared.juses.meaning.InvokeKind.{InvokeKind}
use Rattle.jresolution.specs.declared.juses.meaning.InvokeKind.TheVariants as how
use Rattle.jresolution.specs.juses.DescriptorTypes.{name}
use Rattle.jtyping.specs.jrule.PoolEffects.{of_library}
use Rattle.jsemantics.specs.jmachine.InstructionActions.{run}
use Rattle.jsemantics.specs.jmachine.HeapObjects.{class_of}
use Rattle.jsemantics.specs.jmachine.Store.{Store}
use Rattle.jsemantics.specs.jmachine.World.{World, world}
use Rattle.jsoundness_laws.specs.typed.TypedCalls.{IsBegunBy, IsReceived, IsRun}
use Rattle.jsoundness_laws.specs.typed.TypedValues.{AreOf, IsA}
use Rattle.jsoundness_laws.specs.library.LibraryArguments.{AreGiven, AreOn, IsBegun, IsReceiver, way_of}
use Rattle.jsoundness_laws.specs.library.YieldLaws.{InitsYield, RunsYield}
use Rattle.jsoundness_laws.specs.library.LibraryResults.{Yields}
use Rattle.jsoundness_laws.proofs.LibraryProofs.LibraryRules.{library_yields}
use Rattle.jsoundness_laws.proofs.LibraryProofs.Objects.{named}
use Rattle.jsoundness_laws.proofs.LibraryProofs.LibraryCallRows.{not_piece, not_zero}

no_more : {A : Type 0} (xs : List A) → xs ++ [] ≡ xs
no_more [] = refl
no_more (x ∷ xs) = ap (λ xs. x ∷ xs) (no_more xs)

abbrev way_by : Bool → Bool → InvokeKind
way_by static begins = if static then how.Static else (if begins then how.Init else how.Virtual)

module _ {K : Type 0} (w : World) (s : Store K) where
  -- values of these types in front of the others
  on_front : (R : List (Value K) → Type 0) (ts : List VType) (values rest : List (Value K)) → AreOf w s ts values → R rest → AreOn w s R ts (values ++ rest)
  on_front R [] [] rest are h = h
  on_front R [] (v ∷ values) rest are h = absurd are
  on_front R (t ∷ ts) [] rest are h = absurd are
  on_front R (t ∷ ts) (v ∷ values) rest are h = (are.0, on_front R ts values rest are.1 h)

  -- an object that may be used may be begun again
  begun_of : (call : LibCall) (n : ℕ) → IsA w s (of_library (library_calls.owner call)) (Ref (suc n)) → IsBegun w s (library_calls.owner call) (suc n)
  begun_of call n is =
      let x = named w s (of_library (library_calls.owner call)) (suc n) (not_zero n) is in
      record { object = x.object; there = x.there; whole = not_piece x.object x.whole; ready = inr (x.whole, x.fit) }

  received : (call : LibCall) (params : List VType) (arguments : List (Value K)) → AreOf w s params arguments → (begins static : Bool) (rest : List (Value K))
      → IsReceiver w s (way_by static begins) (library_calls.owner call) rest
      → AreOn w s (IsReceiver w s (way_by static begins) (library_calls.owner call)) params (arguments ++ rest)
  received call params arguments are begins static rest h = on_front (IsReceiver w s (way_by static begins) (library_calls.owner call)) params arguments rest are h

  behind : (call : LibCall) (begins : Bool) (n : ℕ) → IsA w s (of_library (library_calls.owner call)) (Ref (suc n))
      → IsReceiver w s (way_by false begins) (library_calls.owner call) (Ref (suc n) ∷ [])
  behind call true n is = (suc n, refl, begun_of call n is)
  behind call false n is = (suc n, refl, not_zero n, is)

module _ {K : Type 0} (p : Program) (s : Store K) where
  abbrev GivenBy : LibCall → Bool → Bool → List VType → List (Value K) → Type 0
  GivenBy call static begins params values = AreOn (world p) s (IsReceiver (world p) s (way_by static begins) (library_calls.owner call)) params values

  given_by : (call : LibCall) (params : List VType) (arguments values : List (Value K)) (begins static : Bool)
      → AreOf (world p) s params arguments → IsReceived p s call static arguments values
      → GivenBy call static begins params values
  given_by call params arguments values begins true are same =
      subst (λ values. GivenBy call true begins params values) (no_more arguments ∙ sym same) (received (world p) s call params arguments are begins true [] refl)
  given_by call params arguments values begins false are more =
      subst (λ values. GivenBy call false begins params values) (sym more.1)
      (received (world p) s call params arguments are begins false (Ref (suc more.0) ∷ []) (behind (world p) s call begins more.0 more.2))

  run_given : (call : LibCall) (ret : Option VType) (values : List (Value K)) (x : IsRun p s call ret values) → AreGiven (world p) s call x.params values
  run_given call ret values x = given_by call x.params x.arguments values (bytes_eq (library_calls.name_of_call call) init) (library_calls.is_static call) x.given x.received

  -- ---- an `<init>`

  object_named : (owner : Name) (call : LibCall) → library.name_of (library_calls.owner call) ≡ owner.0 → types.Object owner ≡ of_library (library_calls.owner call)
  object_named owner call own = ap (λ text. types.Object (name text)) (sym own)

  init_begun : (owner : Name) (call : LibCall) (ret : Option VType) (values : List (Value K)) (x : IsBegunBy p s owner call ret values)
      → (class_of (world p).named x.object ≡ types.Object owner) ⊎ IsA (world p) s (types.Object owner) (Ref (suc x.number))
      → IsBegun (world p) s (library_calls.owner call) (suc x.number)
  init_begun owner call ret values x (inl just) = record { object = x.object; there = x.at; whole = x.piece; ready = inl (just ∙ object_named owner call x.own) }
  init_begun owner call ret values x (inr is) = begun_of (world p) s call x.number (subst (λ t. IsA (world p) s t (Ref (suc x.number))) (object_named owner call x.own) is)

  init_given : (owner : Name) (call : LibCall) (ret : Option VType) (values : List (Value K)) (x : IsBegunBy p s owner call ret values)
      → way_of call ≡ how.Init → AreGiven (world p) s call x.params values
  init_given owner call ret values x way =
      subst (λ by. AreOn (world p) s (IsReceiver (world p) s by (library_calls.owner call)) x.params values) (sym way)
      (subst (λ values. AreOn (world p) s (IsReceiver (world p) s how.Init (library_calls.owner call)) x.params values) (sym x.is)
      (on_front (world p) s (IsReceiver (world p) s how.Init (library_calls.owner call)) x.params x.arguments (Ref (suc x.number) ∷ []) x.given
      (suc x.number, refl, init_begun owner call ret values x x.class)))

-- ---- the laws

pub runs_yield : (K E : Type 0) → RunsYield K E
runs_yield K E r at own s entries inherited p statics call ret values good is side sided stored x =
    library_yields K E call r at own s entries inherited p statics x.params ret values good is side sided stored x.code x.typed_as
    (subst (λ w. AreGiven w s call x.params values) (sym is) (run_given p s call ret values x))

pub inits_yield : (K E : Type 0) → InitsYield K E
inits_yield K E r at own s entries inherited p statics owner call ret values good is side sided stored way x =
    subst (λ by. Yields r.side at s statics by values ret (run r at own s entries inherited call values)) way
    (library_yields K E call r at own s entries inherited p statics x.params ret values good is side sided stored x.code x.typed_as
    (subst (λ w. AreGiven w s call x.params values) (sym is) (init_given p s owner call ret values x way)))
