-- Calls of users' methods in typed states: what linking says of a call, which arguments a method may be given, and what a call is to do.
use Rattle.std.specs.Prelude.{◌≡◌, ◌⊎◌, ℕ, suc, Bool, true, false, List, [], ◌∷◌, ◌++◌, length, drop, reverse, Option, Some, option_map, slice_get}
use Rattle.std.specs.List.{AllByRecursion}
use Rattle.std.specs.Option.{IsSome, option_to_list}
use Rattle.std.specs.Str.{bytes_eq}
use Rattle.jclass.specs.declared.class.CodeBody.{CodeBody}
use Rattle.jclass.specs.declared.class.MemberInfo.{MemberInfo}
use Rattle.jlib.specs.declared.calls.LibCall.{LibCall}
use Rattle.jlib.specs.LibraryMembers as library_calls
use Rattle.jlib.specs.LibraryClasses as library
use Rattle.jvalues.specs.declared.jops.value.Value.{Value}
use Rattle.jvalues.specs.declared.jops.value.Value.TheVariants.{Ref}
use Rattle.jtypes.specs.declared.vtype.Name.{Name}
use Rattle.jtypes.specs.declared.vtype.VType.{VType}
use Rattle.jtypes.specs.declared.vtype.VType.TheVariants as types
use Rattle.jtypes.specs.TypeFrames.{Frame}
use Rattle.jresolution.specs.declared.jprogram.member.Member.{Member}
use Rattle.jresolution.specs.declared.jprogram.member.Member.TheVariants.{LibMethod, Method as AMethod}
use Rattle.jresolution.specs.declared.jprogram.member.MethodId.{MethodId}
use Rattle.jresolution.specs.declared.jprogram.part.ClassRef.TheVariants as refs
use Rattle.jresolution.specs.declared.jprogram.part.CodePart.{CodePart}
use Rattle.jresolution.specs.jprogram.ProgramClasses.{Program, extends, name_at}
use Rattle.jresolution.specs.jprogram.MemberResolution.{desc_of, info_of, init, is_abstract, is_static, name_of}
use Rattle.jresolution.specs.jprogram.OrderedPrograms.{StandsInOrder}
use Rattle.jresolution.specs.jprogram.ClassFileParts as parts
use Rattle.jresolution.specs.jprogram.ClassFileParts.{code_of}
use Rattle.jlinking.specs.jlink.NamedCalls.{IsNamedCall, begins}
use Rattle.jresolution.specs.declared.juses.meaning.InvokeKind.{InvokeKind}
use Rattle.jresolution.specs.declared.juses.meaning.InvokeKind.TheVariants as how
use Rattle.jresolution.specs.juses.IndexedInstructions.{Used}
use Rattle.jresolution.specs.juses.InstructionMeanings as meanings
use Rattle.jresolution.specs.juses.InstructionMeanings.{CallMeaning}
use Rattle.jresolution.specs.juses.DescriptorTypes.{Called, typed}
use Rattle.jtyping.specs.jrule.InstructionContext.{Here}
use Rattle.jtyping.specs.jrule.PoolEffects.{arguments, of_library, receiver}
use Rattle.jtyping.specs.jrule.LocalRule.{is_top}
use Rattle.jtyping.specs.jrule.TypingRule.{rule}
use Rattle.jtyping.specs.jwelltyped.DeclaredFrames.{first_frame}
use Rattle.jtyping.specs.jwelltyped.MethodPremises.{Method, here_of, method_of}
use Rattle.jsemantics.specs.jmachine.MachineStates.{FrameOf}
use Rattle.jsemantics.specs.jmachine.CallTargets.{Target, Fails, Pushes, Runs, receiver as oldest, target}
use Rattle.jsemantics.specs.jmachine.InstructionActions.{called, doing}
use Rattle.jsemantics.specs.jmachine.FrameOperations.{frame_of, with_operands}
use Rattle.jsemantics.specs.jmachine.Security.{Rules}
use Rattle.jsemantics.specs.jmachine.HeapObjects.{Object, class_of}
use Rattle.jsemantics.specs.jmachine.InstructionSites.{Site}
use Rattle.jsemantics.specs.jmachine.Store.{Store, object_at}
use Rattle.jsemantics.specs.jmachine.World.{World, world}
use Rattle.jsoundness_laws.specs.typed.RuntimeAssignability.{IsValueType}
use Rattle.jsoundness_laws.specs.typed.TypedFrames.{AllHave, AllHold, News, Suits}
use Rattle.jsoundness_laws.specs.typed.StoreGrowth.{Grows}
use Rattle.jsoundness_laws.specs.typed.ProgressLaws.{HasCode, IsAt}
use Rattle.jsoundness_laws.specs.typed.TypedValues.{AllServe, AreOf, CanBeThrown, HasDimensions, IsA, is_piece, is_whole}

-- ---- methods with code

-- a method with its class, and with its code
pub record Coded (p : Program) (m : MethodId) : Type 0 where
  pub part : CodePart
  pub info : MemberInfo
  pub body : CodeBody
  pub stands : slice_get p.parts m.class ≡ Some part
  pub declared : slice_get part.class.methods m.method ≡ Some info
  pub code : code_of info ≡ Some body

-- as typing knows it
abbrev pub method : (p : Program) (m : MethodId) → Coded p m → Method
method p m x = method_of p x.part.class x.info x.body

-- Each method of a program has code, if it isn't abstract.
abbrev pub AllHaveCode : Program → Type 0
AllHaveCode p = (m : MethodId) (part : CodePart) (info : MemberInfo) → slice_get p.parts m.class ≡ Some part
    → slice_get part.class.methods m.method ≡ Some info
    → parts.is_abstract info.flags ≡ false → IsSome (code_of info)

-- ---- what linking says of a call

abbrev pub is_static_call : InvokeKind → Bool
is_static_call how.Static = true
is_static_call by = false

-- how many operands a call takes: its arguments, and the object on which a method is called that isn't static (JVMS 6.5)
abbrev pub operand_count : InvokeKind → CallMeaning → ℕ
operand_count how.Static c = length c.params
operand_count by c = suc (length c.params)

-- The member has the types that the call says, and is static where the call is. A user's method is there, and with code it stands at or above the
-- class by which it is named; so does one of the library.
pub record IsCall (p : Program) (by : InvokeKind) (c : CallMeaning) : Type 0 where
  pub named : IsNamedCall p by c
  pub values : AllByRecursion IsValueType c.params
  pub dimensions : AllByRecursion HasDimensions c.params
  pub typed_as : typed p (desc_of p c.member) ≡ Called c.params c.ret
  pub static : is_static p c.member ≡ is_static_call by
  pub there : (m : MethodId) → c.member ≡ AMethod m → IsSome (info_of p (AMethod m))
  pub owned : (m : MethodId) → c.member ≡ AMethod m → is_abstract p (AMethod m) ≡ false → extends p c.owner.0 (name_at p (refs.User m.class)) ≡ true
  pub library : (x : LibCall) → c.member ≡ LibMethod x → HasCode x → extends p c.owner.0 (library.name_of (library_calls.owner x)) ≡ true

-- ---- arguments

-- what is known of values in a frame of a method
abbrev pub within : (p : Program) → Method → Here
within p m = here_of p m 0

-- The values, the newest first, are what a method may be given, and it returns what is wanted.
pub record IsGiven {K : Type 0} (p : Program) (s : Store K) (m : MethodId) (ret : Option VType) (arguments : List (Value K)) : Type 0 where
  pub coded : Coded p m
  pub news : News
  pub given : AllHave (world p) s (within p (method p m coded)) news (reverse (method p m coded).params) arguments
  pub returns : (method p m coded).returns ≡ ret

-- The values of a call of the library: its arguments, and where it isn't static an object of its class behind them.
abbrev pub IsReceived : {K : Type 0} → Program → Store K → LibCall → Bool → List (Value K) → List (Value K) → Type 0
IsReceived p s call true arguments values = values ≡ arguments
IsReceived p s call false arguments values = (n : ℕ) × (values ≡ arguments ++ Ref (suc n) ∷ [])
    × IsA (world p) s (of_library (library_calls.owner call)) (Ref (suc n))

-- A call of the library has code, and these values, the newest first, are what it may be given.
pub record IsRun {K : Type 0} (p : Program) (s : Store K) (call : LibCall) (ret : Option VType) (values : List (Value K)) : Type 0 where
  pub code : HasCode call
  pub params : List VType
  pub typed_as : typed p (library_calls.desc_of call) ≡ Called params ret
  pub arguments : List (Value K)
  pub given : AreOf (world p) s params arguments
  pub received : IsReceived p s call (library_calls.is_static call) arguments values

-- ---- what a call comes to

-- an exception that can be thrown, or a method that may be given the values, and returns what is wanted
abbrev pub IsTarget : {K : Type 0} → Program → Store K → Option VType → List (Value K) → Target → Type 0
IsTarget p s ret values (Fails class) = CanBeThrown class
IsTarget p s ret values (Pushes m) = IsGiven p s m ret values
IsTarget p s ret values (Runs call) = IsRun p s call ret values

-- ---- laws

-- With values that serve a call that is of no `<init>`, there is one that it comes to.
abbrev pub CallsComeTo : Type 0 → Type 0
CallsComeTo K = (p : Program) (at : Site) (s : Store K) (by : InvokeKind) (c : CallMeaning) (values : List (Value K))
    → StandsInOrder p → AllHaveCode p → at.world ≡ world p → begins by ≡ false → IsCall p by c
    → AllServe (world p) s (arguments c ++ receiver (at.world.named at.class) by c.owner) values
    → (t : Target) × (target at s by c values ≡ Some t) × IsTarget p s c.ret values t

-- a parameter stands for a value
abbrev pub IsParameter : VType → Type 0
IsParameter t = is_top t ≡ false

-- With what a method may be given, its frame begins as typing says.
abbrev pub FramesBegin : Type 0 → Type 0 → Type 0
FramesBegin K E = (w : World) (s : Store K) (here : Here) (news : News) (m : Method) (id : MethodId) (entry : E) (arguments : List (Value K))
    → AllByRecursion IsParameter m.params → AllHave w s here news (reverse m.params) arguments
    → Suits w s here news (first_frame m) (frame_of id entry arguments m.body)

-- A call is done: its operands are taken, and it comes to a method or raises an exception. What is left suits the frame before it, less the
-- call's operands, and the frame behind it, but for what is returned.
pub record CanCall {K E : Type 0} (r : Rules K E) (at : Site) (own : Member → Bool) (s : Store K) (entries : List E) (inherited : Option K)
    (p : Program)
    (here : Here) (news : News) (by : InvokeKind) (c : CallMeaning) (shape behind : Frame) (f : FrameOf K E) : Type 0 where
  pub values : List (Value K)
  pub under : List (Value K)
  pub left : AllHave (world p) s here news (drop (operand_count by c) shape.stack) under
  pub target : Target
  pub comes : IsTarget p s c.ret values target
  pub rest : List VType
  pub stack : behind.stack ≡ (option_to_list c.ret ++ rest)
  pub locals : AllHold (world p) s here news behind.locals f.locals
  pub operands : AllHave (world p) s here news rest under
  pub does : doing r at own s entries inherited (Used (meanings.Call by c)) f
      ≡ option_map (λ row. record { frame = with_operands f under; row = row }) (called r at own s entries inherited values target)

-- In a frame that suits, where the rule gives a frame behind a call that is of no `<init>`, the call is done.
abbrev pub CallsDo : Type 0 → Type 0 → Type 0
CallsDo K E = (r : Rules K E) (at : Site) (own : Member → Bool) (s : Store K) (entries : List E) (inherited : Option K)
    (p : Program) (here : Here) (news : News) (by : InvokeKind) (c : CallMeaning) (shape behind : Frame) (f : FrameOf K E)
    → StandsInOrder p → AllHaveCode p → IsAt p at own here → begins by ≡ false → IsCall p by c → Suits (world p) s here news shape f
    → rule p here (Used (meanings.Call by c)) shape ≡ Some behind → CanCall r at own s entries inherited p here news by c shape behind f

-- ---- calls of an `<init>`

-- what linking says of the class by which one is named: a user's `<init>` is of just that class, and so is one of the library
pub record IsInit (p : Program) (c : CallMeaning) : Type 0 where
  pub values : AllByRecursion IsValueType c.params
  pub dimensions : AllByRecursion HasDimensions c.params
  pub typed_as : typed p (desc_of p c.member) ≡ Called c.params c.ret
  pub static : is_static p c.member ≡ false
  pub named : bytes_eq (name_of p c.member) init ≡ true
  pub there : (m : MethodId) → c.member ≡ AMethod m → IsSome (info_of p (AMethod m))
  pub owned : (m : MethodId) → c.member ≡ AMethod m → name_at p (refs.User m.class) ≡ c.owner.0
  pub library : (x : LibCall) → c.member ≡ LibMethod x → library.name_of (library_calls.owner x) ≡ c.owner.0

-- The values of an `<init>` of the library: its arguments, and an object of its class, or one below, that may hold nothing yet.
pub record IsBegunBy {K : Type 0} (p : Program) (s : Store K) (owner : Name) (call : LibCall) (ret : Option VType)
    (values : List (Value K)) : Type 0 where
  pub code : HasCode call
  pub own : library.name_of (library_calls.owner call) ≡ owner.0
  pub static : library_calls.is_static call ≡ false
  pub named : bytes_eq (library_calls.name_of_call call) init ≡ true
  pub params : List VType
  pub typed_as : typed p (library_calls.desc_of call) ≡ Called params ret
  pub arguments : List (Value K)
  pub given : AreOf (world p) s params arguments
  pub number : ℕ
  pub is : values ≡ arguments ++ Ref (suc number) ∷ []
  pub object : Object K
  pub at : object_at s (suc number) ≡ Some object
  pub piece : is_piece object ≡ false
  pub class : (class_of (world p).named object ≡ types.Object owner) ⊎ IsA (world p) s (types.Object owner) (Ref (suc number))

abbrev pub IsInitTarget : {K : Type 0} → Program → Store K → CallMeaning → List (Value K) → Target → Type 0
IsInitTarget p s c values (Fails class) = CanBeThrown class
IsInitTarget p s c values (Pushes m) = IsGiven p s m c.ret values
IsInitTarget p s c values (Runs call) = IsBegunBy p s c.owner call c.ret values

-- the object of a number is there, and may be used
abbrev pub IsUsable : {K : Type 0} → Store K → ℕ → Type 0
IsUsable {K} t n = (x : Object K) × (object_at t n ≡ Some x) × (is_whole x ≡ true)

-- A call of an `<init>` is done. What is left suits the frame before it, less the call's operands. It suits the frame behind, but for what is
-- returned, in each store behind in which the object that it was called on may be used; a user's may be already.
pub record CanInit {K E : Type 0} (r : Rules K E) (at : Site) (own : Member → Bool) (s : Store K) (entries : List E) (inherited : Option K)
    (p : Program)
    (here : Here) (news : News) (c : CallMeaning) (shape behind : Frame) (f : FrameOf K E) : Type 0 where
  pub values : List (Value K)
  pub under : List (Value K)
  pub left : AllHave (world p) s here news (drop (operand_count how.Init c) shape.stack) under
  pub target : Target
  pub comes : IsInitTarget p s c values target
  pub class : Name
  pub number : ℕ
  pub on : oldest values ≡ Some (Ref number)
  pub whole : (t : Store K) → Grows (world p) s t → IsUsable t number → IsA (world p) t (types.Object class) (Ref number)
  pub rest : List VType
  pub stack : behind.stack ≡ (option_to_list c.ret ++ rest)
  pub ready : (t : Store K) → Grows (world p) s t → IsA (world p) t (types.Object class) (Ref number)
      → AllHold (world p) t here news behind.locals f.locals × AllHave (world p) t here news rest under
  pub usable : (m : MethodId) → target ≡ Pushes m → IsA (world p) s (types.Object class) (Ref number)
  pub does : doing r at own s entries inherited (Used (meanings.Call how.Init c)) f
      ≡ option_map (λ row. record { frame = with_operands f under; row = row }) (called r at own s entries inherited values target)

-- a class extends the one that typing knows above it
abbrev pub IsAboveHere : Program → Here → Type 0
IsAboveHere p here = (d : Name) → here.above ≡ Some d → extends p here.class.0 d.0 ≡ true

-- In a frame that suits, where the rule gives a frame behind a call of an `<init>`, the call is done.
abbrev pub InitsDo : Type 0 → Type 0 → Type 0
InitsDo K E = (r : Rules K E) (at : Site) (own : Member → Bool) (s : Store K) (entries : List E) (inherited : Option K)
    (p : Program) (here : Here) (news : News) (c : CallMeaning) (shape behind : Frame) (f : FrameOf K E)
    → StandsInOrder p → AllHaveCode p → IsAt p at own here → IsAboveHere p here → IsInit p c → Suits (world p) s here news shape f
    → rule p here (Used (meanings.Call how.Init c)) shape ≡ Some behind → CanInit r at own s entries inherited p here news c shape behind f
