-- The rule of `new` and of calls of an `<init>` (JVMS 4.10.1.9, new and invokespecial).
use Rattle.std.specs.Prelude.{ℕ, Bool, false, ◌==◌, ◌&&◌, ◌||◌, not, List, ◌∷◌, map, Option, Some, None, option_and_then, if◌then◌else◌}
use Rattle.std.specs.List.{list_any}
use Rattle.std.specs.Str.{bytes_eq}
use Rattle.jtypes.specs.declared.vtype.Name.{Name}
use Rattle.jtypes.specs.declared.vtype.VType.{VType}
use Rattle.jtypes.specs.declared.vtype.VType.TheVariants.{Top, UninitThis, Uninit, Object}
use Rattle.jtypes.specs.TypeFrames.{Frame}
use Rattle.jtypes.specs.ClassTrees.{Tree}
use Rattle.jresolution.specs.juses.InstructionMeanings.{CallMeaning}
use Rattle.jtyping.specs.declared.jrule.unready.Unready.{Unready}
use Rattle.jtyping.specs.declared.jrule.unready.Unready.TheVariants as unready
use Rattle.jtyping.specs.jrule.StackEffects.{is_uninit_this}
use Rattle.jtyping.specs.jrule.InstructionContext.{Here}
use Rattle.jtyping.specs.jrule.StackOperands.{given, pushed, taken}
use Rattle.jtyping.specs.jrule.PoolEffects.{arguments}

-- ---- objects before their `<init>`

abbrev pub is_it : Unready → VType → Bool
is_it x a = elim x [ unready.This ↦ is_uninit_this a | unready.New o ↦ elim a [ Uninit at ↦ at == o | _ ↦ false ] ]

abbrev pub all_replaced : Unready → VType → List VType → List VType
all_replaced old new = map (λ a. if is_it old a then new else a)

-- ---- new

-- What the same `new` made before is not to be taken for the new object: none may stand on the stack, and locals lose theirs.
abbrev pub make : ℕ → ℕ → Frame → Option Frame
make most at f =
    if list_any (is_it (unready.New at)) f.stack then None
    else pushed most (Uninit at) (record { locals = all_replaced (unready.New at) Top f.locals; stack = f.stack; flag = f.flag })

-- ---- calls of an `<init>`

abbrev pub same_name : Name → Name → Bool
same_name c d = bytes_eq c.0 d.0

abbrev pub is_named : Name → Option Name → Bool
is_named c = elim [ None ↦ false | Some d ↦ same_name c d ]

-- an `<init>` of this class or of the one above it, where no handler could see `this` half done
abbrev pub may_ready_this : Here → Name → Bool
may_ready_this here owner = not here.covered && (same_name owner here.class || is_named owner here.above)

-- every copy of the object is of its class
abbrev pub readied : Unready → Name → Bool → List VType → List VType → Frame
readied it class flag locals stack =
    record { locals = all_replaced it (Object class) locals; stack = all_replaced it (Object class) stack; flag = flag }

abbrev pub init_on : Here → Name → Frame → List VType → Option Frame
init_on here owner f (Uninit o ∷ stack) = if is_named owner (here.makes o) then Some (readied (unready.New o) owner f.flag f.locals stack) else None
init_on here owner f (UninitThis ∷ stack) = if may_ready_this here owner then Some (readied unready.This here.class false f.locals stack) else None
init_on here owner f stack = None

abbrev pub init : Tree → Here → CallMeaning → Frame → Option Frame
init t here c f = option_and_then (given here.max_stack c.ret) (option_and_then (λ f. init_on here c.owner f f.stack) (taken t (arguments c) f))
