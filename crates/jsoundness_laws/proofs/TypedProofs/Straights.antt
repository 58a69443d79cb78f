-- From the typing rule's frame to the machine's row, for straight instructions.
use Rattle.std.proofs.Common.{◌≡◌, Bool, List, [], ◌∷◌, Option, Some, None, refl, sym, ap, subst, ◌∙◌}
use Rattle.jvalues.specs.declared.jnames.kinds.Kind.TheVariants as kinds
use Rattle.jparts.specs.declared.jcode.names.CastOp.TheVariants as casts
use Rattle.jparts.specs.declared.jcode.names.FieldOp.{FieldOp}
use Rattle.jparts.specs.declared.jcode.op_form.ArrayForm.TheVariants as arrays
use Rattle.jparts.specs.jcode.InstructionForms.{array_effect, listed, simple_effect}
use Rattle.jtypes.specs.declared.vtype.ArrayType.{ArrayType}
use Rattle.jtypes.specs.declared.vtype.Name.{Name}
use Rattle.jtypes.specs.declared.vtype.VType.{VType}
use Rattle.jtypes.specs.declared.vtype.VType.TheVariants as types
use Rattle.jtypes.specs.Assignability as checked
use Rattle.jtypes.specs.TypeFrames.{Frame}
use Rattle.jresolution.specs.declared.jprogram.member.Member.{Member}
use Rattle.jresolution.specs.jprogram.ProgramClasses.{Program, tree}
use Rattle.jresolution.specs.jprogram.OrderedPrograms.{StandsInOrder}
use Rattle.jresolution.specs.juses.IndexedInstructions.{Simple, Local, Stack, Jump, Switch, Return, Throw, Array, Used}
use Rattle.jresolution.specs.juses.InstructionMeanings as meanings
use Rattle.jresolution.specs.juses.InstructionMeanings.{FieldMeaning}
use Rattle.jtyping.specs.jrule.ArrayRule.{of_numbers, row}
use Rattle.jtyping.specs.jrule.StackEffects.{gives, Fits, Of, by_effect, of_kinds}
use Rattle.jtyping.specs.jrule.InstructionContext.{Here}
use Rattle.jtyping.specs.jrule.StackOperands.{exchanged}
use Rattle.jtyping.specs.jrule.TypingRule.{is_own, rule}
use Rattle.jtyping.specs.jrule.BasicRule.{tested}
use Rattle.jtyping.specs.jrule.PoolEffects.{constant, exchange, of_field, throwable}
use Rattle.jtyping.specs.ProofNames.{of_cast}
use Rattle.jsemantics.specs.jmachine.MachineStates.{FrameOf}
use Rattle.jsemantics.specs.jmachine.InstructionActions.{by, doing, used}
use Rattle.jsemantics.specs.jmachine.ArrayInstructions as array_rows
use Rattle.jsemantics.specs.jmachine.ObjectInstructions.{cast, push}
use Rattle.jsemantics.specs.jmachine.Security.{Rules}
use Rattle.jsemantics.specs.jmachine.InstructionSites.{Site}
use Rattle.jsemantics.specs.jmachine.Store.{Store}
use Rattle.jsemantics.specs.jmachine.BasicInstructions.{holding, jump, local, simple, stack, switch, throw}
use Rattle.jsemantics.specs.jmachine.World.{World, world}
use Rattle.jsoundness_laws.specs.typed.TypedActions.{CanDo}
use Rattle.jsoundness_laws.specs.typed.TypedFrames.{News, Suits}
use Rattle.jsoundness_laws.specs.typed.ProgressLaws.{IsAt, StraightDoes}
use Rattle.jsoundness_laws.specs.typed.TypedStores.{IsStored}
use Rattle.jsoundness_laws.specs.typed.TypedUses.{static_types}
use Rattle.jsoundness_laws.specs.typed.TypedValues.{HasDimensions}
use Rattle.jsoundness_laws.proofs.TypedProofs.ArrayAccess.{load_does, store_does}
use Rattle.jsoundness_laws.proofs.TypedProofs.OperandExchange.{exchange_leaves, taken_does, taken_leaves}
use Rattle.jsoundness_laws.proofs.TypedProofs.FieldRows.{field_does}
use Rattle.jsoundness_laws.proofs.TypedProofs.NewObjects.{new_does}
use Rattle.jsoundness_laws.proofs.TypedProofs.Faces.{FacesOf, faces_of}
use Rattle.jsoundness_laws.proofs.TypedProofs.SubtypeTransitivity.{InOrder}
use Rattle.jsoundness_laws.proofs.TypedProofs.CreationRows.{cast_row, length_row, make_row, new_row, push_row}
use Rattle.jsoundness_laws.proofs.TypedProofs.Flows.{jump_row, switch_row, tested_plain, throw_row}
use Rattle.jsoundness_laws.proofs.TypedProofs.MethodReturns.{leave_does}
use Rattle.jsoundness_laws.proofs.TypedProofs.Locals.{held_does, local_does}
use Rattle.jsoundness_laws.proofs.TypedProofs.Moves.{stack_does}
use Rattle.jsoundness_laws.proofs.TypedProofs.Orders.{in_order}
use Rattle.jsoundness_laws.proofs.TypedProofs.Simples.{simple_plain, simple_row}
use Rattle.jsoundness_laws.proofs.TypedProofs.TakenOperands.{IsServed, plain_served}
use Rattle.jsoundness_laws.proofs.TypedProofs.WantedOperands.{has_want}

world_tree : (w : World) (p : Program) → w ≡ world p → tree p ≡ w.tree
unfolding world
world_tree w p e = sym (ap (λ w. w.tree) e)

world_order : (w : World) (p : Program) → w ≡ world p → StandsInOrder p → InOrder w.tree
world_order w p e stands = subst InOrder (world_tree w p e) (in_order p stands)

world_faces : (w : World) (p : Program) → w ≡ world p → StandsInOrder p → FacesOf w
world_faces w p e stands = subst FacesOf (sym e) (faces_of p stands)

asked_is : (own own_fields : Member → Bool) (this class : Name) (op : FieldOp) (m : FieldMeaning) → own ≡ own_fields → this ≡ class
    → (of_field own this op m).takes ≡ (of_field own_fields class op m).takes
asked_is own own_fields this class op m e f = ap (λ (own : Member → Bool). (of_field own this op m).takes) e ∙ ap (λ (this : Name). (of_field own_fields this op m).takes) f

array_does : (K E : Type 0) (r : Rules K E) (at : Site) (own : Member → Bool) (s : Store K) (entries : List E) (inherited : Option K) (p : Program) (here : Here) (news : News) (t : VType)
    (shape behind : Frame) (f : FrameOf K E) → StandsInOrder p → IsAt p at own here → IsStored at.world s (static_types p) → (a : ArrayType) → t ≡ types.Array a → HasDimensions (types.Array a)
    → Suits at.world s here news shape f → exchanged (tree p) here.max_stack (gives (Of kinds.Int ∷ []) t) shape ≡ Some behind
    → CanDo at.world s (static_types p) here (Used (meanings.MakeArray t)) behind (by r at own s entries inherited f (Of kinds.Int ∷ []) (array_rows.make s t))
array_does K E r at own s entries inherited p here news t shape behind f stands place stored a is d suits e =
    subst (λ t. CanDo at.world s (static_types p) here (Used (meanings.MakeArray t)) behind (by r at own s entries inherited f (Of kinds.Int ∷ []) (array_rows.make s t))) (sym is)
    (taken_does r at own s entries inherited (static_types p) here news (Used (meanings.MakeArray (types.Array a))) (tree p) (Of kinds.Int ∷ []) (Some (types.Array a))
    (plain_served at.world s here news (tree p) (kinds.Int ∷ []) (tt, tt)) (array_rows.make s (types.Array a))
    (make_row at.world s (world_order at.world p place.program stands) (static_types p) stored (Used (meanings.MakeArray (types.Array a))) refl here news a d) shape behind f suits
    (exchange_leaves (tree p) here.max_stack (gives (Of kinds.Int ∷ []) (types.Array a)) shape behind
    (subst (λ t. exchanged (tree p) here.max_stack (gives (Of kinds.Int ∷ []) t) shape ≡ Some behind) is e)))

pub straight_does : (K E : Type 0) → StraightDoes K E
unfolding rule doing used exchange
straight_does K E r at own s entries inherited p here news (Simple form) shape behind f stands place stored straight suits e =
    taken_does r at own s entries inherited (static_types p) here news (Simple form) (tree p) (of_kinds (simple_effect form).takes) (by_effect (simple_effect form)).gives
    (plain_served at.world s here news (tree p) (listed (simple_effect form).takes) (simple_plain form)) (simple s form)
    (simple_row at.world s (static_types p) stored (Simple form) refl here news form) shape behind f suits
    (exchange_leaves (tree p) here.max_stack (by_effect (simple_effect form)) shape behind e)
straight_does K E r at own s entries inherited p here news (Local form) shape behind f stands place stored straight suits e =
    held_does r at own s entries inherited (static_types p) stored here news (Local form) refl behind f (local form (holding f.locals f.operands))
    (local_does at.world s here news here.max_stack form shape behind (holding f.locals f.operands) suits.locals suits.operands e)
straight_does K E r at own s entries inherited p here news (Stack op) shape behind f stands place stored straight suits e =
    held_does r at own s entries inherited (static_types p) stored here news (Stack op) refl behind f (stack op (holding f.locals f.operands))
    (stack_does at.world s here news here.max_stack op shape behind (holding f.locals f.operands) suits.locals suits.operands e)
straight_does K E r at own s entries inherited p here news (Jump test to) shape behind f stands place stored straight suits e =
    taken_does r at own s entries inherited (static_types p) here news (Jump test to) (tree p) (of_kinds (tested test)) None
    (plain_served at.world s here news (tree p) (listed (tested test)) (tested_plain test)) (jump s test to)
    (jump_row at.world s (static_types p) stored here news test to) shape behind f suits (taken_leaves (tree p) (of_kinds (tested test)) shape behind e)
straight_does K E r at own s entries inherited p here news (Switch cases other) shape behind f stands place stored straight suits e =
    taken_does r at own s entries inherited (static_types p) here news (Switch cases other) (tree p) (Of kinds.Int ∷ []) None
    (plain_served at.world s here news (tree p) (kinds.Int ∷ []) (tt, tt)) (switch cases other)
    (switch_row at.world s (static_types p) stored here news cases other) shape behind f suits (taken_leaves (tree p) (Of kinds.Int ∷ []) shape behind e)
straight_does K E r at own s entries inherited p here news (Return kind) shape behind f stands place stored straight suits e =
    leave_does r at own s entries inherited (static_types p) stored here news (tree p) (world_tree at.world p place.program) (world_order at.world p place.program stands) shape behind f suits
    (Return kind) kind e
straight_does K E r at own s entries inherited p here news Throw shape behind f stands place stored straight suits e =
    let served : IsServed at.world s here news (tree p) (Fits throwable) = subst (λ t. IsServed at.world s here news t (Fits throwable)) (sym (world_tree at.world p place.program))
    (λ a v x m. has_want at.world s (world_order at.world p place.program stands) here news (Fits throwable) a v tt x m) in
    taken_does r at own s entries inherited (static_types p) here news Throw (tree p) (Fits throwable ∷ []) None (served, tt) throw
    (throw_row at.world s (static_types p) stored here news) shape behind f suits (taken_leaves (tree p) (Fits throwable ∷ []) shape behind e)
straight_does K E r at own s entries inherited p here news (Array (arrays.New kind)) shape behind f stands place stored straight suits e =
    taken_does r at own s entries inherited (static_types p) here news (Array (arrays.New kind)) (tree p) (Of kinds.Int ∷ []) (Some (row (of_numbers kind)))
    (plain_served at.world s here news (tree p) (kinds.Int ∷ []) (tt, tt)) (array_rows.array at.world s (arrays.New kind))
    (new_row at.world s (world_order at.world p place.program stands) (static_types p) stored (Array (arrays.New kind)) refl here news kind) shape behind f suits
    (exchange_leaves (tree p) here.max_stack (gives (Of kinds.Int ∷ []) (row (of_numbers kind))) shape behind e)
straight_does K E r at own s entries inherited p here news (Array arrays.Length) shape behind f stands place stored straight suits e =
    taken_does r at own s entries inherited (static_types p) here news (Array arrays.Length) (tree p) (Of kinds.Array ∷ []) (Some types.Int)
    (plain_served at.world s here news (tree p) (kinds.Array ∷ []) (tt, tt)) (array_rows.array at.world s arrays.Length)
    (length_row at.world s (static_types p) stored (Array arrays.Length) refl here news) shape behind f suits
    (exchange_leaves (tree p) here.max_stack (by_effect (array_effect arrays.Length)) shape behind e)
straight_does K E r at own s entries inherited p here news (Array (arrays.Load kind)) shape behind f stands place stored straight suits e =
    load_does r at own s entries inherited (world_order at.world p place.program stands) (static_types p) stored here news (tree p) kind shape behind f suits e
straight_does K E r at own s entries inherited p here news (Array (arrays.Store kind)) shape behind f stands place stored straight suits e =
    store_does r at own s entries inherited (world_order at.world p place.program stands) (static_types p) stored here news (tree p) kind shape behind f suits
    (world_faces at.world p place.program stands) e
straight_does K E r at own s entries inherited p here news (Array (arrays.NewRef n)) shape behind f stands place stored straight suits e =
    absurd (cc)
straight_does K E r at own s entries inherited p here news (Used (meanings.Push c)) shape behind f stands place stored straight suits e =
    taken_does r at own s entries inherited (static_types p) here news (Used (meanings.Push c)) (tree p) [] (Some (constant c)) tt (push s c)
    (push_row at.world s (world_order at.world p place.program stands) (static_types p) stored (Used (meanings.Push c)) refl here news c) shape behind f suits
    (exchange_leaves (tree p) here.max_stack (gives [] (constant c)) shape behind e)
straight_does K E r at own s entries inherited p here news (Used (meanings.Cast casts.CheckCast t)) shape behind f stands place stored straight suits e =
    taken_does r at own s entries inherited (static_types p) here news (Used (meanings.Cast casts.CheckCast t)) (tree p) (Of kinds.Ref ∷ []) (Some t)
    (plain_served at.world s here news (tree p) (kinds.Ref ∷ []) (tt, tt)) (cast at.world s casts.CheckCast t)
    (cast_row at.world s (world_faces at.world p place.program stands) (static_types p) stored (Used (meanings.Cast casts.CheckCast t)) refl here news casts.CheckCast t straight.0 straight.1)
    shape behind f suits (exchange_leaves (tree p) here.max_stack (of_cast casts.CheckCast t) shape behind e)
straight_does K E r at own s entries inherited p here news (Used (meanings.Cast casts.InstanceOf t)) shape behind f stands place stored straight suits e =
    taken_does r at own s entries inherited (static_types p) here news (Used (meanings.Cast casts.InstanceOf t)) (tree p) (Of kinds.Ref ∷ []) (Some types.Int)
    (plain_served at.world s here news (tree p) (kinds.Ref ∷ []) (tt, tt)) (cast at.world s casts.InstanceOf t)
    (cast_row at.world s (world_faces at.world p place.program stands) (static_types p) stored (Used (meanings.Cast casts.InstanceOf t)) refl here news casts.InstanceOf t straight.0 straight.1)
    shape behind f suits (exchange_leaves (tree p) here.max_stack (of_cast casts.InstanceOf t) shape behind e)
straight_does K E r at own s entries inherited p here news (Used (meanings.MakeArray t)) shape behind f stands place stored straight suits e =
    array_does K E r at own s entries inherited p here news t shape behind f stands place stored straight.0 straight.1 straight.2 suits e
straight_does K E r at own s entries inherited p here news (Used (meanings.Field op m)) shape behind f stands place stored straight suits e =
    field_does r at own s entries inherited p stands place.program (world_tree at.world p place.program) (world_order at.world p place.program stands) stored here news op m straight shape behind f suits
    (of_field own (at.world.named at.class) op m).takes (asked_is own (is_own p here.is_init here.class) (at.world.named at.class) here.class op m place.own_fields place.class) e
straight_does K E r at own s entries inherited p here news (Used (meanings.Make c)) shape behind f stands place stored straight suits e =
    new_does r at own s entries inherited p (static_types p) here news c straight shape behind f place.program stored suits e
straight_does K E r at own s entries inherited p here news (Used (meanings.Call by c)) shape behind f stands place stored straight suits e =
    absurd straight
