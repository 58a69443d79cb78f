use Rattle.std.proofs.Common.{ap, subst}
use Rattle.jresolution.specs.juses.IndexedInstructions.{Used}
use Rattle.jresolution.specs.juses.InstructionMeanings as meanings
use Rattle.jresolution.specs.juses.InternedTypes.{class_named, named}
use Rattle.jresolution.specs.declared.juses.types.TypeRef.TheVariants as types
use Rattle.jresolution.specs.declared.jprogram.part.ClassRef.TheVariants as refs
use Rattle.jready.specs.declared.instr.Instr.TheVariants as instrs
use Rattle.jready.specs.declared.instr.ObjectInstr.{ObjectInstr}
use Rattle.jready.specs.declared.instr.ObjectInstr.TheVariants as object
use Rattle.jstepping.specs.jrefs.ReferenceRows.{IsExact, IsFetched}
use Rattle.jstepping.proofs.JrefsProofs.InstructionMeanings.{array_means, cast_missing, cast_runs, class_means, library_means, new_means, not_missing, out_means, runs_by}
use Rattle.jstepping.proofs.JrefsProofs.ClassInstructions.{array_runs, as_it, as_one, missing_as, missing_one, never_missing, out_runs, runs_all}
use Rattle.jstepping.proofs.jrefs.objects.object.Goals as goal

pub make_user-requires-clause-exact : goal.make_user-requires-clause-exact
make_user-requires-clause-exact g c = subst (λ (o : ObjectInstr). IsExact c.args.x.now (instrs.Object o) c.args.frames.now.newest) c.in-New.is c.requires.exact

pub make_library-requires-clause-exact : goal.make_library-requires-clause-exact
make_library-requires-clause-exact g c = subst (λ (o : ObjectInstr). IsExact c.args.x.now (instrs.Object o) c.args.frames.now.newest) c.in-NewLibrary.is c.requires.exact

pub returns-in-New-clause-row : goal.returns-in-New-clause-row
returns-in-New-clause-row g c =
    let x = c.args.x.now in
    let f = c.args.frames.now.newest in
    let exact = subst (λ (o : ObjectInstr). IsExact x (instrs.Object o) f) c.in-New.is c.requires.exact in
    let m = meanings.Make (class_named x.ancestors.now (refs.User c.in-New.class)) in
    as_it x c.args.counts f c.make_user.new.frames.newest c.args.heap.now c.make_user.new.heap c.args.f (object.New c.in-New.pool c.in-New.class) c.in-New.is c.make_user.result
    (runs_all x c.args.counts f c.make_user.new.frames.newest c.args.heap.now c.make_user.new.heap c.make_user.result (instrs.Object (object.New c.in-New.pool c.in-New.class)) (Used m)
    (new_means x f.method.class c.in-New.pool c.in-New.class m exact) c.make_user.ensures.row)

pub returns-in-New-clause-missing : goal.returns-in-New-clause-missing
returns-in-New-clause-missing g c =
    let x = c.args.x.now in
    let f = c.args.frames.now.newest in
    let exact = subst (λ (o : ObjectInstr). IsExact x (instrs.Object o) f) c.in-New.is c.requires.exact in
    let m = meanings.Make (class_named x.ancestors.now (refs.User c.in-New.class)) in
    missing_as x c.args.counts f f c.args.heap.now c.args.heap.now c.args.f (object.New c.in-New.pool c.in-New.class) c.in-New.is c.make_user.result
    (never_missing x c.args.counts f f c.args.heap.now c.args.heap.now c.make_user.result (instrs.Object (object.New c.in-New.pool c.in-New.class)) (Used m)
    (new_means x f.method.class c.in-New.pool c.in-New.class m exact))

pub returns-in-NewLibrary-clause-row : goal.returns-in-NewLibrary-clause-row
returns-in-NewLibrary-clause-row g c =
    let x = c.args.x.now in
    let f = c.args.frames.now.newest in
    let exact = subst (λ (o : ObjectInstr). IsExact x (instrs.Object o) f) c.in-NewLibrary.is c.requires.exact in
    let m = meanings.Make (class_named x.ancestors.now (refs.Lib c.in-NewLibrary.class)) in
    as_it x c.args.counts f c.make_library.new.frames.newest c.args.heap.now c.make_library.new.heap c.args.f (object.NewLibrary c.in-NewLibrary.pool c.in-NewLibrary.class) c.in-NewLibrary.is c.make_library.result
    (runs_all x c.args.counts f c.make_library.new.frames.newest c.args.heap.now c.make_library.new.heap c.make_library.result (instrs.Object (object.NewLibrary c.in-NewLibrary.pool c.in-NewLibrary.class)) (Used m)
    (library_means x f.method.class c.in-NewLibrary.pool c.in-NewLibrary.class m exact) c.make_library.ensures.row)

pub returns-in-NewLibrary-clause-missing : goal.returns-in-NewLibrary-clause-missing
returns-in-NewLibrary-clause-missing g c =
    let x = c.args.x.now in
    let f = c.args.frames.now.newest in
    let exact = subst (λ (o : ObjectInstr). IsExact x (instrs.Object o) f) c.in-NewLibrary.is c.requires.exact in
    let m = meanings.Make (class_named x.ancestors.now (refs.Lib c.in-NewLibrary.class)) in
    missing_as x c.args.counts f f c.args.heap.now c.args.heap.now c.args.f (object.NewLibrary c.in-NewLibrary.pool c.in-NewLibrary.class) c.in-NewLibrary.is c.make_library.result
    (never_missing x c.args.counts f f c.args.heap.now c.args.heap.now c.make_library.result (instrs.Object (object.NewLibrary c.in-NewLibrary.pool c.in-NewLibrary.class)) (Used m)
    (library_means x f.method.class c.in-NewLibrary.pool c.in-NewLibrary.class m exact))

pub returns-in-NewArray-clause-row : goal.returns-in-NewArray-clause-row
returns-in-NewArray-clause-row g c =
    let x = c.args.x.now in
    let f = c.args.frames.now.newest in
    let exact = subst (λ (o : ObjectInstr). IsExact x (instrs.Object o) f) c.in-NewArray.is c.requires.exact in
    as_it x c.args.counts f c.make_array.new.frames.newest c.args.heap.now c.make_array.new.heap c.args.f (object.NewArray c.in-NewArray.pool c.in-NewArray.array) c.in-NewArray.is c.make_array.result
    (array_runs x c.args.counts f c.make_array.new.frames.newest c.args.heap.now c.make_array.new.heap c.make_array.result c.in-NewArray.pool c.in-NewArray.array exact c.make_array.ensures.row)

pub returns-in-NewArray-clause-missing : goal.returns-in-NewArray-clause-missing
returns-in-NewArray-clause-missing g c =
    let x = c.args.x.now in
    let f = c.args.frames.now.newest in
    let exact = subst (λ (o : ObjectInstr). IsExact x (instrs.Object o) f) c.in-NewArray.is c.requires.exact in
    missing_as x c.args.counts f f c.args.heap.now c.args.heap.now c.args.f (object.NewArray c.in-NewArray.pool c.in-NewArray.array) c.in-NewArray.is c.make_array.result
    (never_missing x c.args.counts f f c.args.heap.now c.args.heap.now c.make_array.result (instrs.Object (object.NewArray c.in-NewArray.pool c.in-NewArray.array))
    (Used (meanings.MakeArray exact.type)) (array_means x f.method.class c.in-NewArray.pool c.in-NewArray.array (meanings.MakeArray exact.type) exact.means))

pub returns-in-CastClass-clause-row : goal.returns-in-CastClass-clause-row
returns-in-CastClass-clause-row g c =
    let x = c.args.x.now in
    let f = c.args.frames.now.newest in
    let exact = subst (λ (o : ObjectInstr). IsExact x (instrs.Object o) f) c.in-CastClass.is c.requires.exact in
    let one = object.CastClass c.in-CastClass.op c.in-CastClass.pool c.in-CastClass.class in
    let m = meanings.Cast c.in-CastClass.op (named x.ancestors.now (types.Object (refs.User c.in-CastClass.class))) in
    as_one x c.args.counts f c.cast.new.frames.newest c.args.heap.now c.args.heap.now (instrs.Object c.args.f) (instrs.Object one)
    (ap (λ (o : ObjectInstr). instrs.Object o) c.in-CastClass.is) c.cast.result
    (runs_by x c.args.counts (instrs.Object one) f c.cast.new.frames.newest c.args.heap.now c.args.heap.now (Used m)
    (class_means x f.method.class c.in-CastClass.op c.in-CastClass.pool c.in-CastClass.class m exact) c.cast.result c.cast.ensures.row)

pub returns-in-CastClass-clause-missing : goal.returns-in-CastClass-clause-missing
returns-in-CastClass-clause-missing g c =
    let x = c.args.x.now in
    let f = c.args.frames.now.newest in
    let exact = subst (λ (o : ObjectInstr). IsExact x (instrs.Object o) f) c.in-CastClass.is c.requires.exact in
    let one = object.CastClass c.in-CastClass.op c.in-CastClass.pool c.in-CastClass.class in
    let m = meanings.Cast c.in-CastClass.op (named x.ancestors.now (types.Object (refs.User c.in-CastClass.class))) in
    missing_one x c.args.counts f f c.args.heap.now c.args.heap.now (instrs.Object c.args.f) (instrs.Object one)
    (ap (λ (o : ObjectInstr). instrs.Object o) c.in-CastClass.is) c.cast.result
    (not_missing x c.args.counts (instrs.Object one) f f c.args.heap.now c.args.heap.now (Used m)
    (class_means x f.method.class c.in-CastClass.op c.in-CastClass.pool c.in-CastClass.class m exact) c.cast.result)

pub returns-in-Cast-clause-row : goal.returns-in-Cast-clause-row
returns-in-Cast-clause-row g c =
    let x = c.args.x.now in
    let f = c.args.frames.now.newest in
    as_one x c.args.counts f c.cast_named.new.frames.newest c.args.heap.now c.args.heap.now (instrs.Object c.args.f)
    (instrs.Object (object.Cast c.in-Cast.op c.in-Cast.pool)) (ap (λ (o : ObjectInstr). instrs.Object o) c.in-Cast.is) c.cast_named.result
    (cast_runs x c.args.counts f c.cast_named.new.frames.newest c.args.heap.now c.args.heap.now c.in-Cast.op c.in-Cast.pool c.cast_named.result c.cast_named.ensures.row)

pub returns-in-Cast-clause-missing : goal.returns-in-Cast-clause-missing
returns-in-Cast-clause-missing g c =
    let x = c.args.x.now in
    let f = c.args.frames.now.newest in
    missing_one x c.args.counts f f c.args.heap.now c.args.heap.now (instrs.Object c.args.f)
    (instrs.Object (object.Cast c.in-Cast.op c.in-Cast.pool)) (ap (λ (o : ObjectInstr). instrs.Object o) c.in-Cast.is) c.cast_named.result
    (cast_missing x c.args.counts f f c.args.heap.now c.args.heap.now c.in-Cast.op c.in-Cast.pool c.cast_named.result c.cast_named.ensures.missing)

pub returns-in-Out-clause-row : goal.returns-in-Out-clause-row
returns-in-Out-clause-row g c =
    let x = c.args.x.now in
    let f = c.args.frames.now.newest in
    let exact = subst (λ (o : ObjectInstr). IsExact x (instrs.Object o) f) c.in-Out.is c.requires.exact in
    let here = subst (λ (o : ObjectInstr). IsFetched x (instrs.Object o) f) c.in-Out.is c.requires.means in
    as_it x c.args.counts f c.system_out.new.frames.newest c.args.heap.now c.args.heap.now c.args.f (object.Out c.in-Out.op c.in-Out.pool) c.in-Out.is c.system_out.result
    (out_runs x c.args.counts f c.system_out.new.frames.newest c.args.heap.now c.args.heap.now c.system_out.result c.field_law.ensures c.requires.lasting c.in-Out.op c.in-Out.pool exact here c.system_out.ensures.row)

pub returns-in-Out-clause-missing : goal.returns-in-Out-clause-missing
returns-in-Out-clause-missing g c =
    let x = c.args.x.now in
    let f = c.args.frames.now.newest in
    let exact = subst (λ (o : ObjectInstr). IsExact x (instrs.Object o) f) c.in-Out.is c.requires.exact in
    missing_as x c.args.counts f f c.args.heap.now c.args.heap.now c.args.f (object.Out c.in-Out.op c.in-Out.pool) c.in-Out.is c.system_out.result
    (never_missing x c.args.counts f f c.args.heap.now c.args.heap.now c.system_out.result (instrs.Object (object.Out c.in-Out.op c.in-Out.pool))
    (Used (meanings.Field c.in-Out.op exact.field)) (out_means x f.method.class c.in-Out.op c.in-Out.pool (meanings.Field c.in-Out.op exact.field) exact.means))
