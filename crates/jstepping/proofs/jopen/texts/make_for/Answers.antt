use Rattle.std.proofs.Common.{Bool, Some, sym, subst}
use Rattle.jready.specs.declared.statics.First.{First}
use Rattle.jresolution.specs.juses.PoolTables.{pool_at}
use Rattle.jlibcalls.specs.jconstants.StringConstants.{bytes_at, units_at}
use Rattle.jruntime.specs.declared.jstate.shapes.Shapes.{Shapes}
use Rattle.jruntime.specs.jstate.HeapMeanings.{Things}
use Rattle.jstepping.specs.jopen.StaticRows.{text_first}
use Rattle.jstepping.specs.jopen.OpeningTexts.{MakesFor, MakesText, seen_by}
use Rattle.jstepping.proofs.JopenProofs.StringLoads.{text_loads}
use Rattle.jstepping.proofs.jopen.texts.make_for.Goals as goal

pub returns-in_ok-object-in-Text-clause-makes : goal.returns-in_ok-object-in-Text-clause-makes
returns-in_ok-object-in-Text-clause-makes c =
    let p = c.args.constants.now.program in
    let old = c.args.constants.now in
    let new = c.get.new.self in
    let units = units_at p c.args.row.class c.in-Text.index in
    let loads : MakesFor p (Some units) c.is_some.result old c.args.heap.now new c.get.new.heap =
    λ (shapes : Shapes) (things : Things).
    subst (λ (b : Bool). MakesText units b (seen_by p shapes things old c.args.heap.now) (seen_by p shapes things new c.get.new.heap)) (sym c.is_some.ensures)
    (text_loads (Unit {0}) (seen_by p shapes things old c.args.heap.now) (seen_by p shapes things new c.get.new.heap) (bytes_at p c.args.row.class c.in-Text.index)
    c.in_ok-object-in-Text.object (c.in_ok-object-in-Text.ensures.row shapes things)) in
    subst (λ (f : First). MakesFor p (text_first (pool_at p c.args.row.class) f) c.is_some.result old c.args.heap.now new c.get.new.heap) (sym c.in-Text.is) loads
