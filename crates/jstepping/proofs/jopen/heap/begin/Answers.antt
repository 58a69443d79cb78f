use Rattle.std.proofs.Common.{◌<◌, subst, refl, arith}
use Rattle.jresolution.specs.jprogram.ProgramClasses.{Program}
use Rattle.jlinking.specs.jlink.ProgramFiles.{AreFiles}
use Rattle.jstepping.specs.jopen.InitialHeaps.{AreStrings}
use Rattle.jstepping.specs.jopen.StaticRows.{texts_of}
use Rattle.jstepping.specs.jopen.OpeningTexts.{texts_charge}
use Rattle.jstepping.proofs.JopenProofs.InitialHeap.{begins, few_for_array, few_for_texts}
use Rattle.jstepping.proofs.jopen.heap.begin.Goals as goal

pub returns-in_default : goal.returns-in_default
returns-in_default c =
    let p = c.args.ready.now.program in
    few_for_texts p c.args.cells c.statics-rows.result.now c.statics-rows.ensures
    (subst (λ (q : Program). c.args.cells < texts_charge (texts_of q c.statics-rows.result.now)) c.program-p.ensures (rw c.in_default.is at c.in_ok-strings.ensures))

pub returns-in_default-make : goal.returns-in_default-make
returns-in_default-make c =
    let p = c.args.ready.now.program in
    let rows = c.statics-rows.result.now in
    let strings : AreStrings p c.args.cells rows c.in-Some.strings =
    subst (λ (q : Program). AreStrings q c.args.cells rows c.in-Some.strings) c.program-p.ensures (rw c.in-Some.is at c.in_ok-strings.ensures) in
    let few = rw c.in_default-make.is at c.make.ensures in
    let less = few.0 in
    few_for_array p c.args.cells rows c.in-Some.strings.constants c.in-Some.strings.heap c.statics-rows.ensures strings.made (omega (arith, less))

pub returns : goal.returns
returns c =
    let p = c.args.ready.now.program in
    let rows = c.statics-rows.result.now in
    let s = c.in-Some.strings in
    let strings : AreStrings p c.args.cells rows s =
    subst (λ (q : Program). AreStrings q c.args.cells rows s) c.program-p.ensures (rw c.in-Some.is at c.in_ok-strings.ensures) in
    begins p c.args.shaped.now.shapes c.args.cells c.args.shaped.now.strings c.in-Some-make.array rows s c.make.new.self c.put_statics.new.heap _
    c.statics-rows.ensures c.requires.strings c.heap_laws.ensures.makes c.built_laws.ensures.made c.celled_laws.ensures.made strings
    (rw c.in-Some-make.is at c.make.ensures) c.in_ok-put_statics.ensures (subst AreFiles c.program-p.ensures c.are_files.ensures) c.requires.tied.statics refl
