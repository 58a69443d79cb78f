use Rattle.std.proofs.Common.{◌≡◌, [], ◌∷◌, of_z, rules, to_z}
use Rattle.std.specs.Int.{w32, w64}
use Rattle.jvalues.specs.declared.jops.value.Value.TheVariants.{Int, Long}
use Rattle.jsemantics.specs.jmachine.FrameOperations.{onward}
use Rattle.jrows.proofs.JactsProofs.OperandInstructions.{int_done, long_done}
use Rattle.jrows.proofs.JactsProofs.Costs.{if_went}
use Rattle.jresolution.specs.juses.IndexedInstructions.{Simple}
use Rattle.jrows.proofs.jacts.straight.simple.Goals as goal

pub returns-in-Int-clause-row : goal.returns-in-Int-clause-row
returns-in-Int-clause-row g c =
    let f = c.args.frames.now.newest in
    let n_is : to_z w32 (of_z w32 c.in-Int.n) ≡ c.in-Int.n = search rules in
    let went = rw n_is at c.push_int.ensures.frames in
    if_went c.push_int.result (Simple c.args.form) f (onward f (Int c.in-Int.n ∷ [])) c.args.frames.now c.push_int.new.frames c.push_int.ensures.way went
    (rw c.in-Int.is (int_done f c.in-Int.n))

pub returns-in-Long-clause-row : goal.returns-in-Long-clause-row
returns-in-Long-clause-row g c =
    let f = c.args.frames.now.newest in
    let n_is : to_z w64 (of_z w64 c.in-Long.n) ≡ c.in-Long.n = search rules in
    let went = rw n_is at c.push_long.ensures.frames in
    if_went c.push_long.result (Simple c.args.form) f (onward f (Long c.in-Long.n ∷ [])) c.args.frames.now c.push_long.new.frames c.push_long.ensures.way went
    (rw c.in-Long.is (long_done f c.in-Long.n))
