-- How many methods a class file has.
use Rattle.std.proofs.Common.{◌<◌, ◌≤◌, length, arith}
use Rattle.std.specs.Prelude.{IsTrue}
use Rattle.jclass.specs.declared.class.ClassParts.{ClassParts}
use Rattle.jclass.specs.Class.{class_file}
use Rattle.jresolution.proofs.JprogramProofs.MemberCounts.{few_methods}

pub few_in : (c : ClassParts) → IsTrue (class_file.fits c) → length c.methods ≤ 0xffff
few_in c fit =
    let few : length c.methods < 65536 = few_methods c fit in
    omega (arith, few)
