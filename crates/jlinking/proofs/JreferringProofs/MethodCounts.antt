-- How many methods a class file has.
use Rattle.std.proofs.Common.{◌≡◌, ◌≤◌, ◌<◌, List, length, ap, ◌∙◌, arith}
use Rattle.std.specs.Prelude.{IsTrue}
use Rattle.jclass.specs.declared.class.ClassParts.{ClassParts}
use Rattle.jclass.specs.declared.class.MemberInfo.{MemberInfo}
use Rattle.jclass.specs.Class.{class_file}
use Rattle.jresolution.proofs.JprogramProofs.MemberCounts.{few_methods}

pub few_in : (c d : ClassParts) (ms : List MemberInfo) → d ≡ c → ms ≡ d.methods → IsTrue (class_file.fits c) → length ms ≤ 65535
few_in c d ms same is fit =
    let few : length c.methods < 65536 = few_methods c fit in
    let size : length ms ≡ length c.methods = ap length is ∙ ap (λ (x : ClassParts). length x.methods) same in
    omega (arith, few, size)
