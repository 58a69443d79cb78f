use Rattle.std.proofs.Common.{◌≡◌, drop}
use Rattle.std.specs.Prelude.{option_and_then}
use Rattle.jground.specs.jbase.FirstFaults.{first_some}
use Rattle.jclass.specs.MemberFormat.{body_of}
use Rattle.jresolution.specs.jprogram.ClassFileParts.{text}
use Rattle.jlinking.specs.jreferring.CodeChecks.{body_test, method_test}
use Rattle.jlinking.specs.jreferring.PoolTextCache.{AreHanded}
use Rattle.jlinking.proofs.jreferring.code.method_test.Given as goal

abbrev pub invariant-loop-attribute : goal.invariant-loop-attribute
invariant-loop-attribute l =
    (option_and_then (body_test l.home.program.now l.home.from.now (text l.home.pool.now l.method.desc) l.table) (first_some body_of (drop l.attribute-index l.method.attributes))
    ≡ method_test l.home.program.now l.home.from.now l.home.pool.now l.table l.method)
    × AreHanded l.home.program.now l.home.from.now l.home.pool.now l.handed
