use Rattle.std.proofs.Common.{◌≡◌, ◌++◌, drop, map}
use Rattle.std.specs.Prelude.{option_map}
use Rattle.jparts.specs.jcode.InstructionForms.{form}
use Rattle.jresolution.specs.juses.PoolTables.{pool_at}
use Rattle.jresolution.specs.juses.InternedTypes.{class_named}
use Rattle.jtyping.specs.jwelltyped.MethodPremises.{made}
use Rattle.jverify.proofs.news.all_made.Given as goal

abbrev pub invariant-loop-one : goal.invariant-loop-one
invariant-loop-one l = map (option_map (class_named l.p)) l.made ++ map (λ one. made l.p (pool_at l.p l.class) (form one.op)) (drop l.one-index l.ops) ≡ map (λ one. made l.p (pool_at l.p l.class) (form one.op)) l.ops
