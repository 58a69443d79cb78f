-- Methods by number, and what they stand for by the names of classes.
use Rattle.std.specs.Prelude.{◌≡◌, map, option_map, reverse}
use Rattle.jclass.specs.declared.class.CodeBody.{CodeBody}
use Rattle.jresolution.specs.declared.jprogram.part.ClassRef.TheVariants as refs
use Rattle.jresolution.specs.jprogram.ProgramClasses.{Program}
use Rattle.jresolution.specs.juses.PoolTables.{pool_at}
use Rattle.jresolution.specs.juses.InternedTypes.{class_named, named}
use Rattle.jresolution.specs.juses.DescriptorTypes.{Typed}
use Rattle.jtyping.specs.jwelltyped.MethodPremises.{Method, params_of}
use Rattle.jtyping.specs.jwelltyped.ProofNames.{return_of}
use Rattle.jverify.specs.declared.method.BodyRef.{BodyRef}
use Rattle.jverify.specs.declared.method.MethodRef.{MethodRef}
use Rattle.jverify.specs.declared.method.Signature.{Signature}

abbrev pub seen_body : BodyRef → CodeBody
seen_body b = record {
  max_stack = b.max_stack;
  max_locals = b.max_locals;
  ops = b.ops.now;
  handlers = b.handlers.now;
  attributes = b.attributes.now;
}

-- parameters, given the last one first, and a result are those of a descriptor
abbrev pub IsSignature : Program → Signature → Typed → Type 0
IsSignature p s t = (reverse (map (named p) s.params) ≡ params_of t) × (option_map (named p) s.returns ≡ return_of t)

abbrev pub seen_method : Program → MethodRef → Method
seen_method p m = record {
  class = class_named p (refs.User m.class);
  above = option_map (class_named p) m.above;
  is_init = m.is_init;
  params = map (named p) m.params;
  returns = option_map (named p) m.returns;
  pool = pool_at p m.class;
  body = seen_body m.body;
}
