use Rattle.std.proofs.Common.{rules, sym}
use Rattle.jparts.specs.jpool.PoolEntries.{entry}
use Rattle.jparts.proofs.JpoolProofs.NumberWidths.{one_fits, two_fits, word_fits, long_fits, handle_fits}
use Rattle.jparts.proofs.jpool.coding.put_entry.Goals as goal

pub returns-in-Float-clause-fits : goal.returns-in-Float-clause-fits
unfolding entry
returns-in-Float-clause-fits c = rw c.in-Float.is (word_fits c.in-Float.n (search rules))

pub returns-in-Double-clause-fits : goal.returns-in-Double-clause-fits
unfolding entry
returns-in-Double-clause-fits c = rw c.in-Double.is (long_fits c.in-Double.n (search rules))

pub returns-in-Class-clause-fits : goal.returns-in-Class-clause-fits
unfolding entry
returns-in-Class-clause-fits c = rw c.in-Class.is (one_fits c.in-Class.name (search rules))

pub returns-in-Str-clause-fits : goal.returns-in-Str-clause-fits
unfolding entry
returns-in-Str-clause-fits c = rw c.in-Str.is (one_fits c.in-Str.text (search rules))

pub returns-in-MethodType-clause-fits : goal.returns-in-MethodType-clause-fits
unfolding entry
returns-in-MethodType-clause-fits c = rw c.in-MethodType.is (one_fits c.in-MethodType.descriptor (search rules))

pub returns-in-Field-clause-fits : goal.returns-in-Field-clause-fits
unfolding entry
returns-in-Field-clause-fits c = rw c.in-Field.is (two_fits c.in-Field.class c.in-Field.both (search rules) (search rules))

pub returns-in-Method-clause-fits : goal.returns-in-Method-clause-fits
unfolding entry
returns-in-Method-clause-fits c = rw c.in-Method.is (two_fits c.in-Method.class c.in-Method.both (search rules) (search rules))

pub returns-in-InterfaceMethod-clause-fits : goal.returns-in-InterfaceMethod-clause-fits
unfolding entry
returns-in-InterfaceMethod-clause-fits c = rw c.in-InterfaceMethod.is (two_fits c.in-InterfaceMethod.class c.in-InterfaceMethod.both (search rules) (search rules))

pub returns-in-NameAndType-clause-fits : goal.returns-in-NameAndType-clause-fits
unfolding entry
returns-in-NameAndType-clause-fits c = rw c.in-NameAndType.is (two_fits c.in-NameAndType.name c.in-NameAndType.descriptor (search rules) (search rules))

pub returns-in-InvokeDynamic-clause-fits : goal.returns-in-InvokeDynamic-clause-fits
unfolding entry
returns-in-InvokeDynamic-clause-fits c = rw c.in-InvokeDynamic.is (two_fits c.in-InvokeDynamic.bootstrap c.in-InvokeDynamic.both (search rules) (search rules))

pub returns-in-MethodHandle-clause-fits : goal.returns-in-MethodHandle-clause-fits
unfolding entry
returns-in-MethodHandle-clause-fits c = rw c.in-MethodHandle.is (handle_fits c.in-MethodHandle.kind c.in-MethodHandle.member (search rules) (search rules))

pub returns-in-Utf8-clause-fits : goal.returns-in-Utf8-clause-fits
unfolding entry
returns-in-Utf8-clause-fits c = rw (c.in-Utf8.is, sym c.as_slice.ensures) c.put_text.ensures.fits
