use Rattle.std.proofs.Common.{sym, ◌∙◌}
use Rattle.jparts.proofs.JmapsProofs.MapLaws.{maps_law, read_is}
use Rattle.jparts.proofs.jmaps.laws.map_laws.Goals as goal

pub returns-clause-no_fault : goal.returns-clause-no_fault
returns-clause-no_fault c = λ bytes fs s. read_is bytes fs s.0 s.1

pub returns-clause-spelled : goal.returns-clause-spelled
returns-clause-spelled c = λ bytes fs are e. let t = maps_law.takes bytes fs are e in (t.0, t.1)

pub returns-clause-one_reading : goal.returns-clause-one_reading
returns-clause-one_reading c = λ bytes fs others s o. let e = sym (read_is bytes fs s.0 s.1) ∙ read_is bytes others o.0 o.1 in cc

pub returns-clause-one_spelling : goal.returns-clause-one_spelling
returns-clause-one_spelling c = λ bytes others fs s o. s.1 ∙ sym o.1
