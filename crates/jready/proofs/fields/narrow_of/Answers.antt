use Rattle.std.proofs.Common.{◌≡◌, rules, true, false}
use Rattle.std.specs.Prelude.{codes}
use Rattle.std.specs.Str.{bytes_eq}
use Rattle.jready.proofs.NarrowedValues.{boolean_left, byte_left, char_left, short_left, whole}
use Rattle.jready.proofs.fields.narrow_of.Goals as goal

pub returns-then-eq : goal.returns-then-eq
returns-then-eq c v =
    let same : bytes_eq c.args.desc.now (codes "Z") ≡ true = search rules in
    boolean_left c.args.desc.now same v

pub returns-then-eq-2 : goal.returns-then-eq-2
returns-then-eq-2 c v =
    let same : bytes_eq c.args.desc.now (codes "B") ≡ true = search rules in
    byte_left c.args.desc.now same v

pub returns-then-eq-3 : goal.returns-then-eq-3
returns-then-eq-3 c v =
    let same : bytes_eq c.args.desc.now (codes "C") ≡ true = search rules in
    char_left c.args.desc.now same v

pub returns-then-eq-4 : goal.returns-then-eq-4
returns-then-eq-4 c v =
    let same : bytes_eq c.args.desc.now (codes "S") ≡ true = search rules in
    short_left c.args.desc.now same v

pub returns : goal.returns
returns c v =
    let boolean : bytes_eq c.args.desc.now (codes "Z") ≡ false = search rules in
    let byte : bytes_eq c.args.desc.now (codes "B") ≡ false = search rules in
    let char : bytes_eq c.args.desc.now (codes "C") ≡ false = search rules in
    let short : bytes_eq c.args.desc.now (codes "S") ≡ false = search rules in
    whole c.args.desc.now boolean char byte short v
