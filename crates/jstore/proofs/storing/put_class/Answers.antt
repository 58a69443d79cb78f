use Rattle.std.specs.Prelude.{codes, decimal}
use Rattle.joutput.specs.jio.TextOutput.{written}
use Rattle.jstore.proofs.WrittenUnits.{five}
use Rattle.jstore.proofs.storing.put_class.Goals as goal

pub returns : goal.returns
returns c = five c.args.out.now c.extend.new.self c.put_number.new.out c.extend-2.new.self c.put_units.new.out c.extend-3.new.self (codes "/d") (decimal c.args.domain) (codes "/") (written c.args.units.now) (codes ".class")
    c.in_ok-extend.ensures.ok c.in_ok-put_number.ensures c.in_ok-extend-2.ensures.ok c.in_ok-put_units.ensures c.in_ok-extend-3.ensures.ok
