use Rattle.std.proofs.Common.{◌≡◌, ◌≢◌, rules, get_or, sym}
use Rattle.jjob.proofs.JobNumbers.{too_long, plus_first, read_ok, read_err}
use Rattle.jjob.proofs.number.number_up_to.Goals as goal

pub returns-in-Ok-clause-value : goal.returns-in-Ok-clause-value
returns-in-Ok-clause-value c = let no_plus : get_or c.args.digits.now 0 0 ≢ 43 = search rules in
    read_ok c.args.most c.args.digits.now c.in-Ok.number c.up_to.result c.parse.result no_plus (search rules) c.parse.ensures.value.0 c.in-Ok.is c.up_to.ensures.value c.up_to.ensures.none

pub returns-in-Err-clause-value : goal.returns-in-Err-clause-value
returns-in-Err-clause-value c = let no_plus : get_or c.args.digits.now 0 0 ≢ 43 = search rules in
    sym (read_err c.args.most c.args.digits.now c.in-Err.field-0 c.parse.result no_plus (search rules) c.parse.ensures.value.0 c.in-Err.is)

pub returns-then-digits-gt20-clause-value : goal.returns-then-digits-gt20-clause-value
returns-then-digits-gt20-clause-value c = sym (too_long c.args.most c.args.digits.now (search rules))

pub returns-then-starts_with-clause-value : goal.returns-then-starts_with-clause-value
returns-then-starts_with-clause-value c = let plus : get_or c.args.digits.now 0 0 ≡ 43 = search rules in
    sym (plus_first c.args.most c.args.digits.now plus)
