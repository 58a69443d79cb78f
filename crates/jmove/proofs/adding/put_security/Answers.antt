use Rattle.std.proofs.lemmas.Result.{err_from_is_err_and}
use Rattle.std.specs.Prelude.{codes}
use Rattle.jparts.specs.declared.jpool.entry.Entry.TheVariants.{Method}
use Rattle.jmove.specs.PoolAdditions.{security_name, security_type, with_class, with_entry, with_member, with_security, ◌>>◌}
use Rattle.jmove.proofs.PoolGrowth.{class_grows, entry_grows, first_refused, member_grows, second_refused, then_adds, then_grows}
use Rattle.jmove.proofs.adding.put_security.Goals as goal

pub returns-in_err-class : goal.returns-in_err-class
unfolding with_security
returns-in_err-class c =
    let p = err_from_is_err_and c.from_residual.result c.from_residual.ensures.1 in
    rw (p.1, p.2) (first_refused (with_class (codes "sps/Rt")) (λ k. with_member (security_name c.args.method) (security_type c.args.method) >> λ b. with_entry (Method k b)) c.in_err-class.field-0.0 c.args.pool.now c.put_class.new.pool
    (λ k. then_grows (with_member (security_name c.args.method) (security_type c.args.method)) (λ b. with_entry (Method k b)) (member_grows (security_name c.args.method) (security_type c.args.method)) (λ b. entry_grows (Method k b)))
    c.in_err-class.ensures)

pub returns-in_err-member : goal.returns-in_err-member
unfolding with_security
returns-in_err-member c =
    let p = err_from_is_err_and c.from_residual-in_err-member.result c.from_residual-in_err-member.ensures.1 in
    let h = rw (c.security_name.ensures.name, c.security_type.ensures.name) at c.in_err-member.ensures in
    rw (p.1, p.2) (second_refused (with_class (codes "sps/Rt")) (λ k. with_member (security_name c.args.method) (security_type c.args.method) >> λ b. with_entry (Method k b)) c.in_err-member.field-0.0 c.args.pool.now c.put_class.new.pool
    c.put_member.new.pool c.in_ok-class.class (class_grows (codes "sps/Rt")) c.in_ok-class.ensures
    (first_refused (with_member (security_name c.args.method) (security_type c.args.method)) (λ b. with_entry (Method c.in_ok-class.class b)) c.in_err-member.field-0.0 c.put_class.new.pool c.put_member.new.pool
    (λ b. entry_grows (Method c.in_ok-class.class b)) h))

pub returns : goal.returns
unfolding with_security
returns c =
    let h = rw (c.security_name.ensures.name, c.security_type.ensures.name) at c.in_ok-member.ensures in
    then_adds (λ i. i) (with_class (codes "sps/Rt")) (λ k. with_member (security_name c.args.method) (security_type c.args.method) >> λ b. with_entry (Method k b)) c.put.result c.args.pool.now c.put_class.new.pool c.put.new.pool
    c.in_ok-class.class (class_grows (codes "sps/Rt")) c.in_ok-class.ensures
    (then_adds (λ i. i) (with_member (security_name c.args.method) (security_type c.args.method)) (λ b. with_entry (Method c.in_ok-class.class b)) c.put.result c.put_class.new.pool c.put_member.new.pool c.put.new.pool
    c.in_ok-member.member (member_grows (security_name c.args.method) (security_type c.args.method)) h c.put.ensures.value)
