use Rattle.std.proofs.Common.{◌≡◌, bit_or, drop, fold}
use Rattle.jperm.specs.Permissions.{gives, united}
use Rattle.jperm.proofs.permission.united.Given as goal

abbrev pub invariant-loop-member : goal.invariant-loop-member
invariant-loop-member l =
    fold (λ all member. bit_or all (gives member l.asked)) l.all.0 (drop l.member-index l.list) ≡ united l.list l.asked
