use Rattle.std.proofs.Common.{◌≡◌, ◌+◌, [], ◌∷◌, length, ap, ◌∙◌, arith}
use Rattle.std.proofs.lemmas.List.{length-append}
use Rattle.jresolution.proofs.JusesProofs.Spans.{grows_on}
use Rattle.jready.proofs.MethodNumbers.{own_more}
use Rattle.jready.proofs.ready.put_class.Goals as goal

pub loop-method-preserved : goal.loop-method-preserved
loop-method-preserved c =
    let old = c.loop-method.invariant in
    let put = c.in_ok-put.ensures in
    let rows = c.loop-method.methods.rows in
    let new = c.put.new.self.rows in
    let len : length new ≡ length rows + 1 = ap length put.behind ∙ length-append rows (put.row ∷ []) in
    record {
      are = put.are;
      count = let n = old.count in omega arith;
      behind = grows_on c.args.methods.now.rows rows new old.behind (put.row ∷ [], put.behind);
      own = own_more rows new (length c.args.methods.now.rows) c.args.class c.loop-method.method put.row old.own old.count put.behind put.own;
    }
