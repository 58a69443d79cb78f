use Rattle.std.proofs.Common.{arith}
use Rattle.jgen.proofs.MethodParts.{main_is}
use Rattle.jgen.proofs.class.put_main.Goals as goal

pub put_main_end-requires : goal.put_main_end-requires
put_main_end-requires c = omega (arith, c.in_ok-put_main_begin.ensures.few, c.in_ok-put_calls.ensures.few, c.requires.most, c.requires.room)

pub returns : goal.returns
returns c =
    main_is c.args.size _ _ c.args.draft.now c.put_main_begin.new.draft c.put_calls.new.draft c.put_main_end.new.draft c.put_main_end.result (omega arith) (omega arith)
    c.in_ok-put_main_begin.ensures.value c.in_ok-put_calls.ensures.value c.put_main_end.ensures
