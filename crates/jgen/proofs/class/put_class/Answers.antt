use Rattle.std.proofs.Common.{◌∙◌}
use Rattle.jgen.proofs.MethodParts.{class_is}
use Rattle.jgen.proofs.class.put_class.Goals as goal

pub returns : goal.returns
returns c =
    class_is c.args.size c.args.i c.args.kind c.as_slice-own.result.now c.as_slice-next.result.now c.methods.result c.args.draft.now c.put_head.new.draft c.put_init.new.draft c.put_run.new.draft c.put_f.new.draft
    c.put_main_of.new.draft c.put_none.new.draft c.put_none.result (c.as_slice-own.ensures ∙ c.in_ok-own.ensures.name) (c.as_slice-next.ensures ∙ c.in_ok-next.ensures.name) c.methods.ensures
    c.in_ok-put_head.ensures.value c.in_ok-put_init.ensures.value c.in_ok-put_run.ensures.value c.in_ok-put_f.ensures.value c.in_ok-put_main_of.ensures c.put_none.ensures
