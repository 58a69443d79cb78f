use Rattle.std.proofs.lemmas.Str.{IsUtf8-from_is_utf8}
use Rattle.jtasks.proofs.jtask.tasks.rewrite_of_text.Goals as goal

pub text_in-requires : goal.text_in-requires
text_in-requires g c = IsUtf8-from_is_utf8 c.args.text.now c.in_ok-ground.ensures.text
