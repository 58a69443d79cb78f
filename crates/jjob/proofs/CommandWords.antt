-- The parser's walk over the words, and what the words say.
use Rattle.std.proofs.Common.{◌≡◌, true, refl}
use Rattle.clap.specs.Words.{is_simple, is_simple_and_free}
use Rattle.clap.proofs.OnLiterals.{clap_on_literals}
use Rattle.jjob.specs.CommandOptions.{app}

pub simple : is_simple app ≡ true
unfolding clap_on_literals
simple = refl

pub free : is_simple_and_free app ≡ true
unfolding clap_on_literals
free = refl
