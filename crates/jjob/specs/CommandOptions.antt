-- The command line as the parser of words is told it: an option `--form` of one value, and other words.
use Rattle.std.specs.Prelude.{Some, true, codes}
use Rattle.clap.specs.Words.{App, Rule, new_app, new_rule, with_rule}
use Rattle.clap.specs.declared.builder.ArgAction.TheVariants.{Append}

abbrev pub form : Rule
form = record (new_rule (codes "form")) { long = Some (codes "form") }

abbrev pub rest : Rule
rest = record (new_rule (codes "words")) { action = Some Append }

abbrev pub bare : App
bare = record (new_app (codes "javasec")) {
  top =
      record (new_app (codes "javasec")).top { no_binary_name = true; disable_help_flag = true; disable_version_flag = true };
}

abbrev pub app : App
app = with_rule (with_rule bare form) rest
