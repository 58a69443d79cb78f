use Rattle.std.proofs.Common.{rules, ◌≡◌, true, ap, ap₂, subst, ◌∙◌}
use Rattle.std.proofs.lemmas.Result.{IfOk-weaker}
use Rattle.clap.specs.Words.{App, FailsBy, app_of, fault_of, is_simple, is_simple_and_free, matches_of, rule_of, with_rule}
use Rattle.clap.specs.Simple.{app_of_fields}
use Rattle.jjob.specs.CommandOptions.{app, bare, form, rest}
use Rattle.jjob.specs.CommandWords.{words_of}
use Rattle.jjob.proofs.CommandWords.{free, simple}
use Rattle.jjob.proofs.words.parsed.Goals as goal

abbrev settled : App → App
settled a = record a { top = record a.top { no_binary_name = true; disable_help_flag = true; disable_version_flag = true } }

pub returns : goal.returns
returns c =
    let form_is : rule_of c.long-form.result ≡ form = search rules in
    let rest_is : rule_of c.action-rest.result ≡ rest = search rules in
    let bare_is : app_of c.disable_version_flag.result ≡ bare =
    ap app_of_fields c.disable_version_flag.ensures
    ∙ ap (λ f. app_of_fields (record f { disable_version_flag = true })) c.disable_help_flag.ensures
    ∙ ap (λ f. app_of_fields (record (record f { disable_help_flag = true }) { disable_version_flag = true })) c.no_binary_name.ensures
    ∙ ap settled c.new-3.ensures.app in
    let is : app_of c.in_ok-command.command ≡ app =
    c.in_ok-command.ensures.shape (search rules) ∙ ap₂ with_rule (c.in_ok-arg.ensures.shape (search rules) ∙ ap₂ with_rule bare_is form_is) rest_is in
    let parse = c.try_get_matches_from in
    record {
      matches = IfOk-weaker parse.result _ _ (λ m h. (h (ap is_simple is ∙ simple)).0 ∙ ap (λ a. matches_of a (words_of c.args.words.now)) is) parse.ensures.matches;
      kinds = subst (λ a. FailsBy (fault_of a (words_of c.args.words.now)) parse.result) is (parse.ensures.kinds (ap is_simple_and_free is ∙ free));
    }
