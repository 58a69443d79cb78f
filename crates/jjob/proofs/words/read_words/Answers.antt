use Rattle.std.proofs.Common.{map, option_copied, codes, refl, sym, subst, None, Some}
use Rattle.clap.specs.Words.{first_value, found_of}
use Rattle.jjob.specs.CommandWords.{WordsGive, words_of}
use Rattle.jjob.proofs.ParserAgreement.{command_is}
use Rattle.jjob.proofs.words.read_words.Goals as goal

pub returns-in-Some : goal.returns-in-Some
returns-in-Some c =
    let others = Some (map (λ w. w.now) c.in-Some.others.now) in
    let is = command_is (words_of c.args.words.now) (found_of c.in_ok-matches.matches) (option_copied c.get_str.result) others c.in_ok-matches.ensures c.get_str.ensures c.in-Some.ensures in
    subst (WordsGive c.by_verb.result) (sym is) c.by_verb.ensures

pub returns : goal.returns
returns c =
    let found = found_of c.in_ok-matches.matches in
    command_is (words_of c.args.words.now) found (first_value found (codes "form")) None c.in_ok-matches.ensures refl c.in-None.ensures
