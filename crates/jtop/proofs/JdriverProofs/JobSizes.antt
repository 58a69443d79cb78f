-- Words that are a command to make a job give it 1 to 1,000 classes.
use Rattle.std.proofs.Common.{◌≡◌, ◌==◌, ◌≤◌, ◌&&◌, ℕ, Bool, true, false, List, [], ◌∷◌, Option, Some, None, if◌then◌else◌, nat_le, refl, subst, arith}
use Rattle.std.specs.Prelude.{codes, is_some, length, option_and_then, option_map}
use Rattle.std.specs.Str.{bytes_eq}
use Rattle.std.specs.Str.Parse.{digits_value}
use Rattle.std.proofs.lemmas.Bool.{leb-true}
use Rattle.jjob.specs.declared.command.Command.{Command}
use Rattle.jjob.specs.declared.command.Command.TheVariants as commands
use Rattle.jjob.specs.declared.command.Form.{Form}
use Rattle.jjob.specs.JobNumbers.{is_number, number_up_to}
use Rattle.jjob.specs.JobLimits.{most_seed, most_size}
use Rattle.jjob.specs.CommandWords.{Said, Word, by_verb, command, form_or_pass, said, sized, with_one, with_two}
use Rattle.jtop.specs.jdriver.Answers.{IsSized}

-- of each command that there may be
abbrev AreSized : Option Command → Type 0
AreSized o = (c : Command) → o ≡ Some c → IsSized c

none_sized : AreSized None
none_sized c e = absurd (let no = e in cc)

some_sized : (d : Command) → IsSized d → AreSized (Some d)
some_sized d h c e = subst IsSized (let same : d ≡ c = let x = e in cc in same) h

either : (b : Bool) (o p : Option Command) → AreSized o → AreSized p → AreSized (if b then o else p)
either true o p first second = first
either false o p first second = second

-- ---- one path behind the verb

run_sized : (o : Option Form) (job : Word) → AreSized (option_map (λ f. commands.Run f job) o)
run_sized None job = none_sized
run_sized (Some f) job = some_sized (commands.Run f job) tt

check_sized : (o : Option Form) (job : Word) → AreSized (option_map (λ f. commands.Check f job) o)
check_sized None job = none_sized
check_sized (Some f) job = some_sized (commands.Check f job) tt

one_sized : (form : Option Word) (verb job : Word) → AreSized (with_one form verb job)
one_sized form verb job =
    either (bytes_eq verb (codes "run")) _ _ (run_sized (form_or_pass form) job)
    (either (bytes_eq verb (codes "check")) _ _ (check_sized (form_or_pass form) job)
    (either (bytes_eq verb (codes "policy")) _ _ (either (is_some form) _ _ none_sized (some_sized (commands.Policy job) tt)) none_sized))

-- ---- two words

up_to : (most : ℕ) (digits : Word) (n : ℕ) → number_up_to most digits ≡ Some n → n ≤ most
unfolding number_up_to
up_to most digits n = by (is_number digits) (nat_le (digits_value 10 digits) most) refl
  where
    value : ℕ
    value = digits_value 10 digits

    by : (a b : Bool) → nat_le value most ≡ b → (if a && b then Some value else None) ≡ Some n → n ≤ most
    by true true le e = subst (λ (x : ℕ). x ≤ most) (let x = e in cc) (leb-true value most le)
    by true false le e = absurd (let x = e in cc)
    by false true le e = absurd (let x = e in cc)
    by false false le e = absurd (let x = e in cc)

size_sized : (seed size : ℕ) → size ≤ most_size → AreSized (sized seed size)
size_sized seed size most = by (size == 0) refl
  where
    by : (b : Bool) → (size == 0) ≡ b → AreSized (if b then None else Some (commands.Gen seed size))
    by true is = none_sized
    by false is = some_sized (commands.Gen seed size) (grind (arith, is), most)

given_sized : (seed : ℕ) (digits : Word) (o : Option ℕ) → number_up_to most_size digits ≡ o → AreSized (option_and_then (sized seed) o)
given_sized seed digits None is = none_sized
given_sized seed digits (Some size) is = size_sized seed size (up_to most_size digits size is)

generated_sized : (o : Option ℕ) (digits : Word) → AreSized (option_and_then (λ s. option_and_then (sized s) (number_up_to most_size digits)) o)
generated_sized None digits = none_sized
generated_sized (Some seed) digits = given_sized seed digits (number_up_to most_size digits) refl

two_sized : (form : Option Word) (verb one two : Word) → AreSized (with_two form verb one two)
two_sized form verb one two =
    either (is_some form) _ _ none_sized
    (either (bytes_eq verb (codes "rewrite")) _ _ (either (length two == 0) _ _ none_sized (some_sized (commands.Rewrite one two) tt))
    (either (bytes_eq verb (codes "gen")) _ _ (generated_sized (number_up_to most_seed one) two) none_sized))

-- ---- all

verb_sized : (form : Option Word) (words : List Word) → AreSized (by_verb form words)
verb_sized form [] = none_sized
verb_sized form (a ∷ []) = none_sized
verb_sized form (verb ∷ one ∷ []) = one_sized form verb one
verb_sized form (verb ∷ one ∷ two ∷ []) = two_sized form verb one two
verb_sized form (a ∷ b ∷ d ∷ e ∷ more) = none_sized

said_sized : (o : Option Said) → AreSized (option_and_then (λ s. by_verb s.form s.others) o)
said_sized None = none_sized
said_sized (Some s) = verb_sized s.form s.others

pub words_sized : (words : List Word) (c : Command) → command words ≡ Some c → IsSized c
unfolding command
words_sized words c e = said_sized (said false words) c e
