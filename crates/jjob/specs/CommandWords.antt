-- The words of the command line, and the command that they are.
use Rattle.std.specs.Prelude.{◌≡◌, ℕ, ◌==◌, Bool, true, false, List, [], ◌∷◌, Option, Some, None, Result, Ok, Err, ⊤}
use Rattle.std.specs.Prelude.{if◌then◌else◌, is_some, length, drop, take, codes, map, option_map, option_and_then, String, string_bytes}
use Rattle.std.specs.Str.{bytes_eq}
use Rattle.std.specs.declared.alloc.Global.{Global}
use Rattle.jjob.specs.declared.command.Command.{Command}
use Rattle.jjob.specs.declared.command.Command.TheVariants.{Run, Check, Rewrite, Policy, Gen}
use Rattle.jjob.specs.declared.command.Form.{Form}
use Rattle.jjob.specs.declared.command.Form.TheVariants.{Inspect, Pass, Plain}
use Rattle.jjob.specs.declared.command.WordsError.{WordsError}
use Rattle.jjob.specs.declared.command.WordsError.TheVariants.{Usage, Memory}
use Rattle.jjob.specs.JobNumbers.{number_up_to}
use Rattle.jjob.specs.JobLimits.{most_seed, most_size}

-- the bytes of a word
abbrev pub Word : Type 0
Word = List ℕ

abbrev pub words_of : List (String Global) → List Word
words_of words = map (λ w. string_bytes w) words

-- ---- what words say

-- the form that they name, if they name one, and the other words
pub record Said : Type 0 where
  pub form : Option Word
  pub others : List Word

-- the word begins with `-`, but isn't `-`
abbrev pub is_flag : Word → Bool
is_flag [] = false
is_flag (b ∷ []) = false
is_flag (b ∷ c ∷ bs) = b == 45

-- what stands behind `--form=`
abbrev pub attached : Word → Option Word
attached w = if bytes_eq (take 7 w) (codes "--form=") then Some (drop 7 w) else None

-- a form more: one alone may be named
abbrev pub with_form : Word → Said → Option Said
with_form f s = if is_some s.form then None else Some (record s { form = Some f })

-- a word more, before the others
abbrev pub with_other : Word → Said → Said
with_other w s = record s { others = w ∷ s.others }

-- a word that is neither `--` nor `--form`, before what the words behind it say
abbrev pub with_word : Word → Option Word → Option Said → Option Said
with_word w (Some f) said = option_and_then (with_form f) said
with_word w None said = if is_flag w then None else option_map (with_other w) said

-- what words say, where the Bool is true behind a `--form` that its value follows
unfoldable pub said : Bool → List Word → Option Said
said true [] = None
said true (w ∷ ws) = if is_flag w then None else option_and_then (with_form w) (said false ws)
said false [] = Some (record { form = None; others = [] })
said false (w ∷ ws) =
    if bytes_eq w (codes "--") then Some (record { form = None; others = ws })
    else (if bytes_eq w (codes "--form") then said true ws else with_word w (attached w) (said false ws))

-- ---- the command

-- the form of a name
abbrev pub form_named : Word → Option Form
form_named w = if bytes_eq w (codes "inspect") then Some Inspect
    else (if bytes_eq w (codes "pass") then Some Pass else (if bytes_eq w (codes "plain") then Some Plain else None))

-- the form that is named, and `pass` where none is
abbrev pub form_or_pass : Option Word → Option Form
form_or_pass = elim [ None ↦ Some Pass | Some w ↦ form_named w ]

-- a size isn't 0
abbrev pub sized : ℕ → ℕ → Option Command
sized seed size = if size == 0 then None else Some (Gen seed size)

-- what is made of a seed and a size, each of 1 to 20 decimal digits
abbrev pub generated : Word → Word → Option Command
generated seed size = option_and_then (λ s. option_and_then (sized s) (number_up_to most_size size)) (number_up_to most_seed seed)

-- what has one path behind its verb
abbrev pub with_one : Option Word → Word → Word → Option Command
with_one form verb job =
    if bytes_eq verb (codes "run") then option_map (λ f. Run f job) (form_or_pass form)
    else (if bytes_eq verb (codes "check") then option_map (λ f. Check f job) (form_or_pass form)
    else (if bytes_eq verb (codes "policy") then (if is_some form then None else Some (Policy job)) else None))

-- what has two words behind its verb
abbrev pub with_two : Option Word → Word → Word → Word → Option Command
with_two form verb one two =
    if is_some form then None
    else (if bytes_eq verb (codes "rewrite") then (if length two == 0 then None else Some (Rewrite one two))
    else (if bytes_eq verb (codes "gen") then generated one two else None))

-- a verb has one word or two behind it
abbrev pub by_verb : Option Word → List Word → Option Command
by_verb form (verb ∷ one ∷ []) = with_one form verb one
by_verb form (verb ∷ one ∷ two ∷ []) = with_two form verb one two
by_verb form _ = None

-- the command that words are
unfoldable pub command : List Word → Option Command
command words = option_and_then (λ s. by_verb s.form s.others) (said false words)

-- ---- what a reading answers

-- a command exactly where there is this one, Usage exactly where there is none; want of memory may come at any time
abbrev pub WordsGive : Result Command WordsError → Option Command → Type 0
WordsGive (Ok c) d = d ≡ Some c
WordsGive (Err Usage) d = d ≡ None
WordsGive (Err Memory) d = ⊤
