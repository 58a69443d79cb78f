-- What asks and answers by numbers say.
use Rattle.std.specs.Prelude.{ℕ}
use Rattle.std.specs.Option.{option_copied}
use Rattle.jguard.specs.declared.ask.Ask.{Ask as AskSaid}
use Rattle.jguard.specs.declared.ask.Ask.TheVariants as asks
use Rattle.jguard.specs.declared.ask.Answer.{Answer as AnswerSaid}
use Rattle.jguard.specs.declared.ask.Answer.TheVariants as answers
use Rattle.jsemantics.specs.jmachine.AccessQueries.{Ask, Checks, ChecksKept, Snapshots, Inherits, Enters, Privileges, Answer, Decided, Kept, Entered, Allowed}

abbrev pub said : AskSaid → Ask ℕ
said (asks.Enter ctx domain) = Enters ctx domain
said (asks.Check asked ctx) = Checks asked.now ctx
said (asks.CheckKept asked kept) = ChecksKept asked.now kept
said (asks.Snapshot ctx) = Snapshots ctx
said (asks.Inherit ctx) = Inherits ctx
said (asks.Privileged domain ctx given limits) = Privileges domain ctx given (option_copied limits)

abbrev pub given_by : {M : Type 0} → AnswerSaid M → Answer ℕ M
given_by (answers.Verdict verdict) = Decided verdict
given_by (answers.Kept n) = Kept n
given_by (answers.Ctx n) = Entered n
given_by (answers.Marked caller ctx) = Allowed (record { caller = caller; context = ctx })

-- ---- kinds: a verdict, what is kept, a context, a privilege

abbrev pub kind : {K : Type 0} → Ask K → ℕ
kind (Checks asked ctx) = 0
kind (ChecksKept asked k) = 0
kind (Snapshots ctx) = 1
kind (Inherits ctx) = 1
kind (Enters k domain) = 2
kind (Privileges domain ctx given limits) = 3

abbrev pub answer_kind : {K E : Type 0} → Answer K E → ℕ
answer_kind (Decided v) = 0
answer_kind (Kept k) = 1
answer_kind (Entered k) = 2
answer_kind (Allowed p) = 3
