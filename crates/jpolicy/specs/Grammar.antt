-- The grammar of policy files (policy file documentation): which tokens each construct may be, and what it states.
use Rattle.std.specs.Prelude.{◌≡◌, ℕ, zero, suc, Bool, true, false, not, ◌⊎◌, List, [], ◌∷◌, ◌++◌, Option, is_some}
use Rattle.std.specs.Str.{byte}
use Rattle.jpolicy.specs.declared.token.Token.{Token}
use Rattle.jpolicy.specs.declared.token.Token.TheVariants.{Word, Text}
use Rattle.jpolicy.specs.declared.token.Placed.{Placed}
use Rattle.jpolicy.specs.declared.fault.PolicyFault.{PolicyFault}
use Rattle.jpolicy.specs.declared.fault.PolicyFault.TheVariants.{NotUtf8, Syntax, SelfExpansion}
use Rattle.jpolicy.specs.declared.keyword.Keyword.{Keyword}
use Rattle.jpolicy.specs.declared.keyword.Keyword.TheVariants as keywords
use Rattle.jpolicy.specs.declared.grant.Grant.{Grant}
use Rattle.jpolicy.specs.declared.grant.GrantEntry.{GrantEntry}
use Rattle.jpolicy.specs.declared.stated.Stated.{Stated}
use Rattle.jpolicy.specs.declared.stated.Stated.TheVariants.{Absent}
use Rattle.jpolicy.specs.declared.clauses.Clauses.{Clauses}
use Rattle.jpolicy.specs.Expansion.{Properties, expanded, expands_itself}
use Rattle.jpolicy.specs.Productions.{is_mark, is_keyword, given, is_absent, entry_of, no_clauses}
use Rattle.jpolicy.specs.ProofNames.{is_word}
use Rattle.jpolicy.specs.Productions.{with_code_base, with_signers, with_principal, grant_of, with_one}

-- which tokens a construct may be, each time with what it states
abbrev pub Grammar : Type 0 → Type 1
Grammar A = List Placed → A → Type 0

-- no tokens
abbrev pub Nothing : {A : Type 0} → A → Grammar A
Nothing a ts b = (ts ≡ []) × (b ≡ a)

-- one token that passes a test
abbrev pub One : (Token → Bool) → Grammar (Unit {0})
One test ts u = (t : Placed) × (ts ≡ t ∷ []) × (test t.token ≡ true)

abbrev pub Marked : ℕ → Grammar (Unit {0})
Marked c = One (is_mark c)

abbrev pub Keyed : Keyword → Grammar (Unit {0})
Keyed keyword = One (is_keyword keyword)

-- a word
abbrev pub Worded : Grammar (List ℕ)
Worded ts units = (t : Placed) × (ts ≡ t ∷ []) × (t.token ≡ Word units)

-- a string without `${{`
abbrev pub Texted : Properties → Grammar (Option (List ℕ))
Texted properties ts value = (t : Placed) × (units : List ℕ) × (ts ≡ t ∷ []) × (t.token ≡ Text units) × (expands_itself units ≡ false)
    × (value ≡ expanded properties units)

-- one construct behind another
infixr 12 ◌▹◌
abbrev pub ◌▹◌ : {A B : Type 0} → Grammar A → (A → Grammar B) → Grammar B
◌▹◌ {A} R S ts b = (a : A) × (front : List Placed) × (back : List Placed) × (ts ≡ front ++ back) × R front a × S a back b

-- one of two constructs
abbrev pub Either : {A : Type 0} → Grammar A → Grammar A → Grammar A
Either R S ts a = R ts a ⊎ S ts a

-- a construct that is only there where a test holds
abbrev pub Only : {A : Type 0} → Bool → Grammar A → Grammar A
Only test R ts a = (test ≡ true) × R ts a

-- so many constructs, each behind the others
abbrev pub Times : {S : Type 0} → (S → Grammar S) → ℕ → S → Grammar S
Times R zero s ts u = (ts ≡ []) × (u ≡ s)
Times {S} R (suc n) s ts u = (t : S) × (front : List Placed) × (back : List Placed) × (ts ≡ front ++ back) × R s front t × Times R n t back u

-- any number of constructs
abbrev pub Many : {S : Type 0} → (S → Grammar S) → S → Grammar S
Many R s ts u = (n : ℕ) × Times R n s ts u

-- ---- entries

abbrev pub Comma : Grammar (Unit {0})
Comma = Marked (byte ",")

-- `signedBy` string
abbrev pub Signers : Properties → Grammar Stated
Signers properties = Keyed keywords.SignedBy ▹ λ _. Texted properties ▹ λ s. Nothing (given s)

-- behind the actions: optionally a comma and the signers
abbrev pub BehindActions : Properties → Grammar Stated
BehindActions properties = Either (Comma ▹ λ _. Signers properties) (Nothing Absent)

-- behind a comma: the actions and what is behind them, or the signers
abbrev pub BehindComma : Properties → Grammar (Stated × Stated)
BehindComma properties =
    Either (Texted properties ▹ λ a. BehindActions properties ▹ λ s. Nothing (given a, s)) (Signers properties ▹ λ s. Nothing (Absent, s))

-- behind the class: optionally a string
abbrev pub Named : Properties → Grammar Stated
Named properties = Either (Texted properties ▹ λ n. Nothing (given n)) (Nothing Absent)

-- behind the name: optionally a comma with actions or signers; without a name, signers may stand there with no comma
abbrev pub BehindName : Properties → Stated → Grammar (Stated × Stated)
BehindName properties name =
    Either (Comma ▹ λ _. BehindComma properties)
    (Either (Only (is_absent name) (Signers properties ▹ λ s. Nothing (Absent, s))) (Nothing (Absent, Absent)))

-- `permission` word, optionally a name, actions and signers, `;`
abbrev pub Entry : Properties → Grammar (Option GrantEntry)
Entry properties =
    Keyed keywords.Permission ▹ λ _. Worded ▹ λ class. Named properties ▹ λ name. BehindName properties name ▹ λ more.
    Marked (byte ";") ▹ λ _. Nothing (entry_of class name more.0 more.1)

-- any number of entries; those with a missing property are left out
abbrev pub Entries : Properties → Grammar (List GrantEntry)
Entries properties = Many (λ entries. Entry properties ▹ λ e. Nothing (with_one entries e)) []

-- ---- clauses

-- the string or `*` that names a principal: whether a property is missing in it
abbrev pub PrincipalName : Properties → Grammar Bool
PrincipalName properties = Either (Marked (byte "*") ▹ λ _. Nothing false) (Texted properties ▹ λ t. Nothing (not (is_some t)))

-- behind `principal`: optionally a word or `*`, then a string or `*`
abbrev pub Principal : Properties → Grammar Bool
Principal properties =
    Either (One is_word ▹ λ _. PrincipalName properties) (Either (Marked (byte "*") ▹ λ _. PrincipalName properties) (PrincipalName properties))

-- a clause behind others: `codeBase` and `signedBy` once each
abbrev pub Clause : Properties → Clauses → Grammar Clauses
Clause properties cs =
    Either (Only (is_absent cs.code_base) (Keyed keywords.CodeBase ▹ λ _. Texted properties ▹ λ t. Nothing (with_code_base cs t)))
    (Either (Only (is_absent cs.signers) (Keyed keywords.SignedBy ▹ λ _. Texted properties ▹ λ t. Nothing (with_signers cs t)))
    (Keyed keywords.Principal ▹ λ _. Principal properties ▹ λ lacks. Nothing (with_principal cs lacks)))

-- any number of clauses, each with an optional comma behind it
abbrev pub AllClauses : Properties → Grammar Clauses
AllClauses properties = Many (λ cs. Clause properties cs ▹ λ c. Either (Comma ▹ λ _. Nothing c) (Nothing c)) no_clauses

-- ---- the policy

-- `grant`, clauses, `{`, entries, `}`, `;`
abbrev pub OneGrant : Properties → Grammar (Option Grant)
OneGrant properties =
    Keyed keywords.Grant ▹ λ _. AllClauses properties ▹ λ cs. Marked (byte "{") ▹ λ _. Entries properties ▹ λ es.
    Marked (byte "}") ▹ λ _. Marked (byte ";") ▹ λ _. Nothing (grant_of cs es)

-- optionally a comma and a string
abbrev pub Another : Properties → Grammar (Unit {0})
Another properties = Either (Comma ▹ λ _. Texted properties ▹ λ _. Nothing tt) (Nothing tt)

-- optionally a comma and a string, and another one behind it
abbrev pub Others : Properties → Grammar (Unit {0})
Others properties = Either (Comma ▹ λ _. Texted properties ▹ λ _. Another properties) (Nothing tt)

-- `keystore` string, up to two more strings, `;`
abbrev pub Keystore : Properties → Grammar (Unit {0})
Keystore properties = Keyed keywords.Keystore ▹ λ _. Texted properties ▹ λ _. Others properties ▹ λ _. Marked (byte ";")

-- `keystorePasswordURL` string `;`
abbrev pub Password : Properties → Grammar (Unit {0})
Password properties = Keyed keywords.PasswordUrl ▹ λ _. Texted properties ▹ λ _. Marked (byte ";")

-- an item behind others
abbrev pub Item : Properties → List Grant → Grammar (List Grant)
Item properties grants =
    Either (Keystore properties ▹ λ _. Nothing grants)
    (Either (Password properties ▹ λ _. Nothing grants) (OneGrant properties ▹ λ g. Nothing (with_one grants g)))

-- any number of items; grants with a missing property in a clause are left out
abbrev pub Items : Properties → Grammar (List Grant)
Items properties = Many (Item properties) []

-- ---- what is allowed

-- some tokens behind these make what a construct may be
abbrev pub Begins : {A : Type 0} → Grammar A → List Placed → Type 0
Begins {A} R front = (more : List Placed) × (a : A) × R (front ++ more) a

-- behind some tokens the next one isn't allowed, or the end of the text where none is left
abbrev pub NotAllowed : {A : Type 0} → Grammar A → List Placed → List Placed → Type 0
NotAllowed {A} R front [] = (a : A) → ¬ (R front a)
NotAllowed R front (t ∷ ts) = ¬ (Begins R (front ++ t ∷ []))

-- an empty string in place of a token
abbrev pub emptied : Placed → Placed
emptied t = record { left = t.left; token = Text [] }

-- behind some tokens a string with `${{` stands where another string is allowed
abbrev pub NotItself : {A : Type 0} → Grammar A → List Placed → List Placed → Type 0
NotItself R front [] = ⊥
NotItself R front (t ∷ ts) = (units : List ℕ) × (t.token ≡ Text units) × (expands_itself units ≡ true) × Begins R (front ++ emptied t ∷ [])

-- what the kind of a fault says of the token behind some others: whether it is such a string
abbrev pub Says : {A : Type 0} → Grammar A → List Placed → List Placed → PolicyFault → Type 0
Says R front rest NotUtf8 = ⊥
Says R front rest Syntax = ¬ (NotItself R front rest)
Says R front rest SelfExpansion = NotItself R front rest
