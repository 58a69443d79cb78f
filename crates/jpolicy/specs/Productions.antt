-- The productions of policy files, over the tokens (policy file documentation). Each gives what stands at the front and the tokens behind
-- it, or the first token that isn't allowed.
use Rattle.std.specs.Prelude.{ℕ, Bool, true, false, not, ◌&&◌, ◌||◌, ◌==◌, List, [], ◌∷◌, ◌++◌, length, Option, Some, None, is_some, Result, Ok, Err, if◌then◌else◌, codes}
use Rattle.std.specs.Str.{byte}
use Rattle.jground.specs.jbase.MemoryFailures.{◌>>=◌}
use Rattle.jground.specs.declared.jformat.error.Fault.{Fault}
use Rattle.jground.specs.jtext.Texts.{same_ignoring_case}
use Rattle.jpolicy.specs.declared.token.Token.{Token}
use Rattle.jpolicy.specs.declared.token.Token.TheVariants.{Word, Text, Mark}
use Rattle.jpolicy.specs.declared.token.Placed.{Placed}
use Rattle.jpolicy.specs.declared.fault.PolicyFault.{PolicyFault}
use Rattle.jpolicy.specs.declared.fault.PolicyFault.TheVariants.{Syntax, SelfExpansion}
use Rattle.jpolicy.specs.declared.keyword.Keyword.{Keyword}
use Rattle.jpolicy.specs.declared.keyword.Keyword.TheVariants as keywords
use Rattle.jpolicy.specs.declared.grant.Grant.{Grant}
use Rattle.jpolicy.specs.declared.grant.GrantEntry.{GrantEntry}
use Rattle.jpolicy.specs.declared.stated.Stated.{Stated}
use Rattle.jpolicy.specs.declared.stated.Stated.TheVariants.{Absent, Missing, Given}
use Rattle.jpolicy.specs.declared.clauses.Clauses.{Clauses}
use Rattle.jpolicy.specs.Expansion.{Properties, expanded, expands_itself}
use Rattle.jpolicy.specs.ListWalks.{none_left, walk}

-- what stands at the front and the tokens behind it, or a fault
abbrev pub Answer : Type 0 → Type 0
Answer A = Result (A × List Placed) (Fault PolicyFault)

-- a fault of the next token; the end of the text counts as a token
abbrev pub fault_at : PolicyFault → List Placed → Fault PolicyFault
fault_at kind = elim [ [] ↦ record { left = 0; kind = kind } | t ∷ ts ↦ record { left = t.left; kind = kind } ]

abbrev pub not_allowed : {A : Type 0} → List Placed → Result A (Fault PolicyFault)
not_allowed ts = Err (fault_at Syntax ts)

-- ---- single tokens

-- the tokens behind the next one
abbrev pub behind : List Placed → List Placed
behind = elim [ [] ↦ [] | t ∷ ts ↦ ts ]

abbrev pub is_mark : ℕ → Token → Bool
is_mark c = elim [ Mark d ↦ d == c | _ ↦ false ]

abbrev pub is_text : Token → Bool
is_text = elim [ Text units ↦ true | _ ↦ false ]

-- the letters of a keyword
abbrev pub spelling : Keyword → List ℕ
spelling keywords.Grant = codes "grant"
spelling keywords.CodeBase = codes "codeBase"
spelling keywords.SignedBy = codes "signedBy"
spelling keywords.Principal = codes "principal"
spelling keywords.Permission = codes "permission"
spelling keywords.Keystore = codes "keystore"
spelling keywords.PasswordUrl = codes "keystorePasswordURL"

-- whether a word is a keyword, whose case is unimportant
abbrev pub is_keyword : Keyword → Token → Bool
is_keyword keyword = elim [ Word units ↦ same_ignoring_case units (spelling keyword) | _ ↦ false ]

abbrev pub next : (Token → Bool) → List Placed → Bool
next test = elim [ [] ↦ false | t ∷ ts ↦ test t.token ]

abbrev pub one : (Token → Bool) → List Placed → Answer (Unit {0})
one test ts = if next test ts then Ok (tt, behind ts) else not_allowed ts

-- `{`, `}`, `,`, `;` or `*`
abbrev pub mark_at : ℕ → List Placed → Answer (Unit {0})
mark_at c ts = one (is_mark c) ts

abbrev pub keyword_at : Keyword → List Placed → Answer (Unit {0})
keyword_at keyword ts = one (is_keyword keyword) ts

abbrev pub units_of : Token → List Placed → List Placed → Answer (List ℕ)
units_of x all rest = elim x [ Word units ↦ Ok (units, rest) | _ ↦ not_allowed all ]

abbrev pub word_at : List Placed → Answer (List ℕ)
word_at = elim [ [] ↦ not_allowed [] | t ∷ ts ↦ units_of t.token (t ∷ ts) ts ]

abbrev pub value_of : Properties → Token → List Placed → List Placed → Answer (Option (List ℕ))
value_of properties (Text units) all rest = if expands_itself units then Err (fault_at SelfExpansion all) else Ok (expanded properties units, rest)
value_of properties _ all rest = not_allowed all

-- a string with its properties expanded, or none where one is missing
unfoldable pub text_at : Properties → List Placed → Answer (Option (List ℕ))
text_at properties = elim [ [] ↦ not_allowed [] | t ∷ ts ↦ value_of properties t.token (t ∷ ts) ts ]

-- one more behind others, where there is one
abbrev pub with_one : {A : Type 0} → List A → Option A → List A
with_one xs y = elim y [ Some x ↦ xs ++ x ∷ [] | None ↦ xs ]

-- ---- entries

-- a string that is there
abbrev pub given : Option (List ℕ) → Stated
given = elim [ Some units ↦ Given units | None ↦ Missing ]

-- `signedBy` string
unfoldable pub signer_at : Properties → List Placed → Answer Stated
signer_at properties ts = keyword_at keywords.SignedBy ts >>= λ k. text_at properties k.1 >>= λ s. Ok (given s.0, s.1)

-- behind the actions: optionally a comma and the signers
abbrev pub behind_actions : Properties → List Placed → Answer Stated
behind_actions properties ts = if next (is_mark (byte ",")) ts then signer_at properties (behind ts) else Ok (Absent, ts)

-- behind a comma: the actions and what is behind them, or the signers
abbrev pub behind_comma : Properties → List Placed → Answer (Stated × Stated)
behind_comma properties ts =
    if next is_text ts then (text_at properties ts >>= λ a. behind_actions properties a.1 >>= λ s. Ok ((given a.0, s.0), s.1))
    else (signer_at properties ts >>= λ s. Ok ((Absent, s.0), s.1))

-- behind the class: optionally a string
abbrev pub name_at : Properties → List Placed → Answer Stated
name_at properties ts = if next is_text ts then (text_at properties ts >>= λ n. Ok (given n.0, n.1)) else Ok (Absent, ts)

abbrev pub is_absent : Stated → Bool
is_absent = elim [ Absent ↦ true | _ ↦ false ]

-- behind the name: optionally a comma with actions or signers; without a name, signers may stand there with no comma
abbrev pub behind_name : Properties → Stated → List Placed → Answer (Stated × Stated)
behind_name properties name ts =
    if next (is_mark (byte ",")) ts then behind_comma properties (behind ts) else
    (if is_absent name && next (is_keyword keywords.SignedBy) ts then (signer_at properties ts >>= λ s. Ok ((Absent, s.0), s.1)) else Ok
    ((Absent, Absent), ts))

-- a string as an entry holds it, or none where a property is missing
abbrev pub kept : Stated → Option (Option (List ℕ))
kept = elim [ Absent ↦ Some None | Missing ↦ None | Given units ↦ Some (Some units) ]

abbrev pub entry_with : List ℕ → Option (Option (List ℕ)) → Option (Option (List ℕ)) → Option (Option (List ℕ)) → Option GrantEntry
entry_with class (Some name) (Some actions) (Some signers) = Some (record { class = class; name = name; actions = actions; signed = is_some signers })
entry_with class _ _ _ = None

-- the entry of its parts, or none where a property is missing in one
abbrev pub entry_of : List ℕ → Stated → Stated → Stated → Option GrantEntry
entry_of class name actions signers = entry_with class (kept name) (kept actions) (kept signers)

-- `permission` word, optionally a name, actions and signers, `;`
unfoldable pub entry_at : Properties → List Placed → Answer (Option GrantEntry)
entry_at properties ts =
    keyword_at keywords.Permission ts >>= λ k. word_at k.1 >>= λ class. name_at properties class.1 >>= λ name.
    behind_name properties name.0 name.1 >>= λ more. mark_at (byte ";") more.1 >>= λ end. Ok (entry_of class.0 name.0 more.0.0 more.0.1, end.1)

abbrev pub one_entry : Properties → List GrantEntry → List Placed → Answer (List GrantEntry)
one_entry properties entries ts = entry_at properties ts >>= λ e. Ok (with_one entries e.0, e.1)

-- entries up to a brace; those with a missing property are left out
unfoldable pub entries_at : Properties → List Placed → Answer (List GrantEntry)
entries_at properties ts = walk (next (is_mark (byte "}"))) (one_entry properties) (length ts) [] ts

-- ---- clauses

abbrev pub no_clauses : Clauses
no_clauses = record { code_base = Absent; signers = Absent; has_principals = false; lacks_principal = false }

-- the string or `*` that names a principal: whether a property is missing in it
abbrev pub principal_name_at : Properties → List Placed → Answer Bool
principal_name_at properties ts =
    if next (is_mark (byte "*")) ts then Ok (false, behind ts) else (text_at properties ts >>= λ t. Ok (not (is_some t.0), t.1))

abbrev pub names_principal : Token → Bool
names_principal token = is_text token || is_mark (byte "*") token

-- behind `principal`: optionally a word or `*`, then a string or `*`
abbrev pub principal_at : Properties → List Placed → Answer Bool
principal_at properties ts =
    if next (elim [ Word units ↦ true | _ ↦ false ]) ts then principal_name_at properties (behind ts) else
    (if next (is_mark (byte "*")) ts && next names_principal (behind ts) then principal_name_at properties
    (behind ts) else principal_name_at properties ts)

abbrev pub with_code_base : Clauses → Option (List ℕ) → Clauses
with_code_base cs text =
    record { code_base = given text; signers = cs.signers; has_principals = cs.has_principals; lacks_principal = cs.lacks_principal }

abbrev pub with_signers : Clauses → Option (List ℕ) → Clauses
with_signers cs text =
    record { code_base = cs.code_base; signers = given text; has_principals = cs.has_principals; lacks_principal = cs.lacks_principal }

abbrev pub with_principal : Clauses → Bool → Clauses
with_principal cs lacks =
    record { code_base = cs.code_base; signers = cs.signers; has_principals = true; lacks_principal = cs.lacks_principal || lacks }

-- a clause behind others: `codeBase` and `signedBy` once each
unfoldable pub clause_at : Properties → Clauses → List Placed → Answer Clauses
clause_at properties cs ts =
    if next (is_keyword keywords.CodeBase) ts && is_absent cs.code_base then
    (text_at properties (behind ts) >>= λ t. Ok (with_code_base cs t.0, t.1)) else
    (if next (is_keyword keywords.SignedBy) ts && is_absent cs.signers then
    (text_at properties (behind ts) >>= λ t. Ok (with_signers cs t.0, t.1)) else
    (if next (is_keyword keywords.Principal) ts then
    (principal_at properties (behind ts) >>= λ p. Ok (with_principal cs p.0, p.1)) else not_allowed ts))

abbrev pub one_clause : Properties → Clauses → List Placed → Answer Clauses
one_clause properties cs ts = clause_at properties cs ts >>= λ c. Ok (c.0, if next (is_mark (byte ",")) c.1 then behind c.1 else c.1)

-- clauses up to a brace
unfoldable pub clauses_at : Properties → List Placed → Answer Clauses
clauses_at properties ts = walk (next (is_mark (byte "{"))) (one_clause properties) (length ts) no_clauses ts

-- ---- grants

abbrev pub is_missing : Stated → Bool
is_missing = elim [ Missing ↦ true | _ ↦ false ]

abbrev pub grant_with : Option (Option (List ℕ)) → Bool → Bool → List GrantEntry → Option Grant
grant_with (Some code_base) false asks_more entries = Some (record { code_base = code_base; asks_more = asks_more; entries = entries })
grant_with _ _ asks_more entries = None

-- the grant of its clauses and entries, or none where a property is missing in a clause
abbrev pub grant_of : Clauses → List GrantEntry → Option Grant
grant_of cs entries = grant_with (kept cs.code_base) (is_missing cs.signers || cs.lacks_principal)
    (not (is_absent cs.signers) || cs.has_principals) entries

-- `grant`, clauses, `{`, entries, `}`, `;`
unfoldable pub grant_at : Properties → List Placed → Answer (Option Grant)
grant_at properties ts =
    keyword_at keywords.Grant ts >>= λ k. clauses_at properties k.1 >>= λ cs. mark_at (byte "{") cs.1 >>= λ open_brace.
    entries_at properties open_brace.1 >>= λ es. mark_at (byte "}") es.1 >>= λ close_brace. mark_at (byte ";") close_brace.1
    >>= λ end. Ok (grant_of cs.0 es.0, end.1)

-- ---- the policy

-- optionally a comma and a string
abbrev pub another_at : Properties → List Placed → Answer (Unit {0})
another_at properties ts = if next (is_mark (byte ",")) ts then (text_at properties (behind ts) >>= λ t. Ok (tt, t.1)) else Ok (tt, ts)

-- optionally a comma and a string, and another one behind it
abbrev pub others_at : Properties → List Placed → Answer (Unit {0})
others_at properties ts = if next (is_mark (byte ",")) ts then (text_at properties (behind ts) >>= λ t. another_at properties t.1) else Ok (tt, ts)

-- `keystore` string, up to two more strings, `;`
unfoldable pub keystore_at : Properties → List Placed → Answer (Unit {0})
keystore_at properties ts =
    keyword_at keywords.Keystore ts >>= λ k. text_at properties k.1 >>= λ t. others_at properties t.1 >>= λ u. mark_at (byte ";") u.1

-- `keystorePasswordURL` string `;`
unfoldable pub password_at : Properties → List Placed → Answer (Unit {0})
password_at properties ts = keyword_at keywords.PasswordUrl ts >>= λ k. text_at properties k.1 >>= λ t. mark_at (byte ";") t.1

-- an item behind others
abbrev pub one_item : Properties → List Grant → List Placed → Answer (List Grant)
one_item properties grants ts =
    if next (is_keyword keywords.Keystore) ts then (keystore_at properties ts >>= λ k. Ok (grants, k.1)) else
    (if next (is_keyword keywords.PasswordUrl) ts then (password_at properties ts >>= λ k. Ok (grants, k.1)) else
    grant_at properties ts >>= λ g. Ok (with_one grants g.0, g.1))

-- items to the end of the text; grants with a missing property in a clause are left out
unfoldable pub policy_at : Properties → List Placed → Result (List Grant) (Fault PolicyFault)
policy_at properties ts = walk none_left (one_item properties) (length ts) [] ts >>= λ x. if none_left x.1 then Ok x.0 else not_allowed x.1
