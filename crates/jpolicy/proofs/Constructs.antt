-- Each production of policy files is exact.
use Rattle.std.proofs.Common.{◌≡◌, ℕ, suc, ◌<◌, Bool, true, false, cond, not, ◌&&◌, eqb, List, [], ◌∷◌, ◌++◌, length, Option, Some, Ok, Err, refl, sym, ap, ◌∙◌, append_assoc, subst, length-append, ◌+◌, inl, inr, arith}
use Rattle.std.specs.Prelude.{is_some}
use Rattle.std.specs.Str.{byte}
use Rattle.std.proofs.lemmas.Bool.{cases_Bool, eqb-true}
use Rattle.std.proofs.lemmas.List.{append-nil}
use Rattle.jground.specs.jbase.MemoryFailures.{◌>>=◌}
use Rattle.jpolicy.specs.declared.token.Token.{Token}
use Rattle.jpolicy.specs.declared.token.Token.TheVariants.{Word, Text, Mark, Bad}
use Rattle.jpolicy.specs.declared.token.Placed.{Placed}
use Rattle.jground.specs.declared.jformat.error.Fault.{Fault}
use Rattle.jpolicy.specs.declared.fault.PolicyFault.{PolicyFault}
use Rattle.jpolicy.specs.declared.fault.PolicyFault.TheVariants.{NotUtf8, Syntax, SelfExpansion}
use Rattle.jpolicy.specs.declared.keyword.Keyword.{Keyword}
use Rattle.jpolicy.specs.declared.keyword.Keyword.TheVariants as keywords
use Rattle.jpolicy.specs.declared.grant.Grant.{Grant}
use Rattle.jpolicy.specs.declared.grant.GrantEntry.{GrantEntry}
use Rattle.jpolicy.specs.declared.stated.Stated.{Stated}
use Rattle.jpolicy.specs.declared.stated.Stated.TheVariants.{Absent}
use Rattle.jpolicy.specs.declared.clauses.Clauses.{Clauses}
use Rattle.jpolicy.specs.Expansion.{Properties}
use Rattle.jpolicy.specs.ListWalks.{Ends, none_left, walk}
use Rattle.jpolicy.specs.Productions as read
use Rattle.jpolicy.specs.ProofNames
use Rattle.jpolicy.specs.Productions.{Answer, next, behind, is_mark, is_text, is_keyword, names_principal, is_absent, given, entry_of, with_code_base, with_signers, with_principal, grant_of, with_one, no_clauses}
use Rattle.jpolicy.specs.ProofNames.{is_word, skip_comma}
use Rattle.jpolicy.specs.Grammar.{Grammar, Nothing, Marked, Keyed, Worded, Texted, ◌▹◌, Either, Only, Comma, Signers, BehindActions, BehindComma, Named, BehindName, Entry, Entries, PrincipalName, Principal, Clause, AllClauses, OneGrant, Another, Others, Keystore, Password, Item, Items, Begins, NotAllowed, Says, emptied}
use Rattle.jpolicy.proofs.ListWalks.{bind_ok, walk_ends}
use Rattle.jpolicy.proofs.FirmParsers.{Firm, Seen, Alike, Said, plain, first, bind_err, picked, shrinks, and_false, same_next, firm_same, firm_wide, firm_if, firm_next, firm_none}
use Rattle.jpolicy.proofs.ExactParsers.{Law, Complete, Any, Not, Steps, law_none, law_one, law_word, law_text, law_then, law_first, law_map, law_next, law_if, law_only, law_once, law_last, law_many, front_of, steps_go}
use Rattle.jpolicy.proofs.FirstTokens.{seen_mark, seen_word, seen_text, seen_name, seen_keyword, marks_apart, mark_no_keyword, mark_no_text, mark_no_word, keyword_no_mark, keyword_no_text, keywords_apart, begins, begins_so, begins_some, deeper, deeper_some, text_begins, nothing_first, next_apart, worded}

abbrev comma : Token → Bool
comma = is_mark (byte ",")

seen_comma : Seen comma
seen_comma = seen_mark (byte ",") refl

law_key : (w : Keyword) → Law Any (read.keyword_at w) (Keyed w)
law_key w = law_one (is_keyword w) (seen_keyword w)

law_semicolon : Law Any (read.mark_at (byte ";")) (Marked (byte ";"))
law_semicolon = law_one (is_mark (byte ";")) (seen_mark (byte ";") refl)

abbrev star : Token → Bool
star = is_mark (byte "*")

abbrev semicolon : Token → Bool
semicolon = is_mark (byte ";")

-- what may follow where less may
narrow : {A : Type 0} (F G : List Placed → Type 0) (f : List Placed → Answer A) (R : Grammar A) → ((rest : List Placed) → G rest → F rest) → Law F f R → Law G f R
narrow F G f R h l = record { firm = l.firm; complete = λ front a rest d follow. l.complete front a rest d (h rest follow) }

any : {A : Type 0} (G : List Placed → Type 0) (f : List Placed → Answer A) (R : Grammar A) → Law Any f R → Law G f R
any G f R l = narrow Any G f R (λ rest follow. tt) l

-- ---- entries

signers : (p : Properties) → Law Any (read.signer_at p) (Signers p)
unfolding read.signer_at
signers p = law_first Any (read.keyword_at keywords.SignedBy) (Keyed keywords.SignedBy) (λ (u : Unit {0}) ts. read.text_at p ts >>= λ s. Ok (given s.0, s.1)) (λ (u : Unit {0}). Texted p ▹ λ s. Nothing (given s)) (law_key keywords.SignedBy) (λ u. law_map Any (read.text_at p) (Texted p) given (law_text p))

behind_actions : (p : Properties) → Law (Not comma) (read.behind_actions p) (BehindActions p)
behind_actions p = law_next (Not comma) comma seen_comma (read.signer_at p) (Signers p) (λ ts. Ok (Absent, ts)) (Nothing Absent) (any (Not comma) (read.signer_at p) (Signers p) (signers p)) (law_none (Not comma) Absent) (nothing_first (Not comma) Absent)

behind_comma : (p : Properties) → Law (Not comma) (read.behind_comma p) (BehindComma p)
behind_comma p = law_if (Not comma) is_text seen_text (λ ts. read.text_at p ts >>= λ a. read.behind_actions p a.1 >>= λ s. Ok ((given a.0, s.0), s.1)) (Texted p ▹ λ a. BehindActions p ▹ λ s. Nothing (given a, s)) (λ ts. read.signer_at p ts >>= λ s. Ok ((Absent, s.0), s.1)) (Signers p ▹ λ s. Nothing (Absent, s))
    (law_first (Not comma) (read.text_at p) (Texted p) (λ a ts. read.behind_actions p ts >>= λ s. Ok ((given a, s.0), s.1)) (λ a. BehindActions p ▹ λ s. Nothing (given a, s)) (law_text p) (λ a. law_map (Not comma) (read.behind_actions p) (BehindActions p) (λ s. (given a, s)) (behind_actions p)))
    (any (Not comma) (λ ts. read.signer_at p ts >>= λ s. Ok ((Absent, s.0), s.1)) (Signers p ▹ λ s. Nothing (Absent, s)) (law_map Any (read.signer_at p) (Signers p) (λ s. (Absent, s)) (signers p)))
    (λ front a rest d follow. text_begins p is_text true (λ a. BehindActions p ▹ λ s. Nothing (given a, s)) (λ u. refl) front a rest d)
    (λ front a rest d follow. deeper is_text false (Signers p) (λ s. Nothing (Absent, s)) (begins (is_keyword keywords.SignedBy) is_text (Texted p ▹ λ s. Nothing (given s)) (keyword_no_text keywords.SignedBy)) front a rest d)

name : (p : Properties) → Law (Not is_text) (read.name_at p) (Named p)
name p = law_if (Not is_text) is_text seen_text (λ ts. read.text_at p ts >>= λ n. Ok (given n.0, n.1)) (Texted p ▹ λ n. Nothing (given n)) (λ ts. Ok (Absent, ts)) (Nothing Absent)
    (any (Not is_text) (λ ts. read.text_at p ts >>= λ n. Ok (given n.0, n.1)) (Texted p ▹ λ n. Nothing (given n)) (law_map Any (read.text_at p) (Texted p) given (law_text p)))
    (law_none (Not is_text) Absent)
    (λ front a rest d follow. text_begins p is_text true (λ n. Nothing (given n)) (λ u. refl) front a rest d)
    (nothing_first (Not is_text) Absent)

-- what follows the parts of an entry
abbrev EntryFollows : List Placed → Type 0
EntryFollows rest = (next comma rest ≡ false) × (next (is_keyword keywords.SignedBy) rest ≡ false)

abbrev BareSigners : Properties → Grammar (Stated × Stated)
BareSigners p = Signers p ▹ λ s. Nothing (Absent, s)

bare_misses : (p : Properties) (b : Bool) (front : List Placed) (a : Stated × Stated) (rest : List Placed) → Either (Only b (BareSigners p)) (Nothing (Absent, Absent)) front a → EntryFollows rest → next comma (front ++ rest) ≡ false
bare_misses p b front a rest (inl d) follow = deeper comma false (Signers p) (λ s. Nothing (Absent, s)) (begins (is_keyword keywords.SignedBy) comma (Texted p ▹ λ s. Nothing (given s)) (keyword_no_mark keywords.SignedBy (byte ","))) front a rest d.1
bare_misses p b front a rest (inr d) follow = nothing_first (Not comma) (Absent, Absent) front a rest d follow.0

none_misses : (b : Bool) (front : List Placed) (a : Stated × Stated) (rest : List Placed) → Nothing (Absent, Absent) front a → EntryFollows rest → (b && next (is_keyword keywords.SignedBy) (front ++ rest)) ≡ false
none_misses b front a rest d follow = ap (λ x. b && x) (nothing_first (Not (is_keyword keywords.SignedBy)) (Absent, Absent) front a rest d follow.1) ∙ and_false b

behind_name : (p : Properties) (n : Stated) → Law EntryFollows (read.behind_name p n) (BehindName p n)
behind_name p n = law_next EntryFollows comma seen_comma (read.behind_comma p) (BehindComma p) (λ ts. cond (is_absent n && next (is_keyword keywords.SignedBy) ts) (read.signer_at p ts >>= λ s. Ok ((Absent, s.0), s.1)) (Ok ((Absent, Absent), ts))) (Either (Only (is_absent n) (BareSigners p)) (Nothing (Absent, Absent)))
    (narrow (Not comma) EntryFollows (read.behind_comma p) (BehindComma p) (λ rest follow. follow.0) (behind_comma p))
    (law_only EntryFollows (is_absent n) (is_keyword keywords.SignedBy) (seen_keyword keywords.SignedBy) (λ ts. read.signer_at p ts >>= λ s. Ok ((Absent, s.0), s.1)) (BareSigners p) (λ ts. Ok ((Absent, Absent), ts)) (Nothing (Absent, Absent))
    (any EntryFollows (λ ts. read.signer_at p ts >>= λ s. Ok ((Absent, s.0), s.1)) (BareSigners p) (law_map Any (read.signer_at p) (Signers p) (λ s. (Absent, s)) (signers p)))
    (law_none EntryFollows (Absent, Absent))
    (λ front a rest d follow. deeper (is_keyword keywords.SignedBy) true (Signers p) (λ s. Nothing (Absent, s)) (begins_so (is_keyword keywords.SignedBy) (Texted p ▹ λ s. Nothing (given s))) front a rest d)
    (none_misses (is_absent n)))
    (bare_misses p (is_absent n))

-- behind the name there is no string
more_no_text : (p : Properties) (n : Stated) (front : List Placed) (a : Stated × Stated) (rest : List Placed) → BehindName p n front a → next is_text rest ≡ false → next is_text (front ++ rest) ≡ false
more_no_text p n front a rest (inl d) follow = begins comma is_text (BehindComma p) (mark_no_text (byte ",")) front a rest d
more_no_text p n front a rest (inr (inl d)) follow = deeper is_text false (Signers p) (λ s. Nothing (Absent, s)) (begins (is_keyword keywords.SignedBy) is_text (Texted p ▹ λ s. Nothing (given s)) (keyword_no_text keywords.SignedBy)) front a rest d.1
more_no_text p n front a rest (inr (inr d)) follow = nothing_first (Not is_text) (Absent, Absent) front a rest d follow

abbrev EntryEnd : (e : Option GrantEntry) → Grammar (Option GrantEntry)
EntryEnd e = Marked (byte ";") ▹ λ _. Nothing e

entry : (p : Properties) → Law Any (read.entry_at p) (Entry p)
unfolding read.entry_at
entry p = law_first Any (read.keyword_at keywords.Permission) (Keyed keywords.Permission)
    (λ (u : Unit {0}) ts. read.word_at ts >>= λ class. read.name_at p class.1 >>= λ n. read.behind_name p n.0 n.1 >>= λ more. read.mark_at (byte ";") more.1 >>= λ end. Ok (entry_of class.0 n.0 more.0.0 more.0.1, end.1))
    (λ (u : Unit {0}). Worded ▹ λ class. Named p ▹ λ n. BehindName p n ▹ λ more. EntryEnd (entry_of class n more.0 more.1))
    (law_key keywords.Permission)
    (λ u. law_first Any read.word_at Worded
    (λ class ts. read.name_at p ts >>= λ n. read.behind_name p n.0 n.1 >>= λ more. read.mark_at (byte ";") more.1 >>= λ end. Ok (entry_of class n.0 more.0.0 more.0.1, end.1))
    (λ class. Named p ▹ λ n. BehindName p n ▹ λ more. EntryEnd (entry_of class n more.0 more.1))
    law_word
    (λ class. law_then (Not is_text) Any (read.name_at p) (Named p)
    (λ n ts. read.behind_name p n ts >>= λ more. read.mark_at (byte ";") more.1 >>= λ end. Ok (entry_of class n more.0.0 more.0.1, end.1))
    (λ n. BehindName p n ▹ λ more. EntryEnd (entry_of class n more.0 more.1))
    (name p)
    (λ n. law_then EntryFollows Any (read.behind_name p n) (BehindName p n)
    (λ more ts. read.mark_at (byte ";") ts >>= λ end. Ok (entry_of class n more.0 more.1, end.1))
    (λ more. EntryEnd (entry_of class n more.0 more.1))
    (behind_name p n)
    (λ more. law_map Any (read.mark_at (byte ";")) (Marked (byte ";")) (λ u. entry_of class n more.0 more.1) law_semicolon)
    (λ more back b rest s follow. (
      begins semicolon comma (Nothing (entry_of class n more.0 more.1)) (marks_apart (byte ";") (byte ",") refl) back b rest s,
      begins semicolon (is_keyword keywords.SignedBy) (Nothing (entry_of class n more.0 more.1)) (mark_no_keyword (byte ";") keywords.SignedBy) back b rest s,
    )))
    (λ n back b rest s follow. ap (next is_text) (ap (λ (x : List Placed). x ++ rest) s.3 ∙ append_assoc s.1 s.2 rest) ∙ more_no_text p n s.1 s.0 (s.2 ++ rest) s.4 (begins semicolon is_text (Nothing (entry_of class n s.0.0 s.0.1)) (mark_no_text (byte ";")) s.2 b rest s.5))))

-- ---- entries, one behind the other

abbrev close_brace : Token → Bool
close_brace = is_mark (byte "}")

abbrev open_brace : Token → Bool
open_brace = is_mark (byte "{")

abbrev EntryRest : Properties → Grammar (Option GrantEntry)
EntryRest p = Worded ▹ λ class. Named p ▹ λ n. BehindName p n ▹ λ more. EntryEnd (entry_of class n more.0 more.1)

abbrev OneEntry : Properties → List GrantEntry → Grammar (List GrantEntry)
OneEntry p entries = Entry p ▹ λ e. Nothing (with_one entries e)

entry_steps : (p : Properties) → Steps Any (next close_brace) (read.one_entry p) (OneEntry p)
entry_steps p = record {
  law = λ entries. law_map Any (read.entry_at p) (Entry p) (with_one entries) (entry p);
  some = λ entries front t d. deeper_some (Entry p) (λ e. Nothing (with_one entries e)) (begins_some (is_keyword keywords.Permission) (EntryRest p)) front t d;
  begins = λ entries front t rest d. deeper close_brace false (Entry p) (λ e. Nothing (with_one entries e)) (begins (is_keyword keywords.Permission) close_brace (EntryRest p) (keyword_no_mark keywords.Permission (byte "}"))) front t rest d;
  again = λ entries front t rest d. tt;
  over = λ rest end. tt;
  looks = same_next close_brace (seen_mark (byte "}") refl).blind;
}

entries : (p : Properties) → Law (λ ts. next close_brace ts ≡ true) (read.entries_at p) (Entries p)
unfolding read.entries_at
entries p = law_many Any (next close_brace) (read.one_entry p) (OneEntry p) [] (entry_steps p)

-- ---- clauses

star_no_name : (k : Token) → is_mark (byte ",") k ≡ true → names_principal k ≡ false
star_no_name (Mark c) h = marks_apart (byte ",") (byte "*") refl (Mark c) h
star_no_name (Word u) h = absurd cc
star_no_name (Text u) h = absurd cc
star_no_name Bad h = absurd cc

brace_no_name : (k : Token) → is_mark (byte "{") k ≡ true → names_principal k ≡ false
brace_no_name (Mark c) h = marks_apart (byte "{") (byte "*") refl (Mark c) h
brace_no_name (Word u) h = absurd cc
brace_no_name (Text u) h = absurd cc
brace_no_name Bad h = absurd cc

star_names : (k : Token) → is_mark (byte "*") k ≡ true → names_principal k ≡ true
star_names (Mark c) h = h
star_names (Word u) h = absurd cc
star_names (Text u) h = absurd cc
star_names Bad h = absurd cc

abbrev TextName : Properties → Grammar Bool
TextName p = Texted p ▹ λ t. Nothing (not (is_some t))

principal_name : (p : Properties) → Law Any (read.principal_name_at p) (PrincipalName p)
principal_name p = law_next Any star (seen_mark (byte "*") refl) (λ ts. Ok (false, ts)) (Nothing false) (λ ts. read.text_at p ts >>= λ t. Ok (not (is_some t.0), t.1)) (TextName p)
    (law_none Any false)
    (law_map Any (read.text_at p) (Texted p) (λ t. not (is_some t)) (law_text p))
    (λ front a rest d follow. text_begins p star false (λ t. Nothing (not (is_some t))) (λ u. refl) front a rest d)

name_first : (p : Properties) (front : List Placed) (a : Bool) (rest : List Placed) → PrincipalName p front a → next names_principal (front ++ rest) ≡ true
name_first p front a rest (inl d) = let q = front_of star (Nothing false) front a rest d in ap (next names_principal) q.2 ∙ star_names q.0.token q.3
name_first p front a rest (inr d) = text_begins p names_principal true (λ t. Nothing (not (is_some t))) (λ u. refl) front a rest d

name_no_word : (p : Properties) (front : List Placed) (a : Bool) (rest : List Placed) → PrincipalName p front a → next is_word (front ++ rest) ≡ false
name_no_word p front a rest (inl d) = begins star is_word (Nothing false) (mark_no_word (byte "*")) front a rest d
name_no_word p front a rest (inr d) = text_begins p is_word false (λ t. Nothing (not (is_some t))) (λ u. refl) front a rest d

-- behind `principal`, where no word stands
abbrev starred_at : Properties → List Placed → Answer Bool
starred_at p ts = cond (next star ts && next names_principal (behind ts)) (read.principal_name_at p (behind ts)) (read.principal_name_at p ts)

abbrev Starred : Properties → Grammar Bool
Starred p = Either (Marked (byte "*") ▹ λ _. PrincipalName p) (PrincipalName p)

starred_complete : (p : Properties) → Complete (Not names_principal) (starred_at p) (Starred p)
starred_complete p front a rest (inl d) follow =
    let q = front_of star (PrincipalName p) front a rest d in
    ap (starred_at p) q.2 ∙ rw (q.3, name_first p q.1 a rest q.4) ((principal_name p).complete q.1 a rest q.4 tt)
starred_complete p front a rest (inr (inl d)) follow =
    let q = front_of star (Nothing false) front a rest d in
    let alone : next names_principal (q.1 ++ rest) ≡ false = nothing_first (Not names_principal) false q.1 a rest q.4 follow in
    ap (starred_at p) q.2 ∙ rw (q.3, alone, q.4.0, q.4.1) refl
starred_complete p front a rest (inr (inr d)) follow =
    let unstarred : next star (front ++ rest) ≡ false = text_begins p star false (λ t. Nothing (not (is_some t))) (λ u. refl) front a rest d in
    let named = (principal_name p).complete front a rest (inr d) tt in
    rw unstarred (rw unstarred at named)

-- what is behind a `*`: a name, or nothing where the `*` is the name
abbrev named_or_done : Properties → List Placed → Answer Bool
named_or_done p ts = cond (next names_principal ts) (read.principal_name_at p ts) (Ok (false, ts))

star_cases : (p : Properties) (b c : Bool) (ts : List Placed) → next star ts ≡ b → cond b (cond c (read.principal_name_at p (behind ts)) (Ok (false, behind ts))) (read.principal_name_at p ts) ≡ cond (b && c) (read.principal_name_at p (behind ts)) (read.principal_name_at p ts)
star_cases p true true ts is = refl
star_cases p true false ts is = rw is refl
star_cases p false c ts is = refl

star_derives : (p : Properties) (ts : List Placed) (a : Bool) → Either (Marked (byte "*") ▹ λ _. Either (PrincipalName p) (Nothing false)) (PrincipalName p) ts a → Starred p ts a
star_derives p ts a (inl (u, front, back, cut, d, inl e)) = inl (u, front, back, cut, d, e)
star_derives p ts a (inl (u, front, back, cut, d, inr e)) = inr (inl (u, front, back, cut, d, e))
star_derives p ts a (inr d) = inr d

starred_firm : (p : Properties) → Firm (starred_at p) (Starred p)
starred_firm p =
    let named = (principal_name p).firm in
    let tail = firm_if names_principal seen_name (read.principal_name_at p) (PrincipalName p) (λ ts. Ok (false, ts)) (Nothing false) named (firm_none false) in
    let both = firm_next star (seen_mark (byte "*") refl) (named_or_done p) (Either (PrincipalName p) (Nothing false)) (read.principal_name_at p) (PrincipalName p) tail named in
    firm_same (λ ts. cond (next star ts) (named_or_done p (behind ts)) (read.principal_name_at p ts)) (starred_at p) (Starred p) (λ ts. star_cases p (next star ts) (next names_principal (behind ts)) ts refl)
    (firm_wide (λ ts. cond (next star ts) (named_or_done p (behind ts)) (read.principal_name_at p ts)) (Either (Marked (byte "*") ▹ λ _. Either (PrincipalName p) (Nothing false)) (PrincipalName p)) (Starred p) (star_derives p) both)

starred : (p : Properties) → Law (Not names_principal) (starred_at p) (Starred p)
starred p = record {
  firm = starred_firm p;
  complete = starred_complete p;
}

starred_no_word : (p : Properties) (front : List Placed) (a : Bool) (rest : List Placed) → Starred p front a → next names_principal rest ≡ false → next is_word (front ++ rest) ≡ false
starred_no_word p front a rest (inl d) follow = begins star is_word (PrincipalName p) (mark_no_word (byte "*")) front a rest d
starred_no_word p front a rest (inr d) follow = name_no_word p front a rest d

principal : (p : Properties) → Law (Not names_principal) (read.principal_at p) (Principal p)
principal p = law_next (Not names_principal) is_word seen_word (read.principal_name_at p) (PrincipalName p) (starred_at p) (Starred p)
    (any (Not names_principal) (read.principal_name_at p) (PrincipalName p) (principal_name p)) (starred p) (starred_no_word p)

abbrev CodeBase : Properties → Clauses → Grammar Clauses
CodeBase p cs = Keyed keywords.CodeBase ▹ λ _. Texted p ▹ λ t. Nothing (with_code_base cs t)

abbrev SignedBy : Properties → Clauses → Grammar Clauses
SignedBy p cs = Keyed keywords.SignedBy ▹ λ _. Texted p ▹ λ t. Nothing (with_signers cs t)

abbrev ForPrincipal : Properties → Clauses → Grammar Clauses
ForPrincipal p cs = Keyed keywords.Principal ▹ λ _. Principal p ▹ λ lacks. Nothing (with_principal cs lacks)

signers_misses : (p : Properties) (cs : Clauses) (front : List Placed) (a : Clauses) (rest : List Placed) → ForPrincipal p cs front a → next names_principal rest ≡ false → next (is_keyword keywords.SignedBy) (front ++ rest) ≡ false
signers_misses p cs front a rest d follow = begins (is_keyword keywords.Principal) (is_keyword keywords.SignedBy) (Principal p ▹ λ lacks. Nothing (with_principal cs lacks)) (keywords_apart keywords.Principal keywords.SignedBy refl) front a rest d

base_misses : (p : Properties) (cs : Clauses) (front : List Placed) (a : Clauses) (rest : List Placed) → Either (Only (is_absent cs.signers) (SignedBy p cs)) (ForPrincipal p cs) front a → next names_principal rest ≡ false → next (is_keyword keywords.CodeBase) (front ++ rest) ≡ false
base_misses p cs front a rest (inl d) follow = begins (is_keyword keywords.SignedBy) (is_keyword keywords.CodeBase) (Texted p ▹ λ t. Nothing (with_signers cs t)) (keywords_apart keywords.SignedBy keywords.CodeBase refl) front a rest d.1
base_misses p cs front a rest (inr d) follow = begins (is_keyword keywords.Principal) (is_keyword keywords.CodeBase) (Principal p ▹ λ lacks. Nothing (with_principal cs lacks)) (keywords_apart keywords.Principal keywords.CodeBase refl) front a rest d

clause : (p : Properties) (cs : Clauses) → Law (Not names_principal) (read.clause_at p cs) (Clause p cs)
unfolding read.clause_at
clause p cs = law_once (Not names_principal) (is_keyword keywords.CodeBase) (seen_keyword keywords.CodeBase) (is_absent cs.code_base) (λ ts. read.text_at p ts >>= λ t. Ok (with_code_base cs t.0, t.1)) (Texted p ▹ λ t. Nothing (with_code_base cs t))
    (λ ts. cond (next (is_keyword keywords.SignedBy) ts && is_absent cs.signers) (read.text_at p (behind ts) >>= λ t. Ok (with_signers cs t.0, t.1)) (cond (next (is_keyword keywords.Principal) ts) (read.principal_at p (behind ts) >>= λ q. Ok (with_principal cs q.0, q.1)) (read.not_allowed ts)))
    (Either (Only (is_absent cs.signers) (SignedBy p cs)) (ForPrincipal p cs))
    (any (Not names_principal) (λ ts. read.text_at p ts >>= λ t. Ok (with_code_base cs t.0, t.1)) (Texted p ▹ λ t. Nothing (with_code_base cs t)) (law_map Any (read.text_at p) (Texted p) (with_code_base cs) (law_text p)))
    (law_once (Not names_principal) (is_keyword keywords.SignedBy) (seen_keyword keywords.SignedBy) (is_absent cs.signers) (λ ts. read.text_at p ts >>= λ t. Ok (with_signers cs t.0, t.1)) (Texted p ▹ λ t. Nothing (with_signers cs t))
    (λ ts. cond (next (is_keyword keywords.Principal) ts) (read.principal_at p (behind ts) >>= λ q. Ok (with_principal cs q.0, q.1)) (read.not_allowed ts))
    (ForPrincipal p cs)
    (any (Not names_principal) (λ ts. read.text_at p ts >>= λ t. Ok (with_signers cs t.0, t.1)) (Texted p ▹ λ t. Nothing (with_signers cs t)) (law_map Any (read.text_at p) (Texted p) (with_signers cs) (law_text p)))
    (law_last (Not names_principal) (is_keyword keywords.Principal) (seen_keyword keywords.Principal) (λ ts. read.principal_at p ts >>= λ q. Ok (with_principal cs q.0, q.1)) (Principal p ▹ λ lacks. Nothing (with_principal cs lacks))
    (law_map (Not names_principal) (read.principal_at p) (Principal p) (with_principal cs) (principal p)))
    (signers_misses p cs))
    (base_misses p cs)

-- a clause begins with a word
clause_word : (p : Properties) (cs : Clauses) (front : List Placed) (a : Clauses) (rest : List Placed) (other : Token → Bool) → ((u : List ℕ) → other (Word u) ≡ false) → Clause p cs front a → next other (front ++ rest) ≡ false
clause_word p cs front a rest other h (inl d) = begins (is_keyword keywords.CodeBase) other (Texted p ▹ λ t. Nothing (with_code_base cs t)) (worded other h keywords.CodeBase) front a rest d.1
clause_word p cs front a rest other h (inr (inl d)) = begins (is_keyword keywords.SignedBy) other (Texted p ▹ λ t. Nothing (with_signers cs t)) (worded other h keywords.SignedBy) front a rest d.1
clause_word p cs front a rest other h (inr (inr d)) = begins (is_keyword keywords.Principal) other (Principal p ▹ λ lacks. Nothing (with_principal cs lacks)) (worded other h keywords.Principal) front a rest d

clause_some : (p : Properties) (cs : Clauses) (front : List Placed) (a : Clauses) → Clause p cs front a → 0 < length front
clause_some p cs front a (inl d) = begins_some (is_keyword keywords.CodeBase) (Texted p ▹ λ t. Nothing (with_code_base cs t)) front a d.1
clause_some p cs front a (inr (inl d)) = begins_some (is_keyword keywords.SignedBy) (Texted p ▹ λ t. Nothing (with_signers cs t)) front a d.1
clause_some p cs front a (inr (inr d)) = begins_some (is_keyword keywords.Principal) (Principal p ▹ λ lacks. Nothing (with_principal cs lacks)) front a d

-- an optional comma
abbrev OptionalComma : Clauses → Grammar Clauses
OptionalComma c = Either (Comma ▹ λ _. Nothing c) (Nothing c)

abbrev answer_of : Clauses → List Placed → Answer Clauses
answer_of c ts = Ok (c, ts)

comma_cases : (c : Clauses) (b : Bool) (ts : List Placed) → answer_of c (cond b (behind ts) ts) ≡ cond b (answer_of c (behind ts)) (answer_of c ts)
comma_cases c true ts = refl
comma_cases c false ts = refl

optional_comma : (c : Clauses) → Law (Not comma) (λ ts. Ok (c, skip_comma ts)) (OptionalComma c)
optional_comma c =
    let l = law_next (Not comma) comma seen_comma (λ ts. Ok (c, ts)) (Nothing c) (λ ts. Ok (c, ts)) (Nothing c) (law_none (Not comma) c) (law_none (Not comma) c) (nothing_first (Not comma) c) in
    record {
      firm = firm_same (λ ts. cond (next comma ts) (Ok (c, behind ts)) (Ok (c, ts))) (λ ts. Ok (c, skip_comma ts)) (OptionalComma c) (λ ts. sym (comma_cases c (next comma ts) ts)) l.firm;
      complete = λ front a rest d follow. comma_cases c (next comma (front ++ rest)) (front ++ rest) ∙ l.complete front a rest d follow;
    }

abbrev Between : List Placed → Type 0
Between rest = (next comma rest ≡ false) × (next names_principal rest ≡ false)

comma_no_name : (c : Clauses) (back : List Placed) (b : Clauses) (rest : List Placed) → OptionalComma c back b → Between rest → next names_principal (back ++ rest) ≡ false
comma_no_name c back b rest (inl d) follow = begins comma names_principal (Nothing c) star_no_name back b rest d
comma_no_name c back b rest (inr d) follow = nothing_first (Not names_principal) c back b rest d follow.1

abbrev OneClause : Properties → Clauses → Grammar Clauses
OneClause p cs = Clause p cs ▹ λ c. OptionalComma c

one_clause : (p : Properties) (cs : Clauses) → Law Between (read.one_clause p cs) (OneClause p cs)
one_clause p cs = law_then (Not names_principal) Between (read.clause_at p cs) (Clause p cs) (λ c ts. Ok (c, skip_comma ts)) (λ c. OptionalComma c) (clause p cs)
    (λ c. narrow (Not comma) Between (λ ts. Ok (c, skip_comma ts)) (OptionalComma c) (λ rest follow. follow.0) (optional_comma c)) comma_no_name

clause_steps : (p : Properties) → Steps Between (next open_brace) (read.one_clause p) (OneClause p)
clause_steps p = record {
  law = one_clause p;
  some = λ cs front t d. deeper_some (Clause p cs) (λ c. OptionalComma c) (clause_some p cs) front t d;
  begins = λ cs front t rest d. deeper open_brace false (Clause p cs) (λ c. OptionalComma c) (λ f a r e. clause_word p cs f a r open_brace (λ u. refl) e) front t rest d;
  again = λ cs front t rest d. (
    deeper comma false (Clause p cs) (λ c. OptionalComma c) (λ f a r e. clause_word p cs f a r comma (λ u. refl) e) front t rest d,
    deeper names_principal false (Clause p cs) (λ c. OptionalComma c) (λ f a r e. clause_word p cs f a r names_principal (λ u. refl) e) front t rest d,
  );
  over = λ rest end. (next_apart open_brace comma (marks_apart (byte "{") (byte ",") refl) rest end, next_apart open_brace names_principal brace_no_name rest end);
  looks = same_next open_brace (seen_mark (byte "{") refl).blind;
}

clauses : (p : Properties) → Law (λ ts. next open_brace ts ≡ true) (read.clauses_at p) (AllClauses p)
unfolding read.clauses_at
clauses p = law_many Between (next open_brace) (read.one_clause p) (OneClause p) no_clauses (clause_steps p)

-- ---- grants and other items

abbrev EndOf : {A : Type 0} → A → Grammar A
EndOf a = Marked (byte ";") ▹ λ _. Nothing a

abbrev GrantEnd : Clauses → List GrantEntry → Grammar (Option Grant)
GrantEnd cs es = Marked (byte "}") ▹ λ _. EndOf (grant_of cs es)

grant : (p : Properties) → Law Any (read.grant_at p) (OneGrant p)
unfolding read.grant_at
grant p = law_first Any (read.keyword_at keywords.Grant) (Keyed keywords.Grant)
    (λ (u : Unit {0}) ts. read.clauses_at p ts >>= λ cs. read.mark_at (byte "{") cs.1 >>= λ o. read.entries_at p o.1 >>= λ es. read.mark_at (byte "}") es.1 >>= λ c. read.mark_at (byte ";") c.1 >>= λ e. Ok (grant_of cs.0 es.0, e.1))
    (λ (u : Unit {0}). AllClauses p ▹ λ cs. Marked (byte "{") ▹ λ _. Entries p ▹ λ es. GrantEnd cs es)
    (law_key keywords.Grant)
    (λ u. law_then (λ ts. next open_brace ts ≡ true) Any (read.clauses_at p) (AllClauses p)
    (λ cs ts. read.mark_at (byte "{") ts >>= λ o. read.entries_at p o.1 >>= λ es. read.mark_at (byte "}") es.1 >>= λ c. read.mark_at (byte ";") c.1 >>= λ e. Ok (grant_of cs es.0, e.1))
    (λ cs. Marked (byte "{") ▹ λ _. Entries p ▹ λ es. GrantEnd cs es)
    (clauses p)
    (λ cs. law_first Any (read.mark_at (byte "{")) (Marked (byte "{"))
    (λ (v : Unit {0}) ts. read.entries_at p ts >>= λ es. read.mark_at (byte "}") es.1 >>= λ c. read.mark_at (byte ";") c.1 >>= λ e. Ok (grant_of cs es.0, e.1))
    (λ (v : Unit {0}). Entries p ▹ λ es. GrantEnd cs es)
    (law_one open_brace (seen_mark (byte "{") refl))
    (λ v. law_then (λ ts. next close_brace ts ≡ true) Any (read.entries_at p) (Entries p)
    (λ es ts. read.mark_at (byte "}") ts >>= λ c. read.mark_at (byte ";") c.1 >>= λ e. Ok (grant_of cs es, e.1))
    (λ es. GrantEnd cs es)
    (entries p)
    (λ es. law_first Any (read.mark_at (byte "}")) (Marked (byte "}"))
    (λ (w : Unit {0}) ts. read.mark_at (byte ";") ts >>= λ e. Ok (grant_of cs es, e.1))
    (λ (w : Unit {0}). EndOf (grant_of cs es))
    (law_one close_brace (seen_mark (byte "}") refl))
    (λ w. law_map Any (read.mark_at (byte ";")) (Marked (byte ";")) (λ x. grant_of cs es) law_semicolon))
    (λ es back b rest s follow. begins_so close_brace (EndOf (grant_of cs es)) back b rest s)))
    (λ cs back b rest s follow. begins_so open_brace (Entries p ▹ λ es. GrantEnd cs es) back b rest s))

another : (p : Properties) → Law (Not comma) (read.another_at p) (Another p)
another p = law_next (Not comma) comma seen_comma (λ ts. read.text_at p ts >>= λ t. Ok (tt, t.1)) (Texted p ▹ λ _. Nothing tt) (λ ts. Ok (tt, ts)) (Nothing tt)
    (any (Not comma) (λ ts. read.text_at p ts >>= λ t. Ok (tt, t.1)) (Texted p ▹ λ _. Nothing tt) (law_map Any (read.text_at p) (Texted p) (λ t. tt) (law_text p)))
    (law_none (Not comma) tt) (nothing_first (Not comma) tt)

others : (p : Properties) → Law (Not comma) (read.others_at p) (Others p)
others p = law_next (Not comma) comma seen_comma (λ ts. read.text_at p ts >>= λ t. read.another_at p t.1) (Texted p ▹ λ _. Another p) (λ ts. Ok (tt, ts)) (Nothing tt)
    (law_first (Not comma) (read.text_at p) (Texted p) (λ t ts. read.another_at p ts) (λ t. Another p) (law_text p) (λ t. another p))
    (law_none (Not comma) tt) (nothing_first (Not comma) tt)

keystore : (p : Properties) → Law Any (read.keystore_at p) (Keystore p)
unfolding read.keystore_at
keystore p = law_first Any (read.keyword_at keywords.Keystore) (Keyed keywords.Keystore)
    (λ (u : Unit {0}) ts. read.text_at p ts >>= λ t. read.others_at p t.1 >>= λ o. read.mark_at (byte ";") o.1)
    (λ (u : Unit {0}). Texted p ▹ λ _. Others p ▹ λ _. Marked (byte ";"))
    (law_key keywords.Keystore)
    (λ u. law_first Any (read.text_at p) (Texted p) (λ t ts. read.others_at p ts >>= λ o. read.mark_at (byte ";") o.1) (λ t. Others p ▹ λ _. Marked (byte ";")) (law_text p)
    (λ t. law_then (Not comma) Any (read.others_at p) (Others p) (λ (o : Unit {0}) ts. read.mark_at (byte ";") ts) (λ (o : Unit {0}). Marked (byte ";")) (others p) (λ o. law_semicolon)
    (λ o back b rest s follow. ap (next comma) (ap (λ (x : List Placed). x ++ rest) s.1) ∙ marks_apart (byte ";") (byte ",") refl s.0.token s.2)))

password : (p : Properties) → Law Any (read.password_at p) (Password p)
unfolding read.password_at
password p = law_first Any (read.keyword_at keywords.PasswordUrl) (Keyed keywords.PasswordUrl) (λ (u : Unit {0}) ts. read.text_at p ts >>= λ t. read.mark_at (byte ";") t.1) (λ (u : Unit {0}). Texted p ▹ λ _. Marked (byte ";"))
    (law_key keywords.PasswordUrl)
    (λ u. law_first Any (read.text_at p) (Texted p) (λ t ts. read.mark_at (byte ";") ts) (λ t. Marked (byte ";")) (law_text p) (λ t. law_semicolon))

abbrev KeystoreRest : Properties → Grammar (Unit {0})
KeystoreRest p = Texted p ▹ λ _. Others p ▹ λ _. Marked (byte ";")

abbrev PasswordRest : Properties → Grammar (Unit {0})
PasswordRest p = Texted p ▹ λ _. Marked (byte ";")

abbrev GrantRest : Properties → Grammar (Option Grant)
GrantRest p = AllClauses p ▹ λ cs. Marked (byte "{") ▹ λ _. Entries p ▹ λ es. GrantEnd cs es

abbrev StoreItem : Properties → List Grant → Grammar (List Grant)
StoreItem p gs = Keystore p ▹ λ _. Nothing gs

abbrev PasswordItem : Properties → List Grant → Grammar (List Grant)
PasswordItem p gs = Password p ▹ λ _. Nothing gs

abbrev GrantItem : Properties → List Grant → Grammar (List Grant)
GrantItem p gs = OneGrant p ▹ λ g. Nothing (with_one gs g)

store_misses : (p : Properties) (gs : List Grant) (front : List Placed) (a : List Grant) (rest : List Placed) → Either (PasswordItem p gs) (GrantItem p gs) front a → Unit {0} → next (is_keyword keywords.Keystore) (front ++ rest) ≡ false
store_misses p gs front a rest (inl d) follow = deeper (is_keyword keywords.Keystore) false (Password p) (λ u. Nothing gs) (begins (is_keyword keywords.PasswordUrl) (is_keyword keywords.Keystore) (PasswordRest p) (keywords_apart keywords.PasswordUrl keywords.Keystore refl)) front a rest d
store_misses p gs front a rest (inr d) follow = deeper (is_keyword keywords.Keystore) false (OneGrant p) (λ g. Nothing (with_one gs g)) (begins (is_keyword keywords.Grant) (is_keyword keywords.Keystore) (GrantRest p) (keywords_apart keywords.Grant keywords.Keystore refl)) front a rest d

item : (p : Properties) (gs : List Grant) → Law Any (read.one_item p gs) (Item p gs)
item p gs = law_if Any (is_keyword keywords.Keystore) (seen_keyword keywords.Keystore) (λ ts. read.keystore_at p ts >>= λ k. Ok (gs, k.1)) (StoreItem p gs)
    (λ ts. cond (next (is_keyword keywords.PasswordUrl) ts) (read.password_at p ts >>= λ k. Ok (gs, k.1)) (ProofNames.one_more_grant p gs ts)) (Either (PasswordItem p gs) (GrantItem p gs))
    (law_map Any (read.keystore_at p) (Keystore p) (λ u. gs) (keystore p))
    (law_if Any (is_keyword keywords.PasswordUrl) (seen_keyword keywords.PasswordUrl) (λ ts. read.password_at p ts >>= λ k. Ok (gs, k.1)) (PasswordItem p gs) (ProofNames.one_more_grant p gs) (GrantItem p gs)
    (law_map Any (read.password_at p) (Password p) (λ u. gs) (password p))
    (law_map Any (read.grant_at p) (OneGrant p) (with_one gs) (grant p))
    (λ front a rest d follow. deeper (is_keyword keywords.PasswordUrl) true (Password p) (λ u. Nothing gs) (begins_so (is_keyword keywords.PasswordUrl) (PasswordRest p)) front a rest d)
    (λ front a rest d follow. deeper (is_keyword keywords.PasswordUrl) false (OneGrant p) (λ g. Nothing (with_one gs g)) (begins (is_keyword keywords.Grant) (is_keyword keywords.PasswordUrl) (GrantRest p) (keywords_apart keywords.Grant keywords.PasswordUrl refl)) front a rest d))
    (λ front a rest d follow. deeper (is_keyword keywords.Keystore) true (Keystore p) (λ u. Nothing gs) (begins_so (is_keyword keywords.Keystore) (KeystoreRest p)) front a rest d)
    (store_misses p gs)

item_some : (p : Properties) (gs : List Grant) (front : List Placed) (a : List Grant) → Item p gs front a → 0 < length front
item_some p gs front a (inl d) = deeper_some (Keystore p) (λ u. Nothing gs) (begins_some (is_keyword keywords.Keystore) (KeystoreRest p)) front a d
item_some p gs front a (inr (inl d)) = deeper_some (Password p) (λ u. Nothing gs) (begins_some (is_keyword keywords.PasswordUrl) (PasswordRest p)) front a d
item_some p gs front a (inr (inr d)) = deeper_some (OneGrant p) (λ g. Nothing (with_one gs g)) (begins_some (is_keyword keywords.Grant) (GrantRest p)) front a d

no_end : (n : ℕ) → eqb (suc n) 0 ≡ true → ⊥
no_end n h = let e : suc n ≡ 0 = eqb-true (suc n) 0 h in omega arith

not_over : (ts : List Placed) → 0 < length ts → none_left ts ≡ false
not_over [] h = absurd (omega arith)
not_over (t ∷ ts) h = elim (cases_Bool (eqb (suc (length ts)) 0)) [ inl hit ↦ absurd (no_end (length ts) hit) | inr miss ↦ miss ]

more_tokens : (front rest : List Placed) → 0 < length front → 0 < length (front ++ rest)
more_tokens front rest h = let both : length (front ++ rest) ≡ length front + length rest = length-append front rest in omega arith

same_end : (xs ys : List Placed) → first xs ≡ first ys → none_left xs ≡ none_left ys
same_end [] [] e = refl
same_end [] (y ∷ ys) e = absurd cc
same_end (x ∷ xs) [] e = absurd cc
same_end (x ∷ xs) (y ∷ ys) e = not_over (x ∷ xs) (omega arith) ∙ sym (not_over (y ∷ ys) (omega arith))

item_steps : (p : Properties) → Steps Any none_left (read.one_item p) (Item p)
item_steps p = record {
  law = item p;
  some = item_some p;
  begins = λ gs front t rest d. not_over (front ++ rest) (more_tokens front rest (item_some p gs front t d));
  again = λ gs front t rest d. tt;
  over = λ rest end. tt;
  looks = same_end;
}

-- ---- the policy

over_is : (ts : List Placed) → none_left ts ≡ true → ts ≡ []
over_is [] h = refl
over_is (t ∷ ts) h = absurd (no_end (length ts) h)

pub policy_sound : (p : Properties) (ts : List Placed) (gs : List Grant) → read.policy_at p ts ≡ Ok gs → Items p ts gs
unfolding read.policy_at
policy_sound p ts gs e =
    let b = bind_ok (walk none_left (read.one_item p) (length ts) [] ts) (λ x. cond (none_left x.1) (Ok x.0) (read.not_allowed x.1)) gs e in
    let done = picked (none_left b.0.1) b.0.0 (read.fault_at Syntax b.0.1) gs b.2 in
    let s = (law_many Any none_left (read.one_item p) (Item p) [] (item_steps p)).firm.takes ts b.0 b.1 in
    let all : ts ≡ s.0 = s.1 ∙ ap (λ (r : List Placed). s.0 ++ r) (over_is b.0.1 done.0) ∙ append-nil s.0 in
    subst (λ (t : List Placed). Items p t gs) (sym all) (subst (λ (g : List Grant). Items p s.0 g) done.1 s.2)

pub policy_complete : (p : Properties) (ts : List Placed) (gs : List Grant) → Items p ts gs → read.policy_at p ts ≡ Ok gs
unfolding read.policy_at
policy_complete p ts gs d =
    let l = law_many Any none_left (read.one_item p) (Item p) [] (item_steps p) in
    let all : walk none_left (read.one_item p) (length (ts ++ [])) [] (ts ++ []) ≡ Ok (gs, []) = l.complete ts gs [] d refl in
    let whole : walk none_left (read.one_item p) (length ts) [] ts ≡ Ok (gs, []) = ap (λ (t : List Placed). walk none_left (read.one_item p) (length t) [] t) (sym (append-nil ts)) ∙ all in
    ap (λ (r : Answer (List Grant)). r >>= λ x. cond (none_left x.1) (Ok x.0) (read.not_allowed x.1)) whole

-- ---- where a policy is at fault

items : (p : Properties) → Firm (λ ts. walk none_left (read.one_item p) (length ts) [] ts) (Items p)
items p = (law_many Any none_left (read.one_item p) (Item p) [] (item_steps p)).firm

-- a walk over tokens ends at its test, at a fault, or with nothing left
walk_of_steps : {S : Type 0} (F : List Placed → Type 0) (ends : List Placed → Bool) (goes : S → List Placed → Answer S) (R : S → Grammar S) → Steps F ends goes R → (s : S) (ts : List Placed) → Ends ends (walk ends goes (length ts) s ts)
walk_of_steps F ends goes R w s ts = walk_ends ends goes (shrinks ends goes R (steps_go F ends goes R w)) (length ts) s ts (walk ends goes (length ts) s ts) (omega arith) refl

pub clauses_walk : (p : Properties) (ts : List Placed) → Ends (next open_brace) (walk (next open_brace) (read.one_clause p) (length ts) no_clauses ts)
clauses_walk p ts = walk_of_steps Between (next open_brace) (read.one_clause p) (OneClause p) (clause_steps p) no_clauses ts

pub entries_walk : (p : Properties) (ts : List Placed) → Ends (next close_brace) (walk (next close_brace) (read.one_entry p) (length ts) [] ts)
entries_walk p ts = walk_of_steps Any (next close_brace) (read.one_entry p) (OneEntry p) (entry_steps p) [] ts

pub items_walk : (p : Properties) (ts : List Placed) → Ends none_left (walk none_left (read.one_item p) (length ts) [] ts)
items_walk p ts = walk_of_steps Any none_left (read.one_item p) (Item p) (item_steps p) [] ts

ended : (x : List Grant × List Placed) (r : Answer (List Grant)) → Ends none_left r → r ≡ Ok x → x.1 ≡ []
ended x r h e = elim (subst (λ (q : Answer (List Grant)). Ends none_left q) e h) [ inl over ↦ over_is x.1 over | inr none ↦ none ]

-- the walk over items ends with nothing left
items_end : (p : Properties) (ts : List Placed) (x : List Grant × List Placed) → walk none_left (read.one_item p) (length ts) [] ts ≡ Ok x → x.1 ≡ []
items_end p ts x e = ended x (walk none_left (read.one_item p) (length ts) [] ts) (items_walk p ts) e

behind_items : (p : Properties) (ts : List Placed) (d : Fault PolicyFault) → walk none_left (read.one_item p) (length ts) [] ts ≡ Err d → read.policy_at p ts ≡ Err d
unfolding read.policy_at
behind_items p ts d e = ap (λ (r : Answer (List Grant)). r >>= λ x. cond (none_left x.1) (Ok x.0) (read.not_allowed x.1)) e

at_fault : (p : Properties) (ts : List Placed) (d : Fault PolicyFault) → read.policy_at p ts ≡ Err d → walk none_left (read.one_item p) (length ts) [] ts ≡ Err d
unfolding read.policy_at
at_fault p ts d e = elim (bind_err (walk none_left (read.one_item p) (length ts) [] ts) (λ x. cond (none_left x.1) (Ok x.0) (read.not_allowed x.1)) d e) [
  | inl stop ↦ stop
  | inr b ↦ absurd (let none : b.0.1 ≡ [] = items_end p ts b.0 b.1 in let h = rw none at b.2 in cc)
]

derived_no_fault : (p : Properties) (ts : List Placed) (gs : List Grant) (d : Fault PolicyFault) → Items p ts gs → walk none_left (read.one_item p) (length ts) [] ts ≡ Err d → ⊥
derived_no_fault p ts gs d derived e = let one = sym (policy_complete p ts gs derived) ∙ behind_items p ts d e in absurd cc

begun_no_fault : (p : Properties) (d : Fault PolicyFault) (front : List Placed) (t : Placed) (begun : Begins (Items p) (front ++ t ∷ [])) → walk none_left (read.one_item p) (length (front ++ t ∷ begun.0)) [] (front ++ t ∷ begun.0) ≡ Err d → ⊥
begun_no_fault p d front t begun e =
    let joined = append_assoc front (t ∷ []) begun.0 in
    derived_no_fault p (front ++ t ∷ begun.0) begun.1 d (subst (λ (us : List Placed). Items p us begun.1) joined begun.2) e

-- the walk stops at a fault, whatever stands behind the token
abbrev StopsThere : Properties → Fault PolicyFault → List Placed → List Placed → Type 0
StopsThere p d front rest = (other : List Placed) → Alike d.kind other rest → walk none_left (read.one_item p) (length (front ++ other)) [] (front ++ other) ≡ Err d

itself_alike : (kind : PolicyFault) (xs : List Placed) (t : Placed) (ts : List Placed) → Alike kind (t ∷ xs) (t ∷ ts)
itself_alike Syntax xs t ts = refl
itself_alike SelfExpansion xs t ts = refl
itself_alike NotUtf8 xs t ts = refl

end_alike : (kind : PolicyFault) → Alike kind [] []
end_alike Syntax = refl
end_alike SelfExpansion = refl
end_alike NotUtf8 = refl

refuses : (p : Properties) (d : Fault PolicyFault) (front rest : List Placed) → StopsThere p d front rest → NotAllowed (Items p) front rest
refuses p d front [] again = λ gs derived. derived_no_fault p (front ++ []) gs d (subst (λ (ts : List Placed). Items p ts gs) (sym (append-nil front)) derived) (again [] (end_alike d.kind))
refuses p d front (t ∷ ts) again = λ begun. begun_no_fault p d front t begun (again (t ∷ begun.0) (itself_alike d.kind begun.0 t ts))

abbrev next_of : ℕ → Token → Option Placed
next_of left token = Some (record { left = left; token = token })

-- where another string is allowed, no fault of syntax is
says_so : (p : Properties) (d : Fault PolicyFault) (kind : PolicyFault) (front rest : List Placed) → kind ≡ d.kind → StopsThere p d front rest → Said (Items p) front rest kind → Says (Items p) front rest kind
says_so p d NotUtf8 front rest same again said = said
says_so p d SelfExpansion front rest same again said = said
says_so p d Syntax front [] same again said = λ itself. itself
says_so p d Syntax front (t ∷ ts) same again said = λ itself.
    (let alike : first (emptied t ∷ itself.3.0) ≡ first (t ∷ ts) = ap (λ (k : Token). next_of t.left k) (sym (ap plain itself.1)) in
    begun_no_fault p d front (emptied t) itself.3 (again (emptied t ∷ itself.3.0) (subst (λ (k : PolicyFault). Alike k (emptied t ∷ itself.3.0) (t ∷ ts)) same alike)))

-- the first token that the grammar doesn't allow
abbrev pub FirstFault : Properties → List Placed → Fault PolicyFault → Type 0
FirstFault p ts d = (front : List Placed) × (rest : List Placed) × (ts ≡ front ++ rest) × (d ≡ read.fault_at d.kind rest) × Begins (Items p) front × NotAllowed (Items p) front rest × Says (Items p) front rest d.kind

pub policy_first : (p : Properties) (ts : List Placed) (d : Fault PolicyFault) → read.policy_at p ts ≡ Err d → FirstFault p ts d
policy_first p ts d e =
    let h = (items p).halts ts d (at_fault p ts d e) in
    (h.0, h.1, h.2, h.3, h.4, refuses p d h.0 h.1 h.5, says_so p d d.kind h.0 h.1 refl h.5 h.6)
