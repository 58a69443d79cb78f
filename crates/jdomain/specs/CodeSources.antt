-- Code sources, and the code that a code base stands for (policy file documentation, "codeBase"; URL Standard, "URL record").
use Rattle.std.specs.Prelude.{◌≡◌, ℕ, Bool, true, false, ◌&&◌, ◌||◌, ◌==◌, List, ◌++◌, length, nat_eq, nat_le, codes, [], Option, Some, None, unwrap_or, ok_or, option_map, option_and_then, Result, Ok, Err, encode_utf8_all, if◌then◌else◌}
use Rattle.std.specs.List.{starts_with, ends_with}
use Rattle.std.specs.Result.{result_ok}
use Rattle.std.specs.Str.{bytes_eq}
use Rattle.std.specs.Char.Utf16.{has_unpaired_surrogate, utf16_lossy_chars}
use Rattle.url.specs.Host.{host_text}
use Rattle.url.specs.Parser.{parse_url}
use Rattle.url.specs.Parts.{Parts, nonempty_host}
use Rattle.jground.specs.jbase.MemoryFailures.{◌>>=◌}
use Rattle.jperm.specs.NameCoverage.{but_last}
use Rattle.jpolicy.specs.declared.grant.Grant.{Grant}
use Rattle.jdomain.specs.declared.code.Code.{Code}
use Rattle.jdomain.specs.declared.code.Code.TheVariants.{All, Nothing, Under}
use Rattle.jdomain.specs.declared.fault.SourceError.{SourceError}
use Rattle.jdomain.specs.declared.fault.SourceError.TheVariants.{NotUrl, NotDirectory, Memory}

-- ---- texts that are URLs

-- the URL that a text of UTF-8 is, if it is one and isn't too long
unfoldable pub url_of : List ℕ → Option Parts
url_of text = if nat_le (length text) 65536 then result_ok (parse_url None text) else None

-- the URL that units of UTF-16 are, if they are one
unfoldable pub url_of_units : List ℕ → Option Parts
url_of_units units = option_and_then url_of (if has_unpaired_surrogate units then None else Some (encode_utf8_all (utf16_lossy_chars units)))

-- ---- code sources

-- the code source that a text is, or why it is none
unfoldable pub source_of : List ℕ → Result Parts SourceError
source_of text = ok_or (url_of text) NotUrl >>= λ url. if ends_with nat_eq url.path (codes "/") then Ok url else Err NotDirectory

-- the call answers what the definition gives, unless memory runs out
abbrev pub SourceGives : Result Parts SourceError → Result Parts SourceError → Type 0
SourceGives (Err Memory) value = Unit {0}
SourceGives result value = result ≡ value

-- ---- the code that a code base stands for

-- the host as a URL writes it; no host and the empty one are alike
abbrev pub written_host : Parts → List ℕ
written_host url = unwrap_or (option_map host_text (nonempty_host url)) []

-- whether the port of a code base, where it has one, is that of the source
abbrev pub ports_agree : Option ℕ → Option ℕ → Bool
ports_agree None port = true
ports_agree (Some base) None = false
ports_agree (Some base) (Some port) = base == port

-- whether the path of a code base stands for a directory: with `/-` at its end for what begins so, with `/*` for just that, and else for itself,
-- a final slash added or not
abbrev pub paths_match : List ℕ → List ℕ → Bool
paths_match base directory =
    if ends_with nat_eq base (codes "/-")
    then starts_with nat_eq directory (but_last base)
    else (if ends_with nat_eq base (codes "/*")
    then bytes_eq (but_last base) directory
    else bytes_eq base directory || bytes_eq (base ++ codes "/") directory)

-- whether a code base stands for the code of a source; user, password, query and fragment aren't looked at
abbrev pub stands_for : Parts → Parts → Bool
stands_for base source =
    bytes_eq base.scheme source.scheme
    && (bytes_eq (written_host base) (written_host source)
    && (ports_agree base.port source.port && paths_match base.path source.path))

-- ---- the code that a grant is for

-- without a code base it is all code, and none where a code base is no URL
abbrev pub code_of_base : Option (List ℕ) → Code
code_of_base = elim [ None ↦ All | Some base ↦ unwrap_or (option_map Under (url_of_units base)) Nothing ]

-- a grant that asks for a signer or a principal is for no code, since no code here has one
unfoldable pub code_of : Grant → Code
code_of grant = if grant.asks_more then Nothing else code_of_base grant.code_base

-- whether some code is that of a source
abbrev pub is_in : Code → Parts → Bool
is_in x source = elim x [ All ↦ true | Nothing ↦ false | Under base ↦ stands_for base source ]

-- whether a grant is for the code of a source
abbrev pub matches : Grant → Parts → Bool
matches grant source = is_in (code_of grant) source
