-- Numbers by which most members of a class are told apart, and the first member of each number.
use Rattle.std.specs.Prelude.{◌≡◌, ℕ, ◌+◌, ◌-◌, ◌*◌, ◌%◌, ◌^◌, Bool, List, [], ◌∷◌, length, take, drop, nat_lt, if◌then◌else◌, Option, Some, None, slice_get}
use Rattle.std.specs.List.{position}
use Rattle.std.specs.Option.{option_or}
use Rattle.std.specs.Ordering.{is_eq, nat_cmp}
use Rattle.std.specs.BTreeMap as tree
use Rattle.std.specs.BTreeMap.{BTreeMap}
use Rattle.jclass.specs.declared.class.ClassParts.{ClassParts}
use Rattle.jclass.specs.declared.class.MemberInfo.{MemberInfo}
use Rattle.jresolution.specs.declared.jprogram.firsts.Firsts.{Firsts}
use Rattle.jresolution.specs.declared.jprogram.firsts.Key.{Key}
use Rattle.jresolution.specs.declared.jprogram.part.CodePart.{CodePart}
use Rattle.jresolution.specs.jprogram.ClassFileParts as parts

-- ---- digests

unfoldable pub digest_from : ℕ → List ℕ → ℕ
digest_from sum [] = sum
digest_from sum (b ∷ text) = digest_from ((sum * 257 % 2 ^ 64 + b) % 2 ^ 64) text

-- of a long text its ends alone count
unfoldable pub digest_text : ℕ → List ℕ → ℕ
digest_text sum text =
    if nat_lt 1024 (length text) then digest_from (digest_from sum (take 512 text)) (drop (length text - 512) text)
    else digest_from sum text

-- of a name and a descriptor
abbrev pub digest : List ℕ → List ℕ → ℕ
digest name desc = digest_text (digest_text 0 name) desc

-- a digest is that of the name and the descriptor beside it
abbrev pub IsKey : Key → Type 0
IsKey key = key.sum ≡ digest key.name.now key.desc.now

abbrev pub digest_of : ClassParts → MemberInfo → ℕ
digest_of c m = digest (parts.member_name c m) (parts.member_desc c m)

abbrev pub has_digest : ClassParts → ℕ → MemberInfo → Bool
has_digest c sum m = is_eq (nat_cmp (digest_of c m) sum)

-- ---- tables of them

abbrev pub first_at : BTreeMap ℕ ℕ → ℕ → Option ℕ
first_at places sum = tree.get nat_cmp places sum

-- a table has the place of the first member of each digest
abbrev pub AreFirst : ClassParts → List MemberInfo → BTreeMap ℕ ℕ → Type 0
AreFirst c members places = (sum : ℕ) → first_at places sum ≡ position (has_digest c sum) members

abbrev pub AreFirsts : ClassParts → Firsts → Type 0
AreFirsts c firsts = AreFirst c c.methods firsts.methods × AreFirst c c.fields firsts.fields

abbrev pub HasFirsts : ClassParts → Option Firsts → Type 0
HasFirsts c None = ⊥
HasFirsts c (Some firsts) = AreFirsts c firsts

-- each part has its tables
abbrev pub AreTold : List CodePart → List Firsts → Type 0
AreTold ps all = (i : ℕ) (part : CodePart) → slice_get ps i ≡ Some part → HasFirsts part.class (slice_get all i)

-- a number has the place that it had, or else the new one where it is this one
abbrev pub Tells : ℕ → ℕ → BTreeMap ℕ ℕ → BTreeMap ℕ ℕ → Type 0
Tells sum k old new = (q : ℕ) → first_at new q ≡ option_or (first_at old q) (if is_eq (nat_cmp sum q) then Some k else None)
