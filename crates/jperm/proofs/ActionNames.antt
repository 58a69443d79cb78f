-- What a text of actions gives: some actions of the kind, and no other bits.
use Rattle.std.proofs.Common.{◌≡◌, ℕ, zero, suc, ◌<◌, ◌==◌, Bool, true, false, cond, not, List, [], ◌∷◌, length, Option, Some, None, Result, Ok, Err, bit_or, fold, refl, sym, subst, ◌∙◌, arith}
use Rattle.std.specs.List.{find}
use Rattle.std.specs.Option.{ok_or}
use Rattle.std.specs.Str.{byte}
use Rattle.std.proofs.lemmas.Bool.Decides.{nat_tests}
use Rattle.jground.specs.jbase.ListMaps.{each_some, put_front}
use Rattle.jground.specs.jbase.MemoryFailures.{◌>>=◌}
use Rattle.jperm.specs.declared.action.Action.{Action}
use Rattle.jperm.specs.declared.action.Action.TheVariants.{Read, Write, Execute, Delete, Readlink}
use Rattle.jperm.specs.declared.making.PermClass.{PermClass}
use Rattle.jperm.specs.declared.making.PermClass.TheVariants as classes
use Rattle.jperm.specs.declared.making.PermError.{PermError}
use Rattle.jperm.specs.declared.making.PermError.TheVariants.{BadActions}
use Rattle.jperm.specs.declared.permission.Permission.{Permission}
use Rattle.jperm.specs.declared.permission.Permission.TheVariants.{Basic, Property, File}
use Rattle.jperm.specs.declared.permission.BasicClass.{BasicClass}
use Rattle.jperm.specs.declared.permission.BasicClass.TheVariants.{Runtime, Security}
use Rattle.jperm.specs.declared.path.FilePath.{FilePath}
use Rattle.jperm.specs.Actions.{actions_of, bit, file_actions, has_all, has_some_of, named, property_actions, set_of, trimmed}
use Rattle.jperm.specs.PermissionConstructors.{filled, made, wanted}
use Rattle.jperm.specs.Permissions.{asks_nothing}
use Rattle.jperm.specs.TextPieces.{pieces}
use Rattle.jperm.specs.WrittenPaths.{path_of}
use Rattle.jperm.proofs.Bits.{has_all-both, has_all-itself, has_all-left, has_all-none, has_all-right, has_all-trans}
use Rattle.jperm.proofs.Cover.{none_given}
use Rattle.jperm.proofs.PermissionEquality.{and_both, and_left}
use Rattle.jperm.proofs.Walks.{joined_next, joined_with, some_parts}

-- ---- sets of actions

abbrev add : ℕ → Action → ℕ
add all action = bit_or all (bit action)

some_bit : (action : Action) → (bit action == 0) ≡ false
some_bit Read = refl
some_bit Write = refl
some_bit Execute = refl
some_bit Delete = refl
some_bit Readlink = refl

-- a set that has what is something is something
something : (set part : ℕ) → (part == 0) ≡ false → has_all set part ≡ true → not (set == 0) ≡ true
something zero part some has = let none = none_given part some in cc
something (suc n) part some has = grind (arith, nat_tests)

-- what is gathered from a start keeps the start
gathered_keeps : (start : ℕ) (actions : List Action) → has_all (fold add start actions) start ≡ true
gathered_keeps start [] = has_all-itself start
gathered_keeps start (action ∷ actions) =
    has_all-trans (fold add (bit_or start (bit action)) actions) (bit_or start (bit action)) start
    (gathered_keeps (bit_or start (bit action)) actions) (has_all-left start (bit action))

found_step : (start : ℕ) (b : Bool) (first action : Action) (rest : Option Action) (kind : List Action) → cond b (Some first) rest ≡ Some action
    → (rest ≡ Some action → has_all (fold add (bit_or start (bit first)) kind) (bit action) ≡ true)
    → has_all (fold add (bit_or start (bit first)) kind) (bit action) ≡ true
found_step start true first action rest kind is later =
    let same : first ≡ action = cc in
    subst (λ (a : Action). has_all (fold add (bit_or start (bit first)) kind) (bit a) ≡ true) same
    (has_all-trans (fold add (bit_or start (bit first)) kind) (bit_or start (bit first)) (bit first)
    (gathered_keeps (bit_or start (bit first)) kind) (has_all-right start (bit first)))
found_step start false first action rest kind is later = later is

-- what is found in a kind is within its set
found_within : (start : ℕ) (p : Action → Bool) (kind : List Action) (action : Action) → find p kind ≡ Some action → has_all (fold add start kind) (bit action) ≡ true
found_within start p [] action is = cc
found_within start p (first ∷ kind) action is =
    found_step start (p first) first action (find p kind) kind is (λ e. found_within (bit_or start (bit first)) p kind action e)

-- ---- actions of pieces

joined_step : (Q : Type 0) (start set : ℕ) (one : Option Action) (left : Option (List Action)) → joined_with start (put_front one left) ≡ Some set
    → ((action : Action) → one ≡ Some action → joined_with (bit_or start (bit action)) left ≡ Some set → Q) → Q
joined_step Q start set None left is then = cc
joined_step Q start set (Some action) left is then = then action refl (sym (joined_next start action left) ∙ is)

-- the set that comes of pieces keeps what was there
joined_keeps : (f : List ℕ → Option Action) (texts : List (List ℕ)) (start set : ℕ) → joined_with start (each_some f texts) ≡ Some set → has_all set start ≡ true
unfolding each_some
joined_keeps f [] start set is = let same : start ≡ set = cc in subst (λ (n : ℕ). has_all n start ≡ true) same (has_all-itself start)
joined_keeps f (text ∷ texts) start set is =
    joined_step (has_all set start ≡ true) start set (f text) (each_some f texts) is
    (λ action e more. has_all-trans set (bit_or start (bit action)) start (joined_keeps f texts (bit_or start (bit action)) set more) (has_all-left start (bit action)))

-- and is within what has that and each action of a piece
joined_within : (n : ℕ) (f : List ℕ → Option Action) → ((text : List ℕ) (action : Action) → f text ≡ Some action → has_all n (bit action) ≡ true)
    → (texts : List (List ℕ)) (start set : ℕ) → has_all n start ≡ true → joined_with start (each_some f texts) ≡ Some set → has_all n set ≡ true
unfolding each_some
joined_within n f each [] start set has is = let same : start ≡ set = cc in subst (λ (k : ℕ). has_all n k ≡ true) same has
joined_within n f each (text ∷ texts) start set has is =
    joined_step (has_all n set ≡ true) start set (f text) (each_some f texts) is
    (λ action e more. joined_within n f each texts (bit_or start (bit action)) set (has_all-both n start (bit action) has (each text action e)) more)

-- where there is a piece, something comes of it
joined_some : (f : List ℕ → Option Action) (texts : List (List ℕ)) (set : ℕ) → 0 < length texts → joined_with 0 (each_some f texts) ≡ Some set → not (set == 0) ≡ true
unfolding each_some
joined_some f [] set some is = absurd (omega arith)
joined_some f (text ∷ texts) set some is =
    joined_step (not (set == 0) ≡ true) 0 set (f text) (each_some f texts) is
    (λ action e more. something set (bit action) (some_bit action)
    (has_all-trans set (bit_or 0 (bit action)) (bit action) (joined_keeps f texts (bit_or 0 (bit action)) set more) (has_all-right 0 (bit action))))

-- a text that names actions of a kind gives some, and no other bits
named_some : (kind : List Action) (text : List ℕ) (set : ℕ) → actions_of kind text ≡ Some set → has_some_of kind set ≡ true
named_some kind text set is =
    and_both (not (set == 0)) (has_all (set_of kind) set)
    (joined_some (λ piece. named kind (trimmed piece)) (pieces (byte ",") text) set (some_parts (byte ",") text) is)
    (joined_within (set_of kind) (λ piece. named kind (trimmed piece)) (λ piece action e. found_within 0 _ kind action e) (pieces (byte ",") text) 0 set
    (has_all-none (set_of kind)) is)

-- ---- what is made

ok_of : (o : Option ℕ) (set : ℕ) → ok_or o BadActions ≡ Ok set → o ≡ Some set
ok_of None set is = cc
ok_of (Some n) set is = cc

pub wanted_some : (kind : List Action) (actions : Option (List ℕ)) (set : ℕ) → wanted kind actions ≡ Ok set → has_some_of kind set ≡ true
wanted_some kind None set is = cc
wanted_some kind (Some text) set is = named_some kind text set (ok_of (actions_of kind text) set is)

not_none : (set : ℕ) → not (set == 0) ≡ true → (set == 0) ≡ false
not_none zero some = cc
not_none (suc n) some = grind (arith, nat_tests)

wanted_set : (kind : List Action) (actions : Option (List ℕ)) (set : ℕ) → wanted kind actions ≡ Ok set → (set == 0) ≡ false
wanted_set kind actions set is =
    not_none set (and_left (not (set == 0)) (has_all (set_of kind) set) (wanted_some kind actions set is))

basic_asks : (class : BasicClass) (name : Result (List ℕ) PermError) (p : Permission) → (name >>= λ text. Ok (Basic class text)) ≡ Ok p → asks_nothing p ≡ false
basic_asks class (Ok text) p is = let same : Basic class text ≡ p = cc in subst (λ (q : Permission). asks_nothing q ≡ false) same refl
basic_asks class (Err e) p is = cc

property_asks : (name : Result (List ℕ) PermError) (want : Result ℕ PermError) (p : Permission) → ((set : ℕ) → want ≡ Ok set → (set == 0) ≡ false)
    → (name >>= λ text. want >>= λ set. Ok (Property text set)) ≡ Ok p → asks_nothing p ≡ false
property_asks (Ok text) (Ok set) p some is =
    let same : Property text set ≡ p = cc in subst (λ (q : Permission). asks_nothing q ≡ false) same (some set refl)
property_asks (Ok text) (Err e) p some is = cc
property_asks (Err e) want p some is = cc

file_asks : (path : List ℕ → FilePath) (name : Result (List ℕ) PermError) (want : Result ℕ PermError) (p : Permission) → ((set : ℕ) → want ≡ Ok set → (set == 0) ≡ false)
    → (name >>= λ text. want >>= λ set. Ok (File (path text) text set)) ≡ Ok p → asks_nothing p ≡ false
file_asks path (Ok text) (Ok set) p some is =
    let same : File (path text) text set ≡ p = cc in subst (λ (q : Permission). asks_nothing q ≡ false) same (some set refl)
file_asks path (Ok text) (Err e) p some is = cc
file_asks path (Err e) want p some is = cc

-- no permission is made that asks for no actions
pub made_asks : (class : PermClass) (name actions : Option (List ℕ)) (directory : List ℕ) (p : Permission) → made class name actions directory ≡ Ok p → asks_nothing p ≡ false
made_asks classes.All name actions directory p is = let same = is in cc
made_asks classes.Runtime name actions directory p is = basic_asks Runtime (filled name) p is
made_asks classes.Security name actions directory p is = basic_asks Security (filled name) p is
made_asks classes.Property name actions directory p is =
    property_asks (filled name) (wanted property_actions actions) p (λ set e. wanted_set property_actions actions set e) is
made_asks classes.File name actions directory p is = file_asks (path_of directory) _ (wanted file_actions actions) p (λ set e. wanted_set file_actions actions set e) is
