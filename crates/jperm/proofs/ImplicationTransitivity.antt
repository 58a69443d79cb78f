-- Implication leads on: a permission implies all that an implied one implies, and a list that covers one covers all that it implies.
use Rattle.std.proofs.Common.{◌≡◌, ℕ, suc, zero, ◌<◌, ◌≤◌, ◌-◌, Bool, true, false, ◌&&◌, ◌||◌, if◌then◌else◌, List, [], ◌∷◌, ◌++◌, length, take, drop, not, nat_eq, nat_lt, refl, sym, subst, arith, length-append, codes}
use Rattle.std.specs.List.{starts_with, list_any}
use Rattle.std.specs.Str.{bytes_eq}
use Rattle.std.proofs.lemmas.List.{length-take-le}
use Rattle.std.proofs.lemmas.List.Folds.{Any-from_list_any, list_any-from_Any}
use Rattle.std.proofs.lemmas.Bool.Decides.{nat_tests}
use Rattle.jperm.specs.declared.permission.Permission.{Permission}
use Rattle.jperm.specs.declared.permission.Permission.TheVariants.{All, Basic, Property, File}
use Rattle.jperm.specs.declared.permission.BasicClass.{BasicClass}
use Rattle.jperm.specs.declared.path.FilePath.{FilePath}
use Rattle.jperm.specs.declared.path.FilePath.TheVariants.{AllFiles, Below, Children, Exact}
use Rattle.jperm.specs.Actions.{has_all}
use Rattle.jperm.specs.NameCoverage.{name_covers, is_wildcard, goes_on, but_last}
use Rattle.jperm.specs.PathCoverage.{path_covers, is_below, is_in, inside, slash}
use Rattle.jperm.specs.Permissions.{implies, covers, united, gives, stands_alone, one_implies, together, same_class}
use Rattle.jperm.proofs.Bits.{has_all-trans, has_all-none, has_all-itself}
use Rattle.jperm.proofs.Cover.{or_left, or_right, either, fold_has, fold_within}
use Rattle.jperm.proofs.PermissionEquality.{and_left, and_right, and_both, same_texts, same_class-true}

-- ---- texts that begin others

starts_with-trans : (a b c : List ℕ) → starts_with nat_eq b a ≡ true → starts_with nat_eq c b ≡ true → starts_with nat_eq c a ≡ true
starts_with-trans [] b c h k = refl
starts_with-trans (x ∷ a) [] c h k = cc
starts_with-trans (x ∷ a) (y ∷ b) [] h k = cc
starts_with-trans (x ∷ a) (y ∷ b) (z ∷ c) h k =
    let first = and_left (nat_eq x y) (starts_with nat_eq b a) h in
    let second = and_left (nat_eq y z) (starts_with nat_eq c b) k in
    and_both (nat_eq x z) (starts_with nat_eq c a) (grind (arith, nat_tests))
    (starts_with-trans a b c (and_right (nat_eq x y) (starts_with nat_eq b a) h) (and_right (nat_eq y z) (starts_with nat_eq c b) k))

starts_with-take : (a b : List ℕ) (k : ℕ) → starts_with nat_eq b a ≡ true → length a ≤ k → starts_with nat_eq (take k b) a ≡ true
starts_with-take [] b k h le = refl
starts_with-take (x ∷ a) [] k h le = cc
starts_with-take (x ∷ a) (y ∷ b) zero h le = absurd (omega arith)
starts_with-take (x ∷ a) (y ∷ b) (suc k) h le =
    and_both (nat_eq x y) (starts_with nat_eq (take k b) a) (and_left (nat_eq x y) (starts_with nat_eq b a) h)
    (starts_with-take a b k (and_right (nat_eq x y) (starts_with nat_eq b a) h) (omega arith))

starts_with-itself : (a : List ℕ) → starts_with nat_eq a a ≡ true
starts_with-itself [] = refl
starts_with-itself (x ∷ a) = and_both (nat_eq x x) (starts_with nat_eq a a) (grind (arith, nat_tests)) (starts_with-itself a)

starts_with-front : (a b : List ℕ) → starts_with nat_eq (a ++ b) a ≡ true
starts_with-front [] b = refl
starts_with-front (x ∷ a) b = and_both (nat_eq x x) (starts_with nat_eq (a ++ b) a) (grind (arith, nat_tests)) (starts_with-front a b)

lt_true : (a b : ℕ) → nat_lt a b ≡ true → a < b
lt_true a b h = grind (arith, nat_tests)

true_lt : (a b : ℕ) → a < b → nat_lt a b ≡ true
true_lt a b h = grind (arith, nat_tests)

begins : (start text : List ℕ) → goes_on start text ≡ true → starts_with nat_eq text start ≡ true
begins start text h = and_left (starts_with nat_eq text start) (nat_lt (length start) (length text)) h

longer : (start text : List ℕ) → goes_on start text ≡ true → length start < length text
longer start text h = lt_true (length start) (length text) (and_right (starts_with nat_eq text start) (nat_lt (length start) (length text)) h)

going : (start text : List ℕ) → starts_with nat_eq text start ≡ true → length start < length text → goes_on start text ≡ true
going start text s l = and_both (starts_with nat_eq text start) (nat_lt (length start) (length text)) s (true_lt (length start) (length text) l)

-- what goes on behind a text that goes on, its last unit aside, goes on
goes_on-last : (a m x : List ℕ) → goes_on a m ≡ true → goes_on (but_last m) x ≡ true → goes_on a x ≡ true
goes_on-last a m x h k =
    let one : length a < length m = longer a m h in
    let two : length (but_last m) < length x = longer (but_last m) x k in
    let cut : length (but_last m) ≡ length m - 1 = length-take-le (length m - 1) m (omega arith) in
    going a x (starts_with-trans a (but_last m) x (starts_with-take a m (length m - 1) (begins a m h) (omega arith)) (begins (but_last m) x k)) (omega arith)

-- ---- names

name_covers-trans : (n m x : List ℕ) → name_covers n m ≡ true → name_covers m x ≡ true → name_covers n x ≡ true
name_covers-trans n m x h k =
    either (bytes_eq n m) (is_wildcard n && goes_on (but_last n) m) h
    (λ e. subst (λ (t : List ℕ). name_covers t x ≡ true) (sym (same_texts n m e)) k)
    (λ w. either (bytes_eq m x) (is_wildcard m && goes_on (but_last m) x) k
    (λ e. subst (λ (t : List ℕ). name_covers n t ≡ true) (same_texts m x e) h)
    (λ v. or_right (bytes_eq n x) (is_wildcard n && goes_on (but_last n) x)
    (and_both (is_wildcard n) (goes_on (but_last n) x) (and_left (is_wildcard n) (goes_on (but_last n) m) w)
    (goes_on-last (but_last n) m x (and_right (is_wildcard n) (goes_on (but_last n) m) w) (and_right (is_wildcard m) (goes_on (but_last m) x) v)))))

-- ---- paths

inside_starts : (b : Bool) (e : List ℕ) → starts_with nat_eq (if b then e else e ++ codes "/") e ≡ true
inside_starts true e = starts_with-itself e
inside_starts false e = starts_with-front e (codes "/")

inside_longer : (b : Bool) (e : List ℕ) → length e ≤ length (if b then e else e ++ codes "/")
inside_longer true e = omega arith
inside_longer false e = let n = length-append e (codes "/") in omega (arith, n)

below_below : (d e r : List ℕ) → is_below d e ≡ true → is_below e r ≡ true → is_below d r ≡ true
below_below d e r h k =
    let one : length (inside d) < length e = longer (inside d) e h in
    let two : length (inside e) < length r = longer (inside e) r k in
    let in_between : length e ≤ length (inside e) = inside_longer (bytes_eq e (codes "/")) e in
    going (inside d) r
    (starts_with-trans (inside d) e r (begins (inside d) e h)
    (starts_with-trans e (inside e) r (inside_starts (bytes_eq e (codes "/")) e) (begins (inside e) r k)))
    (omega arith)

at_below : (d e r : List ℕ) → (bytes_eq d e || is_below d e) ≡ true → is_below e r ≡ true → is_below d r ≡ true
at_below d e r h k =
    either (bytes_eq d e) (is_below d e) h
    (λ same. subst (λ (t : List ℕ). is_below t r ≡ true) (sym (same_texts d e same)) k)
    (λ below. below_below d e r below k)

at_at : (d e r : List ℕ) → (bytes_eq d e || is_below d e) ≡ true → (bytes_eq e r || is_below e r) ≡ true → (bytes_eq d r || is_below d r) ≡ true
at_at d e r h k =
    either (bytes_eq e r) (is_below e r) k
    (λ same. subst (λ (t : List ℕ). (bytes_eq d t || is_below d t) ≡ true) (same_texts e r same) h)
    (λ below. or_right (bytes_eq d r) (is_below d r) (at_below d e r h below))

in_below : (d r : List ℕ) → is_in d r ≡ true → is_below d r ≡ true
in_below d r h = and_left (is_below d r) (not (list_any (λ u. nat_eq u slash) (drop (length (inside d)) r))) h

path_covers-trans : (p q r : FilePath) → path_covers p q ≡ true → path_covers q r ≡ true → path_covers p r ≡ true
path_covers-trans AllFiles q r h k = refl
path_covers-trans (Below d) (Exact e) (Exact r) h k = subst (λ (t : List ℕ). is_below d t ≡ true) (same_texts e r k) h
path_covers-trans (Below d) (Children e) (Exact r) h k =
    at_below d e r h (in_below e r k)
path_covers-trans (Below d) (Children e) (Children r) h k = subst (λ (t : List ℕ). (bytes_eq d t || is_below d t) ≡ true) (same_texts e r k) h
path_covers-trans (Below d) (Below e) (Exact r) h k = at_below d e r h k
path_covers-trans (Below d) (Below e) (Children r) h k = at_at d e r h k
path_covers-trans (Below d) (Below e) (Below r) h k = at_at d e r h k
path_covers-trans (Children d) (Exact e) (Exact r) h k = subst (λ (t : List ℕ). is_in d t ≡ true) (same_texts e r k) h
path_covers-trans (Children d) (Children e) (Exact r) h k = subst (λ (t : List ℕ). is_in t r ≡ true) (sym (same_texts d e h)) k
path_covers-trans (Children d) (Children e) (Children r) h k = subst (λ (t : List ℕ). bytes_eq d t ≡ true) (same_texts e r k) h
path_covers-trans (Exact d) (Exact e) (Exact r) h k = subst (λ (t : List ℕ). bytes_eq d t ≡ true) (same_texts e r k) h
path_covers-trans _ _ _ h k = cc

-- ---- permissions

-- a permission implies all that one which it implies implies
pub implies-trans : (p q r : Permission) → implies p q ≡ true → implies q r ≡ true → implies p r ≡ true
implies-trans All q r h k = refl
implies-trans (Basic a n) (Basic b m) (Basic c x) h k =
    let classes = same_class-true b c (and_left (same_class b c) (name_covers m x) k) in
    and_both (same_class a c) (name_covers n x)
    (subst (λ (t : BasicClass). same_class a t ≡ true) classes (and_left (same_class a b) (name_covers n m) h))
    (name_covers-trans n m x (and_right (same_class a b) (name_covers n m) h) (and_right (same_class b c) (name_covers m x) k))
implies-trans (Property n a) (Property m b) (Property x c) h k =
    and_both (name_covers n x) (has_all a c)
    (name_covers-trans n m x (and_left (name_covers n m) (has_all a b) h) (and_left (name_covers m x) (has_all b c) k))
    (has_all-trans a b c (and_right (name_covers n m) (has_all a b) h) (and_right (name_covers m x) (has_all b c) k))
implies-trans (File p n a) (File q m b) (File r x c) h k =
    and_both (path_covers p r) (has_all a c)
    (path_covers-trans p q r (and_left (path_covers p q) (has_all a b) h) (and_left (path_covers q r) (has_all b c) k))
    (has_all-trans a b c (and_right (path_covers p q) (has_all a b) h) (and_right (path_covers q r) (has_all b c) k))
implies-trans _ _ _ h k = cc

-- ---- lists

kept : (b c : Bool) (actions : ℕ) → (b ≡ true → c ≡ true) → has_all (if c then actions else 0) (if b then actions else 0) ≡ true
kept true true actions f = has_all-itself actions
kept true false actions f = let e = f refl in cc
kept false c actions f = has_all-none (if c then actions else 0)

gives_more-property : (q : Permission) (m x : List ℕ) (b c : ℕ) → name_covers m x ≡ true → has_all (gives q (Property x c)) (gives q (Property m b)) ≡ true
gives_more-property (Property n a) m x b c k = kept (name_covers n m) (name_covers n x) a (λ h. name_covers-trans n m x h k)
gives_more-property _ m x b c k = has_all-none 0

gives_more-file : (q : Permission) (m x : FilePath) (s t : List ℕ) (b c : ℕ) → path_covers m x ≡ true → has_all (gives q (File x t c)) (gives q (File m s b)) ≡ true
gives_more-file (File n w a) m x s t b c k = kept (path_covers n m) (path_covers n x) a (λ h. path_covers-trans n m x h k)
gives_more-file _ m x s t b c k = has_all-none 0

united_more : (list : List Permission) (p q : Permission) → ((m : Permission) → has_all (gives m q) (gives m p) ≡ true) → has_all (united list q) (united list p) ≡ true
united_more list p q each =
    fold_within p (united list q) 0 list
    (λ m c. has_all-trans (united list q) (gives m q) (gives m p) (fold_has q 0 list m c.0 c.1 c.2) (each m))
    (has_all-none (united list q))

together_implied : (list : List Permission) (p q : Permission) → implies p q ≡ true → together list p ≡ true → together list q ≡ true
together_implied list (Property m b) (Property x c) k h =
    has_all-trans (united list (Property x c)) (united list (Property m b)) c
    (united_more list (Property m b) (Property x c) (λ r. gives_more-property r m x b c (and_left (name_covers m x) (has_all b c) k)))
    (has_all-trans (united list (Property m b)) b c h (and_right (name_covers m x) (has_all b c) k))
together_implied list (File m s b) (File x t c) k h =
    has_all-trans (united list (File x t c)) (united list (File m s b)) c
    (united_more list (File m s b) (File x t c) (λ r. gives_more-file r m x s t b c (and_left (path_covers m x) (has_all b c) k)))
    (has_all-trans (united list (File m s b)) b c h (and_right (path_covers m x) (has_all b c) k))
together_implied list _ _ k h = cc

one_implied : (list : List Permission) (p q : Permission) → implies p q ≡ true → one_implies list p ≡ true → one_implies list q ≡ true
one_implied list p q k h =
    let found = Any-from_list_any (λ member. stands_alone member && implies member p) list h in
    list_any-from_Any (λ member. stands_alone member && implies member q) list (
      found.0,
      found.1,
      found.2,
      found.3,
      and_both (stands_alone found.1) (implies found.1 q) (and_left (stands_alone found.1) (implies found.1 p) found.4)
          (implies-trans found.1 p q (and_right (stands_alone found.1) (implies found.1 p) found.4) k),
    )

-- a list that covers a permission covers all that it implies
pub implied_covered : (list : List Permission) (p q : Permission) → covers list p ≡ true → implies p q ≡ true → covers list q ≡ true
implied_covered list p q h k =
    either (one_implies list p) (together list p) h
    (λ e. or_left (one_implies list q) (together list q) (one_implied list p q k e))
    (λ e. or_right (one_implies list q) (together list q) (together_implied list p q k e))
