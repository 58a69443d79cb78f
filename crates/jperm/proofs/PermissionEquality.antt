-- Permissions that are equal are the same.
use Rattle.std.proofs.Common.{◌≡◌, ℕ, List, Bool, true, false, ◌&&◌, ◌==◌, ◌↔◌, refl, ap, subst, eqb-true, eq-eqb}
use Rattle.std.proofs.lemmas.Slice.Eq.{bytes_eq-Decides}
use Rattle.std.specs.Str.{bytes_eq}
use Rattle.jperm.specs.declared.permission.Permission.{Permission}
use Rattle.jperm.specs.declared.permission.Permission.TheVariants.{All, Basic, Property, File, Unresolved}
use Rattle.jperm.specs.declared.permission.BasicClass.{BasicClass}
use Rattle.jperm.specs.declared.permission.BasicClass.TheVariants.{Runtime, Security}
use Rattle.jperm.specs.declared.path.FilePath.{FilePath}
use Rattle.jperm.specs.declared.path.FilePath.TheVariants.{AllFiles, Below, Children, Exact}
use Rattle.jperm.specs.PathCoverage.{same_path}
use Rattle.jperm.specs.Permissions.{equal, same_class}

pub and_left : (a b : Bool) → (a && b) ≡ true → a ≡ true
and_left true b h = refl
and_left false b h = h

pub and_right : (a b : Bool) → (a && b) ≡ true → b ≡ true
and_right true b h = h
and_right false b h = cc

pub and_both : (a b : Bool) → a ≡ true → b ≡ true → (a && b) ≡ true
and_both true b h k = k
and_both false b h k = h

pub same_texts : (a b : List ℕ) → bytes_eq a b ≡ true → a ≡ b
same_texts a b h = (bytes_eq-Decides a b).0 h

pub text_itself : (a : List ℕ) → bytes_eq a a ≡ true
text_itself a = (bytes_eq-Decides a a).1 refl

pub same_class-true : (a b : BasicClass) → same_class a b ≡ true → a ≡ b
same_class-true Runtime Runtime h = refl
same_class-true Security Security h = refl
same_class-true _ _ h = cc

pub class_itself : (a : BasicClass) → same_class a a ≡ true
class_itself Runtime = refl
class_itself Security = refl

same_path-true : (a b : FilePath) → same_path a b ≡ true → a ≡ b
same_path-true AllFiles AllFiles h = refl
same_path-true (Below a) (Below b) h = ap Below (same_texts a b h)
same_path-true (Children a) (Children b) h = ap Children (same_texts a b h)
same_path-true (Exact a) (Exact b) h = ap Exact (same_texts a b h)
same_path-true _ _ h = cc

path_itself : (a : FilePath) → same_path a a ≡ true
path_itself AllFiles = refl
path_itself (Below a) = text_itself a
path_itself (Children a) = text_itself a
path_itself (Exact a) = text_itself a

equal-true : (a b : Permission) → equal a b ≡ true → a ≡ b
equal-true All All h = refl
equal-true (Basic class name) (Basic other wanted) h =
    let classes = same_class-true class other (and_left (same_class class other) (bytes_eq name wanted) h) in
    let names = same_texts name wanted (and_right (same_class class other) (bytes_eq name wanted) h) in
    cc
equal-true (Property name actions) (Property wanted asked) h =
    let names = same_texts name wanted (and_left (bytes_eq name wanted) (actions == asked) h) in
    let all = eqb-true actions asked (and_right (bytes_eq name wanted) (actions == asked) h) in
    cc
equal-true (File path name actions) (File wanted other asked) h =
    let paths = same_path-true path wanted (and_left (same_path path wanted) (bytes_eq name other && (actions == asked)) h) in
    let rest = and_right (same_path path wanted) (bytes_eq name other && (actions == asked)) h in
    let names = same_texts name other (and_left (bytes_eq name other) (actions == asked) rest) in
    let all = eqb-true actions asked (and_right (bytes_eq name other) (actions == asked) rest) in
    cc
equal-true (Unresolved class) (Unresolved other) h = ap Unresolved (same_texts class other h)
equal-true _ _ h = cc

equal_itself : (a : Permission) → equal a a ≡ true
equal_itself All = refl
equal_itself (Basic class name) = and_both (same_class class class) (bytes_eq name name) (class_itself class) (text_itself name)
equal_itself (Property name actions) = and_both (bytes_eq name name) (actions == actions) (text_itself name) (eq-eqb actions actions refl)
equal_itself (File path name actions) =
    and_both (same_path path path) (bytes_eq name name && (actions == actions)) (path_itself path)
    (and_both (bytes_eq name name) (actions == actions) (text_itself name) (eq-eqb actions actions refl))
equal_itself (Unresolved class) = text_itself class

-- the test tells exactly that they are the same value
pub equal_same : (a b : Permission) → (equal a b ≡ true) ↔ (a ≡ b)
equal_same a b = (equal-true a b, λ e. subst (λ (p : Permission). equal a p ≡ true) e (equal_itself a))
