-- Which attributes moved classes keep. The others say what the source or its code was, or what no machine of ours looks at.
use Rattle.std.specs.Prelude.{ℕ, Bool, List, [], ◌∷◌, Option, codes}
use Rattle.std.specs.List.{list_any}
use Rattle.jparts.specs.declared.jpool.entry.Entry.{Entry}
use Rattle.jparts.specs.jpool.ConstantPools.{utf8_at}
use Rattle.jclass.specs.declared.class.Attribute.{Attribute}
use Rattle.jclass.specs.MemberFormat.{attribute_name}
use Rattle.jclass.specs.FlagRules.{is_text}

-- the text at an index is one of these
abbrev pub is_one_of : List (List ℕ) → Option (List ℕ) → Bool
is_one_of names text = list_any (is_text text) names

-- of a class (JVMS 4.7): SourceFile, InnerClasses, Deprecated and Synthetic
unfoldable pub class_keeps : List Entry → Attribute → Bool
class_keeps pool a =
    is_one_of (codes "SourceFile" ∷ codes "InnerClasses" ∷ codes "Deprecated" ∷ codes "Synthetic" ∷ []) (utf8_at pool (attribute_name a))

-- of a method, besides its code: Exceptions, Deprecated and Synthetic
unfoldable pub method_keeps : List Entry → Attribute → Bool
method_keeps pool a = is_one_of (codes "Exceptions" ∷ codes "Deprecated" ∷ codes "Synthetic" ∷ []) (utf8_at pool (attribute_name a))
