use Rattle.std.proofs.Common.{◌≡◌, ℕ, List, ◌∙◌, sym}
use Rattle.jparts.specs.declared.jcode.op.Handler.{Handler}
use Rattle.jparts.specs.declared.jcode.op.Placed.{Placed}
use Rattle.jclass.specs.declared.class.Attribute.{Attribute}
use Rattle.jclass.specs.declared.class.Attribute.TheVariants.{Code}
use Rattle.jclass.specs.declared.class.CodeAttribute.{CodeAttribute}
use Rattle.jclass.proofs.class.Attribute.copy.Goals as goal

-- a code of the same parts
same_code : (name stack locals : ℕ) (ps qs : List Placed) (hs gs : List Handler) (xs ys : List CodeAttribute) (all : Attribute)
    → ps ≡ qs → hs ≡ gs → xs ≡ ys → all ≡ Code name stack locals qs gs ys → Code name stack locals ps hs xs ≡ all
same_code name stack locals ps qs hs gs xs ys all p h x a = rw (p, h, x) (sym a)

pub returns-in_ok-attributes-in-Code : goal.returns-in_ok-attributes-in-Code
returns-in_ok-attributes-in-Code c =
    same_code _ _ _ _ _ _ _ _ _ _ (c.in_ok-ops-in-Code.ensures ∙ c.as_slice.ensures) c.in_ok-handlers-in-Code.ensures
    (c.in_ok-attributes-in-Code.ensures ∙ c.as_slice-in-Code.ensures) c.in-Code.is
