-- The lines of refusals.
use Rattle.std.specs.Prelude.{ℕ, List, ◌++◌, Option, Some, None, codes, decimal}
use Rattle.joutput.specs.jio.TextOutput.{written}
use Rattle.jground.specs.jtext.Texts.{units_of_text}
use Rattle.jclass.specs.declared.fault.ClassFault.{ClassFault}
use Rattle.jclass.specs.declared.fault.ClassFault.TheVariants as kinds
use Rattle.jresolution.specs.declared.jprogram.fault.LinkKind.{LinkKind}
use Rattle.jresolution.specs.declared.jprogram.fault.LinkKind.TheVariants as links
use Rattle.jmoveclass.specs.declared.limit.RewriteKind.{RewriteKind}
use Rattle.jmoveclass.specs.declared.limit.RewriteKind.TheVariants as limits
use Rattle.jpolicy.specs.declared.fault.PolicyFault.{PolicyFault}
use Rattle.jpolicy.specs.declared.fault.PolicyFault.TheVariants as policies
use Rattle.jshow.specs.declared.refusal.Refusal.{Refusal}
use Rattle.jshow.specs.declared.refusal.Refusal.TheVariants.{BadJob, BadPolicy, BadClass, BadLink, BadCheck, BadRewrite, NoMain}

-- some words and a text, which is written as texts are in lines
abbrev pub text_line : List ℕ → List ℕ → List ℕ
text_line words units = words ++ (written units ++ codes "\n")

-- ---- the refusal of a class file

-- a fault's name
unfoldable pub class_word : ClassFault → List ℕ
class_word kinds.Truncated = codes "truncated"
class_word kinds.Magic = codes "magic"
class_word kinds.Version = codes "version"
class_word kinds.Tag = codes "tag"
class_word kinds.Trailing = codes "trailing"
class_word kinds.Text = codes "text"
class_word kinds.Index = codes "index"
class_word kinds.Name = codes "name"
class_word kinds.Descriptor = codes "descriptor"
class_word kinds.Code = codes "code"
class_word (kinds.Opcode opcode) = codes "opcode"
class_word (kinds.LeftOut opcode) = codes "leftout"
class_word kinds.Operand = codes "operand"
class_word kinds.Target = codes "target"
class_word kinds.Reserved = codes "reserved"
class_word kinds.MapTag = codes "maptag"
class_word kinds.MapLeftOut = codes "leftout"
class_word kinds.Maps = codes "maps"

-- the opcode that it names, if it does
unfoldable pub class_opcode : ClassFault → Option ℕ
class_opcode = elim [ kinds.Opcode opcode ↦ Some opcode | kinds.LeftOut opcode ↦ Some opcode | _ ↦ None ]

-- what stands behind the name, to the end of the line
abbrev pub behind_word : Option ℕ → List ℕ
behind_word = elim [ None ↦ codes "\n" | Some number ↦ codes " " ++ (decimal number ++ codes "\n") ]

abbrev pub class_text : List ℕ → ℕ → List ℕ → Option ℕ → List ℕ
class_text path at word opcode = codes "refused class " ++ (path ++ (codes " at " ++ (decimal at ++ (codes " " ++ (word ++ behind_word opcode)))))

-- ---- the refusal of a policy

unfoldable pub policy_word : PolicyFault → List ℕ
policy_word = elim [ policies.NotUtf8 ↦ codes "not-utf8" | policies.Syntax ↦ codes "syntax" | policies.SelfExpansion ↦ codes "self-expansion" ]

-- ---- the refusal of classes that don't link

-- a broken rule's name
unfoldable pub link_word : LinkKind → List ℕ
link_word links.Twice = codes "twice"
link_word links.NoClass = codes "noclass"
link_word links.Circular = codes "circular"
link_word links.BadSuper = codes "badsuper"
link_word links.FinalMethod = codes "finalmethod"
link_word links.NoMember = codes "nomember"
link_word links.NotAccessible = codes "notaccessible"
link_word links.OverridesLibrary = codes "overrideslibrary"
link_word links.ReservedName = codes "reservedname"
link_word links.LeftOut = codes "leftout"
link_word links.BadUse = codes "baduse"

-- a member's name and descriptor, or a dash where there is no member
abbrev pub member_or_dash : Option (List ℕ) → List ℕ
member_or_dash = elim [ None ↦ codes "-" | Some units ↦ written units ]

abbrev pub link_text : List ℕ → List ℕ → List ℕ → List ℕ
link_text class member word = codes "refused link " ++ (class ++ (codes " " ++ (member ++ (codes " " ++ (word ++ codes "\n")))))

-- ---- the refusal of a program that isn't well typed

abbrev pub check_text : List ℕ → List ℕ → ℕ → List ℕ
check_text class member at = codes "refused check " ++ (class ++ (codes " " ++ (member ++ (codes " at " ++ (decimal at ++ codes "\n")))))

-- ---- the refusal of a program that can't be moved

-- a limit's name
unfoldable pub limit_word : RewriteKind → List ℕ
limit_word limits.Slots = codes "slots"
limit_word limits.Locals = codes "locals"
limit_word limits.Stack = codes "stack"
limit_word (limits.TooLong n) = codes "too long"
limit_word limits.PoolFull = codes "pool"

-- how many bytes of code there would be, where that is the limit
unfoldable pub limit_size : RewriteKind → Option ℕ
limit_size = elim [ limits.TooLong n ↦ Some n | _ ↦ None ]

abbrev pub rewrite_text : List ℕ → List ℕ → List ℕ → Option ℕ → List ℕ
rewrite_text class member word size = codes "refused rewrite " ++ (class ++ (codes " " ++ (member ++ (codes " " ++ (word ++ behind_word size)))))

-- a refusal's line
abbrev pub refusal_line : Refusal → List ℕ
refusal_line (BadJob line) = codes "refused job " ++ (decimal line ++ codes "\n")
refusal_line (BadPolicy at kind) = codes "refused policy " ++ (decimal at ++ (codes " " ++ (policy_word kind ++ codes "\n")))
refusal_line (BadClass path at kind) = class_text (written (units_of_text path)) at (class_word kind) (class_opcode kind)
refusal_line (BadLink class member kind) = link_text (written class) (member_or_dash member) (link_word kind)
refusal_line (BadCheck class member at) = check_text (written class) (written member) at
refusal_line (BadRewrite class member kind) = rewrite_text (written class) (member_or_dash member) (limit_word kind) (limit_size kind)
refusal_line (NoMain name) = text_line (codes "refused main ") name
