-- The rule in two programs whose classes stand alike.
use Rattle.std.proofs.Common.{◌≡◌, Bool, refl, ap, ◌∙◌}
use Rattle.jparts.specs.declared.jcode.names.FieldOp.{FieldOp}
use Rattle.jparts.specs.declared.jcode.names.FieldOp.TheVariants as fields
use Rattle.jtypes.specs.declared.vtype.Name.{Name}
use Rattle.jtypes.specs.TypeFrames.{Frame}
use Rattle.jtypes.specs.ClassTrees.{Tree}
use Rattle.jresolution.specs.declared.jprogram.member.Member.{Member}
use Rattle.jresolution.specs.jprogram.ProgramClasses.{Program, tree}
use Rattle.jresolution.specs.declared.juses.meaning.InvokeKind.TheVariants as how
use Rattle.jresolution.specs.juses.IndexedInstructions.{Instruction, Simple, Local, Stack, Jump, Switch, Return, Throw, Array, Used}
use Rattle.jresolution.specs.juses.InstructionMeanings as meanings
use Rattle.jresolution.specs.juses.InstructionMeanings.{FieldMeaning, Meaning}
use Rattle.jtyping.specs.jrule.ArrayRule.{array}
use Rattle.jtyping.specs.jrule.StackEffects.{Exchange}
use Rattle.jtyping.specs.jrule.InstructionContext.{Here}
use Rattle.jtyping.specs.jrule.ObjectRule.{init}
use Rattle.jtyping.specs.jrule.StackOperands.{exchanged}
use Rattle.jtyping.specs.jrule.TypingRule.{by_table, is_own, rule, used}
use Rattle.jtyping.specs.jrule.BasicRule.{jump, leave, simple}
use Rattle.jtyping.specs.ProofNames.{switch, throw}
use Rattle.jtyping.specs.jrule.PoolEffects.{exchange, of_field}
use Rattle.jmoved_laws.specs.types.RulePremises.{AsksTree, SameOwners}

abbrev Alike : (Member → Bool) → (Member → Bool) → Type 0
Alike own other = (m : Member) → other m ≡ own m

field_alike : (own other : Member → Bool) (this : Name) (op : FieldOp) (f : FieldMeaning) → Alike own other → of_field other this op f ≡ of_field own this op f
field_alike own other this fields.GetStatic f h = refl
field_alike own other this fields.PutStatic f h = refl
field_alike own other this fields.GetField f h = refl
field_alike own other this fields.PutField f h = ap (λ (b : Bool). of_field (λ m. b) this fields.PutField f) (h f.member)

exchange_alike : (own other : Member → Bool) (this : Name) (m : Meaning) → Alike own other → exchange other this m ≡ exchange own this m
unfolding exchange
exchange_alike own other this (meanings.Push c) h = refl
exchange_alike own other this (meanings.Field op f) h = field_alike own other this op f h
exchange_alike own other this (meanings.Call by c) h = refl
exchange_alike own other this (meanings.Make c) h = refl
exchange_alike own other this (meanings.MakeArray t) h = refl
exchange_alike own other this (meanings.Cast op t) h = refl

module _ (p q : Program) (here : Here) (same : tree q ≡ tree p) (owners : SameOwners p q here) where
  table_alike : (m : Meaning) (f : Frame) → by_table q here m f ≡ by_table p here m f
  table_alike m f =
      ap (λ (t : Tree). exchanged t here.max_stack (exchange (is_own q here.is_init here.class) here.class m) f) same
      ∙ ap (λ (e : Exchange). exchanged (tree p) here.max_stack e f) (exchange_alike (is_own p here.is_init here.class) (is_own q here.is_init here.class) here.class m owners)

  used_alike : (m : Meaning) (f : Frame) → used q here m f ≡ used p here m f
  used_alike (meanings.Push c) f = table_alike (meanings.Push c) f
  used_alike (meanings.Field op one) f = table_alike (meanings.Field op one) f
  used_alike (meanings.Call how.Virtual c) f = table_alike (meanings.Call how.Virtual c) f
  used_alike (meanings.Call how.Special c) f = table_alike (meanings.Call how.Special c) f
  used_alike (meanings.Call how.Static c) f = table_alike (meanings.Call how.Static c) f
  used_alike (meanings.Call how.Interface c) f = table_alike (meanings.Call how.Interface c) f
  used_alike (meanings.Call how.Init c) f = ap (λ (t : Tree). init t here c f) same
  used_alike (meanings.Make c) f = refl
  used_alike (meanings.MakeArray t) f = table_alike (meanings.MakeArray t) f
  used_alike (meanings.Cast op t) f = table_alike (meanings.Cast op t) f

  rule_alike : (i : Instruction) (f : Frame) → rule q here i f ≡ rule p here i f
  unfolding rule
  rule_alike (Simple s) f = ap (λ (t : Tree). simple t here.max_stack s f) same
  rule_alike (Local form) f = refl
  rule_alike (Stack s) f = refl
  rule_alike (Jump test to) f = ap (λ (t : Tree). jump t test f) same
  rule_alike (Switch cases other) f = ap (λ (t : Tree). switch t f) same
  rule_alike (Return kind) f = ap (λ (t : Tree). leave t here.is_init here.returns kind f) same
  rule_alike Throw f = ap (λ (t : Tree). throw t f) same
  rule_alike (Array form) f = ap (λ (t : Tree). array t here.max_stack form f) same
  rule_alike (Used m) f = used_alike m f

pub asks_tree : AsksTree
asks_tree p q here i f same owners = rule_alike p q here same owners i f
