-- What is known of a call.
use Rattle.std.proofs.Common.{◌≡◌, ◌∙◌, Bool, true, false, List, Option, Some, None, sym, ap}
use Rattle.std.specs.Prelude.{is_some, option_map}
use Rattle.jclass.specs.declared.class.CodeBody.{CodeBody}
use Rattle.jparts.specs.declared.jcode.op_form.PoolForm.{PoolForm}
use Rattle.jparts.specs.declared.jpool.entry.Entry.{Entry}
use Rattle.jresolution.specs.declared.jprogram.member.MethodId.{MethodId}
use Rattle.jresolution.specs.declared.jprogram.member.Selected.{Selected}
use Rattle.jresolution.specs.declared.jprogram.member.Selected.TheVariants as selected
use Rattle.jresolution.specs.declared.jprogram.part.ClassRef.{ClassRef}
use Rattle.jresolution.specs.jprogram.ProgramClasses.{Program}
use Rattle.jresolution.specs.declared.juses.code.CodeRef.{CodeRef}
use Rattle.jresolution.specs.declared.juses.meaning.CallUse.{CallUse}
use Rattle.jresolution.specs.declared.juses.meaning.Use.{Use}
use Rattle.jresolution.specs.declared.juses.types.TypeRef.{TypeRef}
use Rattle.jresolution.specs.juses.IndexedInstructions.{code_at}
use Rattle.jresolution.specs.juses.InstructionMeanings.{CallMeaning, call_named, meaning_of, meant}
use Rattle.jresolution.specs.juses.InternedInstructions.{seen_code}
use Rattle.jresolution.specs.juses.PoolTables.{pool_at}
use Rattle.jresolution.specs.juses.InternedTypes.{class_named}
use Rattle.jsemantics.specs.jmachine.World.{world}
use Rattle.jready.specs.DecodedInstructions.{call_form}
use Rattle.jrows.specs.jcalls.MethodCalls.{selected_on}
use Rattle.jserving.specs.declared.jinvoke.choosing.Answer.{Answer}
use Rattle.jserving.specs.declared.jinvoke.choosing.CallKey.{CallKey}
use Rattle.jserving.specs.declared.jinvoke.choosing.Chosen.{Chosen}
use Rattle.jserving.specs.declared.jinvoke.choosing.Chosen.TheVariants as chosens
use Rattle.jserving.specs.jinvoke.Answers.{IsCallAt, OwnerIs, answer, answer_by, answer_to, chosen, has, hides, id_on, in_meaning, locals_in, nothing, stack_in}

abbrev by_code : MethodId → Option CodeBody → Chosen
by_code m body = chosens.Method m (is_some body) (locals_in body) (stack_in body)

module _ (p : Program) (m : MethodId) (c : Option CodeRef) (h : option_map seen_code c ≡ code_at p m) where
  pub bare_is : c ≡ None → chosens.Method m false 0 0 ≡ chosen p (selected.Method m)
  bare_is e = ap (by_code m) (sym (ap (option_map seen_code) e) ∙ h)

  pub coded_is : (body : CodeRef) → c ≡ Some body → chosens.Method m true body.max_locals body.max_stack ≡ chosen p (selected.Method m)
  coded_is body e = ap (by_code m) (sym (ap (option_map seen_code) e) ∙ h)

abbrev made : Chosen → Bool → Bool → Answer
made what has hidden = record { what = what; has = has; hidden = hidden }

pub answer_made : (p : Program) (k : CallKey) (c : CallMeaning) (s : Selected) (what : Chosen) (face hidden : Bool)
    → s ≡ selected_on (world p) k.class k.by c (id_on k.on) → what ≡ chosen p s → face ≡ has p k.by c k.on → hidden ≡ hides p k.by s
    → made what face hidden ≡ answer_by p k c
answer_made p k c s what face hidden is w f h =
    ap (λ x. made x face hidden) (w ∙ ap (chosen p) is) ∙ ap (λ x. made (chosen p (selected_on (world p) k.class k.by c (id_on k.on))) x hidden) f
    ∙ ap (λ x. made (chosen p (selected_on (world p) k.class k.by c (id_on k.on))) (has p k.by c k.on) x) (h ∙ ap (hides p k.by) is)

pub call_there : (p : Program) (k : CallKey) (types : List TypeRef) (form : PoolForm) (u : Option Use) (call : Option CallUse) → form ≡ call_form k.by k.pool
    → option_map (meaning_of p (pool_at p k.class) types) u ≡ meant p (pool_at p k.class) form
    → ((q : Program) (pool : List Entry) (ts : List TypeRef) → option_map (call_named q ts) call ≡ in_meaning (option_map (meaning_of q pool ts) u))
    → IsCallAt p k call
call_there p k types form u call f is law =
    (types, law p (pool_at p k.class) types ∙ ap in_meaning (is ∙ ap (meant p (pool_at p k.class)) f))

pub answered : (p : Program) (k : CallKey) (o : Option CallUse) (call : CallUse) (a : Answer) → IsCallAt p k o → o ≡ Some call
    → ((types : List TypeRef) → a ≡ answer_by p k (call_named p types call)) → a ≡ answer p k
unfolding answer
answered p k o call a is e law = law is.0 ∙ ap (answer_to p k) (sym (ap (option_map (call_named p is.0)) e) ∙ is.1)

pub unanswered : (p : Program) (k : CallKey) (o : Option CallUse) → IsCallAt p k o → o ≡ None → nothing ≡ answer p k
unfolding answer
unanswered p k o is e = ap (answer_to p k) (sym (ap (option_map (call_named p is.0)) e) ∙ is.1)

pub owner_named : (p : Program) (k : CallKey) (o : Option CallUse) (owner : Option ClassRef) → IsCallAt p k o → owner ≡ option_map (λ (u : CallUse). u.owner) o
    → OwnerIs p k.class k.by k.pool owner
owner_named p k o owner is e way c means = by_use o (is.1 ∙ ap in_meaning means) e
  where
    by_use : (o : Option CallUse) → option_map (call_named p is.0) o ≡ Some c → owner ≡ option_map (λ (u : CallUse). u.owner) o
        → (r : ClassRef) × (owner ≡ Some r) × (c.owner ≡ class_named p r)
    by_use None h e = absurd cc
    by_use (Some u) h e =
        let same : call_named p is.0 u ≡ c = cc in
        (u.owner, e, sym (ap (λ (m : CallMeaning). m.owner) same))
