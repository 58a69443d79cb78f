-- One method behind others.
use Rattle.std.proofs.Common.{◌≡◌, ◌+◌, inl, inr, true, false, List, [], ◌∷◌, ◌++◌, length, Option, Some, None, sym, ap, subst, ◌∙◌, arith}
use Rattle.std.specs.Prelude.{slice_get}
use Rattle.std.proofs.lemmas.List.{length-append}
use Rattle.jclass.specs.declared.class.CodeBody.{CodeBody}
use Rattle.jresolution.specs.declared.jprogram.member.MethodId.{MethodId}
use Rattle.jresolution.specs.jprogram.ProgramClasses.{Program}
use Rattle.jresolution.specs.declared.juses.types.TypeRef.{TypeRef}
use Rattle.jresolution.specs.juses.IndexedInstructions.{code_at}
use Rattle.jresolution.specs.juses.PoolTables.{Grows}
use Rattle.jsemantics.specs.jmachine.FrameOperations.{domain_of}
use Rattle.jready.specs.declared.handlers.HandlerRow.{HandlerRow}
use Rattle.jready.specs.declared.instr.Instr.{Instr}
use Rattle.jready.specs.declared.instr.Instr.TheVariants as instr
use Rattle.jready.specs.declared.methods.MethodRow.{MethodRow}
use Rattle.jready.specs.declared.methods.Methods.{Methods}
use Rattle.jready.specs.declared.tables.Tables.{Tables}
use Rattle.jready.specs.HandlerTables.{AreHandlers}
use Rattle.jready.specs.CodeLayout.{AreLaid}
use Rattle.jready.specs.MethodTables.{AreMethods, Has, IsMethod, PutsMethod}
use Rattle.jready.specs.TableGrowth.{AreThere, Grown, part}
use Rattle.jready.proofs.MethodNumbers.{within}
use Rattle.jready.proofs.TableGrowth.{get_grown, get_more, get_put, grown_not, laid_grown, part_grown, some_inj, there_grown, under}

has_grown : (p : Program) (types : List TypeRef) (t u : Tables) (code more : List Instr) (handlers all : List HandlerRow) (r : MethodRow) → Grown t u
    → Grows code more → Grows handlers all
    → (o : Option CodeBody) → Has p types t code handlers r o → Has p types u more all r o
has_grown p types t u code more handlers all r g c h None is =
    record { coded = is.coded; count = is.count; there = there_grown handlers all (r.handlers.first + r.handlers.count) h is.there }
has_grown p types t u code more handlers all r g c h (Some body) is = record {
  coded = is.coded;
  count = is.count;
  max_locals = is.max_locals;
  laid = laid_grown p types t u r.id.class body.ops code more r.first r.count g c is.laid;
  there = there_grown handlers all (r.handlers.first + r.handlers.count) h is.there;
  handles = subst (AreHandlers body.ops body.handlers) (sym (part_grown handlers all r.handlers.first r.handlers.count h is.there)) is.handles;
}

method_grown : (p : Program) (types : List TypeRef) (t u : Tables) (code more : List Instr) (handlers all : List HandlerRow) (r : MethodRow) → Grown t u
    → Grows code more → Grows handlers all
    → IsMethod p types t code handlers r → IsMethod p types u more all r
method_grown p types t u code more handlers all r g c h is = record {
  domain = is.domain;
  holds = has_grown p types t u code more handlers all r g c h (code_at p r.id) is.holds;
  off = get_grown code more (r.first + r.count) c (within code (r.first + r.count) instr.Off is.off) ∙ is.off;
}

pub puts : (p : Program) (types : List TypeRef) (id : MethodId) (old new : Methods) (row : MethodRow) → AreMethods p types old → Grown old.tables new.tables
    → Grows old.code new.code → Grows old.handlers new.handlers
    → new.rows ≡ old.rows ++ row ∷ [] → row.id ≡ id → IsMethod p types new.tables new.code new.handlers row → PutsMethod p types id old new
puts p types id old new row are g c h is own one = record {
  are = λ k r at.
      let there : slice_get (old.rows ++ row ∷ []) k ≡ Some r = ap (λ (l : List MethodRow). slice_get l k) (sym is) ∙ at in
      let lt = within (old.rows ++ row ∷ []) k r there in
      let len = length-append old.rows (row ∷ []) in
      elim (under k (length old.rows) (omega arith)) [
        | inl less ↦ method_grown p types old.tables new.tables old.code new.code old.handlers new.handlers r g c h
            (are k r (sym (get_more old.rows (row ∷ []) k less) ∙ there))
        | inr same ↦
            let put : slice_get (old.rows ++ row ∷ []) k ≡ Some row = ap (slice_get (old.rows ++ row ∷ [])) same ∙ get_put old.rows row in
            subst (IsMethod p types new.tables new.code new.handlers) (some_inj (sym put ∙ there)) one
      ];
  row = row;
  behind = is;
  own = own;
}

-- one without code
pub bare_is : (p : Program) (types : List TypeRef) (t : Tables) (code more : List Instr) (handlers : List HandlerRow) (r : MethodRow)
    → code_at p r.id ≡ None → r.domain ≡ domain_of p r.id → r.has_code ≡ false → r.count ≡ 0 → r.first ≡ length code
    → more ≡ code ++ instr.Off ∷ [] → r.handlers.first ≡ length handlers → r.handlers.count ≡ 0 → IsMethod p types t more handlers r
bare_is p types t code more handlers r none domain coded count first is here zero = record {
  domain = domain;
  holds = subst (Has p types t more handlers r) (sym none) (record { coded = coded; count = count; there = omega arith });
  off = ap (λ (l : List Instr). slice_get l (r.first + r.count)) is
      ∙ ap (slice_get (code ++ instr.Off ∷ [])) (let n : r.first + r.count ≡ length code = omega arith in n) ∙ get_put code instr.Off;
}

-- one with code
pub coded_is : (p : Program) (types : List TypeRef) (t : Tables) (code more : List Instr) (handlers : List HandlerRow) (r : MethodRow) (body : CodeBody)
    → code_at p r.id ≡ Some body → r.domain ≡ domain_of p r.id → r.has_code ≡ true
    → r.count ≡ length body.ops → r.max_locals ≡ body.max_locals → AreLaid p types t r.id.class body.ops code r.first r.count
    → length code ≡ r.first + r.count → more ≡ code ++ instr.Off ∷ []
    → AreThere handlers r.handlers.first r.handlers.count → AreHandlers body.ops body.handlers (part handlers r.handlers.first r.handlers.count)
    → IsMethod p types t more handlers r
coded_is p types t code more handlers r body some domain coded count most laid len is there handles = record {
  domain = domain;
  holds = subst (Has p types t more handlers r) (sym some) (record {
    coded = coded;
    count = count;
    max_locals = most;
    laid = laid_grown p types t t r.id.class body.ops code more r.first r.count (grown_not t) (instr.Off ∷ [], is) laid;
    there = there;
    handles = handles;
  });
  off = ap (λ (l : List Instr). slice_get l (r.first + r.count)) is ∙ ap (slice_get (code ++ instr.Off ∷ [])) (sym len) ∙ get_put code instr.Off;
}
