use Rattle.std.proofs.Common.{◌≡◌, Some, sym, ap, subst, ◌∙◌}
use Rattle.std.specs.Prelude.{option_map}
use Rattle.jresolution.specs.declared.jprogram.member.Member.{Member}
use Rattle.jresolution.specs.juses.IndexedInstructions.{Used}
use Rattle.jresolution.specs.declared.juses.meaning.InvokeKind.{InvokeKind}
use Rattle.jresolution.specs.juses.InstructionMeanings as meanings
use Rattle.jresolution.specs.juses.InstructionMeanings.{Call, CallMeaning, call_named}
use Rattle.jresolution.specs.juses.PoolTables.{pool_at}
use Rattle.jready.specs.InlineOperands.{Exact}
use Rattle.jready.specs.DecodedInstructions.{call_form, meant}
use Rattle.jready.specs.MeaningParts.{only_call}
use Rattle.jready.specs.ResolvedMembers.{IsMethod}
use Rattle.jready.proofs.EntryMeanings.{call_back}
use Rattle.jready.proofs.CallEntries.{form_means, is_called, nothing_called}
use Rattle.jready.proofs.InstructionContents.{exact_library, exact_never, exact_user}
use Rattle.jready.proofs.pooled.call_of.Goals as goal

pub returns-in_default-clause-means : goal.returns-in_default-clause-means
unfolding meant
returns-in_default-clause-means c t = nothing_called c.args.known.now.p.now
    (pool_at c.args.known.now.p.now c.args.class) c.args.form c.args.pool c.requires.calls c.in_default.ensures

pub returns-in-LibMethod-clause-means : goal.returns-in-LibMethod-clause-means
unfolding meant
returns-in-LibMethod-clause-means c t =
    let p = c.args.known.now.p.now in
    ap (option_map Used) (form_means p (pool_at p c.args.class) c.args.form c.args.pool c.in-Some.how _ c.requires.calls c.in-Some.ensures)

pub returns-in-LibMethod-clause-exact : goal.returns-in-LibMethod-clause-exact
returns-in-LibMethod-clause-exact c t =
    let p = c.args.known.now.p.now in
    let pool = pool_at p c.args.class in
    let types = c.args.known.now.uses.now.types in
    let how = c.in-Some.how in
    let o = meanings.meant p pool (call_form how c.args.pool) in
    let named = call_named p types c.in-Some.call in
    let same = form_means p pool c.args.form c.args.pool how _ c.requires.calls c.in-Some.ensures in
    let is = c.in-Some.ensures ∙ ap only_call (sym same) in
    let e = call_back o how named is in
    let calls = (exact_library p types o how c.in-Some.call c.in-LibMethod.one is c.in-LibMethod.is how named e).1 in
    record { call = named; means = e; calls = calls }

pub returns-in-Method-clause-means : goal.returns-in-Method-clause-means
unfolding meant
returns-in-Method-clause-means c t =
    let p = c.args.known.now.p.now in
    ap (meant p t c.args.class) c.call_to.ensures ∙ ap (option_map Used)
    (form_means p (pool_at p c.args.class) c.args.form c.args.pool c.in-Some.how _ c.requires.calls c.in-Some.ensures)

pub returns-in-Method-clause-exact : goal.returns-in-Method-clause-exact
returns-in-Method-clause-exact c t =
    let p = c.args.known.now.p.now in
    let pool = pool_at p c.args.class in
    let types = c.args.known.now.uses.now.types in
    let how = c.in-Some.how in
    let o = meanings.meant p pool (call_form how c.args.pool) in
    let named = call_named p types c.in-Some.call in
    let same = form_means p pool c.args.form c.args.pool how _ c.requires.calls c.in-Some.ensures in
    let is = c.in-Some.ensures ∙ ap only_call (sym same) in
    let e = call_back o how named is in
    let called = λ (w : InvokeKind) (d : CallMeaning) (e : o ≡ Some (Call w d)). is_called p pool c.args.form c.args.pool w d c.requires.calls (sym same ∙ e) in
    let number = c.number_at-number in
    let calls = (exact_user p types o how c.in-Some.call c.in-Method.id number.result is called c.in-Method.is number.ensures how named e).1 in
    subst (Exact p types t c.args.class) (sym c.call_to.ensures) (record { call = named; means = e; calls = calls })

pub returns-in-Field-clause-means : goal.returns-in-Field-clause-means
unfolding meant
returns-in-Field-clause-means c t =
    let p = c.args.known.now.p.now in
    ap (meant p t c.args.class) c.call_to-in-Field.ensures ∙ ap (option_map Used)
    (form_means p (pool_at p c.args.class) c.args.form c.args.pool c.in-Some.how _ c.requires.calls c.in-Some.ensures)

pub returns-in-Field-clause-exact : goal.returns-in-Field-clause-exact
returns-in-Field-clause-exact c t =
    let p = c.args.known.now.p.now in
    let pool = pool_at p c.args.class in
    let types = c.args.known.now.uses.now.types in
    let how = c.in-Some.how in
    let o = meanings.meant p pool (call_form how c.args.pool) in
    let named = call_named p types c.in-Some.call in
    let same = form_means p pool c.args.form c.args.pool how _ c.requires.calls c.in-Some.ensures in
    let is = c.in-Some.ensures ∙ ap only_call (sym same) in
    let e = call_back o how named is in
    let called = λ (w : InvokeKind) (d : CallMeaning) (e : o ≡ Some (Call w d)). is_called p pool c.args.form c.args.pool w d c.requires.calls (sym same ∙ e) in
    absurd (exact_never p types o how c.in-Some.call is called (λ desc h. subst (λ (m : Member). IsMethod p m desc) c.in-Field.is h) how named e)

pub returns-in-LibField-clause-means : goal.returns-in-LibField-clause-means
unfolding meant
returns-in-LibField-clause-means c t =
    let p = c.args.known.now.p.now in
    ap (meant p t c.args.class) c.call_to-in-LibField.ensures
    ∙ ap (option_map Used) (form_means p (pool_at p c.args.class) c.args.form c.args.pool c.in-Some.how _ c.requires.calls c.in-Some.ensures)

pub returns-in-LibField-clause-exact : goal.returns-in-LibField-clause-exact
returns-in-LibField-clause-exact c t =
    let p = c.args.known.now.p.now in
    let pool = pool_at p c.args.class in
    let types = c.args.known.now.uses.now.types in
    let how = c.in-Some.how in
    let o = meanings.meant p pool (call_form how c.args.pool) in
    let named = call_named p types c.in-Some.call in
    let same = form_means p pool c.args.form c.args.pool how _ c.requires.calls c.in-Some.ensures in
    let is = c.in-Some.ensures ∙ ap only_call (sym same) in
    let e = call_back o how named is in
    let called = λ (w : InvokeKind) (d : CallMeaning) (e : o ≡ Some (Call w d)). is_called p pool c.args.form c.args.pool w d c.requires.calls (sym same ∙ e) in
    absurd (exact_never p types o how c.in-Some.call is called (λ desc h. subst (λ (m : Member). IsMethod p m desc) c.in-LibField.is h) how named e)
