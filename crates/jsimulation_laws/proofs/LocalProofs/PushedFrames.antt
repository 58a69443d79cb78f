-- A frame that is pushed, on both sides, and the context with which it begins.
use Rattle.std.proofs.Common.{◌≡◌, ℕ, ◌+◌, ◌<◌, List, [], ◌∷◌, Option, Some, option_map, refl, ap, ◌∙◌, arith}
use Rattle.std.specs.Prelude.{slice_set}
use Rattle.jvalues.specs.declared.jops.value.Value.TheVariants.{Ctx}
use Rattle.jclass.specs.declared.class.CodeBody.{CodeBody}
use Rattle.jresolution.specs.declared.jprogram.member.MethodId.{MethodId}
use Rattle.jresolution.specs.jprogram.ProgramClasses.{Program}
use Rattle.jresolution.specs.juses.IndexedInstructions.{code_at}
use Rattle.jctx.specs.declared.item.Item.{Item}
use Rattle.jctx.specs.Contexts.{enter}
use Rattle.jsemantics.specs.jmachine.FrameOperations.{begun, domain_of, frame_of, locals_of, places_of}
use Rattle.jsimulation_laws.specs.between.BetweenMachines.{Noted, context_of, unmarked}
use Rattle.jsimulation_laws.specs.relation.ProgramRelation.{MovedCode, Moves}
use Rattle.jsimulation_laws.specs.relation.StateRelation.{Frame, NewestStands, Word, entries}
use Rattle.jsimulation_laws.proofs.LocalProofs.Locals as locals

-- ---- frames that are pushed

-- as a program pushes it that was written so
abbrev pub first_frame : Program → MethodId → List Word → CodeBody → Frame
first_frame p m values body = frame_of m (unmarked (domain_of p m)) values body

-- as the moved program pushes it: the context is the last of its arguments
abbrev pub there_frame : Program → MethodId → (local : ℕ) → List Item → List Word → Frame
there_frame p m local k values = record { method = m; place = 0; locals = locals_of (local + 1) (Ctx k ∷ values); operands = []; entry = unmarked (domain_of p m) }

-- behind the prologue
abbrev pub ready_frame : Program → MethodId → (local domain : ℕ) → List Item → List Word → Frame
ready_frame p m local domain k values = record {
  method = m;
  place = 4;
  locals = slice_set (locals_of (local + 1) (Ctx k ∷ values)) local (Some (Ctx (enter k domain)));
  operands = [];
  entry = unmarked (domain_of p m);
}

module _ (p q : Program) (moves : Moves p q) where
  pub pushed_stands : (inherited : Option (List Item)) (m : MethodId) (body : CodeBody) (is : code_at p m ≡ Some body) (code : MovedCode p q m body) (k : List Item)
      (values : List Word) (fs : List Frame) → places_of values ≡ code.slots → k ≡ context_of (entries fs) inherited
      → NewestStands p q inherited fs (first_frame p m values body) (ready_frame p m code.place.local code.place.domain k values)
  pushed_stands inherited m body is code k values fs fills at =
      let lt : places_of values < code.place.local = (let b = code.behind_slots in omega (arith, fills, b)) in
      let long = locals.new_long values k body.max_locals code.place.local code.behind lt in
      let short = locals.old_short values k body.max_locals code.place.local code.behind lt in
      let stand = locals.pushed_stand values k body.max_locals code.place.local code.behind lt in
      let xs = locals_of body.max_locals values in
      let ys = locals_of (code.place.local + 1) (Ctx k ∷ values) in
      let v = Ctx (enter k code.place.domain) in
      record {
        frame = record {
          body = body;
          is = is;
          code = code;
          method = refl;
          entry = refl;
          domain = refl;
          operands = refl;
          place = (let b = code.begins in omega (arith, b));
          short = short;
          long = locals.kept_long xs ys code.place.local v long;
          locals = locals.kept_stand xs ys code.place.local v stand short;
          context = locals.kept_at xs ys code.place.local v long
              ∙ ap (λ (c : List Item). Some (Ctx (enter c code.place.domain))) at
              ∙ ap (λ d. Some (Ctx (enter (context_of (entries fs) inherited) d))) code.domain;
        };
        bare = refl;
      }

  abbrev framed : MethodId → Noted → List (Option Word) → Frame
  framed m entry ys = record { method = m; place = 0; locals = ys; operands = []; entry = entry }

  pub begun_there : (m : MethodId) (body : CodeBody) (code : MovedCode p q m body) (k : List Item) (values : List Word)
      → begun q m (unmarked (domain_of q m)) (Ctx k ∷ values) ≡ Some (there_frame p m code.place.local k values)
  begun_there m body code k values =
      ap (λ o. option_map (frame_of m (unmarked (domain_of q m)) (Ctx k ∷ values)) o) code.is
      ∙ ap (λ n. Some (framed m (unmarked (domain_of q m)) (locals_of n (Ctx k ∷ values)))) code.most
      ∙ ap (λ d. Some (framed m (unmarked d) (locals_of (code.place.local + 1) (Ctx k ∷ values)))) (moves.domains m)
