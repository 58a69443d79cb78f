-- What the call of an action comes to, and what raises an exception in place of it.
use Rattle.std.proofs.Common.{◌≡◌, ◌∙◌, ◌+◌, ℕ, true, false, List, ◌∷◌, ◌++◌, length, drop, take, Option, Some, None, refl, sym, subst}
use Rattle.std.specs.Prelude.{option_map, option_to_list}
use Rattle.std.proofs.Math.Dec.{leb-zero}
use Rattle.jvalues.specs.declared.jops.value.Value.{Value}
use Rattle.jvalues.specs.declared.jops.value.Value.TheVariants.{Ref, Ctx}
use Rattle.jclass.specs.declared.class.CodeBody.{CodeBody}
use Rattle.jresolution.specs.juses.IndexedInstructions.{code_at}
use Rattle.jsemantics.specs.jmachine.FrameOperations.{carrying, domain_of, with_operands}
use Rattle.jsemantics.specs.jmachine.MachineSteps.{acted, applied}
use Rattle.jruntime.specs.jstate.FrameLists.{Framed, holding, pushed, starting, with_newest}
use Rattle.jrows.proofs.JactsProofs.Costs.{unpaid}
use Rattle.jrows.specs.declared.jcalls.calls.Callee.{Callee}
use Rattle.jlibcalls.specs.declared.jcontexts.acting.Acted.TheVariants as ways
use Rattle.jlibcalls.specs.jcontexts.ActionCalls.{ActsStanding, CallsAction, RaisesSteps, handed_on}
use Rattle.jrows.proofs.JcallsProofs.MethodEntry.{begun_some, begun_none}

-- ---- a method's frame

-- ---- the call of an action

module _ {E : Type 0} (c : Callee E) (n : ℕ) (caller : E) (ctx : Option ℕ) (count : ℕ) (f : Framed E) where
  -- the frame that calls
  abbrev calling : Framed E
  calling = with_newest (carrying caller (with_operands f.newest (drop count f.newest.operands))) f

  abbrev pub entered : Framed E
  entered = pushed (starting c.method c.most (handed_on ctx n) c.mark) calling

  abbrev Prepared : Framed E → Type 0
  Prepared u = u ≡ with_newest (carrying caller (with_operands f.newest (Ref n ∷ drop count f.newest.operands))) f

  -- the context, if there is one
  abbrev contexts : List (Value ℕ)
  contexts = option_to_list (option_map Ctx ctx)

  -- what a call left
  frames_are : (u w g : Framed E) (handed : ℕ) → Prepared u → w ≡ holding (contexts ++ u.newest.operands) u → handed ≡ length contexts
      → g ≡ pushed (starting c.method c.most (take (handed + 1) w.newest.operands) c.mark) (holding (drop (handed + 1) w.newest.operands) w) → g ≡ entered
  frames_are u w g handed first second few last = rw (last, second, first, few) (by_context ctx)
    where
      by_context : (ctx : Option ℕ) → let hs : List (Value ℕ) = option_to_list (option_map Ctx ctx) in
          let operands : List (Value ℕ) = hs ++ Ref n ∷ drop count f.newest.operands in
          pushed (starting c.method c.most (take (length hs + 1) operands) c.mark)
          (with_newest (carrying caller (with_operands f.newest (drop (length hs + 1) operands))) f)
          ≡ pushed (starting c.method c.most (handed_on ctx n) c.mark) calling
      by_context None = refl
      by_context (Some k) = refl

  pushes_so : c.has_code ≡ true → CallsAction c n caller ctx count f ways.Begun entered
  unfolding applied acted
  pushes_so has r p plan s row is does =
      let code : option_map (λ (body : CodeBody). body.max_locals) (code_at p c.method) ≡ Some c.most = is.code ∙ rw has refl in
      rw (
        does,
        leb-zero s.store.left,
        begun_some c.method (r.entry_of (domain_of p c.method)) (handed_on ctx n) c.most (code_at p c.method) code,
        ← is.mark,
        ← unpaid s.store,
      ) refl

  pub begun_so : (u w g : Framed E) (handed : ℕ) → c.has_code ≡ true → Prepared u → w ≡ holding (contexts ++ u.newest.operands) u → handed ≡ length contexts
      → g ≡ pushed (starting c.method c.most (take (handed + 1) w.newest.operands) c.mark) (holding (drop (handed + 1) w.newest.operands) w)
      → CallsAction c n caller ctx count f ways.Begun g
  begun_so u w g handed has first second few last =
      subst (λ v. CallsAction c n caller ctx count f ways.Begun v) (sym (frames_are u w g handed first second few last)) (pushes_so has)

  pub without_code : (g : Framed E) → c.has_code ≡ false → CallsAction c n caller ctx count f ways.Stuck g
  unfolding applied acted
  without_code g has r p plan s row is does =
      let code : option_map (λ (body : CodeBody). body.max_locals) (code_at p c.method) ≡ None = is.code ∙ rw has refl in
      rw (does, leb-zero s.store.left, begun_none c.method (r.entry_of (domain_of p c.method)) (handed_on ctx n) (code_at p c.method) code) refl

  pub begun_stands : (u w g : Framed E) (handed : ℕ) → Prepared u → w ≡ holding (contexts ++ u.newest.operands) u → handed ≡ length contexts
      → g ≡ pushed (starting c.method c.most (take (handed + 1) w.newest.operands) c.mark) (holding (drop (handed + 1) w.newest.operands) w)
      → ActsStanding c f ways.Begun g
  begun_stands u w g handed first second few last =
      subst (λ v. ActsStanding c f ways.Begun v) (sym (frames_are u w g handed first second few last))
      (λ classes within s. (within, (record { class = s.0.class; place = s.0.place }, s.1)))

-- ---- exceptions

pub raises_steps : {E : Type 0} → RaisesSteps E
unfolding applied acted
raises_steps r p plan s f count class row is = rw is refl
