-- Lines that were written, and lines that were cut.
use Rattle.std.proofs.Common.{◌≡◌, ◌≤◌, ℕ, ◌++◌, List, Option, Result, Ok, Err, ap, arith}
use Rattle.std.proofs.lemmas.Result.{on_err_weaker, on_ok_weaker}
use Rattle.jground.specs.jbase.FaultCauses.{HasCause, IsCut, appended}
use Rattle.jground.proofs.JbaseProofs.Cuts.{cut_at, cut_then, then_whole}
use Rattle.joutput.specs.jio.PartialOutput.{IsCutAt}
use Rattle.joutput.specs.declared.jtrace.fault.RunFault.{RunFault}
use Rattle.joutput.specs.declared.jtrace.fault.RunFault.TheVariants.{Sink}
use Rattle.jshow.specs.declared.status.Status.TheVariants.{WriteFault}
use Rattle.jshow.specs.CommandAnswers.{Answer, Puts, Shows}

pub cut_line : (old new : Option (List ℕ)) (bytes : List ℕ) (written : ℕ) → IsCutAt old new bytes written → IsCut old new bytes
cut_line old new bytes written h = cut_at old new bytes written h.out

module _ {S : Type 0} (out : S → Option (List ℕ)) (faults : S → ℕ) where
  -- a text that went out
  pub wrote_all : {T : Type 0} (old new : S) (text : List ℕ) (value : T) → out new ≡ appended (out old) text → faults old ≤ faults new → Puts {T = T} text (Ok value) out faults old new
  wrote_all old new text value h later = record { ok = h; err = tt; later = later; cause = λ is. cc }

  -- a text that a fault of the sink cut
  pub wrote_cut : {T U E : Type 0} (old new : S) (text : List ℕ) (written : ℕ) (e : E) (fault : RunFault) → IsCutAt (out old) (out new) text written → HasCause {T = U} (faults old) (faults new) (Err e) → Puts {T = T} text (Err fault) out faults old new
  wrote_cut old new text written e fault cut caused = record {
    ok = tt;
    err = cut_line (out old) (out new) text written cut;
    later = caused.later;
    cause = λ is. caused.failed;
  }

  -- a call behind others failed, and a front of all was written
  pub wrote_front : {T U : Type 0} (old mid new : S) (text more : List ℕ) (fault : RunFault) → faults old ≤ faults mid → IsCut (out old) (out new) text → Puts {T = U} more (Err fault) out faults mid new → Puts {T = T} text (Err fault) out faults old new
  wrote_front old mid new text more fault later cut failed = record {
    ok = tt;
    err = cut;
    later = omega (arith, later, failed.later);
    cause = λ is. let same : fault ≡ Sink = cc in omega (arith, later, failed.cause (ap (λ (f : RunFault). Err f) same));
  }

  -- a text, and behind it what a call wrote
  pub wrote_both : {T U : Type 0} (old mid new : S) (a b : List ℕ) (value : U) (result : Result T RunFault) → Puts {T = U} a (Ok value) out faults old mid → Puts b result out faults mid new → Puts (a ++ b) result out faults old new
  wrote_both old mid new a b value result first second = record {
    ok = on_ok_weaker result (λ h. then_whole (out old) (out mid) (out new) a b first.ok h) second.ok;
    err = on_err_weaker result (λ h. cut_then (out old) (out mid) (out new) a b first.ok h) second.err;
    later = omega (arith, first.later, second.later);
    cause = λ is. omega (arith, first.later, second.cause is);
  }

  -- an answer whose text a fault of the sink cut
  pub showed_cut : {U E : Type 0} (old new : S) (a : Answer) (written : ℕ) (e : E) → IsCutAt (out old) (out new) a.text written → HasCause {T = U} (faults old) (faults new) (Err e) → Shows a WriteFault out faults old new
  showed_cut old new a written e cut caused = record {
    answer = cut_line (out old) (out new) a.text written cut;
    later = caused.later;
    cause = λ is. caused.failed;
    read = λ is. cc;
    usage = λ is. cc;
    store = λ is. cc;
  }
