-- What stands in front of a list.
use Rattle.std.proofs.Common.{◌≡◌, ◌∙◌, ◌≤◌, List, ◌++◌, length, take, sym, ap, arith}
use Rattle.std.proofs.lemmas.List.{length-append, take-take}
use Rattle.std.proofs.Math.Seq.{take-append_seam}

-- a front of a front
pub front_stays : {T : Type 0} (old now new more : List T) → now ≡ old ++ more → take (length now) new ≡ now → take (length old) new ≡ old
front_stays old now new more longer front =
    let within : length old ≤ length now = omega (arith, ap length longer, length-append old more) in
    sym (take-take (length old) (length now) new within)
    ∙ ap (take (length old)) (front ∙ longer)
    ∙ take-append_seam old more
