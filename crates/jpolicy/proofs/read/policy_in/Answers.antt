use Rattle.std.proofs.Common.{◌≡◌, length, ap, ◌∙◌, arith}
use Rattle.std.specs.Str.{encode_utf8_all}
use Rattle.std.proofs.lemmas.Str.{encodes-chars}
use Rattle.jpolicy.proofs.read.policy_in.Goals as goal

pub place_of-requires : goal.place_of-requires
place_of-requires c =
    let same : length (encode_utf8_all c.as_slice-in-Err-Fault.result.now) ≡ length c.args.text.now =
    ap length (ap encode_utf8_all (c.as_slice-in-Err-Fault.ensures.value ∙ c.in_ok-characters.ensures) ∙ encodes-chars c.args.text.now c.utf8.text) in
    omega arith
