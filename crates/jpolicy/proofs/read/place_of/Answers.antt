use Rattle.std.proofs.Common.{◌≡◌, ◌+◌, ◌≤◌, ◌<◌, length, take, ap, ◌∙◌, arith}
use Rattle.std.specs.Str.{encode_utf8_all}
use Rattle.jpolicy.proofs.CharacterOffsets.{bytes_more, bytes_in_front}
use Rattle.jpolicy.proofs.read.place_of.Goals as goal

pub overflow_add-bytes : goal.overflow_add-bytes
overflow_add-bytes c =
    let lt : c.loop-c.c-index < length c.split_at.result.0.now = omega arith in
    let more : c.loop-c.bytes + c.len_utf8-bytes.result ≡ length (encode_utf8_all (take (c.loop-c.c-index + 1) c.split_at.result.0.now)) =
    ap (λ n. c.loop-c.bytes + n) c.len_utf8-bytes.ensures.value ∙ bytes_more c.split_at.result.0.now c.loop-c.c-index c.c-item.result c.loop-c.bytes lt c.c-item.is c.loop-c.invariant in
    let within : length (encode_utf8_all (take (c.loop-c.c-index + 1) c.split_at.result.0.now)) ≤ length (encode_utf8_all c.args.text.now) =
    bytes_in_front c.args.text.now c.split_at.result.0.now c.saturating_sub.result (c.loop-c.c-index + 1) c.split_at.ensures.front in
    omega arith

pub loop-c-preserved : goal.loop-c-preserved
loop-c-preserved c =
    let lt : c.loop-c.c-index < length c.split_at.result.0.now = omega arith in
    ap (λ n. c.loop-c.bytes + n) c.len_utf8-bytes.ensures.value ∙ bytes_more c.split_at.result.0.now c.loop-c.c-index c.c-item.result c.loop-c.bytes lt c.c-item.is c.loop-c.invariant

pub returns-clause-within : goal.returns-clause-within
returns-clause-within c =
    let within : length (encode_utf8_all (take c.loop-c.c-index c.split_at.result.0.now)) ≤ length (encode_utf8_all c.args.text.now) =
    bytes_in_front c.args.text.now c.split_at.result.0.now c.saturating_sub.result c.loop-c.c-index c.split_at.ensures.front in
    omega arith
