use Rattle.std.proofs.Common.{◌≡◌, ◌*◌, ◌/◌, ◌<◌, [], length, take, drop, get_or, get_or-take, ap, ◌∙◌, rules, arith}
use Rattle.std.specs.Int.{from_le_bytes, w32}
use Rattle.vectors_case.specs.Format.{number}
use Rattle.vectors_case.proofs.Chunks.{get_or-first_chunks}
use Rattle.vectors_case.proofs.numbers.Goals as goal

pub returns : goal.returns
unfolding number
returns c = λ i h.
    let call = c.map.ensures.items.at i [] 0 h in
    let gave : get_or c.map.result i 0 ≡ from_le_bytes w32 (get_or c.unwrap-chunks.result.now i []) = search rules in
    let front : c.unwrap-chunks.result.now ≡ take 20 c.as_chunks.result.0.now = search rules in
    let within : i < length c.args.head.now / 4 = omega (arith, c.told-head) in
    let same : get_or c.unwrap-chunks.result.now i [] ≡ take 4 (drop (4 * i) c.args.head.now) =
    rw front (get_or-take 20 c.as_chunks.result.0.now i [] h ∙ rw c.as_chunks.ensures.front (get_or-first_chunks 4 (length c.args.head.now / 4) i c.args.head.now within)) in
    gave ∙ ap (λ b. from_le_bytes w32 b) same
