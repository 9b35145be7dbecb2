use Rattle.std.proofs.Common.{◌≡◌, ◌*◌, ◌/◌, ◌++◌, arith, sym, ◌∙◌, length, take-append-drop, take_all, le_of_eq}
use Rattle.std.proofs.Math.Nat.{mul-div_cancel}
use Rattle.laws.specs.Lists.{concat_chunks}
use Rattle.std.specs.List.{concat}
use Rattle.vectors_case.proofs.part.Goals as goal

pub returns : goal.returns
returns g c =
    let n = g.row.N in
    let k = c.args.count in
    let size : c.in_ok-size.size ≡ k * n = omega (arith, c.in_ok-size.ensures) in
    let front = c.in_ok-front.front.now in
    let whole : length front ≡ k * n = omega (arith, c.in_ok-front.ensures.cases) in
    let count : length front / n ≡ k = rw whole (mul-div_cancel k (omega arith)) in
    let joined : concat c.as_chunks.result.0.now ≡ front = rw (c.as_chunks.ensures.front, count) (concat_chunks n k front ∙ take_all (k * n) front (le_of_eq whole)) in
    let parts : front ++ c.in_ok-front.rest.now ≡ c.args.input.now =
    rw (c.in_ok-front.ensures.cases.1, c.in_ok-front.ensures.cases.2) (take-append-drop c.in_ok-size.size c.args.input.now) in
    (c.as_chunks.ensures.front_len ∙ count, rw joined (sym parts), omega (arith, c.in_ok-front.ensures.cases))
