-- `bch::correct` meets its contract: the syndromes are the remainder's, the register is a shortest one, and the places are its roots.
-- Assumes nothing.
use Rattle.std.proofs.Common.{◌≡◌, ◌∙◌, None, arith, rules}
use Rattle.bch_table.specs.Step.{value_of}
use Rattle.bch.specs.DecodeLaws.{located_to}
use Rattle.bch.proofs.Locate.{of_remainder, too_long, all_found, some_missing}
use Rattle.bch.proofs.correct.Goals as goal

pub returns-in_err-register : goal.returns-in_err-register
returns-in_err-register c =
    let f : c.from_residual.result ≡ None = search rules in
    rw f (too_long c.args.word.now c.syndromes.result _ 13 (λ j h. c.syndromes.ensures.at j h ∙ of_remainder c.args.word.now (value_of c.args.r) j c.requires.2 h) c.in_err-register.ensures (omega arith))

pub returns-then-len-register : goal.returns-then-len-register
returns-then-len-register c =
    some_missing c.args.word.now c.syndromes.result c.in_ok-register.register.c c.in_ok-register.register.len
    (λ j h. c.syndromes.ensures.at j h ∙ of_remainder c.args.word.now (value_of c.args.r) j c.requires.2 h)
    c.in_ok-register.ensures.0 c.in_ok-register.ensures.1 c.chien-found.result.items c.chien-found.ensures (omega arith)

pub returns : goal.returns
returns c =
    located_to _ _ (rw c.as_slice.ensures.value at c.flip.ensures)
    (all_found c.args.word.now c.syndromes.result c.in_ok-register.register.c c.in_ok-register.register.len
    (λ j h. c.syndromes.ensures.at j h ∙ of_remainder c.args.word.now (value_of c.args.r) j c.requires.2 h)
    c.in_ok-register.ensures.0 c.in_ok-register.ensures.1 c.chien-found.result.items c.chien-found.ensures (omega arith))
