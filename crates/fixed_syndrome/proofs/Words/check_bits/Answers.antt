-- `fixed_syndrome::Words::check_bits` meets its contract. Assumes nothing.
use Rattle.fixed_syndrome.specs.Chunk.{check_bits}
use Rattle.fixed_syndrome.proofs.Words.check_bits.Goals as goal

pub returns : goal.returns
returns c =
    let check = c.of.ensures in
    check_bits (rw (check.rows, check.sizes.0, check.sizes.1) at c.of.result.in_rows) c.requires check.edges.0 check.edges.1
    (rw (check.rows, check.sizes.1) at c.sign_parity.ensures)
