-- `ldpc_encode::encode_of` meets its contract. Assumes nothing.
use Rattle.std.proofs.Common.{◌≤◌, ◌++◌, length, ap, ◌∙◌, arith}
use Rattle.ldpc_shape.proofs.Accepted.{table_bounded}
use Rattle.ldpc_edges.specs.Code.{encode}
use Rattle.ldpc_encode.proofs.Bytes.{rest_length, put_behind}
use Rattle.ldpc_encode.proofs.encode_of.Goals as goal

pub copy-requires : goal.copy-requires
copy-requires c = omega (arith, table_bounded c.args.of, c.requires.0, c.requires.1)

pub parity_of-requires : goal.parity_of-requires
parity_of-requires c =
    let b = table_bounded c.args.of in
    let fits : length c.args.info.now ≤ length c.args.out.now = omega (arith, b, c.requires.0, c.requires.1) in
    (c.requires.0, rest_length c.args.info.now c.args.out.now _ fits c.copy.ensures ∙ omega (arith, b, c.requires.0, c.requires.1))

pub returns : goal.returns
unfolding encode
returns c =
    let fits : length c.args.info.now ≤ length c.args.out.now = omega (arith, table_bounded c.args.of, c.requires.0, c.requires.1) in
    put_behind c.args.info.now c.args.out.now _ _ fits c.copy.ensures ∙ ap (λ z. c.args.info.now ++ z) c.parity_of.ensures
