-- The bits that the addresses join to a check.
use Rattle.std.specs.Prelude.{List, ℕ, ◌*◌}
use Rattle.ldpc_shape.specs.Shape.{rows_of}
use Rattle.ldpc_edges.specs.Code.{of_bits, of_rows, only}

-- check c's bits of a row whose first bit is `first`
unfoldable pub found : ℕ → ℕ → ℕ → List ℕ → List ℕ
found q c first row = only c (of_bits (374 * q) q 374 first 0 row)

-- those of all rows
unfoldable pub all_of : ℕ → ℕ → List ℕ → List ℕ → List ℕ
all_of q c lens addrs = only c (of_rows (374 * q) q 0 (rows_of lens addrs))
