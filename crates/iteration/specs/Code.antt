-- The code of n, row lengths and addresses, as an iteration reads it.
use Rattle.std.specs.Prelude.{List, ℕ, get_or}
use Rattle.ldpc_edges.specs.Code.{row_start, rows}
use Rattle.iteration.specs.Iteration.{Code}

-- edge e's variable, and where check c's edges begin
unfoldable pub code_of : ℕ → List ℕ → List ℕ → Code
code_of n lens addrs = record { rows = λ e. get_or (rows n lens addrs) e 0; row_start = λ c. get_or (row_start n lens addrs) c 0 }
