use Rattle.std.proofs.Common.{arith}
use Rattle.lane16.specs.ColumnLaws.{stored_copy}
use Rattle.lane16.proofs.store.Goals as goal

pub returns : goal.returns
returns c = stored_copy c.copy_from_slice.ensures.after (omega arith) (omega arith) (omega arith) (omega arith)
