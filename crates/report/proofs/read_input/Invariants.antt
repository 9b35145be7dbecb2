-- The loop's invariant: the buffer begins with the input's first bytes.
use Rattle.std.proofs.Common.{◌-◌, length}
use Rattle.report.proofs.Parts.{ReadInto}
use Rattle.report.proofs.read_input.Given as goal

abbrev pub invariant-loop-size : goal.invariant-loop-size
invariant-loop-size g l = ReadInto (g.R.Read.remaining l.initial.input) (g.R.Read.remaining l.input) l.buf l.size

abbrev pub decreases-loop-size : goal.decreases-loop-size
decreases-loop-size g l = length l.initial.buf - l.size
