-- The records of the words that ran are the entry's with those of the first w words.
use Rattle.std.proofs.Common.{◌≡◌, take}
use Rattle.meter.specs.Metered.{records_from}
use Rattle.meter.proofs.run.Given as goal

abbrev pub invariant-loop-w : goal.invariant-loop-w
invariant-loop-w l = l.record-items ≡ records_from l.numbers 0 l.w (take l.ran.words l.fn.records)
