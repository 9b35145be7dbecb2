use Rattle.std.proofs.Common.{refl, ℕ, ℤ, pos}
use Rattle.std.proofs.lemmas.List.{length-replicate}
use Rattle.report_text.specs.Room.{run_on}
use Rattle.report_text.proofs.run.Goals as goal

pub returns : goal.returns
returns c = run_on c.lengths.ensures c.addresses.ensures refl c.core.ensures c.requires.2 (length-replicate {A = ℕ} 17952 0) (length-replicate {A = ℤ} 49356 (pos 0)) (length-replicate {A = ℕ} 4114 0)
