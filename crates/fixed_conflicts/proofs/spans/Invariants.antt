-- `fixed_conflicts::spans` meets its contract. Assumes nothing.
use Rattle.std.proofs.Common.{◌≡◌, take, drop}
use Rattle.std.specs.Iterator.Adapters.{enumerate_source, enumerate_count}
use Rattle.ldpc_shape.specs.Shape.{total}
use Rattle.ldpc_rows.specs.Rows.{left}
use Rattle.fixed_conflicts.specs.Marks.{Begun}
use Rattle.fixed_conflicts.proofs.Rows.{all_rows}
use Rattle.fixed_conflicts.proofs.spans.Given as goal

abbrev pub invariant-loop-g : goal.invariant-loop-g
invariant-loop-g l =
    goal.iterator-loop-g.can_next l.g-iterator × goal.iterator-loop-g.is_finite l.g-iterator
    × (let g = enumerate_count l.g-iterator in (left (enumerate_source l.g-iterator) ≡ drop g (all_rows l.of.lens.now l.of.addrs.now))
    × Begun l.of.sizes.q l.of.lens.now l.of.addrs.now g (total (take g l.of.lens.now)) l.table)
