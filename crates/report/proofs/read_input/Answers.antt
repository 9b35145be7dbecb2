use Rattle.std.proofs.Common.{◌∙◌, ◌-◌, ◌≤◌, length, drop, length-drop, length-take-le, arith}
use Rattle.report.proofs.Parts.{read_more}
use Rattle.report.proofs.read_input.Goals as goal

pub loop-size-preserved : goal.loop-size-preserved
loop-size-preserved g c =
    let end : c.part_end-end.result ≤ length c.loop-size.buf = omega (arith, c.part_end-end.ensures, c.loop-size.auto.buf) in
    read_more c.read.new.buf c.loop-size.invariant c.part_end-end.ensures.0 end
    (c.read.auto.buf ∙ length-take-le (c.part_end-end.result - c.loop-size.size) (drop c.loop-size.size c.loop-size.buf) (omega (arith, length-drop c.loop-size.size c.loop-size.buf, end)))
    c.in_ok-more.ensures.bound.0
    c.in_ok-more.ensures.bytes.0
