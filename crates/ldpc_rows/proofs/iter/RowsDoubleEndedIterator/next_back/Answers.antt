use Rattle.std.proofs.Common.{rules, arith, ap, length, length-append}
use Rattle.ldpc_rows.proofs.Turns.{no_rows, last_row, last_total}
use Rattle.ldpc_rows.proofs.iter.RowsDoubleEndedIterator.next_back.Goals as goal

pub returns-in_err-len-clause-steps : goal.returns-in_err-len-clause-steps
returns-in_err-len-clause-steps c =
    let e = no_rows c.args.self.now.first c.args.self.now.lens.now c.args.self.now.addrs.now c.in_err-len.ensures.cases in
    rw c.from_residual.ensures (e, e)

pub overflow_sub-addrs : goal.overflow_sub-addrs
overflow_sub-addrs c = omega (arith, last_total _ _ _ c.in_ok-len.ensures.cases.0, c.args.self.now.whole)

pub invariant_of-self : goal.invariant_of-self
invariant_of-self c = record {
  within = omega (arith, c.in_ok-len.ensures.cases.1, c.args.self.now.within);
  whole = omega (arith, last_total _ _ _ c.in_ok-len.ensures.cases.0, c.args.self.now.whole, c.split_at.ensures.front_len);
}

pub returns-clause-steps : goal.returns-clause-steps
returns-clause-steps c = last_row c.args.self.now.first _ _ _ c.args.self.now.addrs.now _ _ c.in_ok-len.ensures.cases.0 c.args.self.now.whole c.split_at.ensures.front c.split_at.ensures.back

pub returns-clause-goes : goal.returns-clause-goes
returns-clause-goes c =
    let e = ap length (last_row c.args.self.now.first _ _ _ c.args.self.now.addrs.now _ _ c.in_ok-len.ensures.cases.0 c.args.self.now.whole c.split_at.ensures.front c.split_at.ensures.back) in
    record { on = λ h. (search rules, search rules, omega (arith, simp length-append at e)); keeps = search rules; rests = λ h. search rules }
