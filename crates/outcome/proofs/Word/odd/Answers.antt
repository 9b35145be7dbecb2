-- `outcome::Word::odd` meets its contract. Assumes nothing.
use Rattle.std.proofs.Common.{◌≡◌, ◌+◌, ap, ◌∙◌, get_or}
use Rattle.outcome.specs.Soft.{odd_is}
use Rattle.outcome.proofs.Word.odd.Goals as goal

pub returns : goal.returns
returns c =
    let code = c.args.self.code in
    let ends : (c.start-s.result + c.degree-d.result ≡ get_or code.lists.now (c.args.c + 1) 0) = ap (λ z. z + c.degree-d.result) c.start-s.ensures ∙ c.degree-d.ensures in
    odd_is code.p code.n c.args.c c.start-s.result c.degree-d.result code.lists.now code.rows.now code.second c.requires c.start-s.ensures ends code.right c.args.self.soft.now
    c.negative.result c.negative.ensures
