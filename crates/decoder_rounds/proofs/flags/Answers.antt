-- `decoder_rounds::flags` meets its contract: each call of the closure says whether its lane is held.
use Rattle.std.proofs.Common.{◌≡◌, ◌∙◌, rules, false, get_or, None, is_some}
use Rattle.decoder_assign.specs.Taken.{held_is}
use Rattle.decoder_rounds.proofs.flags.Goals as goal

pub returns : goal.returns
returns c =
    λ l h. let k = c.map.ensures.items.at l None false h in
    let r = k.2 in
    let is : get_or c.map.result l false ≡ is_some (get_or c.args.taken l None) = search rules in
    is ∙ held_is c.args.taken l
