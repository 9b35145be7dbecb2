use Rattle.std.proofs.Common.{◌≡◌, sym, ◌∙◌, ap, arith, ℕ, pos, nat_abs, get_or, drop, ◌+◌, ◌*◌, ◌<◌, ◌≤◌, ◌+ℤ◌, le_of_eq}
use Rattle.std.proofs.lemmas.List.{get_or-take, get_or-drop, get_or-replicate}
use Rattle.combine.specs.Combined.{words_of, sum_at}
use Rattle.combine.specs.CombinedLaws.{sum_more}
use Rattle.combine.proofs.Summands.sums.Goals as goal

pub loop-word-init : goal.loop-word-init
unfolding sum_at
loop-word-init c = (λ j h. get_or-replicate 16 j (pos 0) (pos 0) h, λ j h. le_of_eq (ap nat_abs (get_or-replicate 16 j (pos 0) (pos 0) h)))

pub loop-word-preserved : goal.loop-word-preserved
loop-word-preserved c = (sums, sizes)
  where
    base : ℕ
    base = c.loop-word.word * c.args.self.n + c.args.at

    loaded : (j : ℕ) → j < 16 → get_or c.unwrap.result.now j (pos 0) ≡ get_or c.args.self.soft.now (c.loop-word.word * c.args.self.n + (c.args.at + j)) (pos 0)
    loaded j h =
        let first = rw c.unwrap.ensures at c.first_chunk.ensures.cases in
        let e : base + j ≡ c.loop-word.word * c.args.self.n + (c.args.at + j) = omega arith in
        ap (λ l. get_or l j (pos 0)) first.same
        ∙ get_or-take _ _ j (pos 0) h
        ∙ get_or-take _ (drop base c.args.self.soft.now) j (pos 0) (omega arith)
        ∙ get_or-drop base c.args.self.soft.now j (pos 0)
        ∙ ap (λ (z : ℕ). get_or c.args.self.soft.now z (pos 0)) e

    sums : (j : ℕ) → j < 16 → get_or c.added-next.result j (pos 0) ≡ sum_at (words_of c.args.self.n (c.loop-word.word + 1) c.args.self.soft.now) (c.args.at + j)
    sums j h =
        c.added-next.ensures.sums j h ∙ (λ t. c.loop-word.invariant.0 j h t +ℤ loaded j h t)
        ∙ sym (sum_more c.args.self.n c.loop-word.word (c.args.at + j) c.args.self.soft.now (omega (arith, c.requires)))

    sizes : (j : ℕ) → j < 16 → nat_abs (get_or c.added-next.result j (pos 0)) ≤ (c.loop-word.word + 1) * 128
    sizes j h = let more = c.added-next.ensures.sizes j h in let was = c.loop-word.invariant.1 j h in omega arith
