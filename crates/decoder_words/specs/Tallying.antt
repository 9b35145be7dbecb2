-- The tally's sums, one word after the other.
use Rattle.std.specs.Prelude.{◌≡◌, refl, List, [], ◌∷◌, ℕ, zero, suc, ◌+◌, ◌*◌, ◌≤◌}
use Rattle.std.proofs.Common.{sym, ap, ◌∙◌, add-one, arith}
use Rattle.laws.specs.Choice.{by_cond}
use Rattle.schedule.specs.Status.{sum}
use Rattle.schedule.specs.Run.{counting, input_order}
use Rattle.outcome.specs.Outcome.{is_finished}
use Rattle.outcome.specs.Laws.{finished_of, one_of_three}
use Rattle.decoder_words.specs.Fields.{record_at}
use Rattle.decoder_words.specs.Tally.{given_in, kept_by, lost_by, doubtful_by, kept_in, lost_in, doubtful_in}
use Rattle.decoder_words.specs.declared.Noted.{Noted}

-- ---- one word more
sum_counting : (f : ℕ → ℕ) (a n : ℕ) → sum f (counting a (suc n)) ≡ sum f (counting a n) + f (a + n)
unfolding sum counting
sum_counting f a zero = let e : a ≡ a + 0 = omega arith in omega (arith, ap f e)
sum_counting f a (suc n) = let e : suc a + n ≡ a + suc n = omega arith in omega (arith, sum_counting f (suc a) n, ap f e)

sum_more : (f : ℕ → ℕ) (n : ℕ) → sum f (input_order (n + 1)) ≡ sum f (input_order n) + f n
unfolding input_order
sum_more f n = let e : 0 + n ≡ n = omega arith in omega (arith, ap (λ k. sum f (counting 0 k)) (add-one n), sum_counting f 0 n, ap f e)

sum_none : (f : ℕ → ℕ) → sum f (input_order 0) ≡ 0
unfolding sum input_order counting
sum_none f = refl

pub record Tallying (records : List ℕ) (k given kept lost doubtful : ℕ) : Type 0 where
  pub given_is : given ≡ given_in records k
  pub kept_is : kept ≡ kept_in records k
  pub lost_is : lost ≡ lost_in records k
  pub doubtful_is : doubtful ≡ doubtful_in records k
  pub given_le : given ≤ 65535 * k
  pub kept_le : kept ≤ k
  pub lost_le : lost ≤ k
  pub doubtful_le : doubtful ≤ k

pub tallying_start : (records : List ℕ) → Tallying records 0 0 0 0 0
unfolding given_in kept_in lost_in doubtful_in
tallying_start records =
    record {
      given_is = sym (sum_none (λ w. (record_at records w).iterations));
      kept_is = sym (sum_none (λ w. kept_by (record_at records w)));
      lost_is = sym (sum_none (λ w. lost_by (record_at records w)));
      doubtful_is = sym (sum_none (λ w. doubtful_by (record_at records w)));
      given_le = omega arith;
      kept_le = omega arith;
      lost_le = omega arith;
      doubtful_le = omega arith;
    }

one : (r : Noted) → kept_by r + doubtful_by r + lost_by r ≤ 1
one r = omega (arith, one_of_three r.state r.bch, by_cond (λ m. m ≤ 1) (is_finished r.state) 1 0 (λ _. omega arith) (λ _. omega arith))

pub kept_one : (r : Noted) → kept_by r ≤ 1
kept_one r = omega (arith, one r)

pub lost_one : (r : Noted) → lost_by r ≤ 1
lost_one r = omega (arith, one r)

pub doubtful_one : (r : Noted) → doubtful_by r ≤ 1
doubtful_one r = omega (arith, one r)

pub tallying_again : (records : List ℕ) (k given kept lost doubtful : ℕ) (r : Noted) (a b d : ℕ) → r ≡ record_at records k → a ≡ kept_by r → b ≡ lost_by r → d ≡ doubtful_by r
    → (record_at records k).iterations ≤ 65535 → Tallying records k given kept lost doubtful → Tallying records (k + 1) (given + r.iterations) (kept + a) (lost + b) (doubtful + d)
unfolding given_in kept_in lost_in doubtful_in
tallying_again records k given kept lost doubtful r a b d is ka kb kd few t =
    let i : r.iterations ≡ (record_at records k).iterations = ap (λ (x : Noted). x.iterations) is in
    let ka' : a ≡ kept_by (record_at records k) = ka ∙ ap kept_by is in
    let kb' : b ≡ lost_by (record_at records k) = kb ∙ ap lost_by is in
    let kd' : d ≡ doubtful_by (record_at records k) = kd ∙ ap doubtful_by is in
    record {
      given_is = omega (arith, t.given_is, i, sum_more (λ w. (record_at records w).iterations) k);
      kept_is = omega (arith, t.kept_is, ka', sum_more (λ w. kept_by (record_at records w)) k);
      lost_is = omega (arith, t.lost_is, kb', sum_more (λ w. lost_by (record_at records w)) k);
      doubtful_is = omega (arith, t.doubtful_is, kd', sum_more (λ w. doubtful_by (record_at records w)) k);
      given_le = omega (arith, t.given_le, i, few);
      kept_le = omega (arith, t.kept_le, ka', kept_one (record_at records k));
      lost_le = omega (arith, t.lost_le, kb', lost_one (record_at records k));
      doubtful_le = omega (arith, t.doubtful_le, kd', doubtful_one (record_at records k));
    }

-- ---- over any records, those kept, doubtful and lost are the finished ones
sum_of_three : (f g h s : ℕ → ℕ) → ((w : ℕ) → f w + g w + h w ≡ s w) → (ws : List ℕ) → sum f ws + sum g ws + sum h ws ≡ sum s ws
unfolding sum
sum_of_three f g h s e [] = refl
sum_of_three f g h s e (w ∷ ws) = omega (arith, e w, sum_of_three f g h s e ws)

pub three_in : (records : List ℕ) (words : ℕ)
    → kept_in records words + doubtful_in records words + lost_in records words ≡ sum (λ w. finished_of (record_at records w).state) (input_order words)
unfolding kept_in doubtful_in lost_in
three_in records words =
    sum_of_three (λ w. kept_by (record_at records w)) (λ w. doubtful_by (record_at records w)) (λ w. lost_by (record_at records w)) (λ w. finished_of (record_at records w).state)
    (λ w. one_of_three (record_at records w).state (record_at records w).bch) (input_order words)
