-- The hard decisions of a word, as a list.
use Rattle.std.specs.Prelude.{◌≡◌, refl, List, [], ◌∷◌, ◌++◌, ℕ, zero, suc, ◌+◌, ◌-◌, ◌≤◌, ◌<◌, get_or, set, length, drop, ℤ}
use Rattle.std.proofs.Common.{sym, ap, ◌∙◌, arith, length-append, length-drop, get_or-append-add, get_or-drop, ext_get_or}
use Rattle.std.proofs.Math.Decide.{dec_lt}
use Rattle.std.proofs.Math.ListN.{get_or-append}
use Rattle.laws.specs.Stores.{grown, kept}
use Rattle.iteration.specs.Iteration.{hard}

-- those of d variables from u on: 1 where L < 0
unfoldable pub decisions : (ℕ → ℤ) → ℕ → ℕ → List ℕ
decisions L u zero = []
decisions L u (suc d) = hard (L u) ∷ decisions L (suc u) d

decisions_length : (L : ℕ → ℤ) (u d : ℕ) → length (decisions L u d) ≡ d
unfolding decisions
decisions_length L u zero = refl
decisions_length L u (suc d) = ap suc (decisions_length L (suc u) d)

decisions_at : (L : ℕ → ℤ) (u d k : ℕ) → k < d → get_or (decisions L u d) k 0 ≡ hard (L (u + k))
unfolding decisions
decisions_at L u zero k h = absurd (omega arith)
decisions_at L u (suc d) zero h = let e : u ≡ u + 0 = omega arith in ap (λ (j : ℕ). hard (L j)) e
decisions_at L u (suc d) (suc k) h =
    let e : suc u + k ≡ u + suc k = omega arith in
    decisions_at L (suc u) d k (omega arith) ∙ ap (λ (j : ℕ). hard (L j)) e

-- ---- after k of them
pub record Deciding (L : ℕ → ℤ) (old : List ℕ) (k : ℕ) (new : List ℕ) : Type 0 where
  pub long : length new ≡ length old
  pub bits : (u : ℕ) → u < k → get_or new u 0 ≡ hard (L u)
  pub rest : (u : ℕ) → k ≤ u → get_or new u 0 ≡ get_or old u 0

pub deciding_again : {L : ℕ → ℤ} {old new new' : List ℕ} {k y : ℕ} → Deciding L old k new → k < length old → y ≡ hard (L k) → length new' ≡ length new → new' ≡ set new k y
    → Deciding L old (k + 1) new'
deciding_again {L} {old} {new} {new'} {k} {y} d h e len is =
    record {
      long = len ∙ d.long;
      bits = λ u q. at u ∙ grown 0 (λ u x. x ≡ hard (L u)) new k y (omega (arith, d.long)) d.bits e u q;
      rest = λ u q. at u ∙ kept 0 new old k y d.rest u q;
    }
  where
    at : (u : ℕ) → get_or new' u 0 ≡ get_or (set new k y) u 0
    at u = ap (λ (l : List ℕ). get_or l u 0) is

pub deciding_end : {L : ℕ → ℤ} {old new : List ℕ} {k n : ℕ} → k ≡ n → n ≤ length old → Deciding L old k new → new ≡ decisions L 0 n ++ drop n old
deciding_end {L} {old} {new} {k} {n} e h d =
    ext_get_or 0 new (decisions L 0 n ++ drop n old)
    (omega (arith, d.long, length-append (decisions L 0 n) (drop n old), decisions_length L 0 n, length-drop n old))
    (λ u q. go u (dec_lt u n))
  where
    go : (u : ℕ) → Dec (u < n) → get_or new u 0 ≡ get_or (decisions L 0 n ++ drop n old) u 0
    go u (yes q) =
        let z : 0 + u ≡ u = omega arith in
        d.bits u (omega arith)
        ∙ sym (get_or-append (decisions L 0 n) (drop n old) 0 u (omega (arith, decisions_length L 0 n)) ∙ decisions_at L 0 n u q ∙ ap (λ (j : ℕ). hard (L j)) z)
    go u (no q) =
        let z : length (decisions L 0 n) + (u - n) ≡ u = omega (arith, decisions_length L 0 n) in
        let y : n + (u - n) ≡ u = omega arith in
        d.rest u (omega arith)
        ∙ sym (ap (λ (j : ℕ). get_or (decisions L 0 n ++ drop n old) j 0) (sym z)
        ∙ get_or-append-add (decisions L 0 n) (drop n old) (u - n) 0
        ∙ get_or-drop n old (u - n) 0
        ∙ ap (λ (j : ℕ). get_or old j 0) y)

pub deciding_start : (L : ℕ → ℤ) (old : List ℕ) → Deciding L old 0 old
deciding_start L old = record { long = refl; bits = λ u q. absurd (omega (arith, q)); rest = λ u q. refl }
