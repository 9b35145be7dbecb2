-- Which shortest register is taken makes no difference to an answer, nor to the bytes that it leaves; and there is one.
use Rattle.std.specs.Prelude.{◌≡◌, List, ℕ, ◌≤◌, length, Option, Some, None}
use Rattle.std.proofs.Common.{sym, ap₂, ◌∙◌, subst, arith}
use Rattle.std.proofs.Math.Logic.{ite, if_pos, if_neg}
use Rattle.std.proofs.Math.Decide.{ℕ_discrete, dec_le}
use Rattle.algebra.specs.Register.{Shortest}
use Rattle.algebra.specs.Unique.{same_length}
use Rattle.algebra.proofs.OnlyRegister.{only_register}
use Rattle.algebra.specs.Gf.{El}
use Rattle.gf16.specs.Field16.{gf16, R16}
use Rattle.bch.specs.Decode.{syndrome, flipped, flips, answer_by, left_by, Located, register}

-- what is done with a register of length at most 12, and else not, is the same by any two shortest registers
same_by : {X : Type 0} (f : (ℕ → El 15) → ℕ → X) (o : X) (w : List ℕ) (c : ℕ → El 15) (l : ℕ) (c' : ℕ → El 15) (l' : ℕ)
    → Shortest R16 (syndrome w) 24 c l → Shortest R16 (syndrome w) 24 c' l' → ite (dec_le l 12) (f c l) o ≡ ite (dec_le l' 12) (f c' l') o
same_by {X} f o w c l c' l' S S' = pick (dec_le l' 12)
  where
    same : l ≡ l'
    same = same_length gf16 (syndrome w) 24 c l S c' l' S'

    pick : Dec (l' ≤ 12) → ite (dec_le l 12) (f c l) o ≡ ite (dec_le l' 12) (f c' l') o
    pick (yes h) =
        let e = only_register gf16 (syndrome w) 24 c l c' l' S S' (omega (arith, same)) in
        if_pos (dec_le l 12) (omega (arith, same)) (f c l) o ∙ ap₂ f e.1 e.0 ∙ sym (if_pos (dec_le l' 12) h (f c' l') o)
    pick (no h) = if_neg (dec_le l 12) (λ g. h (subst (λ (z : ℕ). z ≤ 12) same g)) (f c l) o ∙ sym (if_neg (dec_le l' 12) h (f c' l') o)

module _ (w : List ℕ) (c : ℕ → El 15) (l : ℕ) (c' : ℕ → El 15) (l' : ℕ) (S : Shortest R16 (syndrome w) 24 c l) (S' : Shortest R16 (syndrome w) 24 c' l') where
  same_answer : answer_by c l w ≡ answer_by c' l' w
  unfolding answer_by
  same_answer = same_by (λ c l. ite (ℕ_discrete (flips c l (length w)) l) (Some l) None) None w c l c' l' S S'

  same_left : left_by c l w ≡ left_by c' l' w
  unfolding left_by
  same_left = same_by (λ c l. ite (ℕ_discrete (flips c l (length w)) l) (flipped c l w) w) w w c l c' l' S S'

pub any_answer : (w : List ℕ) (c : ℕ → El 15) (l : ℕ) → Shortest R16 (syndrome w) 24 c l → answer_by (register w).0 (register w).1 w ≡ answer_by c l w
any_answer w c l S = same_answer w (register w).0 (register w).1 c l (register w).2 S

pub any_left : (w : List ℕ) (c : ℕ → El 15) (l : ℕ) → Shortest R16 (syndrome w) 24 c l → left_by (register w).0 (register w).1 w ≡ left_by c l w
any_left w c l S = same_left w (register w).0 (register w).1 c l (register w).2 S

-- what one shortest register gives, every one does
pub located_by : (w w' : List ℕ) (r : Option ℕ) (c : ℕ → El 15) (l : ℕ) → Shortest R16 (syndrome w) 24 c l → r ≡ answer_by c l w → w' ≡ left_by c l w → Located w w' r
located_by w w' r c l S e f =
    record { answer = λ c' l' S'. e ∙ same_answer w c l c' l' S S'; word = λ c' l' S'. f ∙ same_left w c l c' l' S S' }

-- and there is one: no other answer and no other bytes are so
pub located_only : (w w' v : List ℕ) (r s : Option ℕ) → Located w w' r → Located w v s → (r ≡ s) × (w' ≡ v)
located_only w w' v r s L M =
    let c = register w in
    (L.answer c.0 c.1 c.2 ∙ sym (M.answer c.0 c.1 c.2), L.word c.0 c.1 c.2 ∙ sym (M.word c.0 c.1 c.2))

pub located_to : {w v : List ℕ} (v' : List ℕ) (r : Option ℕ) → v' ≡ v → Located w v r → Located w v' r
located_to {w} v' r e L = subst (λ (x : List ℕ). Located w x r) (sym e) L
