-- Remainders sixteen bits at a time, and a word's last 192 bits as three words.
-- Assumes nothing.
use Rattle.std.proofs.Common.{◌≡◌, sym, ap, ap₂, ◌∙◌, List, [], ◌++◌, append_assoc, ℕ, ◌+◌, ◌-◌, ◌*◌, ◌%◌, ◌^◌, ◌≤◌, ◌⊎◌, inl, inr, arith, length, take, drop, length-append, length-drop, take-append-drop, take-add, length-take-le}
use Rattle.std.proofs.Math.Nat.{add-sub_cancel_left}
use Rattle.laws.specs.Definitions.{◌⊕◌}
use Rattle.bch_table.specs.Step.{joined, step_of}
use Rattle.bch_remainder.specs.Word.{number, parity_of, remainder_of}
use Rattle.bch_remainder.specs.Laws.{number_append, parity_none, parity_start, parity_step, remainder_split}

-- ---- more: a step of sixteen bits, or the first one
pub more_is : (c : List ℕ) (v v' n : ℕ) → length c ≤ 16 → n ≡ number c → v' ≡ step_of v n
    → (m : List ℕ) → (length c ≡ 16) ⊎ (m ≡ []) → v ≡ parity_of m → v' ≡ parity_of (m ++ c)
more_is c v v' n h en ev m (inl whole) e = ev ∙ ap₂ step_of e en ∙ sym (parity_step m c whole)
more_is c v v' n h en ev m (inr none) e =
    ev ∙ ap₂ step_of (e ∙ ap parity_of none ∙ parity_none) en ∙ sym (parity_start c h) ∙ ap (λ (l : List ℕ). parity_of (l ++ c)) (sym none)

-- ---- parity_register: v is the parity of the bits passed, and whole sixteens are left
pub record Divided (m : List ℕ) (v : ℕ) (rest : List ℕ) : Type 0 where
  pub passed : List ℕ
  pub split : passed ++ rest ≡ m
  pub left : length rest % 16 ≡ 0
  pub done : v ≡ parity_of passed

pub divide_start : (m front back : List ℕ) (v : ℕ) → front ≡ take (length m % 16) m → back ≡ drop (length m % 16) m → v ≡ parity_of front → Divided m v back
divide_start m front back v ef eb ev =
    record {
      passed = front;
      split = ap₂ ◌++◌ ef eb ∙ take-append-drop (length m % 16) m;
      left = omega (arith, ap length eb, length-drop (length m % 16) m);
      done = ev;
    }

pub divide_again : (m : List ℕ) (v v' : ℕ) (rest bits rest' : List ℕ) (s : Divided m v rest) → rest ≡ bits ++ rest' → length bits ≡ 16 → v' ≡ parity_of (s.passed ++ bits)
    → Divided m v' rest'
divide_again m v v' rest bits rest' s e h ev =
    record {
      passed = s.passed ++ bits;
      split = append_assoc s.passed bits rest' ∙ ap (λ (l : List ℕ). s.passed ++ l) (sym e) ∙ s.split;
      left = omega (arith, length-append bits rest', ap length e, s.left);
      done = ev;
    }

-- ---- remainder: the last 192 bits are three words
last_words : (d : List ℕ) → length d ≡ 192 → number d ≡ joined (number (take 64 d)) (number (take 64 (drop 64 d))) (number (drop 128 d))
unfolding joined
last_words d e =
    ap number (sym (take-append-drop 128 d) ∙ ap (λ (x : List ℕ). x ++ C) (take-add 64 64 d))
    ∙ number_append (A ++ B) C ∙ ap₂ (λ (x n : ℕ). x * 2 ^ n + number C) (number_append A B ∙ ap (λ (n : ℕ). number A * 2 ^ n + number B) long_B) long_C
  where
    A : List ℕ
    A = take 64 d

    B : List ℕ
    B = take 64 (drop 64 d)

    C : List ℕ
    C = drop 128 d

    long_B : length B ≡ 64
    long_B = length-take-le 64 (drop 64 d) (omega (arith, length-drop 64 d, e))

    long_C : length C ≡ 64
    long_C = length-drop 128 d ∙ ap (λ (n : ℕ). n - 128) e

pub remainder_is : (w front back : List ℕ) (k v h m l r : ℕ) → length w ≡ k + 192 → front ≡ take k w → back ≡ drop k w → v ≡ parity_of front
    → h ≡ number (take 64 back) → m ≡ number (take 64 (drop 64 back)) → l ≡ number (drop 128 back) → r ≡ v ⊕ joined h m l → r ≡ remainder_of w
remainder_is w front back k v h m l r e ef eb ev eh em el er =
    er ∙ ap₂ ◌⊕◌ ev ((λ i. joined (eh i) (em i) (el i)) ∙ sym (last_words back long))
    ∙ sym (remainder_split front back long) ∙ ap remainder_of (ap₂ ◌++◌ ef eb ∙ take-append-drop k w)
  where
    long : length back ≡ 192
    long = ap length eb ∙ length-drop k w ∙ ap (λ (n : ℕ). n - k) e ∙ add-sub_cancel_left k 192
