-- A refusal is its number, and an answer that of its number.
use Rattle.std.specs.Prelude.{◌≡◌, refl, Bool, true, false, cond, ℕ, zero, suc, ◌≤◌, ◌<◌, Ok, Err}
use Rattle.std.proofs.Common.{sym, ap, ◌∙◌, arith}
use Rattle.refusal.specs.Number.{number, refusal_of, number_of, answer}
use Rattle.refusal.specs.declared.Refusal.{Refusal}
use Rattle.refusal.specs.declared.Refusal.TheVariants.{Form, N, Rows, RowLength, Addresses, EqualAddresses, Lanes, Words, IterationLimit, Step, Bch, Size, TooShort, Width, Lengths}

-- the highest number. Bounds are written by this name, so that a new refusal moves these laws alone
abbrev pub highest : ℕ
highest = 15

pub number_least : (r : Refusal) → 0 < number r
number_least r = elim r as (λ v. 0 < number v) [ Form ↦ omega arith | N ↦ omega arith | Rows ↦ omega arith | RowLength ↦ omega arith | Addresses ↦ omega arith | EqualAddresses ↦ omega arith | Lanes ↦ omega arith | Words ↦ omega arith | IterationLimit ↦ omega arith | Step ↦ omega arith | Bch ↦ omega arith | Size ↦ omega arith | TooShort ↦ omega arith | Width ↦ omega arith | Lengths ↦ omega arith ]

pub number_most : (r : Refusal) → number r ≤ highest
number_most r = elim r as (λ v. number v ≤ highest) [ Form ↦ omega arith | N ↦ omega arith | Rows ↦ omega arith | RowLength ↦ omega arith | Addresses ↦ omega arith | EqualAddresses ↦ omega arith | Lanes ↦ omega arith | Words ↦ omega arith | IterationLimit ↦ omega arith | Step ↦ omega arith | Bch ↦ omega arith | Size ↦ omega arith | TooShort ↦ omega arith | Width ↦ omega arith | Lengths ↦ omega arith ]

-- ---- a refusal has its number, and a number its refusal
pub refusal_number : (r : Refusal) → refusal_of (number r) ≡ r
refusal_number r = elim r as (λ v. refusal_of (number v) ≡ v) [ Form ↦ refl | N ↦ refl | Rows ↦ refl | RowLength ↦ refl | Addresses ↦ refl | EqualAddresses ↦ refl | Lanes ↦ refl | Words ↦ refl | IterationLimit ↦ refl | Step ↦ refl | Bch ↦ refl | Size ↦ refl | TooShort ↦ refl | Width ↦ refl | Lengths ↦ refl ]

pub number_refusal : (f : ℕ) → 0 < f → f ≤ highest → number (refusal_of f) ≡ f
number_refusal zero h g = absurd (omega arith)
number_refusal (suc zero) h g = refl
number_refusal (suc (suc zero)) h g = refl
number_refusal (suc (suc (suc zero))) h g = refl
number_refusal (suc (suc (suc (suc zero)))) h g = refl
number_refusal (suc (suc (suc (suc (suc zero))))) h g = refl
number_refusal (suc (suc (suc (suc (suc (suc zero)))))) h g = refl
number_refusal (suc (suc (suc (suc (suc (suc (suc zero))))))) h g = refl
number_refusal (suc (suc (suc (suc (suc (suc (suc (suc zero)))))))) h g = refl
number_refusal (suc (suc (suc (suc (suc (suc (suc (suc (suc zero))))))))) h g = refl
number_refusal (suc (suc (suc (suc (suc (suc (suc (suc (suc (suc zero)))))))))) h g = refl
number_refusal (suc (suc (suc (suc (suc (suc (suc (suc (suc (suc (suc zero))))))))))) h g = refl
number_refusal (suc (suc (suc (suc (suc (suc (suc (suc (suc (suc (suc (suc zero)))))))))))) h g = refl
number_refusal (suc (suc (suc (suc (suc (suc (suc (suc (suc (suc (suc (suc (suc zero))))))))))))) h g = refl
number_refusal (suc (suc (suc (suc (suc (suc (suc (suc (suc (suc (suc (suc (suc (suc zero)))))))))))))) h g = refl
number_refusal (suc (suc (suc (suc (suc (suc (suc (suc (suc (suc (suc (suc (suc (suc (suc zero))))))))))))))) h g = refl
number_refusal (suc (suc (suc (suc (suc (suc (suc (suc (suc (suc (suc (suc (suc (suc (suc (suc f)))))))))))))))) h g = absurd (omega arith)

-- two refusals with one number are one
pub number_injective : (r s : Refusal) → number r ≡ number s → r ≡ s
number_injective r s e = sym (refusal_number r) ∙ ap refusal_of e ∙ refusal_number s

-- ---- an answer and its number
pub number_answer : {A : Type 0} (f : ℕ) (x : A) → f ≤ highest → number_of (answer f x) ≡ f
number_answer zero x h = refl
number_answer (suc f) x h = number_refusal (suc f) (omega arith) h

-- a number chosen of two
pub chosen_le : (b : Bool) (f g : ℕ) → f ≤ highest → g ≤ highest → cond b f g ≤ highest
chosen_le true f g h k = h
chosen_le false f g h k = k

-- nothing is refused
pub accepted : {A : Type 0} (f : ℕ) (x : A) → f ≡ 0 → answer f x ≡ Ok x
accepted f x e = ap (λ (z : ℕ). answer z x) e

-- a refusal, by its number
pub refused : {A : Type 0} (f : ℕ) (x : A) (r : Refusal) → f ≡ number r → answer f x ≡ Err r
refused f x Form e = ap (λ (z : ℕ). answer z x) e
refused f x N e = ap (λ (z : ℕ). answer z x) e
refused f x Rows e = ap (λ (z : ℕ). answer z x) e
refused f x RowLength e = ap (λ (z : ℕ). answer z x) e
refused f x Addresses e = ap (λ (z : ℕ). answer z x) e
refused f x EqualAddresses e = ap (λ (z : ℕ). answer z x) e
refused f x Lanes e = ap (λ (z : ℕ). answer z x) e
refused f x Words e = ap (λ (z : ℕ). answer z x) e
refused f x IterationLimit e = ap (λ (z : ℕ). answer z x) e
refused f x Step e = ap (λ (z : ℕ). answer z x) e
refused f x Bch e = ap (λ (z : ℕ). answer z x) e
refused f x Size e = ap (λ (z : ℕ). answer z x) e
refused f x TooShort e = ap (λ (z : ℕ). answer z x) e
refused f x Width e = ap (λ (z : ℕ). answer z x) e
refused f x Lengths e = ap (λ (z : ℕ). answer z x) e
