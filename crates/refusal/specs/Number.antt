-- Refusals and their numbers, and what a call answers that may be refused.
use Rattle.std.specs.Prelude.{List, [], ◌∷◌, ℕ, zero, suc, ◌-◌, get_or, Result, Ok, Err}
use Rattle.refusal.specs.declared.Refusal.{Refusal}
use Rattle.refusal.specs.declared.Refusal.TheVariants.{Form, N, Rows, RowLength, Addresses, EqualAddresses, Lanes, Words, IterationLimit, Step, Bch, Size, TooShort, Width, Lengths}

-- the scope's number of each refusal
abbrev pub number : Refusal → ℕ
number Form = 1
number N = 2
number Rows = 3
number RowLength = 4
number Addresses = 5
number EqualAddresses = 6
number Lanes = 7
number Words = 8
number IterationLimit = 9
number Step = 10
number Bch = 11
number Size = 12
number TooShort = 13
number Width = 14
number Lengths = 15

-- the refusals by their numbers, from 1 on
abbrev pub refusals : List Refusal
refusals = Form ∷ N ∷ Rows ∷ RowLength ∷ Addresses ∷ EqualAddresses ∷ Lanes ∷ Words ∷ IterationLimit ∷ Step ∷ Bch ∷ Size ∷ TooShort ∷ Width ∷ Lengths ∷ []

-- the refusal that has this number
abbrev pub refusal_of : ℕ → Refusal
refusal_of f = get_or refusals (f - 1) Form

-- the number of an answer: that of its refusal, 0 where nothing is refused
abbrev pub number_of : {A : Type 0} → Result A Refusal → ℕ
number_of (Ok x) = 0
number_of (Err r) = number r

-- the answer to each number: what is answered where nothing is refused, or the refusal
abbrev pub answer : {A : Type 0} → ℕ → A → Result A Refusal
answer zero x = Ok x
answer (suc f) x = Err (refusal_of (suc f))
