-- What each exit of the entry points answers and leaves.
use Rattle.std.specs.Prelude.{Option, Some, None, MatchOption, Result}
use Rattle.std.specs.Option.{ok_or}
use Rattle.std.proofs.Common.{◌≡◌, refl, sym, ap, ap₂, ◌∙◌, subst, false, eqb, cond, List, ◌++◌, ℕ, zero, suc, ◌+◌, ◌≤◌, ◌<◌, arith, length, take, drop, Ok, Err, MutBor}
use Rattle.std.proofs.lemmas.Bool.{eq-eqb, ne_eqb, lt-ltb, le-ltb, le-leb, lt-leb}
use Rattle.refusal.specs.Number.{number, answer}
use Rattle.refusal.specs.NumberLaws.{number_least, accepted, refused}
use Rattle.refusal.specs.declared.Refusal.{Refusal}
use Rattle.refusal.specs.declared.Refusal.TheVariants.{TooShort}
use Rattle.ldpc_shape.specs.declared.Sizes.{Sizes}
use Rattle.ldpc_shape.specs.declared.Table.{Table}
use Rattle.ldpc_shape.specs.Shape.{sizes_of}
use Rattle.ldpc.specs.Answers.{or_else, short_of, other_of, beyond_of, in_front}
use Rattle.ldpc.specs.AnswersLaws.{or_first, or_next}

-- ---- which number it is
pub short : (needed size : ℕ) → size < needed → 13 ≡ short_of needed size
unfolding short_of
short needed size h = sym (ap (λ t. cond t 13 0) (lt-ltb size needed h))

pub room : (needed size : ℕ) → needed ≤ size → 0 ≡ short_of needed size
unfolding short_of
room needed size h = sym (ap (λ t. cond t 13 0) (le-ltb size needed h))

pub same : (a b c : ℕ) → a ≡ b → b ≡ c → 0 ≡ other_of a c
unfolding other_of
same a b c e f = sym (ap (λ t. cond t 0 12) (eq-eqb a c (e ∙ f)))

pub other : (a b c : ℕ) → (a ≡ b → ⊥) → b ≡ c → 12 ≡ other_of a c
unfolding other_of
other a b c e f = sym (ap (λ t. cond t 0 12) (ne_eqb a c (λ g. e (g ∙ sym f))))

pub beyond : (c p : ℕ) → p ≤ c → 12 ≡ beyond_of c p
unfolding beyond_of
beyond c p h = sym (ap (λ t. cond t 12 0) (le-leb p c h))

pub within : (c p : ℕ) → c < p → 0 ≡ beyond_of c p
unfolding beyond_of
within c p h = sym (ap (λ t. cond t 12 0) (lt-leb p c h))

some : (r : Refusal) → number r ≡ 0 → ⊥
some r e = omega (arith, number_least r)

-- the first of two refusals, or the second
pub by_first : (r : Refusal) (a b : ℕ) → number r ≡ a → number r ≡ or_else a b
by_first r a b e = or_first a b (number r) e (some r)

pub by_next : (r a b : ℕ) → 0 ≡ a → r ≡ b → r ≡ or_else a b
by_next r a b e f = or_next a b r (sym e) f

pub two_first : (a b c : ℕ) → or_else (or_else a b) c ≡ or_else a (or_else b c)
unfolding or_else
two_first zero b c = refl
two_first (suc a) b c = let e : eqb (suc a) 0 ≡ false = ne_eqb (suc a) 0 (λ f. omega arith) in simp e

-- ---- the answer with number R: a refusal, or x
module _ {T : Type 0} (R : ℕ) (x : T) where
  pub says_no : (a : Result T Refusal) (r : Refusal) → a ≡ Err r → number r ≡ R → a ≡ answer R x
  says_no a r f e = f ∙ sym (refused R x r (sym e))

  pub says_yes : (y : T) → y ≡ x → 0 ≡ R → Ok y ≡ answer R x
  says_yes y f e = ap Ok f ∙ sym (accepted R x (sym e))

-- ---- the two parts of a lent slice, if it is long enough
abbrev Parts : List ℕ → ℕ → MutBor (List ℕ) × MutBor (List ℕ) → Type 0
Parts xs m p = (xs ≡ p.0.now ++ p.1.now) × (length p.0.now ≡ m) × (p.0.now ≡ take m xs) × (p.1.now ≡ drop m xs) × (length p.1.now + m ≡ length xs)

too_short : (xs : List ℕ) (m : ℕ) (o : Option (MutBor (List ℕ) × MutBor (List ℕ))) (r : Refusal) → MatchOption o (length xs < m) (Parts xs m) → Err r ≡ ok_or o TooShort
    → (r ≡ TooShort) × (length xs < m)
too_short xs m None r h e = (cc, h)
too_short xs m (Some p) r h e = absurd (cc)

pub parted : (xs : List ℕ) (m : ℕ) (o : Option (MutBor (List ℕ) × MutBor (List ℕ))) (p : MutBor (List ℕ) × MutBor (List ℕ)) → MatchOption o (length xs < m) (Parts xs m)
    → Ok p ≡ ok_or o TooShort → Parts xs m p
parted xs m None p h e = absurd (cc)
parted xs m (Some q) p h e = let f : q ≡ p = cc in subst (Parts xs m) f h

-- ---- x answered and xs laid in front of `out`, unless `first` refuses or there is no room for `need` numbers: R is the refusal
module _ {T : Type 0} (x : T) (xs out : List ℕ) (first need R : ℕ) (is : or_else first (short_of need (length out)) ≡ R) where
  keeps : (r : Refusal) → number r ≡ R → out ≡ in_front R xs out
  unfolding in_front
  keeps r e = sym (ap (λ t. cond t (xs ++ drop (length xs) out) out) (ne_eqb R 0 (λ f. some r (e ∙ f))))

  pub out_refused : (a : Result T Refusal) (r : Refusal) → a ≡ Err r → number r ≡ first → (a ≡ answer R x) × (out ≡ in_front R xs out)
  out_refused a r f e = let g : number r ≡ R = by_first r first (short_of need (length out)) e ∙ is in (says_no R x a r f g, keeps r g)

  module _ (passed : 0 ≡ first) (m : ℕ) (size : m ≡ need) (o : Option (MutBor (List ℕ) × MutBor (List ℕ))) (split : MatchOption o (length out < m) (Parts out m)) where
    pub out_short : (a : Result T Refusal) (r : Refusal) → a ≡ Err r → Err r ≡ ok_or o TooShort → (a ≡ answer R x) × (out ≡ in_front R xs out)
    out_short a r f e =
        let h = too_short out m o r split e in
        let g : number r ≡ R = ap number h.0 ∙ by_next 13 first _ passed (short need (length out) (omega (arith, h.1))) ∙ is in
        (says_no R x a r f g, keeps r g)

    -- ys is the front part afterwards
    pub out_done : (p : MutBor (List ℕ) × MutBor (List ℕ)) → Ok p ≡ ok_or o TooShort → (y : T) (ys : List ℕ) → length ys ≡ length p.0.now → y ≡ x → ys ≡ xs
        → (Ok y ≡ answer R x) × (ys ++ p.1.now ≡ in_front R xs out)
    unfolding in_front
    out_done p e y ys l f g =
        let h = parted out m o p split e in
        let z : 0 ≡ R = by_next 0 first _ passed (room need (length out) (omega (arith, h.4))) ∙ is in
        let k : m ≡ length xs = sym h.1 ∙ sym l ∙ ap length g in (
          says_yes R x y f z,
          ap₂ (λ (u v : List ℕ). u ++ v) g (h.3 ∙ ap (λ (n : ℕ). drop n out) k)
              ∙ sym (ap (λ t. cond t (xs ++ drop (length xs) out) out) (eq-eqb R 0 (sym z))),
        )

-- ---- the table of the code that was lent
module _ (t : Table) (n : ℕ) (lens addrs : List ℕ) (s : t.sizes ≡ sizes_of n lens addrs) (l : t.lens.now ≡ lens) (a : t.addrs.now ≡ addrs) where
  pub lent : {A : Type 0} (f : ℕ → List ℕ → List ℕ → A) → f t.sizes.n t.lens.now t.addrs.now ≡ f n lens addrs
  lent f = ap (λ (z : Sizes). f z.n t.lens.now t.addrs.now) s ∙ ap₂ (λ (x y : List ℕ). f n x y) l a
