-- What memory says of a word while the rounds go on and when they are over, by its status: its record with BCH result and changed bits 0, and hard
-- decisions.
-- decoder_correct has what it says at the run's end.
use Rattle.std.specs.Prelude.{◌≡◌, refl, Bool, true, false, List, ℕ, eqb}
use Rattle.std.proofs.Common.{sym, subst, eqb-true}
use Rattle.std.proofs.lemmas.Bool.{eqb-false}
use Rattle.laws.specs.Put.{put_same, put_other}
use Rattle.laws.specs.Definitions.{put}
use Rattle.iteration.specs.Check.{Word}
use Rattle.iteration.specs.Iteration.{Code}
use Rattle.iteration.specs.Count.{Names}
use Rattle.schedule.specs.Status.{Status, waiting, holding, done}
use Rattle.outcome.specs.Outcome.{state_of, met_of, unmet_of, bits_of}
use Rattle.decoder_words.specs.Book.{Book, View, view, untouched}
use Rattle.decoder_words.specs.Written.{Only}

module _ (code : Code) (n p : ℕ) where
  -- a word that was written with the values x, after i iterations: nothing is corrected or compared yet
  pub record Left (state : ℕ) (x : Word) (i : ℕ) (v : View) : Type 0 where
    pub state_is : v.state ≡ state
    pub iterations : v.iterations ≡ i
    pub unsatisfied : v.unsatisfied ≡ unmet_of code p x
    pub named : Names code p x v.check
    pub bch : v.bch ≡ 0
    pub changed : v.changed ≡ 0
    pub bits : v.bits ≡ bits_of n x

  -- it is over; it is held
  abbrev pub Over : Word → ℕ → View → Type 0
  Over x i v = Left (state_of (met_of code p x)) x i v

  abbrev pub Held : Word → ℕ → View → Type 0
  Held x i v = Left 1 x i v

  -- by its status; `bits` are those that the output had before the run
  abbrev pub Shows : List ℕ → Status Word → View → Type 0
  Shows bits waiting v = v ≡ untouched bits
  Shows bits (holding x i) v = Held x i v
  Shows bits (done x i) v = Over x i v

  -- of every word
  abbrev pub Shown : (ℕ → List ℕ) → (ℕ → Status Word) → Book → Type 0
  Shown old memory B = (w : ℕ) → Shows (old w) (memory w) (view n B w)

  -- one word's own is written
  pub shown_put : (old : ℕ → List ℕ) (memory : ℕ → Status Word) (B B' : Book) (w : ℕ) (st : Status Word) → Shown old memory B → Only n w B B' → Shows (old w) st (view n B' w)
      → Shown old (put memory w st) B'
  shown_put old memory B B' w st t o h v = at (eqb v w) refl
    where
      at : (b : Bool) → eqb v w ≡ b → Shows (old v) (put memory w st v) (view n B' v)
      at true e =
          subst (λ u. Shows (old u) (put memory w st u) (view n B' u)) (sym (eqb-true v w e))
          (subst (λ s. Shows (old w) s (view n B' w)) (sym (put_same memory w st)) h)
      at false e =
          subst (λ s. Shows (old v) s (view n B' v)) (sym (put_other memory w st v (eqb-false v w e)))
          (subst (λ x. Shows (old v) (memory v) x) (sym (o.others v (eqb-false v w e))) (t v))
