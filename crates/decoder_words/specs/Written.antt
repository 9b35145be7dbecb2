-- What a function that writes a word's own leaves of the others: lengths, room, and that nothing else is written.
use Rattle.std.specs.Prelude.{◌≡◌, refl, ◌≢◌, ℕ, ◌*◌, ◌≤◌, ◌<◌, length, drop}
use Rattle.std.proofs.Common.{◌∙◌, arith}
use Rattle.decoder_words.specs.Fields.{fields}
use Rattle.decoder_words.specs.Book.{Book, view}

-- the same lengths
pub record Same (B B' : Book) : Type 0 where
  pub records : length B'.records ≡ length B.records
  pub out : length B'.out ≡ length B.out

pub same_refl : (B : Book) → Same B B
same_refl B = record { records = refl; out = refl }

pub same_on : {B B' B'' : Book} → Same B B' → Same B' B'' → Same B B''
same_on s t = record { records = t.records ∙ s.records; out = t.out ∙ s.out }

-- there is room for so many words
pub record Room (n words : ℕ) (B : Book) : Type 0 where
  pub records : words * fields ≤ length B.records
  pub out : words * n ≤ length B.out

pub room_on : {n words : ℕ} {B B' : Book} → Room n words B → Same B B' → Room n words B'
room_on r s = record { records = omega (arith, r.records, s.records); out = omega (arith, r.out, s.out) }

-- word w's own is written, and nothing else: what memory holds of any other word, and what lies behind any number of words that has w among
-- them, is as it was
pub record Only (n w : ℕ) (B B' : Book) : Type 0 where
  pub others : (u : ℕ) → u ≢ w → view n B' u ≡ view n B u
  pub tail : (m : ℕ) → w < m → drop (m * n) B'.out ≡ drop (m * n) B.out
  pub same : Same B B'
