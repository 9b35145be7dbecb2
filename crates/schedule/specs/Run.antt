-- The run as the scope tells it ("Lane values and messages", last paragraph): lanes, refilling, rounds. A word is a number, and has values:
-- of what kind is left open (the decoder's are L and the messages). Every test is made on the values that a lane holds. (The runs of checks of a
-- layered iteration are another thing: iteration, Iteration.)
use Rattle.std.specs.Prelude.{Bool, true, false, cond, ◌||◌, List, [], ◌∷◌, map, ℕ, zero, suc, eqb, replicate}

-- what a run knows of its words: the values that word w starts with; the values after one iteration more; whether values meet every
-- check; the iteration limit
pub record Words (X : Type 0) : Type 0 where
  pub begin : ℕ → X
  pub iterate : X → X
  pub met : X → Bool
  pub iteration_limit : ℕ

-- a lane is empty, or holds a word with its values and its iterations
pub data Lane (X : Type 0) : Type 0 where
  empty : Lane X
  holds : ℕ → X → ℕ → Lane X

-- a word that has left its lane, with its values and its iterations then
pub record Left (X : Type 0) : Type 0 where
  pub word : ℕ
  pub values : X
  pub iterations : ℕ

-- the words that wait, in the order of loading, and the words that have left, the latest first
pub record Stock (X : Type 0) : Type 0 where
  pub queue : List ℕ
  pub log : List (Left X)

pub record State (X : Type 0) : Type 0 where
  pub lanes : List (Lane X)
  pub stock : Stock X
  pub rounds : ℕ

pub data Ending : Type 0 where
  finished stopped : Ending

-- an ending as a flag, by which the laws of the loop tell it
unfoldable pub is_stopped : Ending → Bool
is_stopped finished = false
is_stopped stopped = true

pub record Result (X : Type 0) : Type 0 where
  pub ending : Ending
  pub last : State X

-- what becomes of a lane and of the stock
abbrev pub Turn : Type 0 → Type 0
Turn X = Lane X × Stock X

-- a turn for each lane, lowest first
unfoldable pub each : {X : Type 0} → (Lane X → Stock X → Turn X) → List (Lane X) → Stock X → List (Lane X) × Stock X
each turn [] s = ([], s)
each turn (l ∷ ls) s =
    let (l', s') = turn l s in
    let (ls', s'') = each turn ls s' in
    (l' ∷ ls', s'')

-- how many lanes are held
unfoldable pub held : {X : Type 0} → List (Lane X) → ℕ
held [] = 0
held (empty ∷ ls) = held ls
held (holds w x i ∷ ls) = suc (held ls)

module _ {X : Type 0} (words : Words X) where
  -- "every check is met or the limit is reached"
  unfoldable pub over : X → ℕ → Bool
  over x i = words.met x || eqb i words.iteration_limit

  unfoldable pub logged : ℕ → X → ℕ → List (Left X) → List (Left X)
  logged w x i log = record { word = w; values = x; iterations = i } ∷ log

  -- "take words in input order; a word taken starts with its soft values as L and every message 0. A word that is already a codeword
  -- (or any word, at iteration limit 0) leaves its lane with 0 iterations, and the lane refills before the round."
  unfoldable pub load : List ℕ → List (Left X) → Turn X
  load [] log = (empty, record { queue = []; log = log })
  load (w ∷ queue) log =
      let refills = load queue (logged w (words.begin w) 0 log) in
      cond (over (words.begin w) 0) refills (holds w (words.begin w) 0, record { queue = queue; log = log })

  -- "empty lanes .. take words"
  unfoldable pub fill : Lane X → Stock X → Turn X
  fill empty s = load s.queue s.log
  fill (holds w x i) s = (holds w x i, s)

  -- "A round gives each held word one iteration."
  unfoldable pub iterated : Lane X → Lane X
  iterated empty = empty
  iterated (holds w x i) = holds w (words.iterate x) (suc i)

  -- "Other words finish when every check is met or the limit is reached."
  unfoldable pub leave : Lane X → Stock X → Turn X
  leave empty s = (empty, s)
  leave (holds w x i) s =
      cond (over x i) (empty, record { queue = s.queue; log = logged w x i s.log }) (holds w x i, s)

  -- "Before a round, empty lanes, lowest first, take words in input order"
  unfoldable pub refill : State X → State X
  refill s =
      let (lanes, stock) = each fill s.lanes s.stock in
      record { lanes = lanes; stock = stock; rounds = s.rounds }

  unfoldable pub round : State X → State X
  round s =
      let (lanes, stock) = each leave (map iterated s.lanes) s.stock in
      record { lanes = lanes; stock = stock; rounds = suc s.rounds }

  -- "After refilling: finished if no lane is held; stopped if the round limit is used up; else a round." The number counts the rounds
  -- that the limit still allows.
  unfoldable pub go : ℕ → State X → Result X
  go zero s =
      let t = refill s in
      cond (eqb (held t.lanes) 0) (record { ending = finished; last = t }) (record { ending = stopped; last = t })
  go (suc left) s =
      let t = refill s in
      let goes_on = go left (round t) in
      cond (eqb (held t.lanes) 0) (record { ending = finished; last = t }) goes_on

  unfoldable pub start : List ℕ → ℕ → State X
  start order lanes = record { lanes = replicate lanes empty; stock = record { queue = order; log = [] }; rounds = 0 }

  -- the run: the words in the order of loading, the lane count, the round limit
  unfoldable pub run : List ℕ → ℕ → ℕ → Result X
  run order lanes round_limit = go round_limit (start order lanes)

-- "take words in input order": the words 0 to n − 1
unfoldable pub counting : ℕ → ℕ → List ℕ
counting a zero = []
counting a (suc n) = a ∷ counting (suc a) n

unfoldable pub input_order : ℕ → List ℕ
input_order n = counting 0 n
