-- The input's first bytes in a buffer, read part by part.
use Rattle.std.proofs.Common.{◌≡◌, sym, ap, ◌∙◌, subst, Option, List, ◌++◌, ℕ, ◌+◌, ◌-◌, ◌≤◌, ◌<◌, length, take, drop, length-append, length-take-le, arith}
use Rattle.std.proofs.lemmas.List.{take-append-le}
use Rattle.std.proofs.Math.Seq.{take-append-add}
use Rattle.std.specs.Io.KnownBytes.{Consumes}
use Rattle.std.proofs.KnownBytes.{Consumes-trans}

-- the first `size` bytes of the buffer were read from a, and b is left
pub record ReadInto (a b : Option (List ℕ)) (buf : List ℕ) (size : ℕ) : Type 0 where
  pub room : size ≤ length buf
  pub taken : Consumes a b (take size buf)

-- one part more
pub read_more : {a b c : Option (List ℕ)} {buf : List ℕ} {size end more : ℕ} (part : List ℕ) → ReadInto a b buf size → size < end → end ≤ length buf → length part ≡ end - size → more ≤ length part → Consumes b c (take more part)
    → ReadInto a c (take size buf ++ (part ++ drop (end - size) (drop size buf))) (size + more)
read_more {a} {b} {c} {buf} {size} {end} {more} part h l e p m k =
    let rest = drop (end - size) (drop size buf) in
    let long : length (take size buf) ≡ size = length-take-le size buf h.room in
    let taken : take (size + more) (take size buf ++ (part ++ rest)) ≡ take size buf ++ take more part =
    ap (λ (i : ℕ). take (i + more) (take size buf ++ (part ++ rest))) (sym long) ∙ take-append-add (take size buf) (part ++ rest) more ∙ ap (λ (x : List ℕ). take size buf ++ x) (take-append-le more part rest m) in
    record {
      room = omega (arith, length-append (take size buf) (part ++ rest), length-append part rest, long);
      taken = subst (Consumes a c) (sym taken) (Consumes-trans a b c (take size buf) (take more part) h.taken k);
    }
