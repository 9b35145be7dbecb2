-- Addresses modulo P. That no more of them counts: proofs/Modulo.
use Rattle.std.specs.Prelude.{List, [], ◌∷◌, ℕ, ◌%◌}

unfoldable pub mods : ℕ → List ℕ → List ℕ
mods P [] = []
mods P (a ∷ addrs) = a % P ∷ mods P addrs
