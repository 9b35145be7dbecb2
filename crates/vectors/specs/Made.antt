-- The numbers that the vectors' programs make, by the same rules as compare/oracle.
use Rattle.std.specs.Prelude.{ℕ, ◌+◌, ◌*◌, ◌/◌, ◌%◌, List, nat_eq, if◌then◌else◌}
use Rattle.std.specs.List.{fold}

-- the generator's next state
abbrev pub next_of : ℕ → ℕ
next_of x = (x % 2147483648 * 1103515245 + 12345) % 2147483648

-- a draw below m from a state; 0 where m is 0
abbrev pub draw_of : ℕ → ℕ → ℕ
draw_of x m = if nat_eq m 0 then 0 else x / 65536 % m

-- a number in 0 .. 2^32 that i makes
abbrev pub mixed_of : ℕ → ℕ
mixed_of i = (i * 2654435761 + 1013904223) % 4294967296

-- a checksum with one number more
abbrev pub checksum_of : ℕ → ℕ → ℕ
checksum_of h v = (h * 31 + v + 1) % 4294967291

-- a sum over every byte and its place
abbrev pub sum_step : ℕ → ℕ → ℕ
sum_step h b = (h * 16411 + b + 1) % 281474976710597

abbrev pub sum_of : List ℕ → ℕ
sum_of bytes = fold sum_step 0 bytes
