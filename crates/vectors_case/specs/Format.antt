-- How a case stands in the input (compare/oracle/src/bin/run.rs): twenty numbers of four bytes, and the parts whose lengths they give, one behind another.
use Rattle.std.specs.Prelude.{◌≡◌, ℕ, ◌+◌, ◌*◌, ◌%◌, ◌≤◌, pos, ◌-ℤ◌, List, ◌++◌, length, take, drop, nat_eq, if◌then◌else◌}
use Rattle.std.specs.Int.{from_le_bytes, w32}
use Rattle.std.specs.List.{concat}
use Rattle.decoder_plan.specs.declared.Schedule.{Schedule}
use Rattle.decoder_plan.specs.declared.Schedule.TheVariants.{Sequential, Layered}
use Rattle.vectors_case.specs.declared.Case.{Case}

-- number i, lowest byte first
unfoldable pub number : List ℕ → ℕ → ℕ
number input i = from_le_bytes w32 (take 4 (drop (4 * i) input))

-- how many bytes a case has
abbrev pub size_of : List ℕ → ℕ
size_of input = 80 + 4 * number input 1 + 2 * number input 2 + number input 16 + 12 * number input 17 + number input 18

abbrev pub schedule_of : ℕ → ℕ → Schedule
schedule_of layered step = if nat_eq layered 1 then Layered step else Sequential

-- the numbers of a case, and its parts with the input behind them; the bits before noise and those of the maps go on to the input's end
pub record Reads (input : List ℕ) (case : Case) (rest : List ℕ) : Type 0 where
  pub n : case.n ≡ number input 0
  pub lens : length case.lens.now ≡ number input 1
  pub addrs : length case.addrs.now ≡ number input 2
  pub soft : case.soft ≡ number input 3
  pub lanes : case.set.lanes ≡ number input 4
  pub iterations : case.set.limits.iterations ≡ number input 5
  pub schedule : case.set.schedule ≡ schedule_of (number input 6) (number input 7)
  pub offset : case.set.offset ≡ pos (number input 8 % 256) -ℤ pos 128
  pub rounds : case.set.limits.rounds ≡ number input 9
  pub first : case.set.part.first ≡ number input 10
  pub long : case.set.part.length ≡ number input 11
  pub out : case.out ≡ number input 12
  pub room : case.room ≡ number input 13
  pub work : case.work ≡ number input 14
  pub lists : case.lists ≡ number input 15
  pub bases : number input 16 ≤ length case.bases.now
  pub count : case.count ≡ number input 17
  pub recipes : length case.recipes.now ≡ number input 17
  pub maps : number input 18 ≤ length case.maps.now
  pub checks : case.checks ≡ number input 19
  pub parts : input ≡ take 80 input ++ (concat case.lens.now ++ (concat case.addrs.now ++ (take (number input 16) case.bases.now ++ (concat case.recipes.now ++ (take (number input 18) case.maps.now ++ rest)))))
  pub from_bases : input ≡ take 80 input ++ (concat case.lens.now ++ (concat case.addrs.now ++ case.bases.now))
  pub from_maps : case.bases.now ≡ take (number input 16) case.bases.now ++ (concat case.recipes.now ++ case.maps.now)
