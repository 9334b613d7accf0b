-- The calls of an object in memory: how many there were, which of them are to fail, and how many failed.
use Rattle.std.specs.Prelude.{ℕ, List, Bool, ◌+◌, ◌-◌, ◌^◌, ◌==◌, min}
use Rattle.std.specs.List.{list_any}
use Rattle.dv_outside.specs.declared.calls.Calls.{Calls}

-- one more, up to the largest number of 64 bits
abbrev pub one_more : ℕ → ℕ
one_more n = min (n + 1) (2 ^ 64 - 1)

-- whether the call of this number is one of those that are to fail
abbrev pub is_to_fail : ℕ → List ℕ → Bool
is_to_fail number fails = list_any (λ n. n == number) fails

-- how many calls there were
abbrev pub number_of : Calls → ℕ
number_of calls = calls.number

-- the numbers, from 1, of the calls that are to fail
abbrev pub fails_of : Calls → List ℕ
fails_of calls = calls.fails

-- how many failed
abbrev pub faults_of : Calls → ℕ
faults_of calls = calls.faults

-- whether the next call is to fail
abbrev pub fails_next : Calls → Bool
fails_next calls = is_to_fail (one_more (number_of calls)) (fails_of calls)
