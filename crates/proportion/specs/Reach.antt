-- How large the weight of a transition may be for its part of B to be worked out in 64 bits.
use Rattle.std.specs.Prelude.{ℕ}

-- 1.2 in units of 10^-10, for either sign: a minus transition's weight lies below 0 or above 1
abbrev pub reach : ℕ
reach = 12000000000
