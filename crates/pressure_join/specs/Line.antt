-- The last steps of a joined pressure: from the fits at both edges.
use Rattle.std.specs.Prelude.{cond, ◌||◌, Some, ℕ, ◌^◌, ◌≤◌, ℤ}
use Rattle.quotient.specs.Range.{In, Between}
use Rattle.proportion.specs.Straight.{straight}
use Rattle.fit.specs.declared.Edge.{Edge}
use Rattle.bands.specs.declared.Strip.{Strip}
use Rattle.air.specs.declared.Logs.{Logs}
use Rattle.air.specs.declared.Edges.TheVariants.{Two}
use Rattle.air.specs.Quantities.{D0}
use Rattle.air.specs.Held.{Held, judges, shows}
use Rattle.air_pressure.specs.Pressure.{letter_p, beyond_gamma, pressure_of}

-- 17 by either gamma, or the straight line between the two pressures
abbrev pub line_of : ℕ → ℕ → Strip → Logs → Edge → Edge → Held
line_of e d s l low high =
    let p = pressure_of e d low.fit in
    let q = pressure_of e d high.fit in
    cond (beyond_gamma low.fit || beyond_gamma high.fit) (judges 17 letter_p l (Two low high))
    (shows letter_p l (Two low high) (Some (record { low = p; high = q })) (straight s.low s.high p q l.y))

-- where its numbers lie: in a strip a density is at most D0
pub record LineReady (e d : ℕ) (s : Strip) (y : ℤ) : Type 0 where
  pub between : Between s.low s.high y
  pub low : In 25 s.low
  pub high : In 25 s.high
  pub energy : e ≤ 10 ^ 12
  pub density : d ≤ D0
