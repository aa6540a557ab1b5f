-- Document 01, Plot marks.
use Rattle.std.specs.Prelude.{false, true, cond, ◌≡◌, ℕ, suc, T, eqb, ℤ, pos, negsuc, neg_ℤ, ◌+ℤ◌, ◌≤ℤ◌, Float, Result, Ok, Err}
use Rattle.std.proofs.Math.Option.{Option, none, some}
use Rattle.std.specs.Int.Signed.{shr_z}
use Rattle.std.specs.Float.{binary64}
use Rattle.std.specs.Float.Ieee.{in_float, of_int, add}
use Rattle.std.specs.Float.Ieee.Exact.{HasValue}
use Rattle.air.specs.declared.Logs.{Logs}
use Rattle.air.specs.Held.{Held}
use Rattle.air_pressure.specs.Pressure.{letter_p}
use Rattle.mark.specs.declared.Point.{Point}

-- across is Y converted and then increased, up is the value converted
abbrev pub point_of : ℤ → ℤ → Point
point_of y v = record { across = add binary64 (of_int binary64 y) (of_int binary64 (pos 7000000)); up = of_int binary64 v }

-- what a mark shows of a value, by the answer's letter: the value itself; request 3: of a pressure its whole pascals, rounded down
abbrev pub shown_value : ℕ → ℤ → ℤ
shown_value letter v = cond (eqb letter letter_p) (shr_z v 1000000) v

-- a point where there is a value, else a blank with the refusal's number
abbrev pub mark_from : ℕ → ℕ → Option Logs → Option ℤ → Result Point ℕ
mark_from n letter none v = Err n
mark_from n letter (some l) none = Err n
mark_from n letter (some l) (some v) = Ok (point_of l.y (shown_value letter v))

-- the mark of what an answer holds
unfoldable pub mark_of : Held → Result Point ℕ
mark_of h = mark_from h.number h.letter h.logs h.value

-- a Y from -7 to 20, as every kind takes it, and a value that a double holds exactly
pub record Drawable (y v : ℤ) : Type 0 where
  pub least : neg_ℤ (pos 7000000) ≤ℤ y
  pub most : y ≤ℤ pos 20000000
  pub value : T (in_float binary64 v)

abbrev pub DrawableFrom : ℕ → Option Logs → Option ℤ → Type 0
DrawableFrom letter none v = Unit
DrawableFrom letter (some l) none = Unit
DrawableFrom letter (some l) (some v) = Drawable l.y (shown_value letter v)

-- what is held can be drawn
abbrev pub CanDraw : Held → Type 0
CanDraw h = DrawableFrom h.letter h.logs h.value

-- a double that is a whole number exactly: finite, with its sign and its size
abbrev pub Exactly : Float → ℤ → Type 0
Exactly x (pos n) = HasValue x false n 1
Exactly x (negsuc n) = HasValue x true (suc n) 1

-- both doubles of a point equal the whole numbers exactly
pub record Stands (p : Point) (y v : ℤ) : Type 0 where
  pub across : Exactly p.across (y +ℤ pos 7000000)
  pub up : Exactly p.up v

-- the mark of what is held with the logarithms l and the value v: a point that stands for Y and the value
pub record Marked (h : Held) (l : Logs) (v : ℤ) : Type 0 where
  pub point : Point
  pub drawn : mark_of h ≡ Ok point
  pub exact : Stands point l.y (shown_value h.letter v)
