-- Document 01, Plot marks, of the struct that `eas_plot` gives.
use Rattle.std.specs.Prelude.{List, ◌≡◌, ℕ, T, ℤ, pos, ◌+ℤ◌}
use Rattle.air.specs.Choices.{chosen}
use Rattle.mark.specs.Mark.{mark_of, shown_value, Exactly}
use Rattle.calculator.specs.Search.{search_by}
use Rattle.flat.specs.declared.CAnswer.{CAnswer}
use Rattle.flat_parts.specs.declared.CMark.{CMark}
use Rattle.flat.specs.Flat.{flat}
use Rattle.flat_parts.specs.Flat.{flat_mark}
use Rattle.flat.specs.Back.{bit}

-- a point: across is exactly Y increased by 7,000,000, up is exactly the value that a mark shows
pub record Points (c : CMark) (y v : ℤ) : Type 0 where
  pub no_blank : c.blank ≡ 0
  pub across : Exactly c.point.across (y +ℤ pos 7000000)
  pub up : Exactly c.point.up v

-- a is what `eas_search` gives for a sheet and a spelling, c what `eas_plot` gives: where a carries Y and a value, c is the point of Y and what a mark shows of the value
abbrev pub PlotExact : Type 0
PlotExact =
    (s spelling : List ℕ) (a : CAnswer) (c : CMark)
    → a ≡ flat (search_by chosen s spelling)
    → c ≡ flat_mark (mark_of (search_by chosen s spelling))
    → T (bit 1 a.carries)
    → T (bit 16 a.carries)
    → Points c a.y (shown_value a.letter a.value)
