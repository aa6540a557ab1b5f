-- Request 6 over what C gets: the sheet that a conversion leaves in lent room.
use Rattle.std.specs.Prelude.{List, ◌≡◌, ℕ, ◌≤◌, length, take}
use Rattle.octets.specs.Room.{Text, text, written, outcome_of}
use Rattle.sheet_remark.specs.Remark.{remark_of}
use Rattle.convert.specs.Convert.{forward, back}
use Rattle.calculator.specs.Search.{locate}
use Rattle.calculator.specs.Remarks.{SameAnswers}
use Rattle.flat_parts.specs.declared.CText.{CText}
use Rattle.flat_parts.specs.declared.CPart.{CPart}
use Rattle.flat_parts.specs.Flat.{flat_remark, flat_text}
use Rattle.c_laws.specs.Remarks.{SameForC}

-- two remarks that are both empty, or refused by one number: their places are left aside
pub record BothEmpty (a b : CPart) : Type 0 where
  pub number : a.number ≡ b.number
  pub first : a.length ≡ 0
  pub second : b.length ≡ 0

-- t is a sheet that gives whatever s gives, and that the other way turns into s
pub record Kept (other : List ℕ → ℕ → Text) (s t : List ℕ) : Type 0 where
  pub answers : SameAnswers s t
  pub for_c : SameForC s t
  pub remark : (spelling : List ℕ) → BothEmpty (flat_remark (remark_of s (locate s spelling))) (flat_remark (remark_of t (locate t spelling)))
  pub returns : (room : ℕ) → length s ≤ room → other t room ≡ text s

-- c is what a way gives for a sheet and a room, `last` is the room afterwards: where c is no refusal, the sheet that it tells of is so
abbrev pub KeptBy : (List ℕ → ℕ → Text) → (List ℕ → ℕ → Text) → Type 0
KeptBy way other =
    (s room last : List ℕ) (c : CText)
    → c ≡ flat_text (outcome_of (way s (length room)))
    → last ≡ written (way s (length room)) room
    → c.number ≡ 0
    → Kept other s (take c.length last)

-- `eas_forward` and `eas_back`
abbrev pub FlatForward : Type 0
FlatForward = KeptBy forward back

abbrev pub FlatBack : Type 0
FlatBack = KeptBy back forward
