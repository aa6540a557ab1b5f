-- The numbers of the refusals, and what is refused by number where code has a name. Defined once for all crates.
use Rattle.std.specs.Prelude.{ℕ, Result, Ok, Err}
use Rattle.refusal.specs.declared.Refusal.{Refusal}
use Rattle.refusal.specs.declared.Refusal.TheVariants.{SheetTooLong, NoMark, UnknownVersion, CutShort, NameLengthByte, UnknownKind, WrongSpelling, NameLength, NoSuchName, FirstValue, SecondValue, OutsideFits, TemperatureFit, RoomTooShort, ListTooLong, NameTwice, Gamma, HasRemark, SheetFull}

-- document 01, table, and document 02: the number of a condition
abbrev pub number_for : Refusal → ℕ
number_for SheetTooLong = 1
number_for NoMark = 2
number_for UnknownVersion = 3
number_for CutShort = 4
number_for NameLengthByte = 5
number_for UnknownKind = 6
number_for WrongSpelling = 7
number_for NameLength = 8
number_for NoSuchName = 9
number_for FirstValue = 10
number_for SecondValue = 11
number_for OutsideFits = 12
number_for TemperatureFit = 13
number_for RoomTooShort = 14
number_for ListTooLong = 15
number_for NameTwice = 16
number_for Gamma = 17
number_for HasRemark = 18
number_for SheetFull = 19

-- a result with the number in the refusal's place
abbrev pub numbered : {A : Type 0} → Result A Refusal → Result A ℕ
numbered (Ok a) = Ok a
numbered (Err r) = Err (number_for r)

-- the number of a result's refusal, or 0
abbrev pub number_or_0 : {A : Type 0} → Result A Refusal → ℕ
number_or_0 (Ok a) = 0
number_or_0 (Err r) = number_for r
