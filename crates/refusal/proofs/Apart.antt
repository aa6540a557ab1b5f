-- The numbers tell the refusals apart.
use Rattle.std.specs.Prelude.{◌≡◌, ℕ, cond, eqb}
use Rattle.std.proofs.Common.{refl, ap, sym, ◌∙◌, lit<}
use Rattle.refusal.specs.declared.Refusal.{Refusal}
use Rattle.refusal.specs.declared.Refusal.TheVariants.{SheetTooLong, NoMark, UnknownVersion, CutShort, NameLengthByte, UnknownKind, WrongSpelling, NameLength, NoSuchName, FirstValue, SecondValue, OutsideFits, TemperatureFit, RoomTooShort, ListTooLong, NameTwice, Gamma, HasRemark, SheetFull}
use Rattle.refusal.specs.Numbered.{number_for}
use Rattle.refusal.specs.Laws.{NumbersTell, NeverZero}

-- the refusal of a number
abbrev named : ℕ → Refusal
named n =
    cond (eqb n 1) SheetTooLong
    (cond (eqb n 2) NoMark
    (cond (eqb n 3) UnknownVersion
    (cond (eqb n 4) CutShort
    (cond (eqb n 5) NameLengthByte
    (cond (eqb n 6) UnknownKind
    (cond (eqb n 7) WrongSpelling
    (cond (eqb n 8) NameLength
    (cond (eqb n 9) NoSuchName
    (cond (eqb n 10) FirstValue
    (cond (eqb n 11) SecondValue
    (cond (eqb n 12) OutsideFits
    (cond (eqb n 13) TemperatureFit
    (cond (eqb n 14) RoomTooShort
    (cond (eqb n 15) ListTooLong
    (cond (eqb n 16) NameTwice
    (cond (eqb n 17) Gamma
    (cond (eqb n 18) HasRemark
    SheetFull)))))))))))))))))

back : (r : Refusal) → named (number_for r) ≡ r
back SheetTooLong = refl
back NoMark = refl
back UnknownVersion = refl
back CutShort = refl
back NameLengthByte = refl
back UnknownKind = refl
back WrongSpelling = refl
back NameLength = refl
back NoSuchName = refl
back FirstValue = refl
back SecondValue = refl
back OutsideFits = refl
back TemperatureFit = refl
back RoomTooShort = refl
back ListTooLong = refl
back NameTwice = refl
back Gamma = refl
back HasRemark = refl
back SheetFull = refl

pub numbers_tell : NumbersTell
numbers_tell a b e = sym (back a) ∙ ap named e ∙ back b

pub never_zero : NeverZero
never_zero SheetTooLong = lit< tt
never_zero NoMark = lit< tt
never_zero UnknownVersion = lit< tt
never_zero CutShort = lit< tt
never_zero NameLengthByte = lit< tt
never_zero UnknownKind = lit< tt
never_zero WrongSpelling = lit< tt
never_zero NameLength = lit< tt
never_zero NoSuchName = lit< tt
never_zero FirstValue = lit< tt
never_zero SecondValue = lit< tt
never_zero OutsideFits = lit< tt
never_zero TemperatureFit = lit< tt
never_zero RoomTooShort = lit< tt
never_zero ListTooLong = lit< tt
never_zero NameTwice = lit< tt
never_zero Gamma = lit< tt
never_zero HasRemark = lit< tt
never_zero SheetFull = lit< tt
