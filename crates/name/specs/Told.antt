-- Names and spellings that code holds in fixed room, as the definitions speak of them.
use Rattle.std.specs.Prelude.{ℕ, Result, Ok, Err}
use Rattle.arrayvec.specs.ArrayVec.{ArrayVec}
use Rattle.octets.specs.Room.{Text, text, refused}
use Rattle.refusal.specs.declared.Refusal.{Refusal}
use Rattle.refusal.specs.Numbered.{number_for}

-- bytes, or the number of a refusal
abbrev pub told : Result (ArrayVec ℕ) Refusal → Text
told (Ok bytes) = text bytes.items
told (Err why) = refused (number_for why)
