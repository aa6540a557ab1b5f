-- A text into lent room: what is refused, and what the room holds afterwards. Defined once for all crates.
use Rattle.std.specs.Prelude.{cond, List, ◌++◌, ℕ, ◌+◌, leb, length, take, drop, Result, Ok, Err}

-- bytes, or a refusal's number
pub data Text : Type 0 where
  refused : ℕ → Text
  text : List ℕ → Text

-- document 01, table, writing: 14 where the room is shorter than the text
abbrev pub fitting : ℕ → List ℕ → Text
fitting room t = cond (leb (length t) room) (text t) (refused 14)

-- document 01, after the table: a refusal leaves the room as it was, a text becomes a prefix of it and nothing beyond changes
abbrev pub written : Text → List ℕ → List ℕ
written (refused n) buffer = buffer
written (text t) buffer = t ++ drop (length t) buffer

-- a room with a text behind its first bytes, as many as the place says
abbrev pub put_at : List ℕ → ℕ → List ℕ → List ℕ
put_at room at t = take at room ++ (t ++ drop (at + length t) room)

-- the answer that goes with a text: how many bytes it has, or the number of the refusal
abbrev pub outcome_of : Text → Result ℕ ℕ
outcome_of (refused n) = Err n
outcome_of (text t) = Ok (length t)
