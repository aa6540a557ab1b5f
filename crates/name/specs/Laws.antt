-- Demand 2's laws of names, as statements about the definitions.
use Rattle.std.specs.Prelude.{Bool, not, ◌||◌, List, [], ◌∷◌, ◌≡◌, ℕ, ◌+◌, ◌*◌, T, length}
use Rattle.octets.specs.Bytes.{Bytes}
use Rattle.octets.specs.Room.{text}
use Rattle.name.specs.Spelling.{within, unreserved, hex_value, spelled}
use Rattle.name.specs.Name.{is_length, name_of, spelling_of}

-- a name of 1 to 40 bytes is written in at most 120 bytes, and what is written reads to it again
abbrev pub WriteThenRead : Type 0
WriteThenRead =
    (name : List ℕ) → Bytes name → T (is_length (length name)) → (spelling_of name 120 ≡ text (spelled name)) × (name_of (spelled name) ≡ text name)

-- document 01, Names: a hexadecimal digit as it is written, 0 to 9 or A to F
abbrev pub upper_hex : ℕ → Bool
upper_hex x = within 48 57 x || within 65 70 x

-- the canonical form: a raw byte only where it stands for itself, a percent form only where its byte does not, its digits upper case
pub data Canonical : List ℕ → Type 0 where
  end : Canonical []
  raw : {b : ℕ} {s : List ℕ} → T (unreserved b) → Canonical s → Canonical (b ∷ s)
  percent :
      {h l : ℕ} {s : List ℕ} → T (upper_hex h) → T (upper_hex l) → T (not (unreserved (hex_value h * 16 + hex_value l))) → Canonical s → Canonical (37 ∷ (h ∷ (l ∷ s)))

-- a valid spelling's name is written in at most 120 bytes; what is written is canonical, reads to the same name, and is the only
-- canonical spelling that does
abbrev pub ReadThenWrite : Type 0
ReadThenWrite =
    (spelling name : List ℕ)
    → name_of spelling ≡ text name
    → (spelling_of name 120 ≡ text (spelled name))
    × Canonical (spelled name)
    × (name_of (spelled name) ≡ text name)
    × (Canonical spelling → spelling ≡ spelled name)

-- two valid spellings read to one name exactly if their names are written as one spelling
abbrev pub OneName : Type 0
OneName =
    (s t a b : List ℕ)
    → name_of s ≡ text a
    → name_of t ≡ text b
    → (a ≡ b → spelled a ≡ spelled b)
    × (spelled a ≡ spelled b → a ≡ b)
