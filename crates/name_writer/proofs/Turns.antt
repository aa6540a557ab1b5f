-- A spelling, byte by byte.
use Rattle.std.proofs.Common.{◌≡◌, ℕ, ◌+◌, ◌≤◌, ◌<◌, List, [], ◌∷◌, ◌++◌, take, get_or, length, refl, sym, ap, ◌∙◌, arith, length-take}
use Rattle.std.proofs.lemmas.List.{take_more, take_all}
use borrow.Author.Tests.{le-leb}
use Rattle.octets.specs.Room.{text}
use Rattle.name.specs.Spelling.{spelled_byte, spelled}
use Rattle.name.specs.Name.{spelling_of}
use Rattle.name.proofs.Written.{spelled_append, spelled_one, spelled_length, spelling_whole}

pub spelled_none : spelled [] ≡ []
unfolding spelled
spelled_none = refl

-- one byte more, and what is spelled so far leaves room for it
pub spelled_more : (name : List ℕ) (i : ℕ) → i < length name → spelled (take (i + 1) name) ≡ spelled (take i name) ++ spelled_byte (get_or name i 0)
spelled_more name i h =
    ap spelled (take_more name i 0 h)
    ∙ spelled_append (take i name) (get_or name i 0 ∷ [])
    ∙ ap (λ (l : List ℕ). spelled (take i name) ++ l) (spelled_one (get_or name i 0))

pub spelled_room : (name : List ℕ) (i : ℕ) → i < length name → length name ≤ 40 → length (spelled (take i name)) + 3 ≤ 120
spelled_room name i h l = omega (arith, spelled_length (take i name), length-take i name)

pub spelled_all : (name : List ℕ) (i : ℕ) → length name ≤ i → 1 ≤ length name → length name ≤ 40 → text (spelled (take i name)) ≡ spelling_of name 120
spelled_all name i h p q = ap (λ (l : List ℕ). text (spelled l)) (take_all i name h) ∙ sym (spelling_whole name (simp (le-leb 1 (length name) p, le-leb (length name) 40 q)))
