-- What a spelling reads to, by the bytes that are kept of it, whether there were more, and what is left.
use Rattle.std.proofs.Common.{◌≡◌, ℕ, ◌≤◌, ◌<◌, Bool, true, false, List, [], ◌∷◌, ◌++◌, length, ◌⊎◌, inl, inr, refl, sym, ◌∙◌, arith, append-nil}
use borrow.Author.Tests.{le-leb}
use Rattle.octets.specs.Room.{Text, text, refused}
use Rattle.name.specs.Spelling.{Reading, wrong, bytes, reading}
use Rattle.name.specs.Name.{judged, name_of}

abbrev pub so_far : List ℕ → Bool → Reading → Text
so_far kept too_long wrong = refused 7
so_far kept true (bytes bs) = refused 8
so_far kept false (bytes bs) = judged (bytes (kept ++ bs))

-- before the bytes that are left
pub record Kept (spelling kept rest : List ℕ) (too_long : Bool) : Type 0 where
  pub reads : name_of spelling ≡ so_far kept too_long (reading rest)
  pub few : length kept ≤ 40
  pub full : too_long ≡ true → length kept ≡ 40

module _ {s kept : List ℕ} where
  at_end : (rest : List ℕ) (too_long : Bool) → Kept s kept rest too_long → length rest ≡ 0 → name_of s ≡ so_far kept too_long (bytes [])
  unfolding reading
  at_end [] too_long k e = k.reads
  at_end (x ∷ rest) too_long k e = absurd (omega arith)

  pub kept_refused : {rest : List ℕ} {too_long : Bool} → Kept s kept rest too_long → length rest ≡ 0 → (too_long ≡ true) ⊎ (length kept ≡ 0) → refused 8 ≡ name_of s
  kept_refused {rest} {too_long} k e h = sym (at_end rest too_long k e ∙ go kept too_long h)
    where
      go : (ks : List ℕ) (t : Bool) → (t ≡ true) ⊎ (length ks ≡ 0) → so_far ks t (bytes []) ≡ refused 8
      go ks true h = refl
      go [] false h = refl
      go (x ∷ ks) false (inl f) = absurd (cc)
      go (x ∷ ks) false (inr f) = absurd (omega arith)

  pub kept_whole : {rest : List ℕ} {too_long : Bool} → Kept s kept rest too_long → length rest ≡ 0 → too_long ≡ false → 0 < length kept → text kept ≡ name_of s
  kept_whole {rest} {too_long} k e f h =
      sym (at_end rest too_long k e ∙ simp (f, append-nil kept, le-leb 1 (length kept) (omega arith), le-leb (length kept) 40 k.few))
