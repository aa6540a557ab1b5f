-- Request 5: two sheets that differ only in remarks.
use Rattle.std.specs.Prelude.{List, ◌∷◌, ◌++◌, ◌≡◌, ℕ, ◌+◌, ◌≤◌, length}
use Rattle.std.proofs.Math.Option.{none}
use Rattle.octets.specs.Bytes.{number_at}
use Rattle.sheet_record.specs.Layout.{remark_tail}

-- bytes behind the header of version 2 that differ only in remarks: records in turn that are equal up to their second values, each with
-- any remark a here and any remark b there; then the same bytes, or one more such record with its remark cut short here and there.
-- n is a length byte, `body` as many bytes and the 17 of a kind and two values
pub data Alike : List ℕ → List ℕ → Type 0 where
  same : (u : List ℕ) → Alike u u
  cut : (n : ℕ) (body a b : List ℕ) → length body ≡ n + 17 → remark_tail a ≡ none → remark_tail b ≡ none → Alike (n ∷ (body ++ a)) (n ∷ (body ++ b))
  more :
      {left right : List ℕ} (n : ℕ) (body a b : List ℕ)
      → length body ≡ n + 17
      → Alike left right
      → Alike (n ∷ (body ++ (length a ∷ (a ++ left)))) (n ∷ (body ++ (length b ∷ (b ++ right))))

-- two sheets of version 2 with one header, both within 65,536 bytes. Either may be refused
pub record DifferInRemarks (s t : List ℕ) : Type 0 where
  pub header : List ℕ
  pub left : List ℕ
  pub right : List ℕ
  pub seven : length header ≡ 7
  pub version : number_at 2 header 3 ≡ 2
  pub first : s ≡ header ++ left
  pub second : t ≡ header ++ right
  pub alike : Alike left right
  pub first_most : length s ≤ 65536
  pub second_most : length t ≤ 65536
