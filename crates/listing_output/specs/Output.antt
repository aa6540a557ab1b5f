-- What the listing program keeps account of its output.
use Rattle.std.specs.Prelude.{List, ◌≡◌, ℕ, ◌-◌, ◌≤◌, length, Option, Result, Ok, Err, IsOk}
use Rattle.std.specs.Io.KnownBytes.{Appends}
use Rattle.octets.specs.Bytes.{part}
use Rattle.listing_output.specs.declared.Progress.{Progress}
use Rattle.listing_output.specs.declared.Lost.{Lost}

-- bytes that are the next of a listing of which `done` bytes are written
abbrev pub Next : List ℕ → ℕ → List ℕ → Type 0
Next listing done bytes = bytes ≡ part listing done (length bytes)

-- how many bytes are written
abbrev pub done_of : Result Progress Lost → ℕ
done_of (Ok progress) = progress.done
done_of (Err lost) = lost.done

-- a listing is written up to a place, or up to a write that failed
pub record Reached (end : ℕ) (w : Result Progress Lost) : Type 0 where
  pub inside : done_of w ≤ end
  pub whole : IsOk w → done_of w ≡ end

-- an output, where it tells what it holds, took the bytes of a listing from a place up to another
abbrev pub Takes : Option (List ℕ) → Option (List ℕ) → List ℕ → ℕ → ℕ → Type 0
Takes old new listing from end = (from ≤ end) × Appends old new (part listing from (end - from))

-- an output, where it tells what it holds, took the bytes of a listing that are accounted for
abbrev pub Wrote : Option (List ℕ) → Option (List ℕ) → List ℕ → Result Progress Lost → Type 0
Wrote old new listing w = Takes old new listing 0 (done_of w)
