-- What the listing program keeps account of an input. The system tells how many bytes a read gave, not which.
use Rattle.std.specs.Prelude.{◌≡◌, ◌≤◌}
use Rattle.listing_input.specs.declared.Input.{Input}

-- an input was read until a read gave nothing, unless it is longer than a sheet or a list may be
abbrev pub ToEnd : Input → Type 0
ToEnd i = i.len ≤ 65536 → i.last ≡ 0
