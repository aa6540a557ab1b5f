-- Bytes that are the next of a listing.
-- Assumes nothing.
use mathlib.Core.List.{List}
use mathlib.Core.Path.{◌≡◌, sym, ap, ◌∙◌, subst}
use Prim.Native.Nat.{ℕ, ◌+◌, ◌-◌, ◌≤◌}
use native.Mathlib.Omega.{arith}
use lib.ListN.{length, take, drop, length-take, length-drop}
use lib.Seq.{length-take-le, take_all, take-add, drop_at, drop-drop}
use Rattle.octets.specs.Bytes.{part}
use Rattle.listing_output.specs.Output.{Next}

-- all of a listing
pub next_whole : (listing bytes : List ℕ) → bytes ≡ listing → Next listing 0 bytes
next_whole listing bytes e = e ∙ sym (take_all (length bytes) listing (omega (arith, ap length e)))

pub rest_size : (bytes : List ℕ) (at : ℕ) → length (part bytes at (length bytes - at)) ≡ length bytes - at
rest_size bytes at = length-take-le (length bytes - at) (drop at bytes) (omega (arith, length-drop at bytes))

next_at : (listing bytes : List ℕ) (done at : ℕ) → Next listing done bytes → at ≤ length bytes → Next listing (done + at) (part bytes at (length bytes - at))
next_at listing bytes done at e h =
    let l : List ℕ = drop done listing in
    let k : ℕ = length bytes - at in
    let i : at ≤ length l = omega (arith, ap length e, length-take (length bytes) l) in
    let s : at + k ≡ length bytes = omega arith in
    let d : drop at bytes ≡ take k (drop at l) =
    ap (drop at) (e ∙ ap (λ (n : ℕ). take n l) (sym s) ∙ take-add at k l)
    ∙ drop_at (take at l) (take k (drop at l)) at (length-take-le at l i) in
    let r : part bytes at k ≡ drop at bytes = take_all k (drop at bytes) (omega (arith, length-drop at bytes)) in
    r ∙ d ∙ ap (take k) (drop-drop at done listing) ∙ ap (part listing (done + at)) (sym (rest_size bytes at))

-- what is left of them, where some are written
pub next_rest : (listing bytes : List ℕ) (done written : ℕ) → Next listing done bytes → done ≤ written → written ≤ done + length bytes → Next listing written (part bytes (written - done) (length bytes - (written - done)))
next_rest listing bytes done written e h k =
    let at : ℕ = written - done in
    let there : done + at ≡ written = omega arith in
    subst (λ (n : ℕ). Next listing n (part bytes at (length bytes - at))) there (next_at listing bytes done at e (omega arith))
