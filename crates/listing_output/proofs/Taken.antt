-- What an output took of a listing.
-- Assumes nothing.
use Rattle.std.proofs.Common.{◌≡◌, ℕ, ◌+◌, ◌-◌, ◌≤◌, List, [], ◌++◌, Some, None, sym, ap, ◌∙◌, subst, arith, take, drop, append_assoc, append-nil}
use Rattle.std.proofs.lemmas.List.{drop-drop}
use Rattle.std.proofs.Math.Seq.{take-add}
use Rattle.std.specs.Prelude.{Option}
use Rattle.std.specs.Io.KnownBytes.{Appends}
use Rattle.octets.specs.Bytes.{part}
use Rattle.listing_output.specs.Output.{Takes}

appends_none : (a : Option (List ℕ)) → Appends a a []
appends_none None = tt
appends_none (Some x) = sym (append-nil x)

appends_more : (a b c : Option (List ℕ)) (bs cs : List ℕ) → Appends a b bs → Appends b c cs → Appends a c (bs ++ cs)
appends_more None b c bs cs p q = tt
appends_more (Some x) None c bs cs p q = absurd p
appends_more (Some x) (Some y) None bs cs p q = absurd q
appends_more (Some x) (Some y) (Some z) bs cs p q = q ∙ ap (λ l. l ++ cs) p ∙ append_assoc x bs cs

part_join : (listing : List ℕ) (from middle end : ℕ) → from ≤ middle → middle ≤ end → part listing from (middle - from) ++ part listing middle (end - middle) ≡ part listing from (end - from)
part_join listing from middle end h k =
    let n : ℕ = middle - from in
    let m : ℕ = end - middle in
    let all : n + m ≡ end - from = omega arith in
    let there : from + n ≡ middle = omega arith in
    ap (λ (l : List ℕ). part listing from n ++ take m l) (ap (λ (i : ℕ). drop i listing) (sym there) ∙ sym (drop-drop n from listing))
    ∙ sym (take-add n m (drop from listing))
    ∙ ap (λ (i : ℕ). take i (drop from listing)) all

-- nothing yet
pub takes_none : (a : Option (List ℕ)) (listing : List ℕ) (from : ℕ) → Takes a a listing from from
takes_none a listing from =
    let z : 0 ≡ from - from = omega arith in
    (omega arith, subst (λ (n : ℕ). Appends a a (part listing from n)) z (appends_none a))

-- and then some more
pub takes_more : (a b c : Option (List ℕ)) (listing : List ℕ) (from middle end : ℕ) → Takes a b listing from middle → Takes b c listing middle end → Takes a c listing from end
takes_more a b c listing from middle end p q = (
  omega (arith, p.0, q.0),
  subst (Appends a c) (part_join listing from middle end p.0 q.0) (appends_more a b c (part listing from (middle - from)) (part listing middle (end - middle)) p.1 q.1),
)
