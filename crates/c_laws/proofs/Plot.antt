-- What a search holds can be drawn exactly, and is drawn so.
use Rattle.std.specs.Prelude.{Ok, Err}
use mathlib.Core.Bool.{Bool, true, false, cond}
use mathlib.Core.List.{List}
use mathlib.Core.Option.{none, some}
use mathlib.Core.Path.{◌≡◌, refl, sym, ap, ◌∙◌, subst}
use Prim.Native.Nat.{ℕ}
use lib.Dec.{T}
use lib.IntN.{ℤ}
use Rattle.sheet_search.specs.Find.{Lookup}
use Rattle.air.specs.declared.Logs.{Logs}
use Rattle.air.specs.Held.{Held}
use Rattle.air.specs.Choices.{chosen}
use Rattle.mark.specs.Mark.{point_of, shown_value, mark_of, Drawable, CanDraw}
use Rattle.mark.proofs.Placed.{stands}
use Rattle.drawable.proofs.Answers.{answer_shown}
use Rattle.calculator.specs.Search.{locate, answer_at, search_by}
use Rattle.flat_parts.specs.Flat.{flat_mark}
use Rattle.flat.specs.Back.{bit, held_in}
use Rattle.flat.proofs.Back.{settled, back}
use Rattle.c_laws.specs.Plot.{Points, PlotExact}

at_shown : (f : Lookup) → CanDraw (answer_at chosen f)
at_shown (Err n) = tt
at_shown (Ok r) = answer_shown r.kind r.first r.second

pub search_shown : (s spelling : List ℕ) → CanDraw (search_by chosen s spelling)
unfolding search_by
search_shown s spelling = at_shown (locate s spelling)

-- the mark of Y and a value that can be drawn
points : (y v : ℤ) → Drawable y v → Points (flat_mark (Ok (point_of y v))) y v
unfolding flat_mark
points y v d = let p = stands y v d in record { no_blank = refl; across = p.across; up = p.up }

-- what is held with a Y and a value is drawn as their point
drawn : (h : Held) (l : Logs) (v : ℤ) → h.logs ≡ some l → h.value ≡ some v → CanDraw h → Points (flat_mark (mark_of h)) l.y (shown_value h.letter v)
unfolding mark_of
drawn h l v e f d =
    let k : Drawable l.y (shown_value h.letter v) = rw (e, f) at d in
    rw (e, f) (points l.y (shown_value h.letter v) k)

told : {A : Type 0} (b : Bool) (x : A) → T b → cond b (some x) none ≡ some x
told true x t = refl
told false x t = absurd t

pub plot_exact : PlotExact
plot_exact s spelling a c e f one sixteen =
    let h = search_by chosen s spelling in
    let told_of : held_in a ≡ settled h = ap held_in e ∙ back h in
    let l : h.logs ≡ some _ = sym (ap (λ (g : Held). g.logs) told_of) ∙ told (bit 1 a.carries) _ one in
    let v : h.value ≡ some a.value = sym (ap (λ (g : Held). g.value) told_of) ∙ told (bit 16 a.carries) a.value sixteen in
    let letter : h.letter ≡ a.letter = sym (ap (λ (g : Held). g.letter) told_of) in
    rw f (subst (λ (k : ℕ). Points (flat_mark (mark_of h)) a.y (shown_value k a.value)) letter (drawn h _ a.value l v (search_shown s spelling)))
