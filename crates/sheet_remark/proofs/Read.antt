-- A remark is handed back as it was written.
use mathlib.Core.List.{List, ◌∷◌, ◌++◌}
use mathlib.Core.Option.{Option, some}
use mathlib.Core.Path.{◌≡◌, refl, ap, ◌∙◌}
use Prim.Native.Nat.{ℕ, suc, ◌+◌}
use native.Mathlib.Omega.{arith}
use lib.ListN.{length, take, drop}
use lib.Seq.{take-append-le, take_all, drop_at, drop-append-add}
use Rattle.octets.specs.Bytes.{part}
use Rattle.sheet_record.specs.Layout.{Layout, layout_in}
use Rattle.sheet_record.specs.Front.{values_end}
use Rattle.sheet_record.proofs.Tails.{layout_two, whole_remark}
use Rattle.sheet_remark.specs.Remark.{remark_at}
use Rattle.sheet_remark.specs.Read.{RemarkRead}

pub remark_read : RemarkRead
remark_read front remark behind r v e =
    let rest : List ℕ = length remark ∷ (remark ++ behind) in
    let s : List ℕ = front ++ rest in
    let tailed : (layout_in s).tail (drop (values_end r) s) ≡ some (suc (length remark)) =
    ap (λ (i : ℕ). (layout_in s).tail (drop i s)) e
    ∙ ap (layout_in s).tail (drop_at front rest (length front) refl)
    ∙ ap (λ (y : Layout). y.tail rest) (layout_two s v)
    ∙ whole_remark remark behind
    in
    ap (λ (o : Option ℕ). part s (remark_at (values_end r) o).start (remark_at (values_end r) o).len) tailed
    ∙ ap (λ (i : ℕ). part s (i + 1) (length remark)) e
    ∙ ap (take (length remark)) (drop-append-add front rest 1)
    ∙ take-append-le (length remark) remark behind (omega arith)
    ∙ take_all (length remark) remark (omega arith)
