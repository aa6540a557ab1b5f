-- The power that this program takes, where free answer three leaves a choice. A reader need believe only its law, `power_is` of
-- proofs/Kelvin: it is a power as specs/Power says.
use Rattle.std.specs.Prelude.{List, [], ◌∷◌, ℕ, ◌+◌, ◌*◌, ◌/◌, ◌%◌, get_or}

-- 273150000 times ten to 65,536 i millionths, rounded down
unfoldable pub coarse : List ℕ
coarse = 273150000 ∷ 317641475 ∷ 369379853 ∷ 429545530 ∷ 499511170 ∷ 580873019 ∷ 675487325 ∷ 785512688 ∷ 913459306 ∷ 1062246245 ∷ 1235268039 ∷ 1436472131 ∷ 1670448938 ∷ 1942536575 ∷ 2258942648 ∷ 2626885872 ∷ 3054760771 ∷ 3552329192 ∷ 4130943022 ∷ 4803803174 ∷ 5586260768 ∷ 6496167356 ∷ 7554282207 ∷ 8784745917 ∷ 10215631176 ∷ 11879583236 ∷ 13814564703 ∷ 16064721643 ∷ 18681390766 ∷ 21724270653 ∷ []

-- 2^29 times ten to 2,048 i millionths, rounded down
unfoldable pub middle : List ℕ
middle = 536870912 ∷ 539408609 ∷ 541958303 ∷ 544520048 ∷ 547093902 ∷ 549679922 ∷ 552278166 ∷ 554888691 ∷ 557511556 ∷ 560146819 ∷ 562794538 ∷ 565454772 ∷ 568127581 ∷ 570813024 ∷ 573511161 ∷ 576222051 ∷ 578945755 ∷ 581682334 ∷ 584431847 ∷ 587194358 ∷ 589969926 ∷ 592758614 ∷ 595560484 ∷ 598375597 ∷ 601204017 ∷ 604045807 ∷ 606901029 ∷ 609769747 ∷ 612652026 ∷ 615547928 ∷ 618457519 ∷ 621380863 ∷ []

-- 2^29 times ten to 64 i millionths, rounded down
unfoldable pub fine : List ℕ
fine = 536870912 ∷ 536950034 ∷ 537029167 ∷ 537108313 ∷ 537187470 ∷ 537266638 ∷ 537345819 ∷ 537425011 ∷ 537504215 ∷ 537583430 ∷ 537662657 ∷ 537741896 ∷ 537821146 ∷ 537900408 ∷ 537979682 ∷ 538058967 ∷ 538138265 ∷ 538217573 ∷ 538296894 ∷ 538376226 ∷ 538455570 ∷ 538534926 ∷ 538614293 ∷ 538693672 ∷ 538773063 ∷ 538852465 ∷ 538931879 ∷ 539011305 ∷ 539090742 ∷ 539170192 ∷ 539249652 ∷ 539329125 ∷ []

-- the power at the multiple of 2,048 millionths at or below g
unfoldable pub stride_of : ℕ → ℕ
stride_of g = get_or coarse (g / 65536) 0 * get_or middle (g / 2048 % 32) 0 / 536870912

-- the power at the multiple of 64 millionths at or below g
unfoldable pub step_of : ℕ → ℕ
step_of g = stride_of g * get_or fine (g / 64 % 32) 0 / 536870912

-- the straight line from there: 64 millionths further it has grown by 64 / 434262
unfoldable pub power_of : ℕ → ℕ
power_of g = step_of g + step_of g * (g % 64) / 434262
