-- The logarithm that this program takes, where free answer one leaves a choice. A reader need believe only its law,
-- `log_is` of proofs/Ratios: it is a logarithm as specs/Log says. Logarithms here are in units of 10^-10 up to `log_of`.
use Rattle.std.specs.Prelude.{List, [], ◌∷◌, ℕ, ◌+◌, ◌-◌, ◌*◌, ◌/◌, ◌%◌, ◌^◌, ℤ, pos, ◌-ℤ◌, get_or}
use Rattle.std.specs.Int.Count.{count_leading_zeros}

-- 2^36 / (32 + i), rounded up
unfoldable pub factors : List ℕ
factors = 2147483648 ∷ 2082408386 ∷ 2021161081 ∷ 1963413622 ∷ 1908874354 ∷ 1857283156 ∷ 1808407283 ∷ 1762037866 ∷ 1717986919 ∷ 1676084799 ∷ 1636178018 ∷ 1598127366 ∷ 1561806290 ∷ 1527099484 ∷ 1493901669 ∷ 1462116527 ∷ 1431655766 ∷ 1402438301 ∷ 1374389535 ∷ 1347440721 ∷ 1321528399 ∷ 1296593901 ∷ 1272582903 ∷ 1249445032 ∷ 1227133514 ∷ 1205604856 ∷ 1184818565 ∷ 1164736894 ∷ 1145324613 ∷ 1126548799 ∷ 1108378658 ∷ 1090785346 ∷ []

-- the logarithm of 2^31 over that factor, rounded down
unfoldable pub factor_logs : List ℕ
factor_logs = 0 ∷ 133639615 ∷ 263289386 ∷ 389180658 ∷ 511525223 ∷ 630517455 ∷ 746336181 ∷ 859146284 ∷ 969100128 ∷ 1076338782 ∷ 1180993119 ∷ 1283184772 ∷ 1383026980 ∷ 1480625351 ∷ 1576078531 ∷ 1669478794 ∷ 1760912588 ∷ 1850461016 ∷ 1938200259 ∷ 2024201975 ∷ 2108533652 ∷ 2191258911 ∷ 2272437813 ∷ 2352127110 ∷ 2430380483 ∷ 2507248769 ∷ 2582780150 ∷ 2657020332 ∷ 2730012717 ∷ 2801798566 ∷ 2872417107 ∷ 2941905707 ∷ []

-- the logarithm of 1 + i / 1024, rounded down
unfoldable pub points : List ℕ
points = 0 ∷ 4239087 ∷ 8474041 ∷ 12704869 ∷ 16931580 ∷ 21154181 ∷ 25372680 ∷ 29587086 ∷ 33797406 ∷ 38003648 ∷ 42205821 ∷ 46403931 ∷ 50597987 ∷ 54787997 ∷ 58973968 ∷ 63155909 ∷ 67333826 ∷ 71507728 ∷ 75677623 ∷ 79843517 ∷ 84005420 ∷ 88163338 ∷ 92317278 ∷ 96467250 ∷ 100613260 ∷ 104755315 ∷ 108893424 ∷ 113027593 ∷ 117157831 ∷ 121284145 ∷ 125406542 ∷ 129525029 ∷ []

-- from that point to the next
unfoldable pub rises : List ℕ
rises = 4239087 ∷ 4234954 ∷ 4230828 ∷ 4226711 ∷ 4222601 ∷ 4218499 ∷ 4214406 ∷ 4210320 ∷ 4206242 ∷ 4202173 ∷ 4198110 ∷ 4194056 ∷ 4190010 ∷ 4185971 ∷ 4181941 ∷ 4177917 ∷ 4173902 ∷ 4169895 ∷ 4165894 ∷ 4161903 ∷ 4157918 ∷ 4153940 ∷ 4149972 ∷ 4146010 ∷ 4142055 ∷ 4138109 ∷ 4134169 ∷ 4130238 ∷ 4126314 ∷ 4122397 ∷ 4118487 ∷ 4114586 ∷ []

-- the logarithm of (1024 + i + r / 2^32) / 1024, on the chord between two points
unfoldable pub chord_of : ℕ → ℕ → ℕ
chord_of i r = get_or points i 0 + r * get_or rises i 0 / 4294967296

-- the logarithm of p / 2^62, for p from 2^62 to 33/32 of it
unfoldable pub near_one : ℕ → ℕ
near_one p = chord_of (p / 4503599627370496 % 32) (p / 1048576 % 4294967296)

-- the logarithm of m / 2^31, for m from 2^31 to 2^32
unfoldable pub mantissa_of : ℕ → ℕ
mantissa_of m = get_or factor_logs (m / 67108864 % 32) 0 + near_one (m * get_or factors (m / 67108864 % 32) 0)

-- the logarithm of n: its 32 leading bits, and 3010299956, the logarithm of 2, for each of 63 shifts that was not made
unfoldable pub lg_of : ℕ → ℕ
lg_of n = mantissa_of (n * 2 ^ count_leading_zeros 64 n / 4294967296) + 189648897228 - count_leading_zeros 64 n * 3010299956

-- the logarithm of n / d plus 20, which is not negative, rounded to whole millionths
abbrev pub raised_log : ℕ → ℕ → ℕ
raised_log n d = (lg_of n + 200000005000 - lg_of d) / 10000

-- the logarithm of n / d in whole millionths
unfoldable pub log_of : ℕ → ℕ → ℤ
log_of n d = pos (raised_log n d) -ℤ pos 20000000
