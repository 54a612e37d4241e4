-- Worked rows: snapshots of version 2, and slots of other widths.
use Rattle.std.proofs.Common.{◌≡◌, ℕ, false, List, [], ◌∷◌, ◌++◌, refl, drop}
use Rattle.std.specs.Prelude.{codes, ◌^◌, slice_set, Some}
use Rattle.std.specs.Fmt.{digits}
use Rattle.ph_specs.specs.Digits.{bytes_of}
use Rattle.ph_specs.specs.Named.{lookup}
use Rattle.ph_specs.specs.State.{Files, Outcome, new_engine}
use Rattle.ph_specs.specs.Engine.{run, written}
use Rattle.ph_specs.specs.Program.{check_line}
use Rattle.ph_specs.proofs.RowsCommands.{text, output}

-- the bytes of two.pht in version 1, and in version 2
abbrev two : List ℕ
two =
    bytes_of (0x5048543100020100 ∷ 0x1f00000001000001 ∷ 0xe000000000000000 ∷ 0 ∷ 0x0000000002000000 ∷ 0x0c00000000000000 ∷ 1 ∷ 2 ∷ [])

abbrev two_2 : List ℕ
two_2 = bytes_of (0x5048543200022001 ∷ []) ++ drop 8 two

abbrev migrated : Outcome
migrated =
    run (2 ^ 30) new_engine ((codes "two.pht", two) ∷ []) [] (codes "load two.pht" ∷ codes "save two2.pht" ∷ codes "load two2.pht" ∷ [])

migrated_snapshot : written migrated ≡ text (codes "loaded 2" ∷ codes "saved 64" ∷ codes "loaded 2" ∷ [])
unfolding digits
migrated_snapshot = refl

migrated_bytes : lookup (codes "two2.pht") migrated.files ≡ Some two_2
unfolding digits
migrated_bytes = refl

-- one byte of it altered
abbrev altered : Files
altered =
    (codes "b5-10", slice_set two_2 5 0x10) ∷ (codes "b5-11", slice_set two_2 5 0x11) ∷
    (codes "b6-00", slice_set two_2 6 0) ∷ (codes "b6-1f", slice_set two_2 6 0x1f) ∷
    (codes "b6-3f", slice_set two_2 6 0x3f) ∷ (codes "b7-00", slice_set two_2 7 0) ∷ (codes "b7-02", slice_set two_2 7 2) ∷ []

altered_headers : written (run (2 ^ 30) new_engine altered []
    (codes "put 9 9 9" ∷ codes "load b5-11" ∷ codes "load b5-10" ∷ codes "load b6-00" ∷ codes "load b6-3f" ∷
    codes "load b6-1f" ∷ codes "load b7-02" ∷ codes "load b7-00" ∷ codes "get 9 9" ∷ []))
    ≡ text (codes "new" ∷ codes "bad header 5" ∷ codes "bad dims" ∷ codes "bad header 6" ∷ codes "bad header 6" ∷
    codes "bad dims" ∷ codes "bad header 7" ∷ codes "bad extra 8" ∷ codes "value 9" ∷ [])
unfolding digits
altered_headers = refl

altered_widths : check_line (2 ^ 30) altered false (codes "b6-1f") ≡ text (codes "bad node 8" ∷ [])
unfolding digits
altered_widths = refl

-- a header of version 1 whose digit of the version is altered is an empty one of version 2 and width 1
altered_version : written (run (2 ^ 30) new_engine ((codes "v.pht", slice_set two 3 0x32) ∷ []) [] (codes "load v.pht" ∷ [])) ≡ text (codes "bad dims" ∷ [])
unfolding digits
altered_version = refl

abbrev narrow : Outcome
narrow =
    run (2 ^ 30) new_engine [] [] (codes "open points 1 bits 1" ∷ codes "put 0 5" ∷ codes "put -1 6" ∷ codes "put 1 7" ∷ codes "stats" ∷ codes "save w1.pht" ∷ [])

one_bit_wide : written narrow ≡
    text (codes "opened" ∷ codes "new" ∷ codes "new" ∷ codes "error range" ∷
    codes "rows 2 nodes 1 linear 1 cube 0 words 4" ∷ codes "saved 40" ∷ [])
unfolding digits
one_bit_wide = refl

one_bit_wide_bytes : lookup (codes "w1.pht") narrow.files ≡ Some (bytes_of (0x5048543200010101 ∷ 0x0000000002000000 ∷ 0x1000000000000000 ∷ 6 ∷ 5 ∷ []))
unfolding digits
one_bit_wide_bytes = refl

widest_distance : output (codes "open points 1 bits 62" ∷ codes "put 2305843009213693951 1" ∷
    codes "near -2305843009213693952 1" ∷ []) ≡
    text (codes "opened" ∷ codes "new" ∷ codes "hit 21267647932558653957237540927630737409 2305843009213693951 1" ∷
    codes "end 1" ∷ [])
unfolding digits
widest_distance = refl

refused_widths : output (codes "open points 2 bits 63" ∷ codes "open points 2 bits" ∷ codes "open points 2 bits x" ∷
    codes "open points 2 fit 8" ∷ codes "open points 2 bits 8 max 1" ∷ codes "put 128 0 1" ∷ codes "put 127 0 1" ∷
    codes "put 0 0 1" ∷ [])
    ≡ text (codes "error dims" ∷ codes "error count" ∷ codes "error number" ∷ codes "error name" ∷ codes "opened" ∷
    codes "error range" ∷ codes "new" ∷ codes "error full" ∷ [])
unfolding digits
refused_widths = refl

-- the range of a number behind `bits` is another than that behind `max`
numbers_of_open : output (codes "open points 2 bits 4294967296" ∷ codes "open points 2 max 4294967296" ∷
    codes "open points 2 fit 4294967296" ∷ codes "open points 2 max 18446744073709551616" ∷
    codes "open fit 2 bits 4294967296" ∷ codes "open points 2 bits 8 fit 4294967296" ∷
    codes "open points 2 max 8 bits 4294967296" ∷ [])
    ≡ text (codes "error number" ∷ codes "opened" ∷ codes "error name" ∷ codes "error number" ∷ codes "error number" ∷ codes "error name" ∷ codes "error name" ∷ [])
unfolding digits
numbers_of_open = refl
