-- The table of lines, row by row, for cell (10, 0, 7): each line's bytes are those of the definition.
use Rattle.std.specs.Prelude.{◌≡◌, refl, Bool, true, ◌&&◌, List, [], ◌∷◌, ℕ, ◌+◌, eqb}
use Rattle.basics.specs.Tests.{either}
use Rattle.basics.specs.Lists.{every, all_below}
use Rattle.room.specs.declared.Move.{Move}
use Rattle.room.specs.Room.{at}
use Rattle.room.specs.Units.{facing_move}
use Rattle.function_file.specs.Words.{word, words, hundreds, tens, ones, number_text, least_facing, most_facing, block_known, name_word, open_word, opposite, shown_facing, side_word, close_word, state_text}
use Rattle.function_file.specs.Letters.{same_list}
use Rattle.function_file.specs.Text.{place_text, line_at}

pub record Row : Type 0 where
  pub kind : ℕ
  pub facing : ℕ
  pub bytes : List ℕ

abbrev row : ℕ → ℕ → List ℕ → Row
row kind facing bytes = record { kind = kind; facing = facing; bytes = bytes }

unfoldable pub rows : List Row
rows =
    -- setblock ~10 ~ ~7 minecraft:stone replace
    row 1 0 (115 ∷ 101 ∷ 116 ∷ 98 ∷ 108 ∷ 111 ∷ 99 ∷ 107 ∷ 32 ∷ 126 ∷ 49 ∷ 48 ∷ 32 ∷ 126 ∷ 32 ∷ 126 ∷ 55 ∷ 32 ∷ 109 ∷ 105 ∷ 110 ∷ 101 ∷ 99 ∷ 114 ∷ 97 ∷ 102 ∷ 116 ∷ 58 ∷ 115 ∷ 116 ∷ 111 ∷ 110 ∷ 101 ∷ 32 ∷ 114 ∷ 101 ∷ 112 ∷ 108 ∷ 97 ∷ 99 ∷ 101 ∷ 10 ∷ [])
    -- setblock ~10 ~ ~7 minecraft:glass replace
    ∷ row 2 0 (115 ∷ 101 ∷ 116 ∷ 98 ∷ 108 ∷ 111 ∷ 99 ∷ 107 ∷ 32 ∷ 126 ∷ 49 ∷ 48 ∷ 32 ∷ 126 ∷ 32 ∷ 126 ∷ 55 ∷ 32 ∷ 109 ∷ 105 ∷ 110 ∷ 101 ∷ 99 ∷ 114 ∷ 97 ∷ 102 ∷ 116 ∷ 58 ∷ 103 ∷ 108 ∷ 97 ∷ 115 ∷ 115 ∷ 32 ∷ 114 ∷ 101 ∷ 112 ∷ 108 ∷ 97 ∷ 99 ∷ 101 ∷ 10 ∷ [])
    -- setblock ~10 ~ ~7 minecraft:redstone_wire replace
    ∷ row 3 0 (115 ∷ 101 ∷ 116 ∷ 98 ∷ 108 ∷ 111 ∷ 99 ∷ 107 ∷ 32 ∷ 126 ∷ 49 ∷ 48 ∷ 32 ∷ 126 ∷ 32 ∷ 126 ∷ 55 ∷ 32 ∷ 109 ∷ 105 ∷ 110 ∷ 101 ∷ 99 ∷ 114 ∷ 97 ∷ 102 ∷ 116 ∷ 58 ∷ 114 ∷ 101 ∷ 100 ∷ 115 ∷ 116 ∷ 111 ∷ 110 ∷ 101 ∷ 95 ∷ 119 ∷ 105 ∷ 114 ∷ 101 ∷ 32 ∷ 114 ∷ 101 ∷ 112 ∷ 108 ∷ 97 ∷ 99 ∷ 101 ∷ 10 ∷ [])
    -- setblock ~10 ~ ~7 minecraft:redstone_torch replace
    ∷ row 4 0 (115 ∷ 101 ∷ 116 ∷ 98 ∷ 108 ∷ 111 ∷ 99 ∷ 107 ∷ 32 ∷ 126 ∷ 49 ∷ 48 ∷ 32 ∷ 126 ∷ 32 ∷ 126 ∷ 55 ∷ 32 ∷ 109 ∷ 105 ∷ 110 ∷ 101 ∷ 99 ∷ 114 ∷ 97 ∷ 102 ∷ 116 ∷ 58 ∷ 114 ∷ 101 ∷ 100 ∷ 115 ∷ 116 ∷ 111 ∷ 110 ∷ 101 ∷ 95 ∷ 116 ∷ 111 ∷ 114 ∷ 99 ∷ 104 ∷ 32 ∷ 114 ∷ 101 ∷ 112 ∷ 108 ∷ 97 ∷ 99 ∷ 101 ∷ 10 ∷ [])
    -- setblock ~10 ~ ~7 minecraft:redstone_wall_torch[facing=east] replace
    ∷ row 4 2 (115 ∷ 101 ∷ 116 ∷ 98 ∷ 108 ∷ 111 ∷ 99 ∷ 107 ∷ 32 ∷ 126 ∷ 49 ∷ 48 ∷ 32 ∷ 126 ∷ 32 ∷ 126 ∷ 55 ∷ 32 ∷ 109 ∷ 105 ∷ 110 ∷ 101 ∷ 99 ∷ 114 ∷ 97 ∷ 102 ∷ 116 ∷ 58 ∷ 114 ∷ 101 ∷ 100 ∷ 115 ∷ 116 ∷ 111 ∷ 110 ∷ 101 ∷ 95 ∷ 119 ∷ 97 ∷ 108 ∷ 108 ∷ 95 ∷ 116 ∷ 111 ∷ 114 ∷ 99 ∷ 104 ∷ 91 ∷ 102 ∷ 97 ∷ 99 ∷ 105 ∷ 110 ∷ 103 ∷ 61 ∷ 101 ∷ 97 ∷ 115 ∷ 116 ∷ 93 ∷ 32 ∷ 114 ∷ 101 ∷ 112 ∷ 108 ∷ 97 ∷ 99 ∷ 101 ∷ 10 ∷ [])
    -- setblock ~10 ~ ~7 minecraft:repeater[facing=west] replace
    ∷ row 5 2 (115 ∷ 101 ∷ 116 ∷ 98 ∷ 108 ∷ 111 ∷ 99 ∷ 107 ∷ 32 ∷ 126 ∷ 49 ∷ 48 ∷ 32 ∷ 126 ∷ 32 ∷ 126 ∷ 55 ∷ 32 ∷ 109 ∷ 105 ∷ 110 ∷ 101 ∷ 99 ∷ 114 ∷ 97 ∷ 102 ∷ 116 ∷ 58 ∷ 114 ∷ 101 ∷ 112 ∷ 101 ∷ 97 ∷ 116 ∷ 101 ∷ 114 ∷ 91 ∷ 102 ∷ 97 ∷ 99 ∷ 105 ∷ 110 ∷ 103 ∷ 61 ∷ 119 ∷ 101 ∷ 115 ∷ 116 ∷ 93 ∷ 32 ∷ 114 ∷ 101 ∷ 112 ∷ 108 ∷ 97 ∷ 99 ∷ 101 ∷ 10 ∷ [])
    -- setblock ~10 ~ ~7 minecraft:repeater[facing=south] replace
    ∷ row 5 1 (115 ∷ 101 ∷ 116 ∷ 98 ∷ 108 ∷ 111 ∷ 99 ∷ 107 ∷ 32 ∷ 126 ∷ 49 ∷ 48 ∷ 32 ∷ 126 ∷ 32 ∷ 126 ∷ 55 ∷ 32 ∷ 109 ∷ 105 ∷ 110 ∷ 101 ∷ 99 ∷ 114 ∷ 97 ∷ 102 ∷ 116 ∷ 58 ∷ 114 ∷ 101 ∷ 112 ∷ 101 ∷ 97 ∷ 116 ∷ 101 ∷ 114 ∷ 91 ∷ 102 ∷ 97 ∷ 99 ∷ 105 ∷ 110 ∷ 103 ∷ 61 ∷ 115 ∷ 111 ∷ 117 ∷ 116 ∷ 104 ∷ 93 ∷ 32 ∷ 114 ∷ 101 ∷ 112 ∷ 108 ∷ 97 ∷ 99 ∷ 101 ∷ 10 ∷ [])
    -- setblock ~10 ~ ~7 minecraft:comparator[facing=west] replace
    ∷ row 6 2 (115 ∷ 101 ∷ 116 ∷ 98 ∷ 108 ∷ 111 ∷ 99 ∷ 107 ∷ 32 ∷ 126 ∷ 49 ∷ 48 ∷ 32 ∷ 126 ∷ 32 ∷ 126 ∷ 55 ∷ 32 ∷ 109 ∷ 105 ∷ 110 ∷ 101 ∷ 99 ∷ 114 ∷ 97 ∷ 102 ∷ 116 ∷ 58 ∷ 99 ∷ 111 ∷ 109 ∷ 112 ∷ 97 ∷ 114 ∷ 97 ∷ 116 ∷ 111 ∷ 114 ∷ 91 ∷ 102 ∷ 97 ∷ 99 ∷ 105 ∷ 110 ∷ 103 ∷ 61 ∷ 119 ∷ 101 ∷ 115 ∷ 116 ∷ 93 ∷ 32 ∷ 114 ∷ 101 ∷ 112 ∷ 108 ∷ 97 ∷ 99 ∷ 101 ∷ 10 ∷ [])
    -- setblock ~10 ~ ~7 minecraft:comparator[facing=north] replace
    ∷ row 6 3 (115 ∷ 101 ∷ 116 ∷ 98 ∷ 108 ∷ 111 ∷ 99 ∷ 107 ∷ 32 ∷ 126 ∷ 49 ∷ 48 ∷ 32 ∷ 126 ∷ 32 ∷ 126 ∷ 55 ∷ 32 ∷ 109 ∷ 105 ∷ 110 ∷ 101 ∷ 99 ∷ 114 ∷ 97 ∷ 102 ∷ 116 ∷ 58 ∷ 99 ∷ 111 ∷ 109 ∷ 112 ∷ 97 ∷ 114 ∷ 97 ∷ 116 ∷ 111 ∷ 114 ∷ 91 ∷ 102 ∷ 97 ∷ 99 ∷ 105 ∷ 110 ∷ 103 ∷ 61 ∷ 110 ∷ 111 ∷ 114 ∷ 116 ∷ 104 ∷ 93 ∷ 32 ∷ 114 ∷ 101 ∷ 112 ∷ 108 ∷ 97 ∷ 99 ∷ 101 ∷ 10 ∷ [])
    -- setblock ~10 ~ ~7 minecraft:lever[face=floor] replace
    ∷ row 7 0 (115 ∷ 101 ∷ 116 ∷ 98 ∷ 108 ∷ 111 ∷ 99 ∷ 107 ∷ 32 ∷ 126 ∷ 49 ∷ 48 ∷ 32 ∷ 126 ∷ 32 ∷ 126 ∷ 55 ∷ 32 ∷ 109 ∷ 105 ∷ 110 ∷ 101 ∷ 99 ∷ 114 ∷ 97 ∷ 102 ∷ 116 ∷ 58 ∷ 108 ∷ 101 ∷ 118 ∷ 101 ∷ 114 ∷ 91 ∷ 102 ∷ 97 ∷ 99 ∷ 101 ∷ 61 ∷ 102 ∷ 108 ∷ 111 ∷ 111 ∷ 114 ∷ 93 ∷ 32 ∷ 114 ∷ 101 ∷ 112 ∷ 108 ∷ 97 ∷ 99 ∷ 101 ∷ 10 ∷ [])
    -- setblock ~10 ~ ~7 minecraft:lever[face=wall,facing=east] replace
    ∷ row 7 2 (115 ∷ 101 ∷ 116 ∷ 98 ∷ 108 ∷ 111 ∷ 99 ∷ 107 ∷ 32 ∷ 126 ∷ 49 ∷ 48 ∷ 32 ∷ 126 ∷ 32 ∷ 126 ∷ 55 ∷ 32 ∷ 109 ∷ 105 ∷ 110 ∷ 101 ∷ 99 ∷ 114 ∷ 97 ∷ 102 ∷ 116 ∷ 58 ∷ 108 ∷ 101 ∷ 118 ∷ 101 ∷ 114 ∷ 91 ∷ 102 ∷ 97 ∷ 99 ∷ 101 ∷ 61 ∷ 119 ∷ 97 ∷ 108 ∷ 108 ∷ 44 ∷ 102 ∷ 97 ∷ 99 ∷ 105 ∷ 110 ∷ 103 ∷ 61 ∷ 101 ∷ 97 ∷ 115 ∷ 116 ∷ 93 ∷ 32 ∷ 114 ∷ 101 ∷ 112 ∷ 108 ∷ 97 ∷ 99 ∷ 101 ∷ 10 ∷ [])
    -- setblock ~10 ~ ~7 minecraft:stone_button[face=floor] replace
    ∷ row 8 0 (115 ∷ 101 ∷ 116 ∷ 98 ∷ 108 ∷ 111 ∷ 99 ∷ 107 ∷ 32 ∷ 126 ∷ 49 ∷ 48 ∷ 32 ∷ 126 ∷ 32 ∷ 126 ∷ 55 ∷ 32 ∷ 109 ∷ 105 ∷ 110 ∷ 101 ∷ 99 ∷ 114 ∷ 97 ∷ 102 ∷ 116 ∷ 58 ∷ 115 ∷ 116 ∷ 111 ∷ 110 ∷ 101 ∷ 95 ∷ 98 ∷ 117 ∷ 116 ∷ 116 ∷ 111 ∷ 110 ∷ 91 ∷ 102 ∷ 97 ∷ 99 ∷ 101 ∷ 61 ∷ 102 ∷ 108 ∷ 111 ∷ 111 ∷ 114 ∷ 93 ∷ 32 ∷ 114 ∷ 101 ∷ 112 ∷ 108 ∷ 97 ∷ 99 ∷ 101 ∷ 10 ∷ [])
    -- setblock ~10 ~ ~7 minecraft:stone_button[face=wall,facing=east] replace
    ∷ row 8 2 (115 ∷ 101 ∷ 116 ∷ 98 ∷ 108 ∷ 111 ∷ 99 ∷ 107 ∷ 32 ∷ 126 ∷ 49 ∷ 48 ∷ 32 ∷ 126 ∷ 32 ∷ 126 ∷ 55 ∷ 32 ∷ 109 ∷ 105 ∷ 110 ∷ 101 ∷ 99 ∷ 114 ∷ 97 ∷ 102 ∷ 116 ∷ 58 ∷ 115 ∷ 116 ∷ 111 ∷ 110 ∷ 101 ∷ 95 ∷ 98 ∷ 117 ∷ 116 ∷ 116 ∷ 111 ∷ 110 ∷ 91 ∷ 102 ∷ 97 ∷ 99 ∷ 101 ∷ 61 ∷ 119 ∷ 97 ∷ 108 ∷ 108 ∷ 44 ∷ 102 ∷ 97 ∷ 99 ∷ 105 ∷ 110 ∷ 103 ∷ 61 ∷ 101 ∷ 97 ∷ 115 ∷ 116 ∷ 93 ∷ 32 ∷ 114 ∷ 101 ∷ 112 ∷ 108 ∷ 97 ∷ 99 ∷ 101 ∷ 10 ∷ [])
    -- setblock ~10 ~ ~7 minecraft:stone_pressure_plate replace
    ∷ row 9 0 (115 ∷ 101 ∷ 116 ∷ 98 ∷ 108 ∷ 111 ∷ 99 ∷ 107 ∷ 32 ∷ 126 ∷ 49 ∷ 48 ∷ 32 ∷ 126 ∷ 32 ∷ 126 ∷ 55 ∷ 32 ∷ 109 ∷ 105 ∷ 110 ∷ 101 ∷ 99 ∷ 114 ∷ 97 ∷ 102 ∷ 116 ∷ 58 ∷ 115 ∷ 116 ∷ 111 ∷ 110 ∷ 101 ∷ 95 ∷ 112 ∷ 114 ∷ 101 ∷ 115 ∷ 115 ∷ 117 ∷ 114 ∷ 101 ∷ 95 ∷ 112 ∷ 108 ∷ 97 ∷ 116 ∷ 101 ∷ 32 ∷ 114 ∷ 101 ∷ 112 ∷ 108 ∷ 97 ∷ 99 ∷ 101 ∷ 10 ∷ [])
    -- setblock ~10 ~ ~7 minecraft:redstone_lamp replace
    ∷ row 10 0 (115 ∷ 101 ∷ 116 ∷ 98 ∷ 108 ∷ 111 ∷ 99 ∷ 107 ∷ 32 ∷ 126 ∷ 49 ∷ 48 ∷ 32 ∷ 126 ∷ 32 ∷ 126 ∷ 55 ∷ 32 ∷ 109 ∷ 105 ∷ 110 ∷ 101 ∷ 99 ∷ 114 ∷ 97 ∷ 102 ∷ 116 ∷ 58 ∷ 114 ∷ 101 ∷ 100 ∷ 115 ∷ 116 ∷ 111 ∷ 110 ∷ 101 ∷ 95 ∷ 108 ∷ 97 ∷ 109 ∷ 112 ∷ 32 ∷ 114 ∷ 101 ∷ 112 ∷ 108 ∷ 97 ∷ 99 ∷ 101 ∷ 10 ∷ [])
    -- setblock ~10 ~ ~7 minecraft:redstone_block replace
    ∷ row 11 0 (115 ∷ 101 ∷ 116 ∷ 98 ∷ 108 ∷ 111 ∷ 99 ∷ 107 ∷ 32 ∷ 126 ∷ 49 ∷ 48 ∷ 32 ∷ 126 ∷ 32 ∷ 126 ∷ 55 ∷ 32 ∷ 109 ∷ 105 ∷ 110 ∷ 101 ∷ 99 ∷ 114 ∷ 97 ∷ 102 ∷ 116 ∷ 58 ∷ 114 ∷ 101 ∷ 100 ∷ 115 ∷ 116 ∷ 111 ∷ 110 ∷ 101 ∷ 95 ∷ 98 ∷ 108 ∷ 111 ∷ 99 ∷ 107 ∷ 32 ∷ 114 ∷ 101 ∷ 112 ∷ 108 ∷ 97 ∷ 99 ∷ 101 ∷ 10 ∷ [])
    -- setblock ~10 ~ ~7 minecraft:piston[facing=east] replace
    ∷ row 12 2 (115 ∷ 101 ∷ 116 ∷ 98 ∷ 108 ∷ 111 ∷ 99 ∷ 107 ∷ 32 ∷ 126 ∷ 49 ∷ 48 ∷ 32 ∷ 126 ∷ 32 ∷ 126 ∷ 55 ∷ 32 ∷ 109 ∷ 105 ∷ 110 ∷ 101 ∷ 99 ∷ 114 ∷ 97 ∷ 102 ∷ 116 ∷ 58 ∷ 112 ∷ 105 ∷ 115 ∷ 116 ∷ 111 ∷ 110 ∷ 91 ∷ 102 ∷ 97 ∷ 99 ∷ 105 ∷ 110 ∷ 103 ∷ 61 ∷ 101 ∷ 97 ∷ 115 ∷ 116 ∷ 93 ∷ 32 ∷ 114 ∷ 101 ∷ 112 ∷ 108 ∷ 97 ∷ 99 ∷ 101 ∷ 10 ∷ [])
    -- setblock ~10 ~ ~7 minecraft:piston[facing=up] replace
    ∷ row 12 5 (115 ∷ 101 ∷ 116 ∷ 98 ∷ 108 ∷ 111 ∷ 99 ∷ 107 ∷ 32 ∷ 126 ∷ 49 ∷ 48 ∷ 32 ∷ 126 ∷ 32 ∷ 126 ∷ 55 ∷ 32 ∷ 109 ∷ 105 ∷ 110 ∷ 101 ∷ 99 ∷ 114 ∷ 97 ∷ 102 ∷ 116 ∷ 58 ∷ 112 ∷ 105 ∷ 115 ∷ 116 ∷ 111 ∷ 110 ∷ 91 ∷ 102 ∷ 97 ∷ 99 ∷ 105 ∷ 110 ∷ 103 ∷ 61 ∷ 117 ∷ 112 ∷ 93 ∷ 32 ∷ 114 ∷ 101 ∷ 112 ∷ 108 ∷ 97 ∷ 99 ∷ 101 ∷ 10 ∷ [])
    -- setblock ~10 ~ ~7 minecraft:piston[facing=down] replace
    ∷ row 12 6 (115 ∷ 101 ∷ 116 ∷ 98 ∷ 108 ∷ 111 ∷ 99 ∷ 107 ∷ 32 ∷ 126 ∷ 49 ∷ 48 ∷ 32 ∷ 126 ∷ 32 ∷ 126 ∷ 55 ∷ 32 ∷ 109 ∷ 105 ∷ 110 ∷ 101 ∷ 99 ∷ 114 ∷ 97 ∷ 102 ∷ 116 ∷ 58 ∷ 112 ∷ 105 ∷ 115 ∷ 116 ∷ 111 ∷ 110 ∷ 91 ∷ 102 ∷ 97 ∷ 99 ∷ 105 ∷ 110 ∷ 103 ∷ 61 ∷ 100 ∷ 111 ∷ 119 ∷ 110 ∷ 93 ∷ 32 ∷ 114 ∷ 101 ∷ 112 ∷ 108 ∷ 97 ∷ 99 ∷ 101 ∷ 10 ∷ [])
    ∷ []

abbrev pub row_good : Row → Bool
row_good r = block_known r.kind r.facing && same_list (line_at (at 10 0 7) r.kind r.facing) r.bytes

pub rows-good : every row_good rows ≡ true
unfolding rows same_list line_at place_text word words hundreds tens ones number_text least_facing most_facing block_known name_word open_word opposite shown_facing side_word close_word state_text
rows-good = refl

-- ---- which way a repeater faces, by positions: here its facing leads to its output, from x to x + 1 for East; the side in the text leads back, to its
-- input. Each part of a move is one more than its change, so opposite ones add up to 2

unfoldable pub opposite_moves : Move → Move → Bool
opposite_moves a b = eqb (a.x + b.x) 2 && (eqb (a.y + b.y) 2 && eqb (a.z + b.z) 2)

unfoldable pub faces_input : ℕ → ℕ → Bool
faces_input kind facing = either (block_known kind facing) (opposite_moves (facing_move facing) (facing_move (shown_facing kind facing))) true

pub input-faced : (all_below (faces_input 5) 7 && all_below (faces_input 6) 7) ≡ true
unfolding all_below opposite_moves faces_input block_known least_facing most_facing shown_facing opposite facing_move
input-faced = refl
