-- The words of a function file, by their bytes, and which of them a block's state has: the game's Java Edition from 1.13 on. This is the one table of names
-- and states; docs/MORE-RULES.md shows it line by line. Definitions alone.
use Rattle.std.specs.Prelude.{Bool, ◌&&◌, List, [], ◌∷◌, ◌++◌, ℕ, ◌+◌, ◌-◌, ◌/◌, ◌%◌, eqb, ltb, leb, get_or}
use Rattle.basics.specs.Tests.{either}

-- ---- the table: ten digits, no word, what stands around the numbers and the state, the names by kind from 15 on, the sides by facing from 27 on, what
-- stands around a side

unfoldable pub words : List (List ℕ)
words =
    (48 ∷ [])  -- 0: '0'
    ∷ (49 ∷ [])  -- 1: '1'
    ∷ (50 ∷ [])  -- 2: '2'
    ∷ (51 ∷ [])  -- 3: '3'
    ∷ (52 ∷ [])  -- 4: '4'
    ∷ (53 ∷ [])  -- 5: '5'
    ∷ (54 ∷ [])  -- 6: '6'
    ∷ (55 ∷ [])  -- 7: '7'
    ∷ (56 ∷ [])  -- 8: '8'
    ∷ (57 ∷ [])  -- 9: '9'
    ∷ ([])  -- 10: ''
    ∷ (32 ∷ 126 ∷ [])  -- 11: ' ~'
    ∷ (115 ∷ 101 ∷ 116 ∷ 98 ∷ 108 ∷ 111 ∷ 99 ∷ 107 ∷ [])  -- 12: 'setblock'
    ∷ (32 ∷ 109 ∷ 105 ∷ 110 ∷ 101 ∷ 99 ∷ 114 ∷ 97 ∷ 102 ∷ 116 ∷ 58 ∷ [])  -- 13: ' minecraft:'
    ∷ (32 ∷ 114 ∷ 101 ∷ 112 ∷ 108 ∷ 97 ∷ 99 ∷ 101 ∷ 10 ∷ [])  -- 14: ' replace(newline)'
    ∷ (114 ∷ 101 ∷ 100 ∷ 115 ∷ 116 ∷ 111 ∷ 110 ∷ 101 ∷ 95 ∷ 119 ∷ 97 ∷ 108 ∷ 108 ∷ 95 ∷ 116 ∷ 111 ∷ 114 ∷ 99 ∷ 104 ∷ [])  -- 15: 'redstone_wall_torch'
    ∷ (115 ∷ 116 ∷ 111 ∷ 110 ∷ 101 ∷ [])  -- 16: 'stone'
    ∷ (103 ∷ 108 ∷ 97 ∷ 115 ∷ 115 ∷ [])  -- 17: 'glass'
    ∷ (114 ∷ 101 ∷ 100 ∷ 115 ∷ 116 ∷ 111 ∷ 110 ∷ 101 ∷ 95 ∷ 119 ∷ 105 ∷ 114 ∷ 101 ∷ [])  -- 18: 'redstone_wire'
    ∷ (114 ∷ 101 ∷ 100 ∷ 115 ∷ 116 ∷ 111 ∷ 110 ∷ 101 ∷ 95 ∷ 116 ∷ 111 ∷ 114 ∷ 99 ∷ 104 ∷ [])  -- 19: 'redstone_torch'
    ∷ (114 ∷ 101 ∷ 112 ∷ 101 ∷ 97 ∷ 116 ∷ 101 ∷ 114 ∷ [])  -- 20: 'repeater'
    ∷ (99 ∷ 111 ∷ 109 ∷ 112 ∷ 97 ∷ 114 ∷ 97 ∷ 116 ∷ 111 ∷ 114 ∷ [])  -- 21: 'comparator'
    ∷ (108 ∷ 101 ∷ 118 ∷ 101 ∷ 114 ∷ [])  -- 22: 'lever'
    ∷ (115 ∷ 116 ∷ 111 ∷ 110 ∷ 101 ∷ 95 ∷ 98 ∷ 117 ∷ 116 ∷ 116 ∷ 111 ∷ 110 ∷ [])  -- 23: 'stone_button'
    ∷ (115 ∷ 116 ∷ 111 ∷ 110 ∷ 101 ∷ 95 ∷ 112 ∷ 114 ∷ 101 ∷ 115 ∷ 115 ∷ 117 ∷ 114 ∷ 101 ∷ 95 ∷ 112 ∷ 108 ∷ 97 ∷ 116 ∷ 101 ∷ [])  -- 24: 'stone_pressure_plate'
    ∷ (114 ∷ 101 ∷ 100 ∷ 115 ∷ 116 ∷ 111 ∷ 110 ∷ 101 ∷ 95 ∷ 108 ∷ 97 ∷ 109 ∷ 112 ∷ [])  -- 25: 'redstone_lamp'
    ∷ (114 ∷ 101 ∷ 100 ∷ 115 ∷ 116 ∷ 111 ∷ 110 ∷ 101 ∷ 95 ∷ 98 ∷ 108 ∷ 111 ∷ 99 ∷ 107 ∷ [])  -- 26: 'redstone_block'
    ∷ (112 ∷ 105 ∷ 115 ∷ 116 ∷ 111 ∷ 110 ∷ [])  -- 27: 'piston'
    ∷ (110 ∷ 111 ∷ 114 ∷ 116 ∷ 104 ∷ [])  -- 28: 'north'
    ∷ (101 ∷ 97 ∷ 115 ∷ 116 ∷ [])  -- 29: 'east'
    ∷ (115 ∷ 111 ∷ 117 ∷ 116 ∷ 104 ∷ [])  -- 30: 'south'
    ∷ (119 ∷ 101 ∷ 115 ∷ 116 ∷ [])  -- 31: 'west'
    ∷ (117 ∷ 112 ∷ [])  -- 32: 'up'
    ∷ (100 ∷ 111 ∷ 119 ∷ 110 ∷ [])  -- 33: 'down'
    ∷ (91 ∷ 102 ∷ 97 ∷ 99 ∷ 105 ∷ 110 ∷ 103 ∷ 61 ∷ [])  -- 34: '[facing='
    ∷ (91 ∷ 102 ∷ 97 ∷ 99 ∷ 101 ∷ 61 ∷ 102 ∷ 108 ∷ 111 ∷ 111 ∷ 114 ∷ 93 ∷ [])  -- 35: '[face=floor]'
    ∷ (91 ∷ 102 ∷ 97 ∷ 99 ∷ 101 ∷ 61 ∷ 119 ∷ 97 ∷ 108 ∷ 108 ∷ 44 ∷ 102 ∷ 97 ∷ 99 ∷ 105 ∷ 110 ∷ 103 ∷ 61 ∷ [])  -- 36: '[face=wall,facing='
    ∷ (93 ∷ [])  -- 37: ']'
    ∷ []

-- the w-th word
unfoldable pub word : ℕ → List ℕ
word w = get_or words w []

-- four words one after another
abbrev pub four_words : ℕ → ℕ → ℕ → ℕ → List ℕ
four_words a b c d = word a ++ (word b ++ (word c ++ word d))

-- ---- a number below 1000: a blank, `~`, and its digits; none for 0

abbrev pub no_word : ℕ
no_word = 10

unfoldable pub hundreds : ℕ → ℕ
hundreds n = either (ltb n 100) no_word (n / 100)

unfoldable pub tens : ℕ → ℕ
tens n = either (ltb n 10) no_word (n / 10 % 10)

unfoldable pub ones : ℕ → ℕ
ones n = either (eqb n 0) no_word (n % 10)

unfoldable pub number_text : ℕ → List ℕ
number_text n = four_words 11 (hundreds n) (tens n) (ones n)

-- ---- "Repeater and Comparator take facings 1 to 4, Piston 1 to 6, RedstoneTorch, Lever and Button 0 to 4. A kind that has no facing carries facing 0."

unfoldable pub least_facing : ℕ → ℕ
least_facing kind = either (eqb kind 5) 1 (either (eqb kind 6) 1 (either (eqb kind 12) 1 0))

unfoldable pub most_facing : ℕ → ℕ
most_facing kind = either (eqb kind 12) 6 (either (leb kind 3) 0 (either (leb kind 8) 4 0))

-- number 5 is due where this is false; Air is known, with facing 0
unfoldable pub block_known : ℕ → ℕ → Bool
block_known kind facing = leb kind 12 && (leb (least_facing kind) facing && leb facing (most_facing kind))

-- ---- the state of a block: its name, then its side

-- a torch on a wall has a name of its own
unfoldable pub name_word : ℕ → ℕ → ℕ
name_word kind facing = either (eqb kind 4) (either (eqb facing 0) 19 15) (15 + kind)

-- what stands before the side: a Lever and a Button say whether they are on the floor
unfoldable pub open_word : ℕ → ℕ → ℕ
open_word kind facing = either (eqb kind 7) (either (eqb facing 0) 35 36) (either (eqb kind 8) (either (eqb facing 0) 35 36) (either (eqb facing 0) no_word 34))

-- a Repeater and a Comparator face their output here and their input in the game, which therefore says the opposite side
unfoldable pub opposite : ℕ → ℕ
opposite facing = either (ltb facing 3) (facing + 2) (facing - 2)

unfoldable pub shown_facing : ℕ → ℕ → ℕ
shown_facing kind facing = either (eqb kind 5) (opposite facing) (either (eqb kind 6) (opposite facing) facing)

unfoldable pub side_word : ℕ → ℕ → ℕ
side_word kind facing = either (eqb facing 0) no_word (27 + shown_facing kind facing)

unfoldable pub close_word : ℕ → ℕ
close_word facing = either (eqb facing 0) no_word 37

unfoldable pub state_text : ℕ → ℕ → List ℕ
state_text kind facing = four_words (name_word kind facing) (open_word kind facing) (side_word kind facing) (close_word facing)
