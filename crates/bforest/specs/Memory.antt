-- That the types of a forest fit in memory, which no call can tell of what lies behind a reference in a struct.
use Rattle.bforest.specs.contracts.forest.Forest.{the_row as forest_row}
use Rattle.bforest.specs.declared.map_forest.TheConstants.{MAP_LEAF}
use Rattle.bforest.specs.declared.set_forest.TheConstants.{SET_LEAF}
use Rattle.std.specs.Borrow.{RattleType}
use Rattle.std.specs.Mem.{FitsInMemory}
use denote.Param.{number}
use denote.Plain.{Nothing}

-- a forest of maps with these keys and values takes fewer than 2 ^ 63 bytes
abbrev pub MapsFitInMemory : RattleType → RattleType → Type 0
MapsFitInMemory K V = FitsInMemory (forest_row K V (number MAP_LEAF))

-- a forest of sets of these keys takes fewer than 2 ^ 63 bytes
abbrev pub SetsFitInMemory : RattleType → Type 0
SetsFitInMemory K = FitsInMemory (forest_row K Nothing (number SET_LEAF))
