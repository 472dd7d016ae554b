-- The documents' number of each refusal.
use Rattle.std.specs.Prelude.{ℕ}
use Rattle.refusals.specs.declared.Refusal.{Refusal}
use Rattle.refusals.specs.declared.Refused.{Refused}
use Rattle.refusals.specs.declared.Refusal.TheVariants.{NotWholeCycles, TooLong, NoRoom, NothingToOperate, StrayPin, BusClash, Unlisted, AccTwice, BitTooHigh, DisabledImmediate, NotWholeBlocks, WrongCheck, WrongPlace, WrongShape, NoSuchName, NoSuchNumber, RestOfLine}

-- document 01, the refusal numbers: 1 to 3 are of a whole run or of lent output, 4 to 10 of a cycle, 11 to 14 of a trace; document 02, request 1: 20 to 22
-- are of a line of a listing
abbrev pub number_of : Refusal → ℕ
number_of NotWholeCycles = 1
number_of TooLong = 2
number_of NoRoom = 3
number_of NothingToOperate = 4
number_of StrayPin = 5
number_of BusClash = 6
number_of Unlisted = 7
number_of AccTwice = 8
number_of BitTooHigh = 9
number_of DisabledImmediate = 10
number_of NotWholeBlocks = 11
number_of WrongCheck = 12
number_of WrongPlace = 13
number_of WrongShape = 14
number_of NoSuchName = 20
number_of NoSuchNumber = 21
number_of RestOfLine = 22

-- a refusal of the whole input has no place
abbrev pub whole : Refusal → Refused
whole k = record { refusal = k; index = 0 }
