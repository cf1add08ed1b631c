-- The number, the layer and the place of a refusal, and which of several refusals comes first.
use Rattle.std.specs.Prelude.{ℕ, Bool, cond, ◌&&◌, List, [], ◌∷◌, Some, None, Option, ◌==◌, nat_le}
use Rattle.grammar.specs.declared.refusals.Layer.{Layer}
use Rattle.grammar.specs.declared.refusals.Layer.TheVariants.{Board, Book, File, Console}
use Rattle.grammar.specs.declared.refusals.Refusal.{Refusal}
use Rattle.grammar.specs.declared.refusals.Refusal.TheVariants.{OffBoard, LabelTaken, BoardFull, BoardAtLimit, BookDead, HuntOpen, NoStrand, BookFull, TapeTooLong, NoHunt, Spent, PastTape, TooSmall, BadPattern, NotNewborn, FileShort, BadHeader, BadLine, BadCommand}

abbrev pub number_of : Refusal → ℕ
number_of OffBoard = 1
number_of LabelTaken = 2
number_of BoardFull = 3
number_of BoardAtLimit = 4
number_of BookDead = 5
number_of HuntOpen = 6
number_of (NoStrand place) = 7
number_of BookFull = 8
number_of TapeTooLong = 9
number_of NoHunt = 10
number_of Spent = 11
number_of PastTape = 12
number_of TooSmall = 13
number_of BadPattern = 14
number_of NotNewborn = 15
number_of (FileShort place) = 16
number_of (BadHeader place) = 17
number_of (BadLine place) = 18
number_of (BadCommand place) = 19

-- numbers 1 to 4 are the board's, 15 to 18 the file's, 19 the console's, and all others the book's
abbrev pub layer_at : ℕ → Layer
layer_at n = cond (nat_le 1 n && nat_le n 4) Board (cond (nat_le 15 n && nat_le n 18) File (cond (n == 19) Console Book))

abbrev pub layer_of : Refusal → Layer
layer_of r = layer_at (number_of r)

abbrev pub layer_number : Layer → ℕ
layer_number Board = 0
layer_number Book = 1
layer_number File = 2
layer_number Console = 3

-- 0 where a refusal states no place
abbrev pub place_of : Refusal → ℕ
place_of OffBoard = 0
place_of LabelTaken = 0
place_of BoardFull = 0
place_of BoardAtLimit = 0
place_of BookDead = 0
place_of HuntOpen = 0
place_of (NoStrand place) = place
place_of BookFull = 0
place_of TapeTooLong = 0
place_of NoHunt = 0
place_of Spent = 0
place_of PastTape = 0
place_of TooSmall = 0
place_of BadPattern = 0
place_of NotNewborn = 0
place_of (FileShort place) = place
place_of (BadHeader place) = place
place_of (BadLine place) = place
place_of (BadCommand place) = place

-- the refusals of a call in the order of its rules, each with its test: the first whose test is true is the answer
abbrev pub first_of : List (Bool × Refusal) → Option Refusal
first_of [] = None
first_of (r ∷ rs) = cond r.0 (Some r.1) (first_of rs)
