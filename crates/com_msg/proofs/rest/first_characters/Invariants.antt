use Rattle.std.proofs.Common.{◌≡◌, ◌-◌, ◌≤◌, [], ◌++◌, length, take, drop, get_or}
use Rattle.std.specs.List.{concat}
use Rattle.com_text.specs.Text.{IsText}
use Rattle.com_msg.specs.Places.{cut_first}
use Rattle.com_msg.proofs.rest.first_characters.Given as goal

-- the characters so far and what is still due of the pieces that are left make up the text
abbrev pub invariant-loop-piece : goal.invariant-loop-piece
invariant-loop-piece l =
    (l.bytes.items ++ take (l.size - length l.bytes.items) (concat (cut_first l.skipped (drop l.piece-index l.pieces)))
    ≡ take l.size (concat (cut_first l.fn.taken l.pieces)))
    × (length l.bytes.items ≤ l.size)
    × (l.skipped ≤ length (get_or l.pieces l.piece-index []))
    × IsText l.bytes.items
