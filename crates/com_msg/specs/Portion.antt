-- What RECEIVE hands out of a message, portion by portion, and what is left of it.
use Rattle.std.specs.Prelude.{ℕ, ◌-◌, ◌≤◌, nat_le, zero, suc, List, [], ◌∷◌, length, take, drop, if◌then◌else◌}
use Rattle.std.specs.List.{concat}
use Rattle.com_msg.specs.declared.message.End.{End}
use Rattle.com_msg.specs.declared.message.End.TheVariants.{Emi, Egi}
use Rattle.com_msg.specs.declared.message.Message.{Message as MessageRecord}
use Rattle.com_msg.specs.declared.rest.Kind.{Kind}
use Rattle.com_msg.specs.declared.rest.Kind.TheVariants.{Message, Segment}
use Rattle.com_msg.specs.declared.rest.Portion.{Portion}

-- END KEY: 0 where more of the segment or message follows, 1 at the end of a segment, 2 for EMI
-- and 3 for EGI
abbrev pub more_key : ℕ
more_key = 48

-- the end of a segment
abbrev pub segment_key : ℕ
segment_key = 49

-- the end of a message
abbrev pub last_key : End → ℕ
last_key Emi = 50
last_key Egi = 51

-- one of the four keys
pub record IsEndKey (key : ℕ) : Type 0 where
  pub least : 48 ≤ key
  pub most : key ≤ 51

-- a text with its end key
abbrev pub portion_of : List ℕ → ℕ → Portion
portion_of text key = record { text = text; end_key = key }

-- The pieces without their first `n` characters. Once no character is due, nothing more leaves, not
-- even an empty piece.
abbrev pub drop_characters : ℕ → List (List ℕ) → List (List ℕ)
drop_characters zero pieces = pieces
drop_characters (suc n) [] = []
drop_characters (suc n) (piece ∷ pieces) =
    if nat_le (length piece) (suc n) then drop_characters (suc n - length piece) pieces
    else drop (suc n) piece ∷ pieces

-- MESSAGE: the first `size` characters of the joined pieces, or all where there are not more
abbrev pub message_portion : ℕ → End → List (List ℕ) → Portion × List (List ℕ)
message_portion size end pieces =
    if nat_le (length (concat pieces)) size then (portion_of (concat pieces) (last_key end), [])
    else (portion_of (take size (concat pieces)) more_key, drop_characters size pieces)

-- the key of a segment that is given to its end, by the pieces after it
abbrev pub key_before : List (List ℕ) → End → ℕ
key_before [] end = last_key end
key_before (piece ∷ pieces) end = segment_key

-- SEGMENT: the first `size` characters of the first piece, or all where there are not more
abbrev pub segment_portion : ℕ → End → List (List ℕ) → Portion × List (List ℕ)
segment_portion size end [] = (portion_of [] (last_key end), [])
segment_portion size end (piece ∷ pieces) =
    if nat_le (length piece) size then (portion_of piece (key_before pieces end), pieces)
    else (portion_of (take size piece) more_key, drop size piece ∷ pieces)

-- what a RECEIVE of a kind and a size gives, and the pieces that are left
abbrev pub portion : Kind → ℕ → End → List (List ℕ) → Portion × List (List ℕ)
portion Message size end pieces = message_portion size end pieces
portion Segment size end pieces = segment_portion size end pieces

-- a rest is a message whose segments are the pieces that are left
abbrev pub with_pieces : List (List ℕ) → MessageRecord → MessageRecord
with_pieces pieces rest = record rest { segments = pieces }

-- what is given of a rest, and the rest that is left
abbrev pub take_portion : Kind → ℕ → MessageRecord → Portion × MessageRecord
take_portion kind size rest =
    let taken = portion kind size rest.end rest.segments in
    (taken.0, with_pieces taken.1 rest)
