-- Where the rest of a message begins: after some characters of one of its segments.
use Rattle.std.specs.Prelude.{ℕ, ◌≤◌, List, [], ◌∷◌, length, drop, get_or}
use Rattle.com_msg.specs.declared.rest.Place.{Place}

-- the pieces without the first `taken` characters of the first one
abbrev pub cut_first : ℕ → List (List ℕ) → List (List ℕ)
cut_first taken [] = []
cut_first taken (piece ∷ pieces) = drop taken piece ∷ pieces

-- the pieces that are left of the segments
abbrev pub pieces_at : Place → List (List ℕ) → List (List ℕ)
pieces_at place segments = cut_first place.taken (drop place.segment segments)

-- a place within one of the segments, or after the last
pub record IsPlace (place : Place) (segments : List (List ℕ)) : Type 0 where
  pub within : place.segment ≤ length segments
  pub taken_within : place.taken ≤ length (get_or segments place.segment [])
