-- What a portion of a message is, for the functions that give one.
use Rattle.std.specs.Prelude.{◌≡◌, ℕ, ◌<◌, ◌≤◌, List, length}
use Rattle.com_msg.specs.declared.message.Message.{Message}
use Rattle.com_msg.specs.Portion.{take_portion}
use Rattle.com_tree.specs.declared.tree.TreeRow.{TreeRow}
use Rattle.com_tree.specs.Written.{leaf_count}
use Rattle.com_recv.specs.declared.giving.Request.{Request}
use Rattle.com_recv.specs.declared.lists.Held.{Held}
use Rattle.com_recv.specs.Incoming.{holding}
use Rattle.com_recv.specs.Areas.{given_area}

-- a message has a segment, and its leaf is one of the tree
abbrev pub IsOnTree : List TreeRow → ℕ → Message → Type 0
IsOnTree tree leaf message = (leaf < leaf_count tree) × (1 ≤ length message.segments)

-- The portion of a message from a leaf: its text, the area that tells of it, and what is held then.
pub record Gives (tree : List TreeRow) (request : Request) (leaf : ℕ) (rest : Message)
    (held : List Held) (area : List ℕ) (told : List ℕ) (left : List Held) (text : List ℕ)
    : Type 0 where
  pub given : text ≡ (take_portion request.kind request.size rest).0.text
  pub shown : told
      ≡ given_area tree leaf rest (take_portion request.kind request.size rest).0 area
  pub kept : left
      ≡ holding request.unit leaf (take_portion request.kind request.size rest).1 held
