-- The messages that wait, as the private queues of the leaves have them.
use Rattle.std.specs.Prelude.{◌≡◌, ℕ, ◌<◌, nat_lt, List, [], ◌∷◌, ◌++◌, length, get_or, None, if◌then◌else◌}
use Rattle.std.specs.List.{filter, All, AllPairs}
use Rattle.com_tree.specs.declared.tree.TreeRow.{TreeRow}
use Rattle.com_tree.specs.Written.{leaf_count}
use Rattle.com_tree.specs.NextLeaf.{node_at}
use Rattle.com_tree.specs.CachedHeads.{HeadLists, IsHeadsOf}
use Rattle.com_recv.specs.declared.lists.Waiting.{Waiting}
use Rattle.com_recv.specs.Incoming.{IsEarlier, is_on, first_number, waiting_under}

-- the messages of all queues, queue after queue
abbrev pub all_of : List (List Waiting) → List Waiting
all_of [] = []
all_of (queue ∷ queues) = queue ++ all_of queues

-- the messages with one more, before the first that arrived later
abbrev pub with_placed : Waiting → List Waiting → List Waiting
with_placed w [] = w ∷ []
with_placed w (v ∷ vs) =
    if nat_lt w.message.arrival v.message.arrival then w ∷ v ∷ vs else v ∷ with_placed w vs

-- the messages in order of arrival
abbrev pub by_arrival : List Waiting → List Waiting
by_arrival [] = []
by_arrival (w ∷ ws) = with_placed w (by_arrival ws)

-- the queue of each leaf has the messages that wait on it, and what waits is in order of arrival
pub record AreQueuesOf (queues : List (List Waiting)) (waiting : List Waiting) : Type 0 where
  pub size : length queues ≡ 64
  pub on : All (λ w. w.leaf.number < 64) waiting
  pub in_order : AllPairs IsEarlier waiting
  pub each : (leaf : ℕ) → leaf < 64 → get_or queues leaf [] ≡ filter (is_on leaf) waiting

-- the first messages of the leaves of a tree and the counts under its nodes are those of what waits
pub record AreKeptOf (rows : List TreeRow) (heads : HeadLists) (counts : List ℕ) (waiting : List Waiting) : Type 0 where
  pub of_tree : IsHeadsOf rows heads
  pub numbers : (leaf : ℕ) → leaf < leaf_count rows
      → get_or heads.numbers leaf None ≡ first_number waiting leaf
  pub size : length counts ≡ length rows
  pub under : (row : ℕ) → row < length rows
      → get_or counts row 0 ≡ waiting_under rows waiting (node_at row)

-- what the queues, the heads, the counts and the number of all messages hold of what waits
pub record AreQueued (rows : List TreeRow) (queues : List (List Waiting)) (heads : HeadLists) (counts : List ℕ) (total : ℕ) : Type 0 where
  pub leaves : AreQueuesOf queues (by_arrival (all_of queues))
  pub kept : AreKeptOf rows heads counts (by_arrival (all_of queues))
  pub all : total ≡ length (by_arrival (all_of queues))
