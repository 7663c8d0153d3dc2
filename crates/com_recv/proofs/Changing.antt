-- The queues of the leaves when a message comes and when one goes.
use Rattle.std.proofs.Common.{◌≡◌, ℕ, zero, suc, ◌+◌, ◌<◌, ◌≤◌, Bool, true, false, List, [], ◌∷◌, ◌++◌, length, get_or, set, drop, map, not, Some, None, refl, sym, ap, subst, ◌∙◌, arith, inl, inr, length-append}
use Rattle.std.specs.Prelude.{Option, ◌==◌, slice_get, option_map, is_some, nat_lt, replicate, IfSome, ◌&&◌, nat_le, count_by, Result, Ok, Err, OnErr}
use Rattle.std.specs.List.{filter, find, position_or_len, remove, All, AllPairs}
use Rattle.std.proofs.Math.Path.{fun_ext}
use Rattle.std.proofs.lemmas.Bool.{cases_Bool, false≢true}
use Rattle.std.proofs.lemmas.Bool.Decides.{nat_tests}
use Rattle.std.proofs.lemmas.List.{get_or-set_same, get_or-set_other, length-set}
use Rattle.std.proofs.lemmas.List.Elements.{All-push, filter-append}
use Rattle.std.proofs.lemmas.List.Folds.{find_at}
use Rattle.std.proofs.lemmas.List.Quantifiers.{all_pairs_push, all_pairs_remove}
use Rattle.std.proofs.lemmas.Option.{none-some, same_Some, slice_get_past, unwrap_or-slice_get}
use Rattle.com_msg.specs.declared.message.Message.{Message}
use Rattle.com_tree.specs.declared.tree.TreeRow.{TreeRow}
use Rattle.com_tree.specs.declared.tree.Node.{Node}
use Rattle.com_tree.specs.declared.tree.Leaf.{Leaf}
use Rattle.com_tree.specs.Written.{IsWritten, leaf_count}
use Rattle.com_tree.specs.Places.{first_leaf, past_leaf}
use Rattle.com_tree.specs.NextLeaf.{node_at, next_leaf, head_on, WaitsUnder}
use Rattle.com_tree.specs.CachedHeads.{HeadLists, IsHeadsOf}
use Rattle.com_tree.specs.Shapes.{shape}
use Rattle.com_tree.proofs.Branches.{leaves_of_branch}
use Rattle.com_tree.proofs.Shaped.{same_next, same_first, same_past, same_leaves}
use Rattle.com_tree.proofs.Underneath.{chosen_waits}
use Rattle.com_recv.specs.declared.lists.Waiting.{Waiting}
use Rattle.com_recv.specs.Incoming.{is_on, first_on, first_number, without_first, waiting_under, chosen_leaf, IsEarlier}
use Rattle.com_recv.specs.inner.Queued.{all_of, by_arrival, AreQueuesOf, AreKeptOf, AreQueued}
use Rattle.com_recv.proofs.Choosing.{none_beyond}
use Rattle.com_recv.proofs.Handing.{removed_first, removed_all}
use Rattle.com_recv.proofs.Kept.{own_gone, others_there, first_is, message_is}
use Rattle.com_recv.proofs.Places.{AreHeads, first_number_more, number_of_first}
use Rattle.com_recv.proofs.Queued.{ordered}

append_none : (xs : List Waiting) → xs ++ [] ≡ xs
append_none [] = refl
append_none (x ∷ xs) = ap (λ r. x ∷ r) (append_none xs)

-- a message comes to the end of its queue
pub come_queue : (lists : List (List Waiting)) (waiting : List Waiting) (w : Waiting) → AreQueuesOf lists waiting → w.leaf.number < 64 → All (λ v. IsEarlier v w) waiting
    → AreQueuesOf (set lists w.leaf.number (get_or lists w.leaf.number [] ++ w ∷ [])) (waiting ++ w ∷ [])
come_queue lists waiting w are small later =
    let own = w.leaf.number in
    let more = get_or lists own [] ++ w ∷ [] in
    record {
      size = length-set lists own more ∙ are.size;
      on = All-push (λ (v : Waiting). v.leaf.number < 64) waiting w are.on small;
      in_order = all_pairs_push IsEarlier waiting w are.in_order later;
      each = λ leaf within. elim (cases_Bool (own == leaf)) [
        | inl same ↦
            let at : own ≡ leaf = grind (arith, nat_tests, same) in
            let one : filter (is_on leaf) (w ∷ []) ≡ w ∷ [] = rw same refl in
            let front : get_or lists own [] ≡ filter (is_on leaf) waiting = rw at (are.each leaf within) in
            let read : get_or (set lists own more) leaf [] ≡ more = rw (← at) (get_or-set_same lists own more [] (omega (arith, small, are.size))) in
            let sum : filter (is_on leaf) (waiting ++ w ∷ []) ≡ filter (is_on leaf) waiting ++ w ∷ [] = filter-append (is_on leaf) waiting (w ∷ []) ∙ ap (λ (r : List Waiting). filter (is_on leaf) waiting ++ r) one in
            read ∙ (ap (λ (q : List Waiting). q ++ w ∷ []) front ∙ sym sum)
        | inr other ↦
            let apart : leaf ≡ own → ⊥ = λ e. grind (arith, nat_tests, other, e) in
            let none : filter (is_on leaf) (w ∷ []) ≡ [] = rw other refl in
            let sum : filter (is_on leaf) (waiting ++ w ∷ []) ≡ filter (is_on leaf) waiting = filter-append (is_on leaf) waiting (w ∷ []) ∙ (ap (λ (r : List Waiting). filter (is_on leaf) waiting ++ r) none ∙ append_none (filter (is_on leaf) waiting)) in
            get_or-set_other lists own leaf more [] apart ∙ (are.each leaf within ∙ sym sum)
      ];
    }

-- where the first message on a leaf is
pub place_within : (waiting : List Waiting) (leaf : ℕ) → is_some (first_on waiting leaf) ≡ true → position_or_len (is_on leaf) waiting < length waiting
place_within waiting leaf some = elim (cases_Bool (nat_lt (position_or_len (is_on leaf) waiting) (length waiting))) [
  | inl within ↦ grind (arith, nat_tests, within)
  | inr past ↦
      let beyond : length waiting ≤ position_or_len (is_on leaf) waiting = grind (arith, nat_tests, past) in
      let none : find (is_on leaf) waiting ≡ None = find_at (is_on leaf) waiting ∙ slice_get_past waiting (position_or_len (is_on leaf) waiting) beyond in
      let nothing : is_some (first_on waiting leaf) ≡ false = rw none refl in
      absurd (false≢true (sym nothing ∙ some))
]

-- the first message on a leaf goes from its queue
pub gone_queue : (lists : List (List Waiting)) (waiting : List Waiting) (leaf : ℕ) → AreQueuesOf lists waiting → leaf < 64 → is_some (first_on waiting leaf) ≡ true
    → AreQueuesOf (set lists leaf (drop 1 (get_or lists leaf []))) (without_first leaf waiting)
gone_queue lists waiting leaf are small some =
    let left = drop 1 (get_or lists leaf []) in
    let within = place_within waiting leaf some in
    let is = removed_first leaf waiting within in
    record {
      size = length-set lists leaf left ∙ are.size;
      on = rw (← is) (removed_all (λ (v : Waiting). v.leaf.number < 64) waiting (position_or_len (is_on leaf) waiting) are.on);
      in_order = rw (← is) (all_pairs_remove IsEarlier waiting (position_or_len (is_on leaf) waiting) within are.in_order);
      each = λ other inside. elim (cases_Bool (other == leaf)) [
        | inl same ↦
            let at : other ≡ leaf = grind (arith, nat_tests, same) in
            rw at (get_or-set_same lists leaf left [] (omega (arith, small, are.size)) ∙ (ap (drop 1) (are.each leaf small) ∙ sym (own_gone waiting leaf)))
        | inr apart ↦
            let differ : other ≡ leaf → ⊥ = λ e. grind (arith, nat_tests, apart, e) in
            get_or-set_other lists leaf other left [] differ ∙ (are.each other inside ∙ sym (others_there waiting leaf other differ))
      ];
    }

pub gone_length : (waiting : List Waiting) (leaf : ℕ) → is_some (first_on waiting leaf) ≡ true → length waiting ≡ suc (length (without_first leaf waiting))
gone_length [] leaf some = absurd (false≢true some)
gone_length (w ∷ waiting) leaf some = elim (cases_Bool (is_on leaf w)) [
  | inl here ↦ rw here refl
  | inr other ↦
      let found : first_on (w ∷ waiting) leaf ≡ first_on waiting leaf = rw other refl in
      rw other (ap suc (gone_length waiting leaf (rw found at some)))
]

-- all parts together
pub queued_of : (rows : List TreeRow) (lists : List (List Waiting)) (waiting : List Waiting) (heads : HeadLists) (counts : List ℕ) (total : ℕ) → AreQueuesOf lists waiting → AreKeptOf rows heads counts waiting → total ≡ length waiting
    → AreQueued rows lists heads counts total
queued_of rows lists waiting heads counts total are kept all =
    let is = ordered lists waiting are in
    record { leaves = rw is are; kept = rw is kept; all = rw is all }

some_first : (xs : List Waiting) → is_some (option_map (λ w. w.message.arrival) (slice_get xs 0)) ≡ is_some (slice_get xs 0)
some_first [] = refl
some_first (x ∷ xs) = refl

-- whether a leaf has a first message is whether its queue has one
pub first_there : (lists : List (List Waiting)) (waiting : List Waiting) (leaf : ℕ) (queue : List Waiting) (empty : Bool) → AreQueuesOf lists waiting → leaf < 64 → get_or lists leaf [] ≡ queue → is_some (slice_get queue 0) ≡ not empty
    → is_some (first_number waiting leaf) ≡ not empty
first_there lists waiting leaf queue empty are small is some =
    ap is_some (first_is waiting leaf ∙ ap (λ q. option_map (λ w. w.message.arrival) (slice_get q 0)) (sym (are.each leaf small) ∙ is)) ∙ (some_first queue ∙ some)

message_there : (o : Option Waiting) (m : Message) → option_map (λ w. w.message) o ≡ Some m → (w : Waiting) × (o ≡ Some w) × (w.message ≡ m)
message_there None m is = absurd (none-some m is)
message_there (Some w) m is = (w, refl, same_Some w.message m is)

-- the first message on a leaf is the first of its queue
pub first_message : (lists : List (List Waiting)) (waiting : List Waiting) (leaf : ℕ) (queue : List Waiting) (m : Message) → AreQueuesOf lists waiting → leaf < 64 → get_or lists leaf [] ≡ queue → first_on waiting leaf ≡ Some m
    → (w : Waiting) × (slice_get queue 0 ≡ Some w) × (w.message ≡ m)
first_message lists waiting leaf queue m are small is first =
    message_there (slice_get queue 0) m (sym (message_is waiting leaf ∙ ap (λ q. option_map (λ w. w.message) (slice_get q 0)) (sym (are.each leaf small) ∙ is)) ∙ first)

-- the number of what is first then
pub next_number : (lists : List (List Waiting)) (waiting : List Waiting) (leaf : ℕ) (queue left : List Waiting) → AreQueuesOf lists waiting → leaf < 64 → get_or lists leaf [] ≡ queue → left ≡ drop 1 queue
    → option_map (λ w. w.message.arrival) (slice_get left 0) ≡ first_number (without_first leaf waiting) leaf
next_number lists waiting leaf queue left are small is gone =
    ap (λ q. option_map (λ w. w.message.arrival) (slice_get q 0)) (gone ∙ (ap (drop 1) (sym is ∙ are.each leaf small) ∙ sym (own_gone waiting leaf))) ∙ sym (first_is (without_first leaf waiting) leaf)

past_end : (numbers : List (Option ℕ)) (leaf : ℕ) → length numbers ≤ leaf → get_or numbers leaf None ≡ None
past_end [] leaf past = refl
past_end (n ∷ numbers) zero past = absurd (omega (arith, past))
past_end (n ∷ numbers) (suc leaf) past = past_end numbers leaf (omega (arith, past))

-- the numbers that are kept are those of what waits
numbers_are : (rows : List TreeRow) (heads : HeadLists) (counts : List ℕ) (waiting : List Waiting) → AreKeptOf rows heads counts waiting → All (λ w. w.leaf.number < leaf_count rows) waiting → (leaf : ℕ) → head_on heads.numbers leaf ≡ first_number waiting leaf
numbers_are rows heads counts waiting kept on leaf = unwrap_or-slice_get heads.numbers leaf None ∙ elim (cases_Bool (nat_lt leaf (leaf_count rows))) [
  | inl less ↦ kept.numbers leaf (grind (arith, nat_tests, less))
  | inr more ↦
      let past : leaf_count rows ≤ leaf = grind (arith, nat_tests, more) in
      let none : find (is_on leaf) waiting ≡ None = none_beyond waiting (leaf_count rows) leaf on past in
      past_end heads.numbers leaf (omega (arith, past, kept.of_tree.leaves)) ∙ sym (rw none refl)
]

-- what the heads of a tree choose is what another one like it chooses
pub chosen_alike : (rows tree : List TreeRow) (heads : HeadLists) (counts : List ℕ) (waiting : List Waiting) (node : Node) (found : Option Leaf) → shape rows ≡ shape tree → AreKeptOf rows heads counts waiting → All (λ w. w.leaf.number < leaf_count tree) waiting
    → found ≡ next_leaf rows node (head_on heads.numbers) → found ≡ next_leaf tree node (first_number waiting)
chosen_alike rows tree heads counts waiting node found alike kept on is =
    let same = same_leaves rows tree alike in
    let numbers : head_on heads.numbers ≡ first_number waiting = fun_ext (numbers_are rows heads counts waiting kept (rw same on)) in
    is ∙ (same_next rows tree node (head_on heads.numbers) alike ∙ ap (next_leaf tree node) numbers)

-- and it is a leaf of the tree
pub chosen_within : (tree : List TreeRow) (node : Node) (first : ℕ → Option ℕ) (found : Option Leaf) → IsWritten tree → node.row < length tree → found ≡ next_leaf tree node first → IfSome found (λ leaf. leaf.number < leaf_count tree)
chosen_within tree node first found written within is =
    let waits : IfSome found (λ leaf. WaitsUnder tree node first leaf.number) = rw is (chosen_waits tree node first written within) in
    by_leaf found waits
  where
    by_leaf : (found : Option Leaf) → IfSome found (λ leaf. WaitsUnder tree node first leaf.number) → IfSome found (λ leaf. leaf.number < leaf_count tree)
    by_leaf None waits = tt
    by_leaf (Some leaf) waits = omega (arith, waits.most, leaves_of_branch tree node.row)

-- the counts of a tree are those of another one like it
pub counted_alike : (rows tree : List TreeRow) (waiting : List Waiting) (node : Node) → shape rows ≡ shape tree → waiting_under rows waiting node ≡ waiting_under tree waiting node
counted_alike rows tree waiting node alike =
    ap (λ first. count_by (λ (w : Waiting). nat_le first w.leaf.number && nat_lt w.leaf.number (past_leaf rows node)) waiting) (same_first rows tree node alike)
    ∙ ap (λ past. count_by (λ (w : Waiting). nat_le (first_leaf tree node) w.leaf.number && nat_lt w.leaf.number past) waiting) (same_past rows tree node alike)

same_kept : (n row : ℕ) (x : Option ℕ) → get_or (replicate n x) row x ≡ x
same_kept zero row x = refl
same_kept (suc n) zero x = refl
same_kept (suc n) (suc row) x = same_kept n row x

number_kept : (n row x : ℕ) → get_or (replicate n x) row x ≡ x
number_kept zero row x = refl
number_kept (suc n) zero x = refl
number_kept (suc n) (suc row) x = number_kept n row x

length-same : (n x : ℕ) → length (replicate n x) ≡ n
length-same zero x = refl
length-same (suc n) x = ap suc (length-same n x)

-- nothing waits at first
pub kept_none : (rows : List TreeRow) (heads : HeadLists) (counts : List ℕ) → IsHeadsOf rows heads → heads.numbers ≡ replicate (leaf_count rows) None → counts ≡ replicate (length rows) 0 → AreKeptOf rows heads counts []
kept_none rows heads counts are none nothing = record {
  of_tree = are;
  numbers = λ leaf within. rw none (same_kept (leaf_count rows) leaf None);
  size = ap length nothing ∙ length-same (length rows) 0;
  under = λ row within. rw nothing (number_kept (length rows) row 0);
}

-- an answer that gives up promises no more
pub gives_up : {T E : Type 0} (r : Result T E) (P : Type 0) → P → OnErr r P
gives_up (Ok x) P holds = tt
gives_up (Err e) P holds = holds

-- the numbers of the first messages of the queues are those of what waits
pub heads_are : (lists : List (List Waiting)) (waiting : List Waiting) (heads : List (Option ℕ)) → AreQueuesOf lists waiting
    → ((leaf : ℕ) → leaf < 64 → slice_get heads leaf ≡ Some (option_map (λ w. w.message.arrival) (slice_get (get_or lists leaf []) 0))) → AreHeads heads waiting
heads_are lists waiting heads are each = λ leaf small.
    each leaf small ∙ ap Some (ap (λ q. option_map (λ w. w.message.arrival) (slice_get q 0)) (are.each leaf small) ∙ sym (first_is waiting leaf))

-- empty queues are those of nothing that waits
pub all_empty : (lists : List (List Waiting)) → length lists ≡ 64 → ((leaf : ℕ) → leaf < length lists → get_or lists leaf [] ≡ []) → AreQueuesOf lists []
all_empty lists size empty = record {
  size = size;
  on = λ k d within. absurd (omega (arith, within));
  in_order = λ i j d less within. absurd (omega (arith, within));
  each = λ leaf small. empty leaf (omega (arith, small, size));
}

pub all_items : {X : Type 0} (f : X → List Waiting) (xs : List X) → All (λ x. f x ≡ []) xs → (leaf : ℕ) → leaf < length (map f xs) → get_or (map f xs) leaf [] ≡ []
all_items f [] all leaf within = refl
all_items f (x ∷ xs) all zero within = all 0 x (omega arith)
all_items f (x ∷ xs) all (suc leaf) within = all_items f xs (λ k d inside. all (suc k) d (omega (arith, inside))) leaf (omega (arith, within))
