-- What is kept of the messages that wait, when one comes and when the first of a leaf goes.
use Rattle.std.proofs.Common.{◌≡◌, ℕ, zero, suc, ◌+◌, ◌<◌, ◌≤◌, Bool, true, false, List, [], ◌∷◌, ◌++◌, length, get_or, set, drop, Some, None, refl, sym, ap, ◌∙◌, arith, inl, inr}
use Rattle.std.specs.Prelude.{Option, ◌==◌, ◌&&◌, slice_get, option_map, is_some, nat_lt, nat_le, if◌then◌else◌, count_by}
use Rattle.std.specs.Option.{option_or}
use Rattle.std.specs.List.{filter, find, list_any, All, AllPairs}
use mathlib.Core.Bool.{cond}
use Rattle.std.proofs.lemmas.Bool.{cases_Bool, false≢true}
use Rattle.std.proofs.lemmas.Bool.Decides.{nat_tests}
use Rattle.std.proofs.lemmas.List.{get_or-set_same, get_or-set_other, length-set}
use Rattle.std.proofs.lemmas.List.Sums.{sum_by-append}
use Rattle.com_tree.specs.declared.tree.TreeRow.{TreeRow}
use Rattle.com_tree.specs.Written.{leaf_count}
use Rattle.com_tree.specs.Places.{first_leaf, past_leaf}
use Rattle.com_tree.specs.NextLeaf.{node_at}
use Rattle.com_tree.specs.CachedHeads.{HeadLists, IsHeadsOf}
use Rattle.com_tree.specs.UnderNodes.{is_over, IsOneMore}
use Rattle.com_tree.proofs.Branches.{leaves_of_branch}
use Rattle.com_tree.proofs.OverLeaf.{before}
use Rattle.com_recv.specs.declared.lists.Waiting.{Waiting}
use Rattle.com_recv.specs.Incoming.{is_on, first_on, first_number, without_first, is_under, waiting_under, IsEarlier}
use Rattle.com_recv.specs.inner.Queued.{AreKeptOf}
use Rattle.com_recv.proofs.Places.{first_number_more, elsewhere, number_of_first, or_first}

-- the first that passes is the first of those that pass
find_first : (p : Waiting → Bool) (ws : List Waiting) → find p ws ≡ slice_get (filter p ws) 0
find_first p [] = refl
find_first p (w ∷ ws) = elim (cases_Bool (p w)) [
  | inl here ↦ rw here refl
  | inr other ↦ rw other (find_first p ws)
]

-- the number of the first message on a leaf, by the messages on it
pub first_is : (ws : List Waiting) (leaf : ℕ) → first_number ws leaf ≡ option_map (λ w. w.message.arrival) (slice_get (filter (is_on leaf) ws) 0)
first_is ws leaf = number_of_first ws leaf ∙ ap (option_map (λ w. w.message.arrival)) (find_first (is_on leaf) ws)

pub message_is : (ws : List Waiting) (leaf : ℕ) → first_on ws leaf ≡ option_map (λ w. w.message) (slice_get (filter (is_on leaf) ws) 0)
message_is ws leaf = ap (option_map (λ w. w.message)) (find_first (is_on leaf) ws)

-- the messages on a leaf when the first on it goes, and those on the others
pub own_gone : (ws : List Waiting) (leaf : ℕ) → filter (is_on leaf) (without_first leaf ws) ≡ drop 1 (filter (is_on leaf) ws)
own_gone [] leaf = refl
own_gone (w ∷ ws) leaf = elim (cases_Bool (is_on leaf w)) [
  | inl here ↦ rw here refl
  | inr other ↦
      let same : without_first leaf (w ∷ ws) ≡ w ∷ without_first leaf ws = rw other refl in
      rw (same, other) (own_gone ws leaf)
]

pub others_there : (ws : List Waiting) (leaf other : ℕ) → (other ≡ leaf → ⊥) → filter (is_on other) (without_first leaf ws) ≡ filter (is_on other) ws
others_there [] leaf other apart = refl
others_there (w ∷ ws) leaf other apart = elim (cases_Bool (is_on leaf w)) [
  | inl here ↦
      let at : w.leaf.number ≡ leaf = grind (arith, nat_tests, here) in
      let none : (w.leaf.number == other) ≡ false = grind (arith, nat_tests, at, apart) in
      rw (here, none) refl
  | inr elsewhere_is ↦
      let same : without_first leaf (w ∷ ws) ≡ w ∷ without_first leaf ws = rw elsewhere_is refl in
      ap (filter (is_on other)) same ∙ elim (cases_Bool (is_on other w)) [
        | inl on ↦ rw on (ap (λ r. w ∷ r) (others_there ws leaf other apart))
        | inr off ↦ rw off (others_there ws leaf other apart)
      ]
]

-- how many are under a node when one comes
one_under : (rows : List TreeRow) (w : Waiting) (row : ℕ) → waiting_under rows (w ∷ []) (node_at row) ≡ cond (is_over rows w.leaf.number row) 1 0
one_under rows w row = elim (cases_Bool (is_under rows (node_at row) w.leaf.number)) [
  | inl under ↦ rw under refl
  | inr other ↦ rw other refl
]

under_more : (rows : List TreeRow) (ws vs : List Waiting) (row : ℕ) → waiting_under rows (ws ++ vs) (node_at row) ≡ waiting_under rows ws (node_at row) + waiting_under rows vs (node_at row)
under_more rows ws vs row = sum_by-append (λ (w : Waiting). cond (is_under rows (node_at row) w.leaf.number) 1 0) ws vs

by_one : (over : Bool) (n : ℕ) → n + cond over 1 0 ≡ (if over then suc n else n)
by_one true n = omega arith
by_one false n = omega arith

come_under : (rows : List TreeRow) (ws : List Waiting) (w : Waiting) (row : ℕ) → waiting_under rows (ws ++ w ∷ []) (node_at row) ≡ (if is_over rows w.leaf.number row then suc (waiting_under rows ws (node_at row)) else waiting_under rows ws (node_at row))
come_under rows ws w row =
    under_more rows ws (w ∷ []) row ∙ (ap (λ n. waiting_under rows ws (node_at row) + n) (one_under rows w row) ∙ by_one (is_over rows w.leaf.number row) (waiting_under rows ws (node_at row)))

-- no node is over a leaf past those of the tree
beyond : (rows : List TreeRow) (leaf row : ℕ) → leaf_count rows ≤ leaf → is_over rows leaf row ≡ false
beyond rows leaf row past = before rows leaf row (omega (arith, past, leaves_of_branch rows row))

-- how many are under a node when the first on a leaf goes
gone_under : (rows : List TreeRow) (ws : List Waiting) (leaf row : ℕ) → is_some (first_on ws leaf) ≡ true → waiting_under rows ws (node_at row) ≡ (if is_over rows leaf row then suc (waiting_under rows (without_first leaf ws) (node_at row)) else waiting_under rows (without_first leaf ws) (node_at row))
gone_under rows [] leaf row some = absurd (false≢true some)
gone_under rows (w ∷ ws) leaf row some = elim (cases_Bool (is_on leaf w)) [
  | inl here ↦
      let at : w.leaf.number ≡ leaf = grind (arith, nat_tests, here) in
      let rest : without_first leaf (w ∷ ws) ≡ ws = rw here refl in
      let both = under_more rows (w ∷ []) ws row in
      let one = ap (λ l. cond {A = ℕ} (is_over rows l row) 1 0) at in
      let sum : waiting_under rows (w ∷ ws) (node_at row) ≡ waiting_under rows ws (node_at row) + cond (is_over rows leaf row) 1 0 = omega (arith, both, one_under rows w row ∙ one) in
      rw rest (sum ∙ by_one (is_over rows leaf row) (waiting_under rows ws (node_at row)))
  | inr other ↦
      let rest : without_first leaf (w ∷ ws) ≡ w ∷ without_first leaf ws = rw other refl in
      let found : first_on (w ∷ ws) leaf ≡ first_on ws leaf = rw other refl in
      let less = gone_under rows ws leaf row (rw found at some) in
      let both = under_more rows (w ∷ []) ws row in
      let left = under_more rows (w ∷ []) (without_first leaf ws) row in
      rw rest (more_of (is_over rows leaf row) (waiting_under rows (w ∷ []) (node_at row)) (waiting_under rows ws (node_at row)) (waiting_under rows (without_first leaf ws) (node_at row)) (waiting_under rows (w ∷ ws) (node_at row)) (waiting_under rows (w ∷ without_first leaf ws) (node_at row)) both left less)
]
  where
    more_of : (over : Bool) (one all fewer sum rest : ℕ) → sum ≡ one + all → rest ≡ one + fewer → all ≡ (if over then suc fewer else fewer) → sum ≡ (if over then suc rest else rest)
    more_of true one all fewer sum rest both left less = let is : all ≡ suc fewer = less in omega (arith, both, left, is)
    more_of false one all fewer sum rest both left less = let is : all ≡ fewer = less in omega (arith, both, left, is)

-- a message has come
pub come : (rows : List TreeRow) (heads kept : HeadLists) (counts counted : List ℕ) (ws : List Waiting) (w : Waiting) → AreKeptOf rows heads counts ws → IsHeadsOf rows kept
    → ((leaf : ℕ) → leaf < leaf_count rows → get_or kept.numbers leaf None ≡ first_number (ws ++ w ∷ []) leaf) → IsOneMore rows w.leaf.number counts counted → AreKeptOf rows kept counted (ws ++ w ∷ [])
come rows heads kept counts counted ws w are right numbers more = record {
  of_tree = right;
  numbers = numbers;
  size = more.size ∙ are.size;
  under = λ row within. more.each row (omega (arith, within, are.size))
      ∙ (ap (λ n. if is_over rows w.leaf.number row then suc n else n) (are.under row within) ∙ sym (come_under rows ws w row));
}

same_number : (n : ℕ) → (n == n) ≡ true
same_number n = grind (arith, nat_tests)

-- the first of its leaf, with its number set
pub first_set : (rows : List TreeRow) (heads : HeadLists) (counts : List ℕ) (numbers : List (Option ℕ)) (ws : List Waiting) (w : Waiting) → AreKeptOf rows heads counts ws → w.leaf.number < leaf_count rows
    → numbers ≡ set heads.numbers w.leaf.number (Some w.message.arrival) → first_number ws w.leaf.number ≡ None → (leaf : ℕ) → leaf < leaf_count rows → get_or numbers leaf None ≡ first_number (ws ++ w ∷ []) leaf
first_set rows heads counts numbers ws w are inside is none leaf within = elim (cases_Bool (w.leaf.number == leaf)) [
  | inl same ↦
      let at : w.leaf.number ≡ leaf = grind (arith, nat_tests, same) in
      let one : first_number (w ∷ []) w.leaf.number ≡ Some w.message.arrival = rw (same_number w.leaf.number) refl in
      rw (← at, is) (get_or-set_same heads.numbers w.leaf.number (Some w.message.arrival) None (omega (arith, inside, are.of_tree.leaves)) ∙ sym (first_number_more ws w w.leaf.number ∙ rw (none, one) refl))
  | inr other ↦
      let apart : leaf ≡ w.leaf.number → ⊥ = λ e. grind (arith, nat_tests, other, e) in
      rw is (get_or-set_other heads.numbers w.leaf.number leaf (Some w.message.arrival) None apart ∙ (are.numbers leaf within ∙ sym (elsewhere ws w leaf other)))
]

-- a later one, which changes no number
pub number_stays : (rows : List TreeRow) (heads : HeadLists) (counts : List ℕ) (ws : List Waiting) (w : Waiting) → AreKeptOf rows heads counts ws → is_some (first_number ws w.leaf.number) ≡ true
    → (leaf : ℕ) → leaf < leaf_count rows → get_or heads.numbers leaf None ≡ first_number (ws ++ w ∷ []) leaf
number_stays rows heads counts ws w are some leaf within = elim (cases_Bool (w.leaf.number == leaf)) [
  | inl same ↦
      let at : w.leaf.number ≡ leaf = grind (arith, nat_tests, same) in
      are.numbers leaf within ∙ sym (first_number_more ws w leaf ∙ or_first (first_number ws leaf) (first_number (w ∷ []) leaf) (rw at at some))
  | inr other ↦ are.numbers leaf within ∙ sym (elsewhere ws w leaf other)
]

-- one on a leaf that the tree does not have
pub come_beyond : (rows : List TreeRow) (heads : HeadLists) (counts : List ℕ) (ws : List Waiting) (w : Waiting) → AreKeptOf rows heads counts ws → leaf_count rows ≤ w.leaf.number → AreKeptOf rows heads counts (ws ++ w ∷ [])
come_beyond rows heads counts ws w are past = record {
  of_tree = are.of_tree;
  numbers = λ leaf within.
      let other : (w.leaf.number == leaf) ≡ false = grind (arith, nat_tests, past, within) in
      are.numbers leaf within ∙ sym (elsewhere ws w leaf other);
  size = are.size;
  under = λ row within. are.under row within ∙ sym (come_under rows ws w row ∙ rw (beyond rows w.leaf.number row past) refl);
}

-- the first message of a leaf has gone
pub gone : (rows : List TreeRow) (heads kept : HeadLists) (counts counted : List ℕ) (ws : List Waiting) (leaf : ℕ) (first : Option ℕ) → AreKeptOf rows heads counts ws → leaf < leaf_count rows → is_some (first_on ws leaf) ≡ true
    → IsHeadsOf rows kept → kept.numbers ≡ set heads.numbers leaf first → first ≡ first_number (without_first leaf ws) leaf → IsOneMore rows leaf counted counts → AreKeptOf rows kept counted (without_first leaf ws)
gone rows heads kept counts counted ws leaf first are inside some right numbers is more = record {
  of_tree = right;
  numbers = λ other within. elim (cases_Bool (other == leaf)) [
    | inl same ↦
        let at : other ≡ leaf = grind (arith, nat_tests, same) in
        rw (at, numbers) (get_or-set_same heads.numbers leaf first None (omega (arith, inside, are.of_tree.leaves)) ∙ is)
    | inr apart ↦
        let differ : other ≡ leaf → ⊥ = λ e. grind (arith, nat_tests, apart, e) in
        let stays : first_number (without_first leaf ws) other ≡ first_number ws other =
        first_is (without_first leaf ws) other ∙ (ap (λ r. option_map (λ w. w.message.arrival) (slice_get r 0)) (others_there ws leaf other differ) ∙ sym (first_is ws other)) in
        rw numbers (get_or-set_other heads.numbers leaf other first None differ ∙ (are.numbers other within ∙ sym stays))
  ];
  size = sym more.size ∙ are.size;
  under = λ row within.
      fewer (is_over rows leaf row) (get_or counts row 0) (get_or counted row 0) (waiting_under rows ws (node_at row)) (waiting_under rows (without_first leaf ws) (node_at row))
      (more.each row (omega (arith, within, are.size, more.size))) (are.under row within) (gone_under rows ws leaf row some);
}
  where
    fewer : (over : Bool) (old new all left : ℕ) → old ≡ (if over then suc new else new) → old ≡ all → all ≡ (if over then suc left else left) → new ≡ left
    fewer true old new all left more same less = let a : old ≡ suc new = more in let b : all ≡ suc left = less in omega (arith, a, b, same)
    fewer false old new all left more same less = let a : old ≡ new = more in let b : all ≡ left = less in omega (arith, a, b, same)

-- each node over a leaf on which a message waits has one at least
pub some_over : (rows : List TreeRow) (heads : HeadLists) (counts : List ℕ) (ws : List Waiting) (leaf : ℕ) → AreKeptOf rows heads counts ws → is_some (first_on ws leaf) ≡ true
    → (row : ℕ) → row < length rows → is_over rows leaf row ≡ true → 1 ≤ get_or counts row 0
some_over rows heads counts ws leaf are some row within over =
    let more : waiting_under rows ws (node_at row) ≡ suc (waiting_under rows (without_first leaf ws) (node_at row)) = rw over at (gone_under rows ws leaf row some) in
    omega (arith, are.under row within, more)

-- a message on a leaf that the tree does not have has gone
pub gone_beyond : (rows : List TreeRow) (heads : HeadLists) (counts : List ℕ) (ws : List Waiting) (leaf : ℕ) → AreKeptOf rows heads counts ws → leaf_count rows ≤ leaf → is_some (first_on ws leaf) ≡ true → AreKeptOf rows heads counts (without_first leaf ws)
gone_beyond rows heads counts ws leaf are past some = record {
  of_tree = are.of_tree;
  numbers = λ other within.
      let differ : other ≡ leaf → ⊥ = λ e. omega (arith, past, within, e) in
      let stays : first_number (without_first leaf ws) other ≡ first_number ws other =
      first_is (without_first leaf ws) other ∙ (ap (λ r. option_map (λ w. w.message.arrival) (slice_get r 0)) (others_there ws leaf other differ) ∙ sym (first_is ws other)) in
      are.numbers other within ∙ sym stays;
  size = are.size;
  under = λ row within. are.under row within ∙ (gone_under rows ws leaf row some ∙ rw (beyond rows leaf row past) refl);
}

-- a message on a leaf from one number to before another
abbrev pub is_between : ℕ → ℕ → Waiting → Bool
is_between first past w = nat_le first w.leaf.number && nat_lt w.leaf.number past

counted_first : (p : Waiting → Bool) (w : Waiting) (ws : List Waiting) → count_by p (w ∷ ws) ≡ cond (p w) 1 0 + count_by p ws
counted_first p w ws =
    let sum = sum_by-append (λ (v : Waiting). cond (p v) 1 0) (w ∷ []) ws in
    let alone : count_by p (w ∷ []) ≡ cond (p w) 1 0 = omega arith in
    omega (arith, sum, alone)

pub none_between : (first : ℕ) (ws : List Waiting) → 0 ≡ count_by (is_between first first) ws
none_between first [] = refl
none_between first (w ∷ ws) =
    let none : is_between first first w ≡ false = neither (nat_le first w.leaf.number) (nat_lt w.leaf.number first) (λ a b. let x : first ≤ w.leaf.number = grind (arith, nat_tests, a) in let y : w.leaf.number < first = grind (arith, nat_tests, b) in omega (arith, x, y)) in
    let zero_more : cond {A = ℕ} (is_between first first w) 1 0 ≡ 0 = rw none refl in
    omega (arith, counted_first (is_between first first) w ws, zero_more, none_between first ws)
  where
    neither : (a b : Bool) → (a ≡ true → b ≡ true → ⊥) → (a && b) ≡ false
    neither true true both = absurd (both refl refl)
    neither true false both = refl
    neither false b both = refl

-- one leaf more
pub one_leaf_more : (first leaf : ℕ) (ws : List Waiting) → first ≤ leaf → count_by (is_between first (leaf + 1)) ws ≡ count_by (is_between first leaf) ws + length (filter (is_on leaf) ws)
one_leaf_more first leaf [] least = refl
one_leaf_more first leaf (w ∷ ws) least =
    let rest = one_leaf_more first leaf ws least in
    let wide = counted_first (is_between first (leaf + 1)) w ws in
    let narrow = counted_first (is_between first leaf) w ws in
    elim (cases_Bool (is_on leaf w)) [
      | inl here ↦
          let at : w.leaf.number ≡ leaf = grind (arith, nat_tests, here) in
          let a : nat_le first w.leaf.number ≡ true = grind (arith, nat_tests, at, least) in
          let b : nat_lt w.leaf.number (leaf + 1) ≡ true = grind (arith, nat_tests, at) in
          let d : nat_lt w.leaf.number leaf ≡ false = grind (arith, nat_tests, at) in
          let one : cond {A = ℕ} (is_between first (leaf + 1) w) 1 0 ≡ 1 = rw (a, b) refl in
          let none : cond {A = ℕ} (is_between first leaf w) 1 0 ≡ 0 = rw (a, d) refl in
          let more : length (filter (is_on leaf) (w ∷ ws)) ≡ suc (length (filter (is_on leaf) ws)) = rw here refl in
          omega (arith, rest, wide, narrow, one, none, more)
      | inr other ↦
          let apart : w.leaf.number ≡ leaf → ⊥ = λ e. grind (arith, nat_tests, other, e) in
          let same : nat_lt w.leaf.number (leaf + 1) ≡ nat_lt w.leaf.number leaf = same_test w.leaf.number leaf apart in
          let tests : cond {A = ℕ} (is_between first (leaf + 1) w) 1 0 ≡ cond (is_between first leaf w) 1 0 = ap (λ t. cond {A = ℕ} (nat_le first w.leaf.number && t) 1 0) same in
          let stays : length (filter (is_on leaf) (w ∷ ws)) ≡ length (filter (is_on leaf) ws) = rw other refl in
          omega (arith, rest, wide, narrow, tests, stays)
    ]
  where
    same_test : (n leaf : ℕ) → (n ≡ leaf → ⊥) → nat_lt n (leaf + 1) ≡ nat_lt n leaf
    same_test n leaf apart = elim (cases_Bool (nat_lt n leaf)) [
      | inl less ↦
          let x : n < leaf = grind (arith, nat_tests, less) in
          let y : nat_lt n (leaf + 1) ≡ true = grind (arith, nat_tests, x) in
          y ∙ sym less
      | inr more ↦
          let x : leaf ≤ n = grind (arith, nat_tests, more) in
          let z : leaf + 1 ≤ n = omega (arith, x, apart) in
          let y : nat_lt n (leaf + 1) ≡ false = grind (arith, nat_tests, z) in
          y ∙ sym more
    ]
