-- How a run of device calls goes on.
use Rattle.std.proofs.Common.{inl, inr, ⊎_elim, ℕ, List, arith}
use Rattle.com_disk.specs.Disks.{Elapses, LeavesOnly}

module _ {D : Type 0} (moment : D → ℕ) (since : D → ℕ → List ℕ → Type 0) where
  -- before the first call
  pub started : (old : D) (P : List ℕ → Type 0) → ((c : List ℕ) → since old (moment old) c → P c) → LeavesOnly moment since old old P
  started old P here = record { later = omega arith; each = here; before = λ t c le left. inl left }

  -- one call more, after which a crash leaves what has P
  pub goes_on : (old mid new : D) (P images : List ℕ → Type 0) → LeavesOnly moment since old mid P → Elapses (moment mid) (moment new) (since mid) (since new) images
      → ((c : List ℕ) → images c → P c) → LeavesOnly moment since old new P
  goes_on old mid new P images so_far time here = record {
    later = omega (arith, so_far.later, time.later);
    each = λ c left. ⊎_elim (so_far.each c) (here c) (time.nothing_else (moment old) c so_far.later left);
    before = λ t c le left. ⊎_elim (so_far.before t c le) (λ now. inr (here c now)) (time.nothing_else t c (omega (arith, le, so_far.later)) left);
  }

  -- what has P has Q
  pub leaves_more : (old new : D) (P Q : List ℕ → Type 0) → ((c : List ℕ) → P c → Q c) → LeavesOnly moment since old new P → LeavesOnly moment since old new Q
  leaves_more old new P Q f h = record {
    later = h.later;
    each = λ c left. f c (h.each c left);
    before = λ t c le left. ⊎_elim (λ was. inl was) (λ p. inr (f c p)) (h.before t c le left);
  }

  -- a call of its own
  pub goes_then : (old mid new : D) (P Q : List ℕ → Type 0) → LeavesOnly moment since old mid P → LeavesOnly moment since mid new Q → ((c : List ℕ) → Q c → P c) → LeavesOnly moment since old new P
  goes_then old mid new P Q first second here = record {
    later = omega (arith, first.later, second.later);
    each = λ c left. ⊎_elim (first.each c) (here c) (second.before (moment old) c first.later left);
    before = λ t c le left. ⊎_elim (first.before t c le) (λ now. inr (here c now)) (second.before t c (omega (arith, le, first.later)) left);
  }
