-- How a disk in memory goes on, call by call.
use Rattle.std.proofs.Common.{◌≡◌, ◌⊎◌, inl, inr, ⊎_elim, ℕ, ◌+◌, ◌-◌, ◌^◌, ◌≤◌, ◌<◌, Bool, true, false, Option, Some, None, List, [], ◌∷◌, ◌++◌, map, refl, sym, ◌∙◌, ap, subst, arith}
use Rattle.std.specs.Prelude.{nat_le, if◌then◌else◌}
use Rattle.std.specs.List.{fold, AllByRecursion}
use Rattle.std.specs.Option.{IfSome, option_or}
use Rattle.std.proofs.lemmas.Bool.{le-leb, cases_lt}
use Rattle.std.proofs.lemmas.Bool.Decides.{leb_tells}
use Rattle.std.proofs.lemmas.List.Sums.{fold-append}
use Rattle.com_disk.specs.Disks.{Elapses, IsTorn, Only}
use Rattle.com_disk.specs.Memory.{Memory, State, put, place, is_made, is_by, is_lasting, after_write, state_at, state_of, content_of, IsImageOf, HadImage, next_count}
use Rattle.com_disk.specs.inner.Still.{IsStill, HasWritten, HasSynced, IsKept, IsNumbered, all_put, synced_by}
use Rattle.com_disk.specs.inner.MemoryLaws.{content_is_image}
use Rattle.com_disk.specs.declared.written.Written.{Written}

not_le : (a b : ℕ) → b < a → nat_le a b ≡ false
not_le a b lt = ⊎_elim (λ yes. absurd (omega (arith, yes.1, lt))) (λ no. no.0) (leb_tells a b)

-- a sync among so many calls is among more
by_later : (sync : Option ℕ) (calls k : ℕ) → IfSome sync (λ s. s ≤ calls) → calls ≤ k → is_by k sync ≡ is_by calls sync
by_later None calls k h le = refl
by_later (Some s) calls k h le = le-leb s k (omega (arith, h, le)) ∙ sym (le-leb s calls h)

write_later : (s : State) (w : Written) (calls k : ℕ) → IsNumbered calls w → calls ≤ k → after_write k s w ≡ after_write calls s w
write_later s w calls k h le =
    let later = record s { pending = (w.at, w.bytes.items) ∷ s.pending } in
    let done = record s { base = put s.base (place s.base w.at) w.bytes.items } in
    let made : is_made k w ≡ is_made calls w = le-leb w.call k (omega (arith, h.0, le)) ∙ sym (le-leb w.call calls h.0) in
    ap (λ (b : Bool). if b then done else if is_made k w then later else s) (by_later w.synced calls k h.1 le)
    ∙ ap (λ (b : Bool). if is_lasting calls w then done else if b then later else s) made

fold_later : (s : State) (writes : List Written) (calls k : ℕ) → AllByRecursion (IsNumbered calls) writes → calls ≤ k → fold (after_write k) s writes ≡ fold (after_write calls) s writes
fold_later s [] calls k h le = refl
fold_later s (w ∷ writes) calls k h le =
    ap (λ (t : State). fold (after_write k) t writes) (write_later s w calls k h.0 le) ∙ fold_later (after_write calls s w) writes calls k h.1 le

-- the state after the last call is that of any later one
pub state_later : (first : List ℕ) (writes : List Written) (calls k : ℕ) → AllByRecursion (IsNumbered calls) writes → calls ≤ k → state_at first writes k ≡ state_at first writes calls
state_later first writes calls k h le = fold_later (record { base = first; pending = [] }) writes calls k h le

numbered_later : (writes : List Written) (calls k : ℕ) → AllByRecursion (IsNumbered calls) writes → calls ≤ k → AllByRecursion (IsNumbered k) writes
numbered_later [] calls k h le = tt
numbered_later (w ∷ writes) calls k h le = ((omega (arith, h.0.0, le), some_later w.synced (h.0.1)), numbered_later writes calls k h.1 le)
  where
    some_later : (sync : Option ℕ) → IfSome sync (λ s. s ≤ calls) → IfSome sync (λ s. s ≤ k)
    some_later None h = tt
    some_later (Some s) h = omega (arith, h, le)

-- one call more, which leaves the states before it
elapses : (old new : Memory) → old.calls ≤ new.calls → new.calls ≤ old.calls + 1 → ((k : ℕ) → k ≤ old.calls → state_at new.first new.writes k ≡ state_at old.first old.writes k)
    → Elapses old.calls new.calls (HadImage old) (HadImage new) (IsImageOf (state_of new))
elapses old new le few same = record {
  later = le;
  nothing_else = λ t c early had. split t c had (cases_lt old.calls had.0);
  keeps = λ t c early had. (had.0, had.1, omega (arith, had.2, le), subst (λ s. IsImageOf s c) (sym (same had.0 had.2)) had.3);
}
  where
    split : (t : ℕ) (c : List ℕ) (had : HadImage new t c) → (old.calls < had.0) ⊎ (had.0 ≤ old.calls) → HadImage old t c ⊎ IsImageOf (state_of new) c
    split t c had (inr early) = inl (had.0, had.1, early, subst (λ s. IsImageOf s c) (same had.0 early) had.3)
    split t c had (inl late) =
        let now : had.0 ≡ new.calls = omega (arith, late, had.2, few) in
        inr (subst (λ k. IsImageOf (state_at new.first new.writes k) c) now had.3)

pub still_to : (m new : Memory) (bytes : List ℕ) → m.calls ≤ 2 ^ 64 - 1 → IsKept m.first bytes m.writes m.calls → new.first ≡ m.first → new.writes ≡ m.writes → new.calls ≡ next_count m.calls → IsStill m new
still_to m new bytes fits h first writes calls =
    let at : (k : ℕ) → state_at new.first new.writes k ≡ state_at m.first m.writes k = λ k.
    ap (λ (l : List ℕ). state_at l new.writes k) first ∙ ap (λ (l : List Written). state_at m.first l k) writes in
    let same : state_of new ≡ state_of m =
    at new.calls ∙ ap (λ (n : ℕ). state_at m.first m.writes n) calls ∙ state_later m.first m.writes m.calls (next_count m.calls) h.numbers (omega (arith, fits)) in
    record {
      content = ap content_of same;
      images = λ c. (λ now. subst (λ s. IsImageOf s c) same now, λ now. subst (λ s. IsImageOf s c) (sym same) now);
      time = elapses m new (omega (arith, fits, calls)) (omega (arith, calls)) (λ k early. at k);
    }

-- the fields after a call that changed nothing
pub kept_counted : (first bytes : List ℕ) (writes : List Written) (calls k : ℕ) → IsKept first bytes writes calls → calls ≤ k → IsKept first bytes writes k
kept_counted first bytes writes calls k h le = record {
  numbers = numbered_later writes calls k h.numbers le;
  replayed = h.replayed;
  read = h.read ∙ ap content_of (sym (state_later first writes calls k h.numbers le));
}

pub kept_fresh : (bytes : List ℕ) → IsKept bytes bytes [] 0
kept_fresh bytes = record { numbers = tt; replayed = refl; read = refl }

-- a new write
pub record IsNew (calls from : ℕ) (added : List ℕ) (w : Written) : Type 0 where
  pub call : w.call ≡ calls + 1
  pub at : w.at ≡ from
  pub bytes : w.bytes.items ≡ added
  pub synced : w.synced ≡ None

push_pending : (s : State) (w : Written) (calls at : ℕ) (bytes : List ℕ) → IsNew calls at bytes w → after_write (calls + 1) s w ≡ record s { pending = (at, bytes) ∷ s.pending }
push_pending s w calls at bytes new =
    let later = record s { pending = (w.at, w.bytes.items) ∷ s.pending } in
    let done = record s { base = put s.base (place s.base w.at) w.bytes.items } in
    ap (λ (o : Option ℕ). if is_by (calls + 1) o then done else if is_made (calls + 1) w then later else s) new.synced
    ∙ ap (λ (b : Bool). if b then later else s) (le-leb w.call (calls + 1) (omega (arith, new.call)))
    ∙ ap (λ (n : ℕ). let t : State = record s { pending = (n, w.bytes.items) ∷ s.pending } in t) new.at
    ∙ ap (λ (l : List ℕ). let t : State = record s { pending = (at, l) ∷ s.pending } in t) new.bytes

push_early : (s : State) (w : Written) (calls k at : ℕ) (bytes : List ℕ) → IsNew calls at bytes w → k ≤ calls → after_write k s w ≡ s
push_early s w calls k at bytes new early =
    let later = record s { pending = (w.at, w.bytes.items) ∷ s.pending } in
    let done = record s { base = put s.base (place s.base w.at) w.bytes.items } in
    ap (λ (o : Option ℕ). if is_by k o then done else if is_made k w then later else s) new.synced
    ∙ ap (λ (b : Bool). if b then later else s) (not_le w.call k (omega (arith, new.call, early)))

module _ (first : List ℕ) (writes : List Written) (calls at : ℕ) (bytes : List ℕ) (w : Written) (new : IsNew calls at bytes w) (h : AllByRecursion (IsNumbered calls) writes) where
  start : State
  start = record { base = first; pending = [] }

  pub state_pushed : state_at first (writes ++ w ∷ []) (calls + 1) ≡ record (state_at first writes calls) { pending = (at, bytes) ∷ (state_at first writes calls).pending }
  state_pushed =
      fold-append (after_write (calls + 1)) (record { base = first; pending = [] }) writes (w ∷ [])
      ∙ push_pending (state_at first writes (calls + 1)) w calls at bytes new
      ∙ ap (λ (s : State). let t : State = record s { pending = (at, bytes) ∷ s.pending } in t) (state_later first writes calls (calls + 1) h (omega arith))

  pub state_early : (k : ℕ) → k ≤ calls → state_at first (writes ++ w ∷ []) k ≡ state_at first writes k
  state_early k early =
      fold-append (after_write k) (record { base = first; pending = [] }) writes (w ∷ [])
      ∙ push_early (state_at first writes k) w calls k at bytes new early

numbered_push : (writes : List Written) (calls at : ℕ) (bytes : List ℕ) (w : Written) → IsNew calls at bytes w → AllByRecursion (IsNumbered calls) writes → AllByRecursion (IsNumbered (calls + 1)) (writes ++ w ∷ [])
numbered_push [] calls at bytes w new h = ((omega (arith, new.call), subst (λ (o : Option ℕ). IfSome o (λ s. s ≤ calls + 1)) (sym new.synced) tt), tt)
numbered_push (v ∷ writes) calls at bytes w new h =
    let all = numbered_later (v ∷ writes) calls (calls + 1) h (omega arith) in
    (all.0, numbered_push writes calls at bytes w new h.1)

-- the fields after a write
pub kept_written : (first bytes next : List ℕ) (writes : List Written) (calls at : ℕ) (added : List ℕ) (w : Written) → IsKept first bytes writes calls → IsNew calls at added w → next ≡ put bytes (place bytes at) added
    → IsKept first next (writes ++ w ∷ []) (calls + 1)
kept_written first bytes next writes calls at added w h new is = record {
  numbers = numbered_push writes calls at added w new h.numbers;
  replayed =
      is
      ∙ ap (λ (l : List ℕ). put l (place l at) added) h.replayed
      ∙ ap (λ (n : ℕ). put (all_put first writes) (place (all_put first writes) n) added) (sym new.at)
      ∙ ap (λ (l : List ℕ). put (all_put first writes) (place (all_put first writes) w.at) l) (sym new.bytes)
      ∙ sym (fold-append (λ bytes write. put bytes (place bytes write.at) write.bytes.items) first writes (w ∷ []));
  read =
      is
      ∙ ap (λ (l : List ℕ). put l (place l at) added) h.read
      ∙ ap content_of (sym (state_pushed first writes calls at added w new h.numbers));
}

pub has_written : (old new : Memory) (bytes added : List ℕ) (at : ℕ) (w : Written) → IsKept old.first bytes old.writes old.calls → IsNew old.calls at added w
    → new.first ≡ old.first → new.writes ≡ old.writes ++ w ∷ [] → new.calls ≡ old.calls + 1 → new.faults ≡ old.faults → HasWritten at added old new
has_written old new bytes added at w h is first writes calls faults =
    let same : state_of new ≡ state_at old.first (old.writes ++ w ∷ []) (old.calls + 1) =
    ap (λ (l : List ℕ). state_at l new.writes new.calls) first ∙ ap (λ (l : List Written). state_at old.first l new.calls) writes ∙ ap (λ (n : ℕ). state_at old.first (old.writes ++ w ∷ []) n) calls in
    let pushed = same ∙ state_pushed old.first old.writes old.calls at added w is h.numbers in
    record {
      content = ap content_of pushed;
      images = λ c now. subst (λ s. IsImageOf s c) pushed now;
      time = elapses old new (omega (arith, calls)) (omega (arith, calls)) (λ k early.
          ap (λ (l : List ℕ). state_at l new.writes k) first ∙ ap (λ (l : List Written). state_at old.first l k) writes ∙ state_early old.first old.writes old.calls at added w is h.numbers k early);
      faults = faults;
    }

-- a sync
synced_by_it : (sync : Option ℕ) (n : ℕ) → IfSome sync (λ s. s ≤ n) → is_by n (option_or sync (Some n)) ≡ true
synced_by_it None n h = le-leb n n (omega arith)
synced_by_it (Some s) n h = le-leb s n h

synced_early : (sync : Option ℕ) (n k : ℕ) → k < n → is_by k (option_or sync (Some n)) ≡ is_by k sync
synced_early None n k early = not_le n k early
synced_early (Some s) n k early = refl

lasting_write : (s : State) (w : Written) (n : ℕ) → IsNumbered n w → after_write n s (synced_by n w) ≡ record s { base = put s.base (place s.base w.at) w.bytes.items }
lasting_write s w n h =
    let later = record s { pending = (w.at, w.bytes.items) ∷ s.pending } in
    let done = record s { base = put s.base (place s.base w.at) w.bytes.items } in
    ap (λ (b : Bool). if b then done else if is_made n w then later else s) (synced_by_it w.synced n h.1)

early_write : (s : State) (w : Written) (n k : ℕ) → k < n → after_write k s (synced_by n w) ≡ after_write k s w
early_write s w n k early =
    let later = record s { pending = (w.at, w.bytes.items) ∷ s.pending } in
    let done = record s { base = put s.base (place s.base w.at) w.bytes.items } in
    ap (λ (b : Bool). if b then done else if is_made k w then later else s) (synced_early w.synced n k early)

lasting_all : (base : List ℕ) (writes : List Written) (n : ℕ) → AllByRecursion (IsNumbered n) writes → fold (after_write n) (record { base = base; pending = [] }) (map (synced_by n) writes) ≡ record { base = all_put base writes; pending = [] }
lasting_all base [] n h = refl
lasting_all base (w ∷ writes) n h =
    ap (λ (t : State). fold (after_write n) t (map (synced_by n) writes)) (lasting_write (record { base = base; pending = [] }) w n h.0)
    ∙ lasting_all (put base (place base w.at) w.bytes.items) writes n h.1

early_all : (s : State) (writes : List Written) (n k : ℕ) → k < n → fold (after_write k) s (map (synced_by n) writes) ≡ fold (after_write k) s writes
early_all s [] n k early = refl
early_all s (w ∷ writes) n k early =
    ap (λ (t : State). fold (after_write k) t (map (synced_by n) writes)) (early_write s w n k early) ∙ early_all (after_write k s w) writes n k early

put_synced : (base : List ℕ) (writes : List Written) (n : ℕ) → all_put base (map (synced_by n) writes) ≡ all_put base writes
put_synced base [] n = refl
put_synced base (w ∷ writes) n = put_synced (put base (place base w.at) w.bytes.items) writes n

numbered_synced : (writes : List Written) (n : ℕ) → AllByRecursion (IsNumbered n) writes → AllByRecursion (IsNumbered n) (map (synced_by n) writes)
numbered_synced [] n h = tt
numbered_synced (w ∷ writes) n h = ((h.0.0, last w.synced h.0.1), numbered_synced writes n h.1)
  where
    last : (sync : Option ℕ) → IfSome sync (λ s. s ≤ n) → IfSome (option_or sync (Some n)) (λ s. s ≤ n)
    last None h = omega arith
    last (Some s) h = h

-- the fields after a sync
pub kept_synced : (first bytes : List ℕ) (writes : List Written) (calls : ℕ) → IsKept first bytes writes calls → IsKept first bytes (map (synced_by (calls + 1)) writes) (calls + 1)
kept_synced first bytes writes calls h =
    let all = numbered_later writes calls (calls + 1) h.numbers (omega arith) in
    record {
      numbers = numbered_synced writes (calls + 1) all;
      replayed = h.replayed ∙ sym (put_synced first writes (calls + 1));
      read = h.replayed ∙ ap content_of (sym (lasting_all first writes (calls + 1) all));
    }

pub has_synced : (old new : Memory) (bytes : List ℕ) → IsKept old.first bytes old.writes old.calls → new.first ≡ old.first → new.writes ≡ map (synced_by (old.calls + 1)) old.writes → new.calls ≡ old.calls + 1 → new.faults ≡ old.faults
    → HasSynced old new
has_synced old new bytes h first writes calls faults =
    let all = numbered_later old.writes old.calls (old.calls + 1) h.numbers (omega arith) in
    let same : state_of new ≡ record { base = all_put old.first old.writes; pending = [] } =
    ap (λ (l : List ℕ). state_at l new.writes new.calls) first ∙ ap (λ (l : List Written). state_at old.first l new.calls) writes ∙ ap (λ (n : ℕ). state_at old.first (map (synced_by (old.calls + 1)) old.writes) n) calls
    ∙ lasting_all old.first old.writes (old.calls + 1) all in
    let was : all_put old.first old.writes ≡ content_of (state_of old) = sym h.replayed ∙ h.read in
    let only : Only (content_of (state_of old)) (IsImageOf (state_of new)) = λ c now. subst (λ s. IsImageOf s c) same now ∙ was in
    record {
      content = ap content_of same ∙ was;
      durable = only;
      images = λ c now. subst (IsImageOf (state_of old)) (sym (only c now)) (content_is_image (state_of old));
      time = elapses old new (omega (arith, calls)) (omega (arith, calls)) (λ k early.
          ap (λ (l : List ℕ). state_at l new.writes k) first ∙ ap (λ (l : List Written). state_at old.first l k) writes ∙ early_all (record { base = old.first; pending = [] }) old.writes (old.calls + 1) k (omega (arith, early)));
      faults = faults;
    }

-- a write of which nothing was done
pub untorn : (at n : ℕ) (c : List ℕ) → IsTorn at n c c
untorn at n c = record { before = refl; after = refl; no_shorter = omega arith; no_longer = omega arith }
